-- What is known of a machine, event by event.
use Rattle.std.proofs.Common.{◌≡◌, refl, sym, ◌∙◌, ap, subst, ℕ, ◌-◌, ◌≤◌, List, ◌++◌, arith, length, length-append, replicate, take}
use Rattle.std.proofs.lemmas.List.{length-replicate}
use Rattle.gs_core.specs.declared.event.Event.{Event}
use Rattle.gs_core.specs.Machine.{Plan, State, Step}
use Rattle.gs_replies.specs.declared.reply.Reply.{Reply}
use Rattle.gs_reasons.specs.Kept.{HasHeard}
use Rattle.gs_trace.specs.Noted.{Noted, filled, noted_after}
use Rattle.gs_explain.specs.Marked.{IsMarked}
use Rattle.gs_explain.specs.Moment.{moment}
use Rattle.gs_explain.specs.Explained.{Line, event_shown, row_of}
use Rattle.gs_explain.specs.Rows.{added, heading, reply_shown, row}
use Rattle.gs_explain.specs.Knowing.{Known, Knows, KnowsFirst, shown_after}
use Rattle.gs_explain.proofs.Grown.{stamps_kept, stamps_longer, step_keeps, step_longer}

pub step_known : (x : Known) (m n : State) (e : Event Plan) (r : Reply) → Knows x m → Step m e r n → KnowsFirst x n
step_known x m n e r k t =
    let entries : length x.noted.lines ≤ length n.history = omega (arith, k.entries, step_longer m e r n t) in
    let stamped : length x.noted.stamped ≤ length n.transactions = omega (arith, k.stamped, stamps_longer m e r n t) in
    let history : take (length x.noted.lines) n.history ≡ m.history = ap (λ (k : ℕ). take k n.history) k.entries ∙ step_keeps m e r n t in
    let transactions : take (length x.noted.stamped) n.transactions ≡ m.transactions = ap (λ (k : ℕ). take k n.transactions) k.stamped ∙ stamps_kept m e r n t in
    record { entries = entries; stamped = stamped; heard = subst (HasHeard x.index) (sym history) k.heard; marked = subst (IsMarked x.marks) (sym transactions) k.marked }

pub same_shown : {A : Type 0} (x : Known) (m n : State) (line : ℕ) (e : Event A) (r : Reply) → Knows x m → shown_after x.noted line e r n ≡ event_shown x.noted m line e r n
same_shown x m n line e r k = ap (λ (f : ℕ). reply_shown (moment (noted_after line r n x.noted) e n) f r) k.entries

pub row_shows : {A : Type 0} (noted : Noted) (m n : State) (said : Line) (e : Event A) (r : Reply) → row_of row noted m said e r n ≡ heading said ++ event_shown noted m said.0 e r n ++ added (length m.history) (length n.history)
row_shows noted m n said e r = refl

-- things that are filled up are as many as wanted, if they were no more
pub filled_len : (n line : ℕ) (xs : List ℕ) → length xs ≤ n → length (filled n line xs) ≡ n
filled_len n line xs h = omega (arith, h, length-append xs (replicate (n - length xs) line), length-replicate (n - length xs) line)
