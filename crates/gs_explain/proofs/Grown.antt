-- What stood before a step stands first behind it: entries, and transactions.
use Rattle.std.proofs.Common.{◌≡◌, refl, sym, ◌∙◌, ap, subst, inl, inr, ℕ, ◌≤◌, Option, None, Some, List, [], ◌∷◌, ◌++◌, append-nil, append_assoc, arith, take, length, length-append}
use Rattle.std.proofs.Math.Seq.{take-append_seam}
use Rattle.gs_slots.specs.Flags.{single}
use Rattle.gs_slots.specs.declared.flags.Flags.{Flags}
use Rattle.gs_layout.specs.declared.known.Known.{Known}
use Rattle.gs_layout.specs.declared.refusal.Refusal.{Refusal}
use Rattle.gs_journal.specs.History.{active}
use Rattle.gs_policy.specs.declared.choice.Choice.{Choice}
use Rattle.gs_replies.specs.declared.reply.Reply.{Reply}
use Rattle.gs_core.specs.declared.transaction.Transaction.{Transaction}
use Rattle.gs_core.specs.declared.event.Event.{Event}
use Rattle.gs_core.specs.declared.event.Event.TheVariants as events
use Rattle.gs_core.specs.Machine.{Does, Plan, Serves, State, Step, plan_of, refusal, stamp_of, stamps, stamps_all, stamps_with, view}
use Rattle.gs_core.proofs.Laws.{step_grown}

-- transactions are only added

abbrev StampsTo : List Transaction → List Transaction → Type 0
StampsTo xs ys = (new : List Transaction) × (ys ≡ xs ++ new)

none_stamped : (xs ys : List Transaction) → ys ≡ xs → StampsTo xs ys
none_stamped xs ys e = ([], e ∙ sym (append-nil xs))

stamped_more : (m : State) (c t : ℕ) (f : Flags) (o : Option (ℕ × ℕ)) (k : Option Known) → StampsTo m.transactions (stamps_with m c t f o k).1.transactions
stamped_more m c t f (Some a) (Some k) = (record { cpu = c; slot = stamp_of t f a k } ∷ [], refl)
stamped_more m c t f (Some a) None = none_stamped m.transactions m.transactions refl
stamped_more m c t f None k = none_stamped m.transactions m.transactions refl

all_stamped : (m : State) (xs : List Choice) → StampsTo m.transactions (stamps_all m xs).transactions
all_stamped m [] = none_stamped m.transactions m.transactions refl
all_stamped m (x ∷ xs) =
    let one : StampsTo m.transactions (stamps m x.cpu x.tid (single x.preempt)).1.transactions = stamped_more m x.cpu x.tid (single x.preempt) (active m.history) (view m x.tid) in
    let rest = all_stamped (stamps m x.cpu x.tid (single x.preempt)).1 xs in
    (one.0 ++ rest.0, rest.1 ∙ ap (λ l. l ++ rest.0) one.1 ∙ append_assoc m.transactions one.0 rest.0)

does_stamp : (m : State) (e : Event Plan) (r : Reply) (n : State) → Does m e r n → StampsTo m.transactions n.transactions
does_stamp m (events.Kernel c) r n t = none_stamped m.transactions n.transactions (ap (λ (q : State). q.transactions) t.others)
does_stamp m events.Crash r n t = none_stamped m.transactions n.transactions (ap (λ (q : State). q.transactions) t.1)
does_stamp m (events.Begin p) r n t = none_stamped m.transactions n.transactions (ap (λ (q : State). q.transactions) t.others)
does_stamp m (events.Page max) r n t = none_stamped m.transactions n.transactions (ap (λ (q : State). q.transactions) t.others)
does_stamp m (events.Drain max) r n t = let d = t.2 in none_stamped m.transactions n.transactions (ap (λ (q : State). q.transactions) d.others)
does_stamp m (events.Stamp c k f) r n t = subst (λ (q : State). StampsTo m.transactions q.transactions) (sym t.1) (stamped_more m c k f (active m.history) (view m k))
does_stamp m events.Decide r n t = subst (λ (q : State). StampsTo m.transactions q.transactions) (sym t.1) (all_stamped m (plan_of m))
does_stamp m (events.Commit mask) r n t = none_stamped m.transactions n.transactions (ap (λ (q : State). q.transactions) t.left)
does_stamp m (events.Late k) r n t = none_stamped m.transactions n.transactions (ap (λ (q : State). q.transactions) t.others)
does_stamp m events.View r n t = none_stamped m.transactions n.transactions (ap (λ (q : State). q.transactions) t.1)
does_stamp m events.State r n t = none_stamped m.transactions n.transactions (ap (λ (q : State). q.transactions) t.1)
does_stamp m events.Unread r n t = none_stamped m.transactions n.transactions (ap (λ (q : State). q.transactions) t.1)

step_stamps : (m : State) (e : Event Plan) (r : Reply) (n : State) → Step m e r n → StampsTo m.transactions n.transactions
step_stamps m e r n t = by_refusal (refusal m e) t
  where
    by_refusal : (o : Option Refusal) → Serves o m e r n → StampsTo m.transactions n.transactions
    by_refusal (Some f) s = none_stamped m.transactions n.transactions (ap (λ (q : State). q.transactions) s.1)
    by_refusal None s = elim s [ inl d ↦ does_stamp m e r n d | inr q ↦ none_stamped m.transactions n.transactions (ap (λ (q : State). q.transactions) q.1) ]

pub stamps_kept : (m : State) (e : Event Plan) (r : Reply) (n : State) → Step m e r n → take (length m.transactions) n.transactions ≡ m.transactions
stamps_kept m e r n t = let g = step_stamps m e r n t in ap (take (length m.transactions)) g.1 ∙ take-append_seam m.transactions g.0

pub stamps_longer : (m : State) (e : Event Plan) (r : Reply) (n : State) → Step m e r n → length m.transactions ≤ length n.transactions
stamps_longer m e r n t = let g = step_stamps m e r n t in omega (arith, ap length g.1, length-append m.transactions g.0)

-- what stood before a step stands first behind it
pub step_keeps : (m : State) (e : Event Plan) (r : Reply) (n : State) → Step m e r n → take (length m.history) n.history ≡ m.history
step_keeps m e r n t = let g = step_grown m e r n t in ap (take (length m.history)) g.1 ∙ take-append_seam m.history g.0

pub step_longer : (m : State) (e : Event Plan) (r : Reply) (n : State) → Step m e r n → length m.history ≤ length n.history
step_longer m e r n t = let g = step_grown m e r n t in omega (arith, ap length g.1, length-append m.history g.0)
