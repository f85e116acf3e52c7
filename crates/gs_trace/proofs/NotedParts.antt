-- What was noted, put together from its parts.
use Rattle.std.proofs.Common.{◌≡◌, ◌∙◌, ap, ℕ, Option, List, length}
use Rattle.gs_journal.specs.History.{History}
use Rattle.gs_replies.specs.declared.reply.Reply.{Reply}
use Rattle.gs_core.specs.declared.transaction.Transaction.{Transaction}
use Rattle.gs_core.specs.Machine.{State}
use Rattle.gs_trace.specs.Noted.{Noted, filled, noted_after, page_after}

abbrev pub noted : List ℕ → List ℕ → Option ℕ → Noted
noted a b p = record { lines = a; stamped = b; page = p }

pub noted_is : (line : ℕ) (r : Reply) (m : State) (n : Noted) (h : History) (xs : List Transaction) (a b : List ℕ) (p : Option ℕ) → h ≡ m.history → xs ≡ m.transactions
    → a ≡ filled (length h) line n.lines → b ≡ filled (length xs) line n.stamped → p ≡ page_after line r n.page → noted a b p ≡ noted_after line r m n
noted_is line r m n h xs a b p is_h is_xs is_a is_b is_p =
    let lines : a ≡ filled (length m.history) line n.lines = is_a ∙ ap (λ (g : History). filled (length g) line n.lines) is_h in
    let stamped : b ≡ filled (length m.transactions) line n.stamped = is_b ∙ ap (λ (ys : List Transaction). filled (length ys) line n.stamped) is_xs in
    ap (λ x. noted x b p) lines ∙ ap (λ x. noted (filled (length m.history) line n.lines) x p) stamped ∙ ap (λ x. noted (filled (length m.history) line n.lines) (filled (length m.transactions) line n.stamped) x) is_p
