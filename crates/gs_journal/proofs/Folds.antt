-- A thread's record is the fold of what each of its messages makes of the one before.
use Rattle.std.proofs.Common.{◌≡◌, ap, sym, ◌∙◌, refl, ℕ, List, [], fold}
use Rattle.std.proofs.lemmas.List.Sums.{fold_push}
use Rattle.gs_layout.specs.declared.message.Message.{Message}
use Rattle.gs_layout.specs.declared.record.Record.TheVariants.{Absent}
use Rattle.gs_layout.specs.Record.{after}
use Rattle.gs_journal.specs.Record.{record_of}
use Rattle.gs_journal.specs.Standing.{latest, standing, last_of}
use Rattle.gs_journal.specs.History.{History, messages, record_in}
use Rattle.gs_journal.proofs.Steps.{record_of-push}
use Rattle.gs_journal.proofs.Past.{snoc_induction}

record_of-nil : record_of [] ≡ Absent
unfolding record_of latest standing last_of
record_of-nil = refl

pub record_of-fold : (ms : List Message) → record_of ms ≡ fold after Absent ms
record_of-fold =
    snoc_induction (λ ms. record_of ms ≡ fold after Absent ms) record_of-nil
    (λ ms m before. record_of-push ms m ∙ (ap (λ r. after r m) before ∙ sym (fold_push after Absent ms m)))

pub record_in-fold : (h : History) (t : ℕ) → record_in h t ≡ fold after Absent (messages h t)
unfolding record_in
record_in-fold h t = record_of-fold (messages h t)
