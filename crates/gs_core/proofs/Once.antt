-- A thread has one record at a number.
use Rattle.std.proofs.Common.{◌≡◌, refl, ap, sym, ◌∙◌, ℕ, zero, suc, ◌<◌, ◌≤◌, ◌⊎◌, inl, inr, Some, List, [], ◌∷◌, ◌++◌, length, take, drop, arith, length-append}
use Rattle.std.specs.List.{filter, flat_map}
use Rattle.std.proofs.lemmas.Bool.{cases_lt}
use Rattle.std.proofs.lemmas.List.{append-nil, take-append-drop, take-append-le, take_all}
use Rattle.std.proofs.lemmas.List.Elements.{filter-append}
use Rattle.std.proofs.lemmas.Grind.{flat_map-append}
use Rattle.gs_layout.specs.declared.facts.Facts.{Facts}
use Rattle.gs_layout.specs.declared.message.Message.{Message}
use Rattle.gs_layout.specs.declared.record.Record.TheVariants.{Live}
use Rattle.gs_layout.specs.declared.known.Known.{Known}
use Rattle.gs_layout.specs.Message.{is_about}
use Rattle.gs_journal.specs.Record.{record_of}
use Rattle.gs_journal.specs.History.{History, posted, posted_by, messages, seq, seq_after, record_in}
use Rattle.gs_journal.specs.State.{WasOnce}
use Rattle.gs_journal.proofs.Laws.{Was-mono}
use Rattle.gs_core.specs.declared.transaction.Transaction.{Transaction}
use Rattle.gs_core.specs.Machine.{State, view}
use Rattle.gs_core.specs.Good.{WasAt}
use Rattle.gs_core.specs.Safe.{IsFaithful, IsTimely}

-- what was posted up to a moment, and since
posted_parts : (h : History) (i : ℕ) → posted h ≡ posted (take i h) ++ posted (drop i h)
unfolding posted
posted_parts h i = ap (flat_map posted_by) (sym (take-append-drop i h)) ∙ flat_map-append posted_by (take i h) (drop i h)

messages_parts : (h : History) (t i : ℕ) → messages h t ≡ messages (take i h) t ++ messages (drop i h) t
unfolding messages
messages_parts h t i = ap (filter (is_about t)) (posted_parts h i) ∙ filter-append (is_about t) (posted (take i h)) (posted (drop i h))

-- threads with one number have as many messages
as_many : (first m n : ℕ) → seq_after first m ≡ seq_after first n → m ≡ n
as_many first zero zero e = refl
as_many first zero (suc n) e = absurd (omega (arith, e))
as_many first (suc m) zero e = absurd (omega (arith, e))
as_many first (suc m) (suc n) e = omega (arith, e)

no_more : (xs ys : List Message) → length (xs ++ ys) ≡ length xs → xs ++ ys ≡ xs
no_more xs [] e = append-nil xs
no_more xs (y ∷ ys) e = absurd (omega (arith, e, length-append xs (y ∷ ys)))

-- the record that a thread once had at its number is the one that it has
pub record_still : (first : ℕ) (h : History) (t : ℕ) (k : Known) → WasOnce first h t k → k.tseq ≡ seq first h t → record_in h t ≡ Live k.facts
unfolding seq record_in
record_still first h t k w now =
    let parts = messages_parts h t w.0 in
    let many : length (messages h t) ≡ length (messages (take w.0 h) t) = as_many first _ _ (sym now ∙ sym w.1) in
    let same : messages h t ≡ messages (take w.0 h) t = parts ∙ no_more _ (messages (drop w.0 h) t) (ap length (sym parts) ∙ many) in
    ap record_of same ∙ w.2

-- a thread that had a record at a number had it, whatever happened since
pub was_at_more : (first : ℕ) (h h' : History) (t q : ℕ) (ms : List Message) → messages h' t ≡ messages h t ++ ms → WasAt first h t q → WasAt first h' t q
was_at_more first h h' t q ms more w = (w.0, Was-mono first h h' t _ ms more w.1)

-- a record that a thread once had it once had, whatever happens later
once_later : (first : ℕ) (h more : History) (t : ℕ) (k : Known) → WasOnce first h t k → WasOnce first (h ++ more) t k
once_later first h more t k w = by_place (cases_lt (length h) w.0)
  where
    at : (i : ℕ) → take i (h ++ more) ≡ take w.0 h → WasOnce first (h ++ more) t k
    at i e = (i, ap (λ (z : History). seq first z t) e ∙ w.1, ap (λ (z : History). record_in z t) e ∙ w.2)

    by_place : (length h < w.0) ⊎ (w.0 ≤ length h) → WasOnce first (h ++ more) t k
    by_place (inl past) = at (length h) (take-append-le (length h) h more (omega arith) ∙ (take_all (length h) h (omega arith) ∙ sym (take_all w.0 h (omega (arith, past)))))
    by_place (inr le) = at w.0 (take-append-le w.0 h more le)

-- the record that an agent has of a thread, and the number of which it stamps, is the thread's where the transaction is timely
pub stamped_from : (m : State) (more : History) (x : Transaction) (k : Known) → IsFaithful m → view m x.slot.tid ≡ Some k → k.tseq ≡ x.slot.tseq
    → IsTimely m.settings (m.history ++ more) x → record_in (m.history ++ more) x.slot.tid ≡ Live k.facts
stamped_from m more x k f knows number timely =
    let once = once_later m.settings.first_tseq m.history more x.slot.tid k (f.known x.slot.tid k knows) in
    timely.lives ∙ ap (λ (y : Facts). Live y) (sym (timely.same k once number))
