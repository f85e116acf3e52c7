-- What a message needs, and what is free, of the machine's ring.
use Rattle.std.proofs.Common.{◌≡◌, ◌∙◌, ap, ℕ}
use Rattle.gs_journal.specs.History.{posted}
use Rattle.gs_ring.specs.Ends.{Posted, Posted-end, Posted-free}
use Rattle.gs_ring.specs.Places.{free_after, need, written}
use Rattle.gs_ring.specs.RingState.{RingState, end, free}
use Rattle.gs_core.specs.declared.event.Event.{Event}
use Rattle.gs_core.specs.Machine.{State}
use Rattle.gs_sentences.specs.declared.landed.Overflow.{Overflow}
use Rattle.gs_explain.specs.Moment.{overflow_in, overflow_of, size_of}

abbrev overflow : ℕ → ℕ → Overflow
overflow n f = record { needs = n; free = f }

pub overflow_is : (r : RingState) (e : Event (Unit {0})) (m : State) → Posted r (posted m.history) → r.capacity ≡ m.ring → r.consumed ≡ m.consumed → overflow_in e r ≡ overflow_of e m
overflow_is r e m all capacity consumed =
    let is_needs : need r.capacity (end r) (size_of e) ≡ need m.ring (written m.ring (posted m.history)) (size_of e) =
    ap (λ p. need r.capacity p (size_of e)) (Posted-end r (posted m.history) all) ∙ ap (λ k. need k (written k (posted m.history)) (size_of e)) capacity in
    let is_free : free r ≡ free_after m.ring (posted m.history) m.consumed =
    Posted-free r (posted m.history) all ∙ ap (λ k. free_after k (posted m.history) r.consumed) capacity ∙ ap (λ t. free_after m.ring (posted m.history) t) consumed in
    ap (λ k. overflow k (free r)) is_needs ∙ ap (λ k. overflow (need m.ring (written m.ring (posted m.history)) (size_of e)) k) is_free
