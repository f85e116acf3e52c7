-- All messages that wait are consumed at once.
use Rattle.std.proofs.Common.{◌≡◌, ℕ, ◌-◌, ◌%◌, ◌≤◌, List, [], ◌++◌, length, take, refl, ap, sym, subst, ◌∙◌, arith}
use Rattle.std.proofs.lemmas.List.{append-nil, take-append-le, take_all}
use Rattle.std.proofs.lemmas.List.Elements.{All-nil}
use Rattle.gs_layout.specs.declared.message.Message.{Message}
use Rattle.gs_layout.specs.Spelling.{IsSpellable}
use Rattle.gs_layout.specs.declared.wire.TheConstants.{ALIGNMENT}
use Rattle.gs_ring.specs.declared.place.Place.{Place}
use Rattle.gs_ring.specs.Block.{IsHeld, IsRing, messages_in, ring_of, seen}
use Rattle.gs_ring.specs.Ends.{Ahead, Passed}
use Rattle.gs_ring.specs.Memory.{MemoryState}
use Rattle.gs_ring.specs.Places.{place_behind}
use Rattle.gs_ring.specs.RingState.{RingState}
use Rattle.gs_ring.proofs.Held.{Shows, length-messages_in, place_whole, ring_from}
use Rattle.gs_ring.proofs.Pads.{wide}

-- the parts agree still if the ring is read from the place that was written, and nothing waits
emptied : (b : List ℕ) (r w t p : ℕ) → IsRing b r w t p → IsRing b w w p p
emptied b r w t p h =
    let even : w % ALIGNMENT ≡ 0 = subst (λ n. n % ALIGNMENT ≡ 0) h.behind (place_whole (length b) r (messages_in (p - t) (seen b r (w - r))) (wide (length b) h.size) h.whole h.spellable) in
    let none : w - w ≡ 0 = omega arith in
    let shows : Shows b w w [] = record { whole = even; room = omega arith; spellable = All-nil IsSpellable; behind = refl; holds = ap (seen b w) none } in
    ring_from b w w p p [] h.size (omega arith) h.few h.low shows (omega arith)

pub held_empty : (b : MemoryState) (r w : Place) (t p : ℕ) → IsHeld b r w t p → IsHeld b w w p p
held_empty b r w t p h = record { ring = emptied b.items r.count w.count t p h.ring; read_at = h.written_at; written_at = h.written_at; touched = h.touched; few = h.few }

-- all that waited passed
pub all_passed : (b : List ℕ) (r w t p : ℕ) (v : RingState) (ms : List Message) (n : ℕ) → IsRing b r w t p → ring_of b r w t p ≡ v → n ≡ p - t → Ahead v ms → n ≤ length ms
    → Passed v (take n ms) (ring_of b w w p p)
all_passed b r w t p v ms n h view count ahead fits =
    let none : p - p ≡ 0 = omega arith in
    let many : length v.unread ≡ n = ap (λ (x : RingState). length x.unread) (sym view) ∙ length-messages_in (p - t) (seen b r (w - r)) ∙ sym count in
    let all : take n ms ≡ v.unread = sym (take-append-le n ms ahead.0 fits) ∙ ap (take n) (sym ahead.1) ∙ take_all n v.unread (omega (arith, many)) in
    subst (λ (xs : List Message). Passed v xs (ring_of b w w p p)) (sym all) (record {
      capacity = ap (λ (x : RingState). x.capacity) view;
      unread = sym (append-nil v.unread) ∙ ap (λ k. v.unread ++ messages_in k (seen b w (w - w))) (sym none);
      consumed = omega (arith, ap (λ (x : RingState). x.consumed) view, many, count, h.order);
      read = sym h.behind ∙ ap (λ (x : RingState). place_behind x.capacity x.read x.unread) view;
    })
