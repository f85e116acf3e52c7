-- What was posted to a ring, and what passes from it.
use Rattle.std.proofs.Common.{◌≡◌, ◌⊎◌, inl, inr, ⊎_elim, ℕ, ◌+◌, ◌≤◌, List, [], ◌∷◌, ◌++◌, length, take, drop, refl, ap, sym, subst, ◌∙◌, append_assoc, arith, length-append}
use Rattle.std.proofs.lemmas.List.{drop_at, take_at, take-append-drop, take-append-le}
use Rattle.gs_layout.specs.declared.message.Message.{Message}
use Rattle.gs_ring.specs.Places.{free_after, need, place_behind, record_len, written}
use Rattle.gs_ring.specs.RingState.{RingState, empty, end, free, need_of, posts}
use Rattle.gs_ring.specs.Splits.{two_splits}

-- these were posted so far: the first of them were consumed, and the others wait and have room
pub record Posted (r : RingState) (xs : List Message) : Type 0 where
  pub consumed : List Message
  pub all : xs ≡ consumed ++ r.unread
  pub count : length consumed ≡ r.consumed
  pub place : written r.capacity consumed ≡ r.read
  pub room : end r ≤ r.read + r.capacity

abbrev pub SameCapacity : RingState → RingState → Type 0
SameCapacity a b = b.capacity ≡ a.capacity

-- these passed from one state of a ring to a later one
pub record Passed (a : RingState) (ms : List Message) (b : RingState) : Type 0 where
  pub capacity : b.capacity ≡ a.capacity
  pub unread : a.unread ≡ ms ++ b.unread
  pub consumed : b.consumed ≡ a.consumed + length ms
  pub read : b.read ≡ place_behind a.capacity a.read ms

-- these come next
abbrev pub Ahead : RingState → List Message → Type 0
Ahead r ms = (more : List Message) × (r.unread ≡ ms ++ more)

-- nothing waits
abbrev pub IsEmpty : RingState → Type 0
IsEmpty r = r.unread ≡ []

pub place_behind-append : (c w : ℕ) (xs ys : List Message) → place_behind c w (xs ++ ys) ≡ place_behind c (place_behind c w xs) ys
place_behind-append c w [] ys = refl
place_behind-append c w (x ∷ xs) ys = place_behind-append c (w + need c w (record_len x)) xs ys

-- a place behind messages is no lower
pub place_behind-grows : (c w : ℕ) (xs : List Message) → w ≤ place_behind c w xs
place_behind-grows c w [] = omega arith
place_behind-grows c w (x ∷ xs) = let i = place_behind-grows c (w + need c w (record_len x)) xs in omega (arith, i)

pub Posted-counted : (r : RingState) (xs : List Message) → Posted r xs → posts r ≡ length xs
Posted-counted r xs h = omega (arith, ap length h.all, length-append h.consumed r.unread, h.count)

pub Passed-none : (r : RingState) → Passed r [] r
Passed-none r = record { capacity = refl; unread = refl; consumed = omega arith; read = refl }

pub Passed-join : (a b c : RingState) (xs ys : List Message) → Passed a xs b → Passed b ys c → Passed a (xs ++ ys) c
Passed-join a b c xs ys p q = record {
  capacity = q.capacity ∙ p.capacity;
  unread = p.unread ∙ ap (λ l. xs ++ l) q.unread ∙ sym (append_assoc xs ys c.unread);
  consumed = omega (arith, p.consumed, q.consumed, length-append xs ys);
  read = q.read
      ∙ ap (λ n. place_behind n b.read ys) p.capacity
      ∙ ap (λ n. place_behind a.capacity n ys) p.read
      ∙ sym (place_behind-append a.capacity a.read xs ys);
}

pub Passed-agrees : (a b : RingState) (xs ys : List Message) → Passed a xs b → Ahead a ys → ((more : List Message) × (xs ++ more ≡ ys) × Ahead b more) ⊎ ((more : List Message) × (xs ≡ ys ++ more))
Passed-agrees a b xs ys p h = ⊎_elim (λ s. inl (s.0, s.1, (h.0, s.2))) inr (two_splits xs b.unread ys h.0 (sym p.unread ∙ h.1))

pub Ahead-begins : (r : RingState) (xs ys : List Message) → Ahead r (xs ++ ys) → Ahead r xs
Ahead-begins r xs ys h = (ys ++ h.0, h.1 ∙ append_assoc xs ys h.0)

pub Posted-keeps : (a b : RingState) (xs ms : List Message) → Posted a xs → Passed a ms b → Posted b xs
Posted-keeps a b xs ms h p = record {
  consumed = h.consumed ++ ms;
  all = h.all ∙ ap (λ l. h.consumed ++ l) p.unread ∙ sym (append_assoc h.consumed ms b.unread);
  count = omega (arith, length-append h.consumed ms, h.count, p.consumed);
  place = ap (λ n. written n (h.consumed ++ ms)) p.capacity
      ∙ place_behind-append a.capacity 0 h.consumed ms
      ∙ ap (λ n. place_behind a.capacity n ms) h.place
      ∙ sym p.read;
  room =
      let same : end b ≡ end a = ap (λ n. place_behind n b.read b.unread) p.capacity
      ∙ ap (λ w. place_behind a.capacity w b.unread) p.read
      ∙ sym (place_behind-append a.capacity a.read ms b.unread)
      ∙ ap (place_behind a.capacity a.read) (sym p.unread) in
      omega (arith, same, h.room, p.capacity, p.read, place_behind-grows a.capacity a.read ms);
}

pub Passed-same : (a b : RingState) (ms : List Message) → Passed a ms b → SameCapacity a b
Passed-same a b ms p = p.capacity

-- behind what was consumed come those that wait
pub Posted-unread : (r : RingState) (xs : List Message) → Posted r xs → drop r.consumed xs ≡ r.unread
Posted-unread r xs h = ap (λ l. drop r.consumed l) h.all ∙ drop_at h.consumed r.unread r.consumed h.count

-- so they are the same behind any list that may have been posted
pub Posted-tells : (r : RingState) (xs ys : List Message) → Posted r xs → Posted r ys → drop r.consumed xs ≡ drop r.consumed ys
Posted-tells r xs ys h k = Posted-unread r xs h ∙ sym (Posted-unread r ys k)

-- and no more were consumed than were posted
pub Posted-within : (r : RingState) (xs : List Message) → Posted r xs → r.consumed ≤ length xs
Posted-within r xs h = omega (arith, ap length h.all, length-append h.consumed r.unread, h.count)

pub Posted-passes : (a b : RingState) (xs ms : List Message) → Posted a xs → Passed a ms b → (b.consumed ≡ a.consumed + length ms) × (ms ≡ take (length ms) (drop a.consumed xs))
Posted-passes a b xs ms h p = (
  p.consumed,
  sym (take_at ms b.unread (length ms) refl) ∙ ap (λ l. take (length ms) l) (sym p.unread ∙ sym (Posted-unread a xs h)),
)

-- a new ring
pub Posted-empty : (capacity : ℕ) → Posted (empty capacity) []
Posted-empty capacity = record { consumed = []; all = refl; count = refl; place = refl; room = omega arith }

pub Posted-ends : (r : RingState) (xs : List Message) → Posted r xs → IsEmpty r → r.consumed ≡ length xs
Posted-ends r xs h e = omega (arith, Posted-counted r xs h, ap length e)

-- the places of a ring are those of what was posted to it
pub Posted-end : (r : RingState) (xs : List Message) → Posted r xs → end r ≡ written r.capacity xs
Posted-end r xs h =
    ap (λ n. place_behind r.capacity n r.unread) (sym h.place) ∙ sym (place_behind-append r.capacity 0 h.consumed r.unread) ∙ ap (written r.capacity) (sym h.all)

pub Posted-read : (r : RingState) (xs : List Message) → Posted r xs → r.read ≡ written r.capacity (take r.consumed xs)
Posted-read r xs h = sym h.place ∙ ap (written r.capacity) (sym (take_at h.consumed r.unread r.consumed h.count) ∙ ap (λ l. take r.consumed l) (sym h.all))

-- as many bytes are free as what was posted and consumed leaves
pub Posted-free : (r : RingState) (xs : List Message) → Posted r xs → free r ≡ free_after r.capacity xs r.consumed
Posted-free r xs h = omega (arith, Posted-end r xs h, Posted-read r xs h)

-- and a message takes up as many as it does behind what was posted
pub Posted-need : (r : RingState) (xs : List Message) (m : Message) → Posted r xs → need_of r m ≡ need r.capacity (written r.capacity xs) (record_len m)
Posted-need r xs m h = ap (λ n. need r.capacity n (record_len m)) (Posted-end r xs h)

-- places only grow, so what was consumed takes up no more than all that was posted
consumed_below : (c n : ℕ) (xs : List Message) → written c (take n xs) ≤ written c xs
consumed_below c n xs =
    let whole : written c xs ≡ place_behind c (written c (take n xs)) (drop n xs) = ap (written c) (sym (take-append-drop n xs)) ∙ place_behind-append c 0 (take n xs) (drop n xs) in
    omega (arith, whole, place_behind-grows c (written c (take n xs)) (drop n xs))

-- a message had room if it was posted, others were posted behind it, and what was consumed came before it
pub Posted-fitted : (r : RingState) (xs ys : List Message) (m : Message) → r.consumed ≤ length xs → Posted r (xs ++ m ∷ ys) → need r.capacity (written r.capacity xs) (record_len m) ≤ free_after r.capacity xs r.consumed
Posted-fitted r xs ys m few h =
    let read : r.read ≡ written r.capacity (take r.consumed xs) = Posted-read r (xs ++ m ∷ ys) h ∙ ap (written r.capacity) (take-append-le r.consumed xs (m ∷ ys) few) in
    let last : end r ≡ place_behind r.capacity (written r.capacity xs + need r.capacity (written r.capacity xs) (record_len m)) ys = Posted-end r (xs ++ m ∷ ys) h ∙ place_behind-append r.capacity 0 xs (m ∷ ys) in
    omega (arith, read, last, h.room, place_behind-grows r.capacity (written r.capacity xs + need r.capacity (written r.capacity xs) (record_len m)) ys, consumed_below r.capacity r.consumed xs)

-- a message had room if it was posted behind others, and nothing was consumed meanwhile
pub Posted-fits : (r r' : RingState) (xs : List Message) (m : Message) → SameCapacity r r' → r'.consumed ≡ r.consumed → Posted r xs → Posted r' (xs ++ m ∷ [])
    → need r.capacity (written r.capacity xs) (record_len m) ≤ free_after r.capacity xs r.consumed
Posted-fits r r' xs m ring consumed h h' =
    let few : r'.consumed ≤ length xs = omega (arith, consumed, ap length h.all, length-append h.consumed r.unread, h.count) in
    subst (λ c. need c (written c xs) (record_len m) ≤ free_after c xs r.consumed) ring (subst (λ n. need r'.capacity (written r'.capacity xs) (record_len m) ≤ free_after r'.capacity xs n) consumed (Posted-fitted r' xs [] m few h'))
