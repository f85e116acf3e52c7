-- How a ring's parts go on agreeing.
use Rattle.std.proofs.Common.{◌≡◌, true, ℕ, zero, suc, ◌+◌, ◌-◌, ◌*◌, ◌%◌, ◌<◌, ◌≤◌, List, [], ◌∷◌, ◌++◌, length, drop, refl, ap, sym, subst, ◌∙◌, append_assoc, arith, length-append}
use Rattle.std.specs.Prelude.{All, min}
use Rattle.std.proofs.lemmas.List.{append-nil, drop_at}
use Rattle.std.proofs.lemmas.List.Elements.{All-head, All-push, All-tail}
use Rattle.gs_ring.specs.declared.ends.TheConstants.{MOST_POSTS}
use Rattle.gs_layout.specs.declared.wire.TheConstants.{ALIGNMENT, MOST_MESSAGE_LEN, MOST_PAD_LEN}
use Rattle.gs_layout.specs.declared.message.Message.{Message}
use Rattle.gs_layout.specs.Spelling.{IsSpellable, spelling}
use Rattle.gs_ring.specs.declared.memory.TheConstants.{STEP}
use Rattle.gs_ring.specs.declared.place.Place.{Place}
use Rattle.gs_ring.specs.Block.{IsHeld, IsRing, block_with, messages_in, put_at, ring_of, seen}
use Rattle.gs_ring.specs.Ends.{place_behind-grows}
use Rattle.gs_ring.specs.Memory.{MemoryState}
use Rattle.gs_ring.specs.Places.{bytes, is_capacity, need, pad_bytes, pad_len, place_behind, record_len}
use Rattle.gs_ring.specs.RingState.{RingState, end, free, posts}
use Rattle.gs_ring.proofs.Pads.{IsWide, length-pad_bytes, need_is, pad_fits, record_fits, wide}
use Rattle.gs_ring.proofs.ReadAgain.{messages_again, sizes_of}
use Rattle.gs_ring.proofs.Written.{length-put_at, seen-put_at, seen-split}

pub length-messages_in : (n : ℕ) (text : List ℕ) → length (messages_in n text) ≡ n
length-messages_in zero text = refl
length-messages_in (suc n) text = ap suc (length-messages_in n _)

pub length-seen : (b : List ℕ) (p n : ℕ) → length (seen b p n) ≡ n
length-seen b p zero = refl
length-seen b p (suc n) = ap suc (length-seen b (suc p) n)

-- these messages are seen in a block between two places
pub record Shows (b : List ℕ) (r w : ℕ) (ms : List Message) : Type 0 where
  pub whole : r % ALIGNMENT ≡ 0
  pub room : w ≤ r + length b
  pub spellable : All IsSpellable ms
  pub behind : place_behind (length b) r ms ≡ w
  pub holds : seen b r (w - r) ≡ bytes (length b) r ms

-- the messages that wait in a ring of these parts
abbrev pub waiting : List ℕ → ℕ → ℕ → ℕ → List Message
waiting b r w n = messages_in n (seen b r (w - r))

pub shown : (b : List ℕ) (r w t p : ℕ) → IsRing b r w t p → Shows b r w (waiting b r w (p - t))
shown b r w t p h = record { whole = h.whole; room = h.room; spellable = h.spellable; behind = h.behind; holds = h.holds }

-- what waits in a ring is what is seen in its block
pub waiting_is : (b : List ℕ) (r w n : ℕ) (ms : List Message) → IsWide (length b) → Shows b r w ms → n ≡ length ms → waiting b r w n ≡ ms
waiting_is b r w n ms wide s count =
    ap (λ t. messages_in n t) s.holds ∙ ap (λ k. messages_in k (bytes (length b) r ms)) count ∙ messages_again (length b) r ms wide s.whole s.spellable

pub ring_from : (b : List ℕ) (r w t p : ℕ) (ms : List Message) → is_capacity (length b) ≡ true → t ≤ p → p ≤ MOST_POSTS → w ≤ (MOST_MESSAGE_LEN + MOST_PAD_LEN) * p → Shows b r w ms → p - t ≡ length ms → IsRing b r w t p
ring_from b r w t p ms size order few low s count =
    let e : ms ≡ waiting b r w (p - t) = sym (waiting_is b r w (p - t) ms (wide (length b) size) s count) in
    let f = subst (λ xs. Shows b r w xs) e s in
    record { size = size; order = order; few = few; whole = s.whole; low = low; forward = omega (arith, s.behind, place_behind-grows (length b) r ms); room = s.room; spellable = f.spellable; behind = f.behind; holds = f.holds }

pub place_behind-push : (c w : ℕ) (ms : List Message) (m : Message) → place_behind c w (ms ++ m ∷ []) ≡ place_behind c w ms + need c (place_behind c w ms) (record_len m)
place_behind-push c w [] m = refl
place_behind-push c w (x ∷ ms) m = place_behind-push c (w + need c w (record_len x)) ms m

pub bytes-push : (c w : ℕ) (ms : List Message) (m : Message)
    → bytes c w (ms ++ m ∷ []) ≡ bytes c w ms ++ (pad_bytes (pad_len c (place_behind c w ms) (record_len m)) ++ spelling m)
bytes-push c w [] m = append-nil _
bytes-push c w (x ∷ ms) m =
    let front = pad_bytes (pad_len c w (record_len x)) ++ spelling x in
    ap (λ t. front ++ t) (bytes-push c (w + need c w (record_len x)) ms m) ∙ sym (append_assoc front _ _)

pub place_whole : (c w : ℕ) (ms : List Message) → IsWide c → w % ALIGNMENT ≡ 0 → All IsSpellable ms → place_behind c w ms % ALIGNMENT ≡ 0
place_whole c w [] wide even fits = even
place_whole c w (m ∷ ms) wide even fits =
    place_whole c (w + need c w (record_len m)) ms wide (sizes_of c w m wide even (All-head IsSpellable m ms fits)).next (All-tail IsSpellable m ms fits)

-- the parts agree still if the ring goes on to be read at a later place
pub read_later : (b : MemoryState) (r w q : Place) (t p n span : ℕ) → n ≡ length b.items → IsRing b.items (r.count + span) w.count t p → q.count ≡ r.count + span → q.index ≡ (r.count + span) % n
    → w.index ≡ w.count % length b.items → min w.count (length b.items) ≤ b.touched → b.touched ≤ w.count + STEP → IsHeld b q w t p
read_later b r w q t p n span size ring count at written done few = record {
  ring = subst (λ k. IsRing b.items k w.count t p) (sym count) ring;
  read_at = at ∙ ap (λ k. k % n) (sym count) ∙ ap (λ k. q.count % k) size;
  written_at = written;
  touched = done;
  few = few;
}

-- and if it goes on to be written there
pub written_later : (b : MemoryState) (r w q : Place) (t p n span : ℕ) → n ≡ length b.items → IsRing b.items r.count (w.count + span) t p → q.count ≡ w.count + span → q.index ≡ (w.count + span) % n
    → r.index ≡ r.count % length b.items → min (w.count + span) (length b.items) ≤ b.touched → b.touched ≤ w.count + span + STEP → IsHeld b r q t p
written_later b r w q t p n span size ring count at read done few = record {
  ring = subst (λ k. IsRing b.items r.count k t p) (sym count) ring;
  read_at = read;
  written_at = at ∙ ap (λ k. k % n) (sym count) ∙ ap (λ k. q.count % k) size;
  touched = subst (λ k. min k (length b.items) ≤ b.touched) (sym count) done;
  few = subst (λ k. b.touched ≤ k + STEP) (sym count) few;
}

pub shows_more : (b : List ℕ) (r w : ℕ) (ms : List Message) (m : Message) → IsWide (length b) → Shows b r w ms → IsSpellable m
    → w + need (length b) w (record_len m) ≤ r + length b
    → (length (block_with b w (pad_len (length b) w (record_len m)) m) ≡ length b) × Shows (block_with b w (pad_len (length b) w (record_len m)) m) r (w + need (length b) w (record_len m)) (ms ++ m ∷ [])
shows_more b r w ms m wide s fits room =
    let c = length b in
    let k = pad_len c w (record_len m) in
    let pos : 0 < c = omega (arith, wide.least) in
    let even : w % ALIGNMENT ≡ 0 = subst (λ n. n % ALIGNMENT ≡ 0) s.behind (place_whole c r ms wide s.whole s.spellable) in
    let z = sizes_of c w m wide even fits in
    let order : r ≤ w = omega (arith, s.behind, place_behind-grows c r ms) in
    let pads : length (pad_bytes k) ≡ k = length-pad_bytes k z.whole in
    let b1 = put_at (w % c) (pad_bytes k) b in
    let fits1 : w % c + length (pad_bytes k) ≤ c = omega (arith, pads, pad_fits c w (record_len m) pos) in
    let len1 : length b1 ≡ c = length-put_at (w % c) (pad_bytes k) b fits1 in
    let one : seen b1 r (w + k - r) ≡ seen b r (w - r) ++ pad_bytes k =
    ap (λ n. seen b1 r (w + n - r)) (sym pads) ∙ seen-put_at b (pad_bytes k) r w pos order fits1 (omega (arith, pads, room, z.both)) in
    let place : (w + k) % length b1 ≡ (w + k) % c = ap (λ n. (w + k) % n) len1 in
    let fits2 : (w + k) % length b1 + record_len m ≤ length b1 = omega (arith, place, len1, record_fits c w (record_len m) pos (omega (arith, z.record_.most, wide.least))) in
    let b2 = put_at ((w + k) % length b1) (spelling m) b1 in
    let two : seen b2 r (w + k + record_len m - r) ≡ seen b1 r (w + k - r) ++ spelling m =
    seen-put_at b1 (spelling m) r (w + k) (omega (arith, len1, pos)) (omega (arith, order)) fits2 (omega (arith, len1, room, z.both)) in
    let b3 = block_with b w k m in
    let same : b2 ≡ b3 = ap (λ n. put_at n (spelling m) b1) place in
    let len3 : length b3 ≡ c = ap length (sym same) ∙ length-put_at ((w + k) % length b1) (spelling m) b1 fits2 ∙ len1 in
    let end : w + need c w (record_len m) - r ≡ w + k + record_len m - r = omega (arith, z.both) in
    let all : seen b3 r (w + need c w (record_len m) - r) ≡ bytes c r ms ++ (pad_bytes k ++ spelling m) =
    ap (λ n. seen b3 r n) end
    ∙ ap (λ x. seen x r (w + k + record_len m - r)) (sym same)
    ∙ two
    ∙ ap (λ t. t ++ spelling m) (one ∙ ap (λ t. t ++ pad_bytes k) s.holds)
    ∙ append_assoc (bytes c r ms) (pad_bytes k) (spelling m) in
    let made_ : bytes c r (ms ++ m ∷ []) ≡ bytes c r ms ++ (pad_bytes k ++ spelling m) =
    bytes-push c r ms m ∙ ap (λ n. bytes c r ms ++ (pad_bytes (pad_len c n (record_len m)) ++ spelling m)) s.behind in (
      len3,
      record {
        whole = s.whole;
        room = omega (arith, len3, room);
        spellable = All-push IsSpellable ms m s.spellable fits;
        behind = ap (λ n. place_behind n r (ms ++ m ∷ [])) len3 ∙ place_behind-push c r ms m ∙ ap (λ n. n + need c n (record_len m)) s.behind;
        holds = all ∙ sym made_ ∙ ap (λ n. bytes n r (ms ++ m ∷ [])) (sym len3);
      },
    )

-- the first message is consumed
pub shows_rest : (b : List ℕ) (r w : ℕ) (m : Message) (ms : List Message) → IsWide (length b) → Shows b r w (m ∷ ms) → Shows b (r + need (length b) r (record_len m)) w ms
shows_rest b r w m ms wide s =
    let c = length b in
    let z = sizes_of c r m wide s.whole (All-head IsSpellable m ms s.spellable) in
    let n = need c r (record_len m) in
    let front = pad_bytes (pad_len c r (record_len m)) ++ spelling m in
    let order : r + n ≤ w = omega (arith, s.behind, place_behind-grows c (r + n) ms) in
    let count : w - r ≡ n + (w - (r + n)) = omega (arith, order) in
    let split : seen b r n ++ seen b (r + n) (w - (r + n)) ≡ front ++ bytes c (r + n) ms =
    sym (ap (λ k. seen b r k) count ∙ seen-split b r n (w - (r + n))) ∙ s.holds in
    record {
      whole = z.next;
      room = omega (arith, s.room);
      spellable = All-tail IsSpellable m ms s.spellable;
      behind = s.behind;
      holds = sym (drop_at (seen b r n) (seen b (r + n) (w - (r + n))) n (length-seen b r n)) ∙ ap (λ t. drop n t) split ∙ drop_at front (bytes c (r + n) ms) n z.count;
    }

-- what a message needs next, by the parts
pub need_in : (b : List ℕ) (r w t p : ℕ) (v : RingState) (k len : ℕ) → IsRing b r w t p → ring_of b r w t p ≡ v → k ≡ pad_len (length b) w len → k + len ≡ need v.capacity (end v) len
need_in b r w t p v k len h view e =
    ap (λ x. x + len) e ∙ sym (need_is (length b) w len) ∙ ap (λ n. need (length b) n len) (sym h.behind) ∙ ap (λ (x : RingState). need x.capacity (end x) len) view

pub free_in : (b : List ℕ) (r w t p : ℕ) (v : RingState) → IsRing b r w t p → ring_of b r w t p ≡ v → free v ≡ length b - (w - r)
free_in b r w t p v h view = ap free (sym view) ∙ ap (λ n. length b - (n - r)) h.behind

pub posts_in : (b : List ℕ) (r w t p : ℕ) (v : RingState) → IsRing b r w t p → ring_of b r w t p ≡ v → posts v ≡ p
posts_in b r w t p v h view = ap posts (sym view) ∙ omega (arith, length-messages_in (p - t) (seen b r (w - r)), h.order)

-- what is asked if a message is written behind a PAD of so many bytes
pub record Fitting (b : List ℕ) (w : ℕ) (m : Message) (k : ℕ) : Type 0 where
  pub fits : w % length b + k ≤ length b
  pub whole : k % ALIGNMENT ≡ 0
  pub low : k + record_len m ≤ MOST_MESSAGE_LEN + MOST_PAD_LEN
  pub behind : (w + k) % length b + record_len m ≤ length b

pub fitting : (b : List ℕ) (r w t p : ℕ) (m : Message) (k : ℕ) → IsRing b r w t p → IsSpellable m → k ≡ pad_len (length b) w (record_len m) → Fitting b w m k
fitting b r w t p m k h fits e =
    let c = length b in
    let wide_ = wide c h.size in
    let s = shown b r w t p h in
    let pos : 0 < c = omega (arith, wide_.least) in
    let even : w % ALIGNMENT ≡ 0 = subst (λ n. n % ALIGNMENT ≡ 0) s.behind (place_whole c r (waiting b r w (p - t)) wide_ s.whole s.spellable) in
    let z = sizes_of c w m wide_ even fits in
    subst (λ x. Fitting b w m x) (sym e) (record {
      fits = pad_fits c w (record_len m) pos;
      whole = z.whole;
      low = omega (arith, z.small, z.whole, z.record_.most, z.record_.whole);
      behind = record_fits c w (record_len m) pos (omega (arith, z.record_.most, wide_.least));
    })

-- the parts after a message was appended
pub record Pushed (b : List ℕ) (r w t p : ℕ) (m : Message) (k : ℕ) : Type 0 where
  pub size : length (block_with b w k m) ≡ length b
  pub ring : IsRing (block_with b w k m) r (w + k + record_len m) t (p + 1)
  pub state : ring_of (block_with b w k m) r (w + k + record_len m) t (p + 1) ≡ record { capacity = length b; consumed = t; read = r; unread = waiting b r w (p - t) ++ m ∷ [] }

pushed_at : (b : List ℕ) (r w t p : ℕ) (m : Message) → IsRing b r w t p → IsSpellable m → p < MOST_POSTS → w + need (length b) w (record_len m) ≤ r + length b
    → Pushed b r w t p m (pad_len (length b) w (record_len m))
pushed_at b r w t p m h fits few room =
    let c = length b in
    let k = pad_len c w (record_len m) in
    let wide_ = wide c h.size in
    let ms = waiting b r w (p - t) in
    let more = shows_more b r w ms m wide_ (shown b r w t p h) fits room in
    let both : w + need c w (record_len m) ≡ w + k + record_len m = omega (arith, need_is c w (record_len m)) in
    let shows = subst (λ n. Shows (block_with b w k m) r n (ms ++ m ∷ [])) both more.1 in
    let size : is_capacity (length (block_with b w k m)) ≡ true = ap is_capacity more.0 ∙ h.size in
    let sizes = fitting b r w t p m k h fits refl in
    let count : p + 1 - t ≡ length (ms ++ m ∷ []) = omega (arith, length-append ms (m ∷ []), length-messages_in (p - t) (seen b r (w - r)), h.order) in
    record {
      size = more.0;
      ring = ring_from (block_with b w k m) r (w + k + record_len m) t (p + 1) (ms ++ m ∷ []) size (omega (arith, h.order)) (omega (arith, few)) (omega (arith, h.low, sizes.low)) shows count;
      state = λ i. record { capacity = more.0 i; consumed = t; read = r; unread = waiting_is (block_with b w k m) r (w + k + record_len m) (p + 1 - t) (ms ++ m ∷ []) (wide _ size) shows count i };
    }

pub pushed : (b : List ℕ) (r w t p : ℕ) (v : RingState) (m : Message) (k : ℕ) → IsRing b r w t p → ring_of b r w t p ≡ v → IsSpellable m → posts v < MOST_POSTS
    → k ≡ pad_len (length b) w (record_len m) → k + record_len m ≤ free v → Pushed b r w t p m k
pushed b r w t p v m k h view fits few e room =
    let n = need_is (length b) w (record_len m) in
    subst (λ x. Pushed b r w t p m x) (sym e)
    (pushed_at b r w t p m h fits (omega (arith, posts_in b r w t p v h view, few)) (omega (arith, n, e, room, free_in b r w t p v h view, h.forward, h.room)))
