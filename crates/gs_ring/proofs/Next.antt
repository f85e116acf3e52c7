-- The message that waits first, where it lies in the block.
use Rattle.std.proofs.Common.{◌≡◌, Bool, true, false, cond, ℕ, ◌+◌, ◌-◌, ◌%◌, ◌<◌, ◌≤◌, ⊎_elim, List, [], ◌∷◌, ◌++◌, length, take, drop, refl, ap, sym, subst, ◌∙◌, append_assoc, arith, length-append}
use Rattle.std.specs.Prelude.{◌==◌, min}
use Rattle.std.proofs.lemmas.Bool.{cases_lt}
use Rattle.std.proofs.lemmas.List.{drop_at, take-append-drop, take-append-le, take_at}
use Rattle.std.proofs.lemmas.List.Elements.{All-head}
use Rattle.gs_layout.specs.declared.wire.TheConstants.{FRONT_LEN, KIND_AT, LEN_AT, PAD}
use Rattle.gs_layout.specs.declared.message.Message.{Message}
use Rattle.gs_layout.specs.Pad.{pad}
use Rattle.gs_layout.specs.Reading.{number_at}
use Rattle.gs_layout.specs.Spelling.{IsSpellable, spelling}
use Rattle.gs_ring.specs.Block.{IsRing, Lies, record_index, ring_of, seen}
use Rattle.gs_ring.specs.Ends.{Ahead, Passed, Passed-join, Passed-none, place_behind-append, place_behind-grows}
use Rattle.gs_ring.specs.Memory.{MemoryState}
use Rattle.gs_ring.specs.Places.{bytes, need, pad_bytes, pad_len, place_behind, record_len, rest}
use Rattle.gs_ring.specs.RingState.{RingState, end}
use Rattle.gs_ring.proofs.Around.{mod_round, mod_whole}
use Rattle.gs_ring.proofs.Held.{Shows, length-messages_in, length-seen, ring_from, shown, shows_rest, waiting, waiting_is}
use Rattle.gs_ring.proofs.Pads.{IsWide, need_is, pad_bytes_none, pad_bytes_some, pad_cases, record_size, wide}
use Rattle.gs_ring.proofs.ReadAgain.{length_named, message_kind, pad_kind, sizes_of}
use Rattle.gs_ring.proofs.Touched.{all_reached, number_touched, reached, row_touched}
use Rattle.gs_ring.proofs.Written.{seen-row, seen-split}

-- what is seen, in two parts
pub seen_parts : (b : List ℕ) (p n : ℕ) (x y : List ℕ) → seen b p n ≡ x ++ y → (seen b p (length x) ≡ x) × (seen b (p + length x) (n - length x) ≡ y)
seen_parts b p n x y e =
    let j = length x in
    let count : n ≡ j + (n - j) = omega (arith, ap length e, length-seen b p n, length-append x y) in
    let both : seen b p j ++ seen b (p + j) (n - j) ≡ x ++ y = sym (ap (λ k. seen b p k) count ∙ seen-split b p j (n - j)) ∙ e in
    let len = length-seen b p j in (
      sym (take_at (seen b p j) (seen b (p + j) (n - j)) j len) ∙ ap (λ t. take j t) both ∙ take_at x y j refl,
      sym (drop_at (seen b p j) (seen b (p + j) (n - j)) j len) ∙ ap (λ t. drop j t) both ∙ drop_at x y j refl,
    )

-- bytes that are seen before the end of the block begin its rest
pub row_begins : (b : List ℕ) (p : ℕ) (x : List ℕ) → seen b p (length x) ≡ x → p % length b + length x ≤ length b
    → drop (p % length b) b ≡ x ++ drop (length x) (drop (p % length b) b)
row_begins b p x e fits =
    let i = p % length b in
    let row : take (length x) (drop i b) ≡ x = sym (seen-row b p (length x) fits) ∙ e in
    sym (take-append-drop (length x) (drop i b)) ∙ ap (λ t. t ++ drop (length x) (drop i b)) row

pub by_kind : (b : List ℕ) (r : ℕ) (x : Bool) → (number_at KIND_AT 2 (drop (r % length b) b) == PAD) ≡ x → record_index b r ≡ cond x 0 (r % length b)
unfolding record_index
by_kind b r x e = ap (λ (y : Bool). cond y 0 (r % length b)) e

pub first_lies : (block : MemoryState) (r w : ℕ) (m : Message) (ms : List Message) → IsWide (length block.items) → Shows block.items r w (m ∷ ms)
    → min w (length block.items) ≤ block.touched → Lies block r m
first_lies block r w m ms wide_ s done =
    let b = block.items in
    let c = length b in
    let i = r % c in
    let fits = All-head IsSpellable m ms s.spellable in
    let z = sizes_of c r m wide_ s.whole fits in
    let pos : 0 < c = omega (arith, wide_.least) in
    let even = mod_whole c r pos wide_.whole s.whole in
    let within : i < c = omega (arith, pos) in
    let room : i + FRONT_LEN ≤ c = omega (arith, within, even, wide_.whole) in
    let len = record_len m in
    let k = pad_len c r len in
    let low : r + (k + len) ≤ w = omega (arith, s.behind, z.both, place_behind-grows c (r + need c r len) ms) in
    let tail = bytes c (r + need c r len) ms in
    ⊎_elim
    (λ (h : (k ≡ 0) × (len ≤ rest c r)).
    let e : seen b r (w - r) ≡ spelling m ++ tail = s.holds ∙ ap (λ t. (t ++ spelling m) ++ tail) (pad_bytes_none k h.0) in
    let one = (seen_parts b r (w - r) (spelling m) tail e).0 in
    let end_ : i + len ≤ c = omega (arith, h.1, within) in
    let row = row_begins b r (spelling m) one end_ in
    let front : drop i b ≡ spelling m ++ drop len (drop i b) = row in
    let kind : (number_at KIND_AT 2 (drop i b) == PAD) ≡ false = ap (λ (t : List ℕ). number_at KIND_AT 2 t == PAD) front ∙ message_kind m (drop len (drop i b)) in
    let at : record_index b r ≡ i = by_kind b r false kind in
    let there : i + len ≤ block.touched = reached c r w block.touched len (omega (arith, low)) end_ done in
    let l : Lies block r m = record {
      spellable = fits;
      room = omega (arith, there, z.record_.least);
      more = drop len (drop i b);
      front = ap (λ n. drop n b) at ∙ front;
      fits = omega (arith, at, there);
    } in
    l)
    (λ (h : (k ≡ rest c r) × (rest c r < len)).
    let some : 0 < k = omega (arith, h.0, within) in
    let is = pad_bytes_some k some in
    let e : seen b r (w - r) ≡ pad_bytes k ++ (spelling m ++ tail) = s.holds ∙ append_assoc (pad_bytes k) (spelling m) tail in
    let parts = seen_parts b r (w - r) (pad_bytes k) (spelling m ++ tail) e in
    let size : length (pad_bytes k) ≡ k = omega (arith, z.count, z.both, length-append (pad_bytes k) (spelling m)) in
    let row = row_begins b r (pad_bytes k) parts.0 (omega (arith, size, h.0, within)) in
    let front : drop i b ≡ pad k ++ drop (length (pad_bytes k)) (drop i b) = row ∙ ap (λ t. t ++ drop (length (pad_bytes k)) (drop i b)) is in
    let kind : (number_at KIND_AT 2 (drop i b) == PAD) ≡ true = ap (λ (t : List ℕ). number_at KIND_AT 2 t == PAD) front ∙ pad_kind k (drop (length (pad_bytes k)) (drop i b)) in
    let at : record_index b r ≡ 0 = by_kind b r true kind in
    let next : (r + length (pad_bytes k)) % c ≡ 0 = ap (λ n. (r + n) % c) (size ∙ h.0) ∙ mod_round c r pos in
    let two = (seen_parts b (r + length (pad_bytes k)) (w - r - length (pad_bytes k)) (spelling m) tail parts.1).0 in
    let short : len ≤ c = omega (arith, z.record_.most, wide_.least) in
    let row2 = row_begins b (r + length (pad_bytes k)) (spelling m) two (omega (arith, next, short)) in
    let begins : b ≡ spelling m ++ drop len b =
    sym (ap (λ n. drop n b) next) ∙ row2 ∙ ap (λ n. spelling m ++ drop len (drop n b)) next in
    let all : c ≤ block.touched = all_reached c r w block.touched pos (omega (arith, low, h.0)) done in
    let l : Lies block r m = record {
      spellable = fits;
      room = omega (arith, all, room);
      more = drop len b;
      front = ap (λ n. drop n b) at ∙ begins;
      fits = omega (arith, at, short, all);
    } in
    l)
    (pad_cases c r len)

-- the length that it names is its own
pub names_length : (b : MemoryState) (r : ℕ) (m : Message) → Lies b r m → number_at (record_index b.items r) 2 b.items ≡ record_len m
names_length b r m h = ap (λ (t : List ℕ). number_at LEN_AT 2 t) h.front ∙ length_named m h.more h.spellable

-- so it is where it stands in the bytes that were touched
pub names_touched : (b : MemoryState) (r : ℕ) (m : Message) (text : List ℕ) (start len : ℕ) → Lies b r m → text ≡ take b.touched b.items → length text ≡ b.touched
    → start ≡ record_index b.items r → len ≡ number_at start 2 text → len ≡ record_len m
names_touched b r m text start len h is count at named =
    let size : length (take b.touched b.items) ≡ b.touched = sym (ap length is) ∙ count in
    named
    ∙ ap (λ (t : List ℕ). number_at start 2 t) is
    ∙ number_touched b.touched b.items start (omega (arith, size, at, h.fits, (record_size m h.spellable).least))
    ∙ ap (λ k. number_at k 2 b.items) at
    ∙ names_length b r m h

-- and so are its bytes
pub spelled_touched : (b : MemoryState) (r : ℕ) (m : Message) (text : List ℕ) (start len : ℕ) → Lies b r m → text ≡ take b.touched b.items → length text ≡ b.touched
    → start ≡ record_index b.items r → len ≡ record_len m → take (start + len - start) (drop start text) ≡ spelling m
spelled_touched b r m text start len h is count at size =
    let all : length (take b.touched b.items) ≡ b.touched = sym (ap length is) ∙ count in
    let n : start + len - start ≡ record_len m = omega (arith, size) in
    ap (λ k. take k (drop start text)) n
    ∙ ap (λ (t : List ℕ). take (record_len m) (drop start t)) is
    ∙ row_touched b.touched b.items start (record_len m) (omega (arith, all, at, h.fits))
    ∙ ap (λ k. take (record_len m) (drop k b.items)) at
    ∙ ap (λ t. take (record_len m) t) h.front
    ∙ take_at (spelling m) h.more (record_len m) refl

-- the first message of a ring, and the ring after it is consumed
pub record First (block : MemoryState) (r w t p : ℕ) (v : RingState) (m : Message) : Type 0 where
  pub lies : Lies block r m
  pub ring : IsRing block.items (r + need (length block.items) r (record_len m)) w (t + 1) p
  pub passed : Passed v (m ∷ []) (ring_of block.items (r + need (length block.items) r (record_len m)) w (t + 1) p)

pub first_in : (block : MemoryState) (r w t p : ℕ) (v : RingState) (m : Message) → IsRing block.items r w t p → min w (length block.items) ≤ block.touched → ring_of block.items r w t p ≡ v
    → Ahead v (m ∷ []) → First block r w t p v m
first_in block r w t p v m h done view ahead =
    let b = block.items in
    let c = length b in
    let ms = ahead.0 in
    let e : waiting b r w (p - t) ≡ m ∷ ms = ap (λ (x : RingState). x.unread) view ∙ ahead.1 in
    let wide_ = wide c h.size in
    let s = subst (λ xs. Shows b r w xs) e (shown b r w t p h) in
    let count : p - t ≡ length ms + 1 = omega (arith, ap length e, length-messages_in (p - t) (seen b r (w - r))) in
    let after = shows_rest b r w m ms wide_ s in
    let left : p - (t + 1) ≡ length ms = omega (arith, count) in
    let n = r + need c r (record_len m) in
    let rest_is : waiting b n w (p - (t + 1)) ≡ ms = waiting_is b n w (p - (t + 1)) ms wide_ after left in
    let cap : c ≡ v.capacity = ap (λ (x : RingState). x.capacity) view in
    record {
      lies = first_lies block r w m ms wide_ s done;
      ring = ring_from b n w (t + 1) p ms h.size (omega (arith, count, h.order)) h.few h.low after left;
      passed = record {
        capacity = cap;
        unread = sym (ap (λ (x : RingState). x.unread) view) ∙ e ∙ ap (λ l. m ∷ l) (sym rest_is);
        consumed = ap (λ (x : RingState). x.consumed + 1) view;
        read = ap (λ (x : RingState). x.read + need x.capacity x.read (record_len m)) view;
      };
    }

-- the message that waits first
pub head_in : (v : RingState) → 0 < length v.unread → (m : Message) × Ahead v (m ∷ [])
head_in v h = head_of v.unread h
  where
    head_of : (xs : List Message) → 0 < length xs → (m : Message) × ((more : List Message) × (xs ≡ m ∷ more))
    head_of [] h = absurd (omega arith)
    head_of (x ∷ xs) h = (x, (xs, refl))

-- what is seen, as two rows
pub rows_of : (b : List ℕ) (r u i f : ℕ) → 0 < length b → u ≤ length b → i ≡ r % length b → f ≡ min u (length b - i) → take (i + f - i) (drop i b) ++ take (u - f) b ≡ seen b r u
rows_of b r u i f pos fits is_i is_f =
    let c = length b in
    let within : i < c = omega (arith, is_i, pos) in
    let one : seen b r f ≡ take f (drop i b) = seen-row b r f (omega (arith, is_i, is_f)) ∙ ap (λ k. take f (drop k b)) (sym is_i) in
    let count : f + (u - f) ≡ u = omega (arith, is_f) in
    let two : take (u - f) b ≡ seen b (r + f) (u - f) =
    ⊎_elim
    (λ (all : u < c - i). let none : u - f ≡ 0 = omega (arith, is_f, all) in ap (λ k. take k b) none ∙ ap (λ k. seen b (r + f) k) (sym none))
    (λ (past : c - i ≤ u).
    let last : f ≡ c - r % c = omega (arith, is_f, is_i, past) in
    let zero_ : (r + f) % c ≡ 0 = ap (λ k. (r + k) % c) last ∙ mod_round c r pos in
    sym (seen-row b (r + f) (u - f) (omega (arith, zero_, fits)) ∙ ap (λ k. take (u - f) (drop k b)) zero_))
    (cases_lt u (c - i)) in
    ap (λ k. take k (drop i b) ++ take (u - f) b) (let e : i + f - i ≡ f = omega arith in e)
    ∙ ap (λ t. t ++ take (u - f) b) (sym one)
    ∙ ap (λ t. seen b r f ++ t) two
    ∙ sym (seen-split b r f (u - f))
    ∙ ap (λ k. seen b r k) count

-- and both are touched
pub record InTouched (block : MemoryState) (i f u : ℕ) : Type 0 where
  pub first : i + f ≤ block.touched
  pub second : u - f ≤ block.touched

pub in_touched : (block : MemoryState) (r w i f : ℕ) → 0 < length block.items → r ≤ w → w ≤ r + length block.items → min w (length block.items) ≤ block.touched → i ≡ r % length block.items
    → f ≡ min (w - r) (length block.items - i) → InTouched block i f (w - r)
in_touched block r w i f pos order room done is_i is_f =
    let c = length block.items in
    let within : r % c < c = omega (arith, pos) in
    let first_ : i + f ≤ block.touched = omega (arith, is_i, reached c r w block.touched f (omega (arith, is_f, order)) (omega (arith, is_f, is_i, within)) done) in
    ⊎_elim
    (λ (lt : w < c). record { first = first_; second = omega (arith, done, lt) })
    (λ (le : c ≤ w). record { first = first_; second = omega (arith, done, le, room, order) })
    (cases_lt w c)

pub front_bytes : (b : List ℕ) (r w t p : ℕ) (v : RingState) → IsRing b r w t p → ring_of b r w t p ≡ v → seen b r (w - r) ≡ bytes v.capacity v.read v.unread
front_bytes b r w t p v h view = h.holds ∙ ap (λ (x : RingState). bytes x.capacity x.read x.unread) view

-- each message takes up some bytes
pub need_some : (c w : ℕ) (m : Message) → 0 < need c w (record_len m)
need_some c w m = omega (arith, need_is c w (record_len m))

-- of two fronts of one list that end at the same place both are the same
pub same_place : (c w : ℕ) (xs b ys d : List Message) → xs ++ b ≡ ys ++ d → place_behind c w xs ≡ place_behind c w ys → xs ≡ ys
same_place c w [] b [] d e f = refl
same_place c w [] b (y ∷ ys) d e f = absurd (omega (arith, f, place_behind-grows c (w + need c w (record_len y)) ys, need_some c w y))
same_place c w (x ∷ xs) b [] d e f = absurd (omega (arith, f, place_behind-grows c (w + need c w (record_len x)) xs, need_some c w x))
same_place c w (x ∷ xs) b (y ∷ ys) d e f =
    let p : x ≡ y = cc in
    let q : xs ++ b ≡ ys ++ d = cc in
    let n : place_behind c (w + need c w (record_len y)) xs ≡ place_behind c (w + need c w (record_len y)) ys = ap (λ z. place_behind c (w + need c w (record_len z)) xs) (sym p) ∙ f in
    λ i. p i ∷ same_place c (w + need c w (record_len y)) xs b ys d q n i

-- what comes next ends before the ring's end
pub within_end : (v : RingState) (ms : List Message) → Ahead v ms → place_behind v.capacity v.read ms ≤ end v
within_end v ms h =
    omega (arith, ap (place_behind v.capacity v.read) h.1, place_behind-append v.capacity v.read ms h.0, place_behind-grows v.capacity (place_behind v.capacity v.read ms) h.0)

pub end_in : (b : List ℕ) (r w t p : ℕ) (v : RingState) → IsRing b r w t p → ring_of b r w t p ≡ v → end v ≡ w
end_in b r w t p v h view = ap end (sym view) ∙ h.behind

pub read_in : (b : List ℕ) (r w t p : ℕ) (v : RingState) → ring_of b r w t p ≡ v → r ≡ v.read
read_in b r w t p v view = ap (λ (x : RingState). x.read) view

-- messages up to a place are consumed one by one: some passed, and these are left
abbrev pub IsTaking : RingState → RingState → ℕ → Type 0
IsTaking u v place = (done : List Message) × Passed u done v × ((ms : List Message) × Ahead v ms × (place_behind v.capacity v.read ms ≡ place))

abbrev pub Pops : RingState → RingState → Type 0
Pops v w = (m : Message) → Ahead v (m ∷ []) → Passed v (m ∷ []) w

some_left : (v : RingState) (place : ℕ) (ms more : List Message) → v.unread ≡ ms ++ more → place_behind v.capacity v.read ms ≡ place → v.read < place
    → (m : Message) × (rest : List Message) × (v.unread ≡ m ∷ (rest ++ more)) × (place_behind v.capacity (v.read + need v.capacity v.read (record_len m)) rest ≡ place)
some_left v place [] more e f lt = absurd (omega (arith, f, lt))
some_left v place (m ∷ ms) more e f lt = (m, ms, e, f)

pub take_one : (u v w : RingState) (place : ℕ) → IsTaking u v place → v.read < place → Pops v w → IsTaking u w place × (v.read < w.read) × (w.read ≤ place)
take_one u v w place h lt pops =
    let s = some_left v place h.2.0 h.2.1.0 h.2.1.1 h.2.2 lt in
    let m = s.0 in
    let p = pops m (s.1 ++ h.2.1.0, s.2) in
    let left : w.unread ≡ s.1 ++ h.2.1.0 = let e : m ∷ w.unread ≡ m ∷ (s.1 ++ h.2.1.0) = sym p.unread ∙ s.2 in cc in
    let next : place_behind w.capacity w.read s.1 ≡ place =
    ap (λ n. place_behind n w.read s.1) p.capacity ∙ ap (λ n. place_behind v.capacity n s.1) p.read ∙ s.3 in (
      (h.0 ++ m ∷ [], Passed-join u v w h.0 (m ∷ []) h.1 p, (s.1, (h.2.1.0, left), next)),
      omega (arith, p.read, need_some v.capacity v.read m),
      omega (arith, next, place_behind-grows w.capacity w.read s.1),
    )

pub all_taken : (u v : RingState) (place : ℕ) → IsTaking u v place → place ≤ v.read → (ms : List Message) → Ahead u ms → place_behind u.capacity u.read ms ≡ place → Passed u ms v
all_taken u v place h past ms ahead at =
    let low = place_behind-grows v.capacity v.read h.2.0 in
    let there : v.read ≡ place = omega (arith, low, h.2.2, past) in
    let same : h.0 ≡ ms = same_place u.capacity u.read h.0 v.unread ms ahead.0 (sym h.1.unread ∙ ahead.1) (sym h.1.read ∙ there ∙ sym at) in
    subst (λ (xs : List Message). Passed u xs v) same h.1

pub start_taking : (u : RingState) (place : ℕ) → ((ms : List Message) × Ahead u ms × (place_behind u.capacity u.read ms ≡ place)) → IsTaking u u place
start_taking u place h = ([], Passed-none u, h)

-- what was consumed of a list is its beginning
pub first_of : (done more ms other : List Message) → done ++ more ≡ ms ++ other → length done ≤ length ms → done ≡ take (length done) ms
first_of done more ms other e fits = sym (take_at done more (length done) refl) ∙ ap (λ l. take (length done) l) e ∙ take-append-le (length done) ms other fits
