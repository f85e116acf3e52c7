-- What waits in a ring stands in two segments: up to the end of the block, and from its start on.
use Rattle.std.proofs.Common.{◌^◌, ◌≡◌, ℕ, zero, suc, ◌+◌, ◌-◌, ◌*◌, ◌/◌, ◌%◌, ◌<◌, ◌≤◌, ◌⊎◌, inl, inr, ⊎_elim, List, [], ◌∷◌, ◌++◌, length, take, drop, refl, ap, sym, subst, ◌∙◌, append_assoc, arith, length-append}
use Rattle.std.specs.Prelude.{All, min}
use Rattle.std.proofs.lemmas.Bool.{cases_lt}
use Rattle.std.proofs.lemmas.List.{drop_at, take_at}
use Rattle.std.proofs.lemmas.List.Elements.{All-head, All-tail}
use Rattle.std.proofs.lemmas.Nat.{div-add-mod', mod-mul-add}
use Rattle.gs_layout.specs.declared.wire.TheConstants.{ALIGNMENT}
use Rattle.gs_layout.specs.declared.message.Message.{Message}
use Rattle.gs_layout.specs.Spelling.{IsSpellable, spelling}
use Rattle.gs_ring.specs.Block.{IsRing, ring_of}
use Rattle.gs_ring.specs.Ends.{place_behind-grows}
use Rattle.gs_ring.specs.Places.{bytes, need, pad_bytes, pad_len, place_behind, record_len, rest}
use Rattle.gs_ring.specs.RingState.{RingState, end}
use Rattle.gs_ring.specs.Segments.{Stands, spellings}
use Rattle.gs_ring.proofs.Around.{mod_round}
use Rattle.gs_ring.proofs.Held.{shown, waiting}
use Rattle.gs_ring.proofs.Next.{need_some}
use Rattle.gs_ring.proofs.Pads.{IsWide, length-pad_bytes, need_is, pad_bytes_none, pad_cases, wide}
use Rattle.gs_ring.proofs.ReadAgain.{sizes_of}
use Rattle.gs_ring.proofs.Standing.{stands_row}

-- a place at which the block ends, and one before it, at most a block away
pub record Before (c e r : ℕ) : Type 0 where
  pub end_ : e % c ≡ 0
  pub order : r ≤ e
  pub near : e ≤ r + c

index_by : (c q r d : ℕ) → d ≤ c → 0 < d → r + d ≡ q * c → 0 < q → r % c + d ≡ c ⊎ (d ≡ c)
index_by c zero r d most some e pos = absurd (omega arith)
index_by c (suc q) r d most some e pos =
    ⊎_elim
    (λ (lt : d < c).
    let at : r ≡ q * c + (c - d) = omega (arith, e, lt) in
    let m : r % c ≡ c - d = ap (λ n. n % c) at ∙ mod-mul-add q c (c - d) (omega (arith, some, lt)) in
    inl (omega (arith, m, lt)))
    (λ (le : c ≤ d). inr (omega (arith, le, most)))
    (cases_lt d c)

-- from a whole number of blocks on, a block is left
whole_rest : (c q r : ℕ) → 0 < c → r + c ≡ q * c → 0 < q → r % c ≡ 0
whole_rest c zero r pos e some = absurd (omega arith)
whole_rest c (suc q) r pos e some = let at : r ≡ q * c + 0 = omega (arith, e) in ap (λ n. n % c) at ∙ mod-mul-add q c 0 pos

-- so many bytes are left to the end of the block
pub rest_before : (c e r : ℕ) → 0 < c → Before c e r → r < e → rest c r ≡ e - r
rest_before c e r pos b lt =
    let q : e ≡ e / c * c = omega (arith, div-add-mod' e c, b.end_) in
    let some : 0 < e / c = some_blocks (e / c) e (omega (arith, lt)) q in
    let d = e - r in
    let sum : r + d ≡ e / c * c = omega (arith, q, lt) in
    ⊎_elim
    (λ m. omega (arith, m))
    (λ all. let z : r % c ≡ 0 = whole_rest c (e / c) r pos (omega (arith, sum, all)) some in omega (arith, z, all))
    (index_by c (e / c) r d (omega (arith, b.near)) (omega (arith, lt)) sum some)
  where
    some_blocks : (k n : ℕ) → 0 < n → n ≡ k * c → 0 < k
    some_blocks zero n h e = absurd (omega (arith, h, e))
    some_blocks (suc k) n h e = omega arith

before_next : (c e r n : ℕ) → Before c e r → r + n ≤ e → Before c e (r + n)
before_next c e r n b le = record { end_ = b.end_; order = le; near = omega (arith, b.near) }

-- the end of the next lap
next_end : (c e r : ℕ) → 0 < c → e % c ≡ 0 → e ≤ r → r ≤ e + c → Before c (e + c) r
next_end c e r pos end_ low high =
    let q : e + c ≡ (e / c + 1) * c + 0 = omega (arith, div-add-mod' e c, end_) in
    record { end_ = ap (λ n. n % c) q ∙ mod-mul-add (e / c + 1) c 0 pos; order = high; near = omega (arith, low) }

-- up to the end of the block there is no PAD
pub one_row : (c e r : ℕ) (ms : List Message) → 0 < c → Before c e r → place_behind c r ms ≤ e → bytes c r ms ≡ spellings ms
one_row c e r [] pos b fits = refl
one_row c e r (m ∷ ms) pos b fits =
    let n = need c r (record_len m) in
    let low = place_behind-grows c (r + n) ms in
    let lt : r < e = omega (arith, low, fits, need_some c r m) in
    let left = rest_before c e r pos b lt in
    let sum = need_is c r (record_len m) in
    ⊎_elim
    (λ (h : (pad_len c r (record_len m) ≡ 0) × (record_len m ≤ rest c r)).
    ap (λ t. (t ++ spelling m) ++ bytes c (r + n) ms) (pad_bytes_none (pad_len c r (record_len m)) h.0)
    ∙ ap (λ t. spelling m ++ t) (one_row c e (r + n) ms pos (before_next c e r n b (omega (arith, low, fits))) fits))
    (λ (h : (pad_len c r (record_len m) ≡ rest c r) × (rest c r < record_len m)). absurd (omega (arith, low, fits, sum, h.0, h.1, left, lt)))
    (pad_cases c r (record_len m))

-- the bytes of messages as two segments
pub record Split (c e r : ℕ) (ms : List Message) : Type 0 where
  pub first : List ℕ
  pub second : List ℕ
  pub stands : Stands first second ms
  pub bytes_ : bytes c r ms ≡ first ++ second
  pub count : length first ≡ min (place_behind c r ms - r) (e - r)

add_front : (f s : List ℕ) (m : Message) (ms : List Message) → IsSpellable m → All IsSpellable (m ∷ ms) → Stands f s ms → Stands (spelling m ++ f) s (m ∷ ms)
add_front f s m ms here fits h = record {
  front = m ∷ h.front;
  back = h.back;
  filler = h.filler;
  all = ap (λ l. m ∷ l) h.all;
  spellable = fits;
  whole = h.whole;
  short = h.short;
  first_is = ap (λ t. spelling m ++ t) h.first_is ∙ sym (append_assoc (spelling m) (spellings h.front) (pad_bytes h.filler));
  second_is = h.second_is;
}

-- all of them behind a PAD of so many bytes
behind_filler : (k : ℕ) (ms : List Message) → k % ALIGNMENT ≡ 0 → k < 2 ^ 16 → All IsSpellable ms → Stands (pad_bytes k) (spellings ms) ms
behind_filler k ms whole short fits = record { front = []; back = ms; filler = k; all = refl; spellable = fits; whole = whole; short = short; first_is = refl; second_is = refl }

pub two_rows : (c e r : ℕ) (ms : List Message) → IsWide c → r % ALIGNMENT ≡ 0 → All IsSpellable ms → Before c e r → place_behind c r ms ≤ e + c → Split c e r ms
two_rows c e r [] wide_ even fits b most =
    record { first = []; second = []; stands = stands_row [] fits; bytes_ = refl; count = omega arith }
two_rows c e r (m ∷ ms) wide_ even fits b most =
    let pos : 0 < c = omega (arith, wide_.least) in
    let here = All-head IsSpellable m ms fits in
    let z = sizes_of c r m wide_ even here in
    let k = pad_len c r (record_len m) in
    let n = need c r (record_len m) in
    let low = place_behind-grows c (r + n) ms in
    ⊎_elim
    (λ (lt : r < e).
    let left = rest_before c e r pos b lt in
    ⊎_elim
    (λ (h : (k ≡ 0) × (record_len m ≤ rest c r)).
    let more = two_rows c e (r + n) ms wide_ z.next (All-tail IsSpellable m ms fits) (before_next c e r n b (omega (arith, z.both, h.0, h.1, left))) most in
    let s : Split c e r (m ∷ ms) = record {
      first = spelling m ++ more.first;
      second = more.second;
      stands = add_front more.first more.second m ms here fits more.stands;
      bytes_ = ap (λ t. (t ++ spelling m) ++ bytes c (r + n) ms) (pad_bytes_none k h.0) ∙ ap (λ t. spelling m ++ t) more.bytes_ ∙ sym (append_assoc (spelling m) more.first more.second);
      count = omega (arith, length-append (spelling m) more.first, more.count, z.both, h.0, h.1, left, low);
    } in
    s)
    (λ (h : (k ≡ rest c r) × (rest c r < record_len m)).
    let at : r + n ≡ e + record_len m = omega (arith, z.both, h.0, left, lt) in
    let row : bytes c (r + n) ms ≡ spellings ms = one_row c (e + c) (r + n) ms pos (next_end c e (r + n) pos b.end_ (omega (arith, at)) (omega (arith, low, most))) most in
    let s : Split c e r (m ∷ ms) = record {
      first = pad_bytes k;
      second = spellings (m ∷ ms);
      stands = behind_filler k (m ∷ ms) z.whole (omega (arith, z.small, z.record_.most)) fits;
      bytes_ = append_assoc (pad_bytes k) (spelling m) (bytes c (r + n) ms) ∙ ap (λ t. pad_bytes k ++ (spelling m ++ t)) row;
      count = omega (arith, length-pad_bytes k z.whole, h.0, left, at, low);
    } in
    s)
    (pad_cases c r (record_len m)))
    (λ (ge : e ≤ r).
    let row : bytes c r (m ∷ ms) ≡ spellings (m ∷ ms) = one_row c (e + c) r (m ∷ ms) pos (next_end c e r pos b.end_ ge (omega (arith, b.order))) most in
    let s : Split c e r (m ∷ ms) = record {
      first = [];
      second = spellings (m ∷ ms);
      stands = subst (λ (t : List ℕ). Stands t (spellings (m ∷ ms)) (m ∷ ms)) (pad_bytes_none 0 refl) (behind_filler 0 (m ∷ ms) refl (omega arith) fits);
      bytes_ = row;
      count = omega (arith, b.order, ge);
    } in
    s)
    (cases_lt r e)

-- the end of the lap that a place is in
lap_end : (c r : ℕ) → 0 < c → Before c (r + rest c r) r
lap_end c r pos = record { end_ = mod_round c r pos; order = omega arith; near = omega arith }

-- of two splits of one list that are equally long in front both are the same
same_front : (a b x y : List ℕ) → a ++ b ≡ x ++ y → length a ≡ length x → (a ≡ x) × (b ≡ y)
same_front a b x y e n = (
  sym (take_at a b (length a) refl) ∙ ap (λ t. take (length a) t) e ∙ take_at x y (length a) (sym n),
  sym (drop_at a b (length a) refl) ∙ ap (λ t. drop (length a) t) e ∙ drop_at x y (length a) (sym n),
)

stands_where : (f s : List ℕ) (c r : ℕ) (ms : List Message) → IsWide c → r % ALIGNMENT ≡ 0 → All IsSpellable ms → place_behind c r ms ≤ r + c → f ++ s ≡ bytes c r ms
    → length f ≡ min (place_behind c r ms - r) (rest c r) → Stands f s ms
stands_where f s c r ms wide_ even fits room is count =
    let pos : 0 < c = omega (arith, wide_.least) in
    let z = two_rows c (r + rest c r) r ms wide_ even fits (lap_end c r pos) (omega (arith, room)) in
    let same = same_front f s z.first z.second (is ∙ z.bytes_) (omega (arith, count, z.count)) in
    subst (λ (t : List ℕ). Stands f t ms) (sym same.1) (subst (λ (t : List ℕ). Stands t z.second ms) (sym same.0) z.stands)

-- the front of a ring has the messages that wait
pub front_stands : (b : List ℕ) (r w t p : ℕ) (v : RingState) → IsRing b r w t p → ring_of b r w t p ≡ v → (f s : List ℕ) → f ++ s ≡ bytes v.capacity v.read v.unread
    → length f ≡ min (end v - v.read) (rest v.capacity v.read) → Stands f s v.unread
front_stands b r w t p v h view =
    let s = shown b r w t p h in
    let ms = waiting b r w (p - t) in
    subst (λ (x : RingState). (f s : List ℕ) → f ++ s ≡ bytes x.capacity x.read x.unread → length f ≡ min (end x - x.read) (rest x.capacity x.read) → Stands f s x.unread) view
    (λ f g is count. stands_where f g (length b) r ms (wide (length b) h.size) s.whole s.spellable (omega (arith, s.behind, s.room)) is count)
