-- What is seen of a block after bytes were written into it.
use Rattle.std.proofs.Common.{◌≡◌, ℕ, zero, suc, ◌+◌, ◌-◌, ◌%◌, ◌<◌, ◌≤◌, ◌⊎◌, ⊎_elim, List, [], ◌∷◌, ◌++◌, length, take, drop, refl, ap, sym, ◌∙◌, append_assoc, arith, length-append, length-drop, drop-cons}
use Rattle.std.specs.Prelude.{slice_index}
use Rattle.std.proofs.lemmas.List.{append-nil, drop-drop, drop_all, drop_at, get_or-append_right, get_or-drop, get_or-take, get_or_append_left, length-take-le, take-append-drop, take_all, take_at}
use borrow.Rule.Slice.PartMut.{put_mid}
use Rattle.gs_ring.specs.Block.{put_at, seen}
use Rattle.gs_ring.proofs.Around.{apart, mod_further}

pub seen-split : (b : List ℕ) (p j k : ℕ) → seen b p (j + k) ≡ seen b p j ++ seen b (p + j) k
seen-split b p zero k =
    let e : zero + k ≡ k = omega arith in
    let f : p + zero ≡ p = omega arith in
    ap (λ n. seen b p n) e ∙ ap (λ q. seen b q k) (sym f)
seen-split b p (suc j) k =
    let e : suc j + k ≡ suc (j + k) = omega arith in
    let f : suc p + j ≡ p + suc j = omega arith in
    ap (λ n. seen b p n) e ∙ ap (λ t. slice_index b (p % length b) ∷ t) (seen-split b (suc p) j k ∙ ap (λ q. seen b (suc p) j ++ seen b q k) f)

-- before the end of the block, the bytes stand in a row
pub seen-row : (b : List ℕ) (p n : ℕ) → p % length b + n ≤ length b → seen b p n ≡ take n (drop (p % length b) b)
seen-row b p zero h = refl
seen-row b p (suc zero) h =
    let lt : p % length b < length b = omega arith in
    sym (ap (λ t. take (suc zero) t) (drop-cons b (p % length b) 0 lt))
seen-row b p (suc (suc n)) h =
    let i = p % length b in
    let lt : i < length b = omega arith in
    let one : suc p ≡ p + 1 = omega arith in
    let next : suc p % length b ≡ suc i = ap (λ k. k % length b) one ∙ mod_further (length b) p 1 (omega arith) ∙ omega arith in
    let tail : seen b (suc p) (suc n) ≡ take (suc n) (drop (suc i) b) = seen-row b (suc p) (suc n) (omega (arith, next)) ∙ ap (λ k. take (suc n) (drop k b)) next in
    ap (λ t. slice_index b i ∷ t) tail ∙ sym (ap (λ t. take (suc (suc n)) t) (drop-cons b i 0 lt))

pub length-put_at : (at : ℕ) (more b : List ℕ) → at + length more ≤ length b → length (put_at at more b) ≡ length b
length-put_at at more b h =
    omega (arith, length-append (take at b ++ more) (drop (at + length more) b), length-append (take at b) more, length-take-le at b (omega arith), length-drop (at + length more) b)

-- a byte beside those that were written
pub beside : (at i : ℕ) (more b : List ℕ) → at + length more ≤ length b → (i < at) ⊎ (at + length more ≤ i) → slice_index (put_at at more b) i ≡ slice_index b i
beside at i more b h where_ =
    let front = length-take-le at b (omega arith) in
    let both : length (take at b ++ more) ≡ at + length more = omega (arith, length-append (take at b) more, front) in
    ⊎_elim
    (λ (lt : i < at).
    get_or_append_left (take at b ++ more) (drop (at + length more) b) 0 i (omega (arith, both)) ∙ get_or_append_left (take at b) more 0 i (omega (arith, front)) ∙ get_or-take at b i 0 lt)
    (λ (le : at + length more ≤ i).
    get_or-append_right (take at b ++ more) (drop (at + length more) b) (at + length more) i 0 both le ∙ get_or-drop (at + length more) b (i - (at + length more)) 0 ∙ ap (λ k. slice_index b k) (omega arith))
    where_

-- the bytes that were written
pub within_put : (at : ℕ) (more b : List ℕ) → at + length more ≤ length b → take (length more) (drop at (put_at at more b)) ≡ more
within_put at more b h =
    ap (λ t. take (length more) (drop at t)) (append_assoc (take at b) more (drop (at + length more) b))
    ∙ ap (λ t. take (length more) t) (drop_at (take at b) (more ++ drop (at + length more) b) at (length-take-le at b (omega arith)))
    ∙ take_at more (drop (at + length more) b) (length more) refl

-- what is seen stays if bytes are written behind it
pub seen_same : (b more : List ℕ) (u p n : ℕ) → 0 < length b → u % length b + length more ≤ length b → p + n ≤ u → u + length more ≤ p + length b
    → seen (put_at (u % length b) more b) p n ≡ seen b p n
seen_same b more u p zero pos fits before near = refl
seen_same b more u p (suc n) pos fits before near =
    let same = length-put_at (u % length b) more b fits in
    let here : slice_index (put_at (u % length b) more b) (p % length b) ≡ slice_index b (p % length b) =
    beside (u % length b) (p % length b) more b fits (apart (length b) p u (length more) pos (omega arith) near fits) in
    ap (λ k. slice_index (put_at (u % length b) more b) (p % k) ∷ seen (put_at (u % length b) more b) (suc p) n) same
    ∙ ap (λ x. x ∷ seen (put_at (u % length b) more b) (suc p) n) here
    ∙ ap (λ t. slice_index b (p % length b) ∷ t) (seen_same b more u (suc p) n pos fits (omega arith) (omega arith))

-- bytes that are written behind what is seen are seen behind it
pub seen-put_at : (b more : List ℕ) (r w : ℕ) → 0 < length b → r ≤ w → w % length b + length more ≤ length b → w + length more ≤ r + length b
    → seen (put_at (w % length b) more b) r (w + length more - r) ≡ seen b r (w - r) ++ more
seen-put_at b more r w pos order fits near =
    let b' = put_at (w % length b) more b in
    let same : length b' ≡ length b = length-put_at (w % length b) more b fits in
    let count : w + length more - r ≡ (w - r) + length more = omega arith in
    let there : r + (w - r) ≡ w = omega arith in
    let old : seen b' r (w - r) ≡ seen b r (w - r) = seen_same b more w r (w - r) pos fits (omega arith) near in
    let at : w % length b' ≡ w % length b = ap (λ k. w % k) same in
    let new : seen b' w (length more) ≡ more =
    seen-row b' w (length more) (omega (arith, at, same)) ∙ ap (λ k. take (length more) (drop k b')) at ∙ within_put (w % length b) more b fits in
    ap (λ n. seen b' r n) count
    ∙ seen-split b' r (w - r) (length more)
    ∙ ap (λ q. seen b' r (w - r) ++ seen b' q (length more)) there
    ∙ ap (λ t. t ++ seen b' w (length more)) old
    ∙ ap (λ t. seen b r (w - r) ++ t) new

pub put_at-none : (at : ℕ) (more b : List ℕ) → more ≡ [] → put_at at more b ≡ b
put_at-none at more b e =
    ap (λ t. put_at at t b) e ∙ ap (λ t. t ++ drop (at + 0) b) (append-nil (take at b)) ∙ ap (λ k. take at b ++ drop k b) (omega arith) ∙ take-append-drop at b

-- a part of the block that was written as a whole
pub put_mid_at : (at k : ℕ) (b new more : List ℕ) → new ≡ more → length more ≡ k → put_mid at k b new ≡ put_at at more b
put_mid_at at k b new more e count =
    ap (λ t. take at b ++ (t ++ drop k (drop at b))) e
    ∙ ap (λ t. take at b ++ (more ++ t)) (drop-drop k at b ∙ ap (λ n. drop n b) (omega (arith, count)))
    ∙ sym (append_assoc (take at b) more (drop (at + length more) b))

-- the front of the rest of the block that was written
pub put_front_at : (at : ℕ) (b more new : List ℕ) → at + length more ≤ length b → new ≡ more ++ drop (length more) (take (length b - at) (drop at b))
    → put_mid at (length b - at) b new ≡ put_at at more b
put_front_at at b more new room e =
    let size : length (drop at b) ≡ length b - at = length-drop at b in
    let kept : take (length b - at) (drop at b) ≡ drop at b = take_all (length b - at) (drop at b) (omega (arith, size)) in
    let none : drop (length b - at) (drop at b) ≡ [] = drop_all (length b - at) (drop at b) (omega (arith, size)) in
    let tail : new ≡ more ++ drop (at + length more) b = e ∙ ap (λ t. more ++ drop (length more) t) kept ∙ ap (λ t. more ++ t) (drop-drop (length more) at b) in
    ap (λ t. take at b ++ (new ++ t)) none
    ∙ ap (λ t. take at b ++ t) (append-nil new ∙ tail)
    ∙ sym (append_assoc (take at b) more (drop (at + length more) b))
