-- Two writes, one after the other.
use Rattle.std.proofs.Common.{◌≡◌, ℕ, ◌+◌, ◌≤◌, List, ◌++◌, take, drop, sym, ◌∙◌, ap, Option, None, Some, append_assoc, length, length-drop, take-add, ◌-◌, arith}
use Rattle.std.proofs.lemmas.List.{take_rest}
use Rattle.std.specs.Io.KnownBytes.{Appends}

pub appends_more : (a b c : Option (List ℕ)) (xs ys zs : List ℕ) → Appends a b xs → Appends b c ys → xs ++ ys ≡ zs → Appends a c zs
appends_more None b c xs ys zs h k e = tt
appends_more (Some a) None c xs ys zs h k e = absurd h
appends_more (Some a) (Some b) None xs ys zs h k e = absurd k
appends_more (Some a) (Some b) (Some c) xs ys zs h k e = k ∙ ap (λ bs. bs ++ ys) h ∙ append_assoc a xs ys ∙ ap (λ bs. a ++ bs) e

pub pieces : (w n : ℕ) (bs : List ℕ) → take w bs ++ take n (take (length bs - w) (drop w bs)) ≡ take (w + n) bs
pieces w n bs = ap (λ t. take w bs ++ take n t) (take_rest bs w) ∙ sym (take-add w n bs)

pub piece_fits : (w n : ℕ) (bs : List ℕ) → w ≤ length bs → n ≤ length (take (length bs - w) (drop w bs)) → w + n ≤ length bs
piece_fits w n bs h k = let e = rw (take_rest bs w) at k in omega (arith, e, length-drop w bs)
