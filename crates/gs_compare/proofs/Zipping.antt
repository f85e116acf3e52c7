-- Lists side by side, with one more at the end of each.
use Rattle.std.proofs.Common.{◌≡◌, ℕ, ◌+◌, ◌<◌, sym, subst, List, [], ◌∷◌, ◌++◌, get_or, length, take}
use Rattle.std.specs.List.{AllZip}
use Rattle.std.proofs.lemmas.Grind.{take_at_read}

zip_push : {A B : Type 0} (R : A → B → Type 0) (xs : List A) (ys : List B) (x : A) (y : B) → AllZip R xs ys → R x y → AllZip R (xs ++ x ∷ []) (ys ++ y ∷ [])
zip_push R [] [] x y all r = (r, tt)
zip_push R [] (z ∷ ys) x y all r = elim all [ ]
zip_push R (z ∷ xs) [] x y all r = elim all [ ]
zip_push R (z ∷ xs) (w ∷ ys) x y all r = (all.0, zip_push R xs ys x y all.1 r)

-- the next one, with what belongs to it
pub zip_more : {A B : Type 0} (R : A → B → Type 0) (xs : List A) (i : ℕ) (d : A) (ys all : List B) (y : B) → i < length xs → all ≡ ys ++ y ∷ [] → AllZip R (take i xs) ys → R (get_or xs i d) y → AllZip R (take (i + 1) xs) all
zip_more R xs i d ys all y lt is before r =
    subst (λ zs. AllZip R (take (i + 1) xs) zs) (sym is) (subst (λ zs. AllZip R zs (ys ++ y ∷ [])) (sym (take_at_read xs i d lt).1) (zip_push R (take i xs) ys (get_or xs i d) y before r))
