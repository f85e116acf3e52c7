-- Rows one after another.
use Rattle.std.proofs.Common.{◌≡◌, ◌∙◌, ◌++◌, ◌∷◌, [], ◌+◌, ◌<◌, ap, sym, ℕ, List, append-nil, get_or, length, take}
use Rattle.std.specs.List.{flat_map}
use Rattle.std.proofs.lemmas.Grind.{flat_map-append}
use Rattle.std.proofs.lemmas.List.{take_more}

pub rows_more : {X : Type 0} (show : X → List ℕ) (xs : List X) (i : ℕ) (d : X) (old new : List ℕ) → i < length xs → old ≡ flat_map show (take i xs) → new ≡ old ++ show (get_or xs i d) → new ≡ flat_map show (take (i + 1) xs)
rows_more show xs i d old new lt is more =
    more ∙ (ap (λ (bs : List ℕ). bs ++ show (get_or xs i d)) is
    ∙ (ap (λ (bs : List ℕ). flat_map show (take i xs) ++ bs) (sym (append-nil (show (get_or xs i d))))
    ∙ (sym (flat_map-append show (take i xs) (get_or xs i d ∷ [])) ∙ ap (flat_map show) (sym (take_more xs i d lt)))))
