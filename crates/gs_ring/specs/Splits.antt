use Rattle.std.proofs.Common.{◌≡◌, List, [], ◌∷◌, ◌++◌, refl, ◌⊎◌, inl, inr, ⊎_elim}

-- of two splits of one list, one front begins the other
pub two_splits : {A : Type 0} (xs b ys r : List A) → xs ++ b ≡ ys ++ r → ((more : List A) × (xs ++ more ≡ ys) × (b ≡ more ++ r)) ⊎ ((more : List A) × (xs ≡ ys ++ more))
two_splits [] b ys r e = inl (ys, refl, e)
two_splits (x ∷ xs) b [] r e = inr (x ∷ xs, refl)
two_splits (x ∷ xs) b (y ∷ ys) r e =
    let p : x ≡ y = cc in
    let q : xs ++ b ≡ ys ++ r = cc in
    ⊎_elim (λ t. inl (t.0, (λ i. p i ∷ t.1 i), t.2)) (λ t. inr (t.0, λ i. p i ∷ t.1 i)) (two_splits xs b ys r q)
