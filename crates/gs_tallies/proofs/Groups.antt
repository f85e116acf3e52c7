-- What is in a group, one thing more.
use Rattle.std.proofs.Common.{◌≡◌, ◌∙◌, refl, ap, sym, ℕ, ◌+◌, ◌<◌, ◌≤◌, ◌++◌, ◌∷◌, Bool, true, false, cond, List, [], get_or, length, take, append-nil, arith}
use Rattle.std.specs.List.{filter}
use Rattle.std.proofs.lemmas.List.{length-take-le}
use Rattle.std.proofs.lemmas.List.Elements.{filter_more}
use Rattle.std.proofs.lemmas.List.Sums.{count_by-le-length, length-filter}
use Rattle.gs_tallies.specs.Groups.{one_more}

one_or_none : {A : Type 0} (b : Bool) (x : A) (xs : List A) → xs ++ cond b (x ∷ []) [] ≡ one_more b x xs
one_or_none true x xs = refl
one_or_none false x xs = append-nil xs

-- what passes a test among one thing more
pub kept_more : {A : Type 0} (p : A → Bool) (xs : List A) (i : ℕ) (x : A) → i < length xs → x ≡ get_or xs i x → filter p (take (i + 1) xs) ≡ one_more (p x) x (filter p (take i xs))
kept_more p xs i x lt is =
    filter_more p xs i x lt
    ∙ (one_or_none (p (get_or xs i x)) (get_or xs i x) (filter p (take i xs)) ∙ ap (λ y. one_more (p y) y (filter p (take i xs))) (sym is))

-- no more are kept than there are
pub kept_few : {A : Type 0} (p : A → Bool) (xs : List A) (i : ℕ) → i < length xs → length (filter p (take i xs)) ≤ i
kept_few p xs i lt =
    let few = count_by-le-length p (take i xs) in
    let kept = length-filter p (take i xs) in
    let some = length-take-le i xs (omega arith) in
    omega (arith, few, kept, some)
