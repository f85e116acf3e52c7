-- Whether one of a list passes a test, as far as it was looked at.
use Rattle.std.proofs.Common.{◌≡◌, ℕ, ◌+◌, ◌<◌, Bool, true, false, Some, List, length, get_or, slice_get, take, drop, ap, sym, subst, ◌∙◌, refl}
use Rattle.std.specs.Prelude.{◌||◌}
use Rattle.std.specs.List.{list_any}
use Rattle.std.proofs.lemmas.List.{take-append-drop}
use Rattle.std.proofs.lemmas.List.Folds.{list_any-append, list_any_more}
use Rattle.std.proofs.lemmas.Option.{slice_get-get_or}

or_true : (b : Bool) → (b || true) ≡ true
or_true true = refl
or_true false = refl

-- what is found at a place
found_at : {X : Type 0} (p : X → Bool) (xs : List X) (n i : ℕ) (d : X) (b : Bool) → n ≡ length xs → i < n → ((x : X) → slice_get xs i ≡ Some x → b ≡ p x) → list_any p (take (i + 1) xs) ≡ (list_any p (take i xs) || b)
found_at p xs n i d b is lt at =
    let within : i < length xs = subst (λ (m : ℕ). i < m) is lt in
    list_any_more p xs i d within ∙ ap (λ (c : Bool). list_any p (take i xs) || c) (sym (at (get_or xs i d) (slice_get-get_or xs i d within)))

pub found : {X : Type 0} (p : X → Bool) (xs : List X) (n i : ℕ) (d : X) (b : Bool) → n ≡ length xs → i < n → ((x : X) → slice_get xs i ≡ Some x → b ≡ p x) → b ≡ true → list_any p xs ≡ true
found p xs n i d b is lt at here =
    let front : list_any p (take (i + 1) xs) ≡ true = found_at p xs n i d b is lt at ∙ ap (λ (c : Bool). list_any p (take i xs) || c) here ∙ or_true (list_any p (take i xs)) in
    sym (ap (list_any p) (take-append-drop (i + 1) xs)) ∙ list_any-append p (take (i + 1) xs) (drop (i + 1) xs) ∙ ap (λ (c : Bool). c || list_any p (drop (i + 1) xs)) front

pub found_not : {X : Type 0} (p : X → Bool) (xs : List X) (n i : ℕ) (d : X) (b : Bool) → n ≡ length xs → i < n → ((x : X) → slice_get xs i ≡ Some x → b ≡ p x) → b ≡ false → list_any p (take i xs) ≡ false → list_any p (take (i + 1) xs) ≡ false
found_not p xs n i d b is lt at absent none = found_at p xs n i d b is lt at ∙ (λ j. none j || absent j)
