-- Laws for those who work on a region slot by slot.
use Rattle.std.proofs.Common.{◌≡◌, ℕ, zero, suc, ◌+◌, List, [], ◌∷◌, ◌++◌, Some, take, drop, length, slice_get, slice_set, refl, ap, sym, ◌∙◌, arith}
use Rattle.gs_slots.specs.Reading.{by_cpu}

-- a slot that is left as it was leaves the region as it was
pub set_as_it_was : {X : Type 0} (xs : List X) (k : ℕ) (x : X) → slice_get xs k ≡ Some x → slice_set xs k x ≡ xs
set_as_it_was [] k x h = cc
set_as_it_was (y ∷ ys) zero x h = cc
set_as_it_was (y ∷ ys) (suc k) x h = ap (λ zs. y ∷ zs) (set_as_it_was ys k x h)

same_value : {X : Type 0} (x y : X) → Some x ≡ Some y → x ≡ y
same_value x y e = cc

-- there are as many slots as before
pub by_cpu_count : {X Y : Type 0} (f : ℕ → X → Y) (first : ℕ) (xs : List X) → length (by_cpu f first xs) ≡ length xs
by_cpu_count f first [] = refl
by_cpu_count f first (x ∷ xs) = ap suc (by_cpu_count f (suc first) xs)

-- the first k slots are changed by their CPUs, and those to come are as they were
pub by_cpu_stays : {X : Type 0} (f : ℕ → X → X) (first : ℕ) (xs : List X) (k : ℕ) → slice_get (by_cpu f first (take k xs) ++ drop k xs) k ≡ slice_get xs k
by_cpu_stays f first [] zero = refl
by_cpu_stays f first [] (suc k) = refl
by_cpu_stays f first (x ∷ xs) zero = refl
by_cpu_stays f first (x ∷ xs) (suc k) = by_cpu_stays f (suc first) xs k

by_cpu_set : {X : Type 0} (f : ℕ → X → X) (first : ℕ) (xs : List X) (k : ℕ) (x : X) → slice_get xs k ≡ Some x → slice_set (by_cpu f first (take k xs) ++ drop k xs) k (f (first + k) x) ≡ by_cpu f first (take (k + 1) xs) ++ drop (k + 1) xs
by_cpu_set f first [] k x e = absurd cc
by_cpu_set f first (y ∷ ys) zero x e = (λ i. f (n i) (same_value x y (sym e) i) ∷ ys)
  where
    n : first + 0 ≡ first
    n = omega arith
by_cpu_set f first (y ∷ ys) (suc k) x e =
    ap (λ (n : ℕ). f first y ∷ slice_set (by_cpu f (suc first) (take k ys) ++ drop k ys) k (f n x)) (let m : first + suc k ≡ suc first + k = omega arith in m)
    ∙ (ap (λ zs. f first y ∷ zs) (by_cpu_set f (suc first) ys k x e) ∙ ap (λ (n : ℕ). by_cpu f first (take n (y ∷ ys)) ++ drop n (y ∷ ys)) (let m : suc (k + 1) ≡ suc k + 1 = omega arith in m))

-- the first k slots are changed by their CPUs, and then the next too
pub by_cpu_more : {X : Type 0} (f : ℕ → X → X) (xs ys : List X) (k : ℕ) (x y : X) → ys ≡ by_cpu f 0 (take k xs) ++ drop k xs → slice_get ys k ≡ Some x → y ≡ f k x → slice_set ys k y ≡ by_cpu f 0 (take (k + 1) xs) ++ drop (k + 1) xs
by_cpu_more f xs ys k x y is found e =
    let here : slice_get xs k ≡ Some x = sym (by_cpu_stays f 0 xs k) ∙ (ap (λ zs. slice_get zs k) (sym is) ∙ found) in
    let own : k ≡ 0 + k = omega arith in
    (λ i. slice_set (is i) k ((e ∙ ap (λ (n : ℕ). f n x) own) i)) ∙ by_cpu_set f 0 xs k x here
