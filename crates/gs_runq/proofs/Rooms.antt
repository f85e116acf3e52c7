-- A thread that does not wait finds room if there is room for all.
use Rattle.std.proofs.Common.{◌≡◌, refl, ℕ, ◌+◌, ◌<◌, ◌≤◌, ◌||◌, eqb, Bool, true, false, List, [], ◌∷◌, length, arith, length-append}
use Rattle.std.proofs.lemmas.Bool.{ne_eqb, eqb-true}
use Rattle.std.specs.Prelude.{All}
use Rattle.std.specs.List.{AllByRecursion, IsDistinct, list_any}
use Rattle.std.proofs.lemmas.List.Elements.{All-head, All-tail}
use Rattle.std.proofs.lemmas.Map.Steps.{length-le_from_distinct_below}
use Rattle.gs_layout.specs.declared.facts.Class.{Class}
use Rattle.gs_layout.specs.declared.facts.Class.TheVariants.{Zero, One}
use Rattle.gs_runq.specs.Queue.{Apart, IsOut, IsTid, Queue, class_of, is_in, order}
use Rattle.gs_runq.proofs.Links.{out_from}

none_equal : (x : ℕ) (xs : List ℕ) → IsOut x xs → AllByRecursion (λ y. eqb x y ≡ false) xs
none_equal x [] o = tt
none_equal x (y ∷ ys) o = (ne_eqb x y o.0, none_equal x ys o.1)

distinct : (xs : List ℕ) → Apart xs → IsDistinct eqb xs
unfolding IsDistinct
distinct [] a = tt
distinct (x ∷ xs) a = (none_equal x xs a.0, distinct xs a.1)

-- place 0 is no thread's
zero_out : (xs : List ℕ) → All IsTid xs → IsOut 0 xs
zero_out [] a = tt
zero_out (x ∷ xs) a = (λ e. omega (arith, e, (All-head IsTid x xs a).0), zero_out xs (All-tail IsTid x xs a))

all_below : (xs : List ℕ) → All IsTid xs → (k : ℕ) → list_any (eqb k) xs ≡ true → k < 65537
all_below [] a k e = absurd cc
all_below (x ∷ xs) a k e = by_test (all_below xs (All-tail IsTid x xs a) k) (eqb k x) refl e
  where
    most : x ≤ 65536
    most = (All-head IsTid x xs a).1

    by_test : (list_any (eqb k) xs ≡ true → k < 65537) → (b : Bool) → eqb k x ≡ b → (b || list_any (eqb k) xs) ≡ true → k < 65537
    by_test later true same h = omega (arith, eqb-true k x same, most)
    by_test later false same h = later h

few : (t : ℕ) (xs : List ℕ) → Apart xs → All IsTid xs → IsTid t → IsOut t xs → length xs + 2 ≤ 65537
few t xs apart all is out =
    let one = length-le_from_distinct_below (0 ∷ t ∷ xs) 65537 (distinct (0 ∷ t ∷ xs) ((λ e. omega (arith, e, is.0), zero_out xs all), (out, apart))) below in
    omega (arith, one)
  where
    by_second : (k : ℕ) (b : Bool) → eqb k t ≡ b → (b || list_any (eqb k) xs) ≡ true → k < 65537
    by_second k true same h = omega (arith, eqb-true k t same, is.1)
    by_second k false same h = all_below xs all k h

    by_first : (k : ℕ) (b : Bool) → eqb k 0 ≡ b → (b || (eqb k t || list_any (eqb k) xs)) ≡ true → k < 65537
    by_first k true same h = omega (arith, eqb-true k 0 same)
    by_first k false same h = by_second k (eqb k t) refl h

    below : (k : ℕ) → list_any (eqb k) (0 ∷ t ∷ xs) ≡ true → k < 65537
    below k h = by_first k (eqb k 0) refl h

-- fewer than 65,536 of a class wait if some thread does not
pub spare : (t : ℕ) (q : Queue) → Apart (order q) → All IsTid (order q) → IsTid t → is_in t (order q) ≡ false → (c : Class) → length (class_of c q) < 65536
spare t q apart all is out c = by_class c
  where
    most : length (order q) + 2 ≤ 65537
    most = few t (order q) apart all is (out_from t (order q) out)

    by_class : (c : Class) → length (class_of c q) < 65536
    by_class Zero = omega (arith, most, length-append q.zero_class q.one_class)
    by_class One = omega (arith, most, length-append q.zero_class q.one_class)
