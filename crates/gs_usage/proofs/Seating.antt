-- Who is on each CPU, one placing or leaving later.
use Rattle.std.proofs.Common.{◌≡◌, refl, ap, sym, ◌∙◌, ℕ, zero, suc, ◌<◌, ◌≤◌, ◌==◌, ◌&&◌, ◌||◌, ◌⊎◌, inl, inr, Bool, true, false, cond, List, [], ◌∷◌, ◌++◌, get_or, length, slice_set, arith}
use Rattle.std.specs.Prelude.{not}
use Rattle.std.proofs.lemmas.Bool.{cases_eq, cases_lt}
use Rattle.std.proofs.lemmas.Bool.Decides.{nat_tests}
use Rattle.std.proofs.lemmas.List.{get_or-set_other, get_or-set_same, get_or_past, length-set}
use Rattle.gs_status.specs.declared.mask.TheConstants.{MOST_CPUS}
use Rattle.gs_status.specs.Masks.{has}
use Rattle.gs_status.proofs.Laws.{nobody}
use Rattle.gs_usage.specs.Seats.{IsKept}

-- a list by tid of one place more
pub room_more : (ps : List ℕ) (t : ℕ) → get_or (ps ++ 0 ∷ []) t 0 ≡ get_or ps t 0
room_more [] zero = refl
room_more [] (suc t) = refl
room_more (p ∷ ps) zero = refl
room_more (p ∷ ps) (suc t) = room_more ps t

set_at : (xs : List ℕ) (i j v : ℕ) → i < length xs → get_or (slice_set xs i v) j 0 ≡ cond (i == j) v (get_or xs j 0)
set_at xs i j v lt = by_place (cases_eq j i)
  where
    by_place : (j ≡ i) ⊎ (j ≡ i → ⊥) → get_or (slice_set xs i v) j 0 ≡ cond (i == j) v (get_or xs j 0)
    by_place (inl same) =
        let test : (i == j) ≡ true = grind (arith, nat_tests) in
        ap (λ (k : ℕ). get_or (slice_set xs i v) k 0) same ∙ (get_or-set_same xs i v 0 lt ∙ sym (ap (λ (b : Bool). cond b v (get_or xs j 0)) test))
    by_place (inr ne) =
        let test : (i == j) ≡ false = grind (arith, nat_tests) in
        get_or-set_other xs i j v 0 ne ∙ sym (ap (λ (b : Bool). cond b v (get_or xs j 0)) test)

-- whoever is on a CPU has a row
same_number : (t : ℕ) → (t == t) ≡ true
same_number t = grind (arith, nat_tests)

pub row_within : (b p t : ℕ) (ts ps : List ℕ) → IsKept b ts ps → p < MOST_CPUS → has b p ≡ true → t ≡ get_or ts p 0 → t < length ps
row_within b p t ts ps kept lt on is = by_length (cases_lt t (length ps))
  where
    there : has (get_or ps t 0) p ≡ true
    there = kept.places t p lt ∙ (ap (λ (k : Bool). k && (get_or ts p 0 == t)) on ∙ (ap (λ (k : ℕ). k == t) (sym is) ∙ same_number t))

    by_length : (t < length ps) ⊎ (length ps ≤ t) → t < length ps
    by_length (inl within) = within
    by_length (inr past) = absurd (let e : true ≡ false = sym there ∙ (ap (λ (k : ℕ). has k p) (get_or_past ps t 0 past) ∙ nobody p) in cc)

pub freed_kept : (b b' p m : ℕ) (ts ps : List ℕ) → IsKept b ts ps → p < MOST_CPUS → get_or ts p 0 < length ps → ((i : ℕ) → has b' i ≡ (has b i && not (p == i)))
    → ((i : ℕ) → has m i ≡ (has (get_or ps (get_or ts p 0) 0) i && not (p == i))) → IsKept b' ts (slice_set ps (get_or ts p 0) m)
freed_kept b b' p m ts ps kept lt within now left = record {
  room = kept.room;
  places = λ t i small. by_tid t i small (get_or ts p 0 == t) refl;
}
  where
    shuffled : (a c e : Bool) → ((a && c) && not e) ≡ ((a && not e) && c)
    shuffled true true true = refl
    shuffled true true false = refl
    shuffled true false true = refl
    shuffled true false false = refl
    shuffled false c e = refl

    apart : (i t : ℕ) (c : Bool) → (get_or ts p 0 == t) ≡ false → (p == i) ≡ c → (has b i && (get_or ts i 0 == t)) ≡ ((has b i && not c) && (get_or ts i 0 == t))
    apart i t true ne same =
        let at : p ≡ i = grind (arith, nat_tests) in
        let no : (get_or ts i 0 == t) ≡ false = ap (λ (k : ℕ). get_or ts k 0 == t) (sym at) ∙ ne in
        ap (λ (k : Bool). has b i && k) no ∙ (none (has b i) ∙ sym (ap (λ (k : Bool). (has b i && false) && k) no ∙ none (has b i && false)))
      where
        none : (a : Bool) → (a && false) ≡ false
        none true = refl
        none false = refl
    apart i t false ne same = ap (λ (k : Bool). k && (get_or ts i 0 == t)) (sym (whole (has b i)))
      where
        whole : (a : Bool) → (a && true) ≡ a
        whole true = refl
        whole false = refl

    by_tid : (t i : ℕ) → i < MOST_CPUS → (c : Bool) → (get_or ts p 0 == t) ≡ c → has (get_or (slice_set ps (get_or ts p 0) m) t 0) i ≡ (has b' i && (get_or ts i 0 == t))
    by_tid t i small true is =
        let same : get_or ts p 0 ≡ t = grind (arith, nat_tests) in
        ap (λ (k : ℕ). has k i) (set_at ps (get_or ts p 0) t m within ∙ ap (λ (c : Bool). cond c m (get_or ps t 0)) is)
        ∙ (left i
        ∙ (ap (λ (k : ℕ). has (get_or ps k 0) i && not (p == i)) same
        ∙ (ap (λ (k : Bool). k && not (p == i)) (kept.places t i small)
        ∙ (shuffled (has b i) (get_or ts i 0 == t) (p == i) ∙ ap (λ (k : Bool). k && (get_or ts i 0 == t)) (sym (now i))))))
    by_tid t i small false is =
        ap (λ (k : ℕ). has k i) (set_at ps (get_or ts p 0) t m within ∙ ap (λ (c : Bool). cond c m (get_or ps t 0)) is)
        ∙ (kept.places t i small
        ∙ (apart i t (p == i) is refl ∙ ap (λ (k : Bool). k && (get_or ts i 0 == t)) (sym (now i))))

pub placed_kept : (b b' p t m : ℕ) (ts ps : List ℕ) → IsKept b ts ps → p < MOST_CPUS → t < length ps → has b p ≡ false → ((i : ℕ) → has b' i ≡ (has b i || (p == i)))
    → ((i : ℕ) → has m i ≡ (has (get_or ps t 0) i || (p == i))) → IsKept b' (slice_set ts p t) (slice_set ps t m)
placed_kept b b' p t m ts ps kept lt within free now more = record {
  room = length-set ts p t ∙ kept.room;
  places = λ u i small. by_tid u i small (t == u) (p == i) refl refl;
}
  where
    seat : (i : ℕ) → get_or (slice_set ts p t) i 0 ≡ cond (p == i) t (get_or ts i 0)
    seat i = set_at ts p i t (omega (arith, lt, kept.room))

    joined : (a e c : Bool) → ((a && e) || c) ≡ ((a || c) && cond c true e)
    joined true true true = refl
    joined true true false = refl
    joined true false true = refl
    joined true false false = refl
    joined false true true = refl
    joined false true false = refl
    joined false false true = refl
    joined false false false = refl

    tested : (c e : Bool) (u x : ℕ) → (t == u) ≡ e → (cond c t x == u) ≡ cond c e (x == u)
    tested true e u x is = is
    tested false e u x is = refl

    none : (a : Bool) → (a && false) ≡ false
    none true = refl
    none false = refl

    whole : (a : Bool) → a ≡ (a || false)
    whole true = refl
    whole false = refl

    other : (u i : ℕ) (c : Bool) → (p == i) ≡ c → (has b i && (get_or ts i 0 == u)) ≡ ((has b i || c) && cond c false (get_or ts i 0 == u))
    other u i true same =
        let at : p ≡ i = grind (arith, nat_tests) in
        ap (λ (k : Bool). k && (get_or ts i 0 == u)) (ap (has b) (sym at) ∙ free) ∙ sym (none (has b i || true))
    other u i false same = ap (λ (k : Bool). k && (get_or ts i 0 == u)) (whole (has b i))

    right : (u i : ℕ) (e : Bool) → (t == u) ≡ e → (has b' i && (get_or (slice_set ts p t) i 0 == u)) ≡ ((has b i || (p == i)) && cond (p == i) e (get_or ts i 0 == u))
    right u i e is =
        ap (λ (k : Bool). k && (get_or (slice_set ts p t) i 0 == u)) (now i)
        ∙ ap (λ (k : Bool). (has b i || (p == i)) && k) (ap (λ (k : ℕ). k == u) (seat i) ∙ tested (p == i) e u (get_or ts i 0) is)

    by_tid : (u i : ℕ) → i < MOST_CPUS → (e c : Bool) → (t == u) ≡ e → (p == i) ≡ c → has (get_or (slice_set ps t m) u 0) i ≡ (has b' i && (get_or (slice_set ts p t) i 0 == u))
    by_tid u i small true c is at =
        let same : t ≡ u = grind (arith, nat_tests) in
        ap (λ (k : ℕ). has k i) (set_at ps t u m within ∙ ap (λ (k : Bool). cond k m (get_or ps u 0)) is)
        ∙ (more i
        ∙ (ap (λ (k : ℕ). has (get_or ps k 0) i || (p == i)) same
        ∙ (ap (λ (k : Bool). k || (p == i)) (kept.places u i small)
        ∙ (joined (has b i) (get_or ts i 0 == u) (p == i) ∙ sym (right u i true is)))))
    by_tid u i small false c is at =
        ap (λ (k : ℕ). has k i) (set_at ps t u m within ∙ ap (λ (k : Bool). cond k m (get_or ps u 0)) is)
        ∙ (kept.places u i small ∙ (other u i (p == i) refl ∙ sym (right u i false is)))
