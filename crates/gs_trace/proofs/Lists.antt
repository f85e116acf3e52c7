-- Lists in increasing order of tid that say the same of each thread are the same.
use Rattle.std.proofs.Common.{◌≡◌, refl, ap, sym, subst, ◌∙◌, ℕ, suc, ◌+◌, ◌<◌, ◌≤◌, ◌⊎◌, inl, inr, true, false, cond, None, Some, List, [], ◌∷◌, arith, nat_cmp}
use Rattle.std.specs.declared.cmp.Ordering.TheVariants.{Less, Equal, Greater}
use Rattle.std.specs.Ordering.{is_eq}
use Rattle.std.specs.Prelude.{slice_index}
use Rattle.std.specs.Cmp.{nat_cmp_is}
use Rattle.std.specs.List.Sorted.{IsStrictlyIncreasing}
use Rattle.std.specs.BTreeMap.{is_at}
use Rattle.std.proofs.lemmas.Bool.{cases_lt}
use Rattle.gs_layout.specs.declared.known.Known.{Known}
use Rattle.gs_layout.specs.View.{look_up}
use Rattle.gs_view.specs.Shown.{tids}

here : (t : ℕ) → is_at (nat_cmp t) t ≡ true
here t = ap is_eq (sym (nat_cmp_is t t Equal refl))

before : (t u : ℕ) → t < u → is_at (nat_cmp t) u ≡ false
before t u lt = ap is_eq (sym (nat_cmp_is t u Less lt))

behind : (t u : ℕ) → u < t → is_at (nat_cmp t) u ≡ false
behind t u lt = ap is_eq (sym (nat_cmp_is t u Greater lt))

-- what the first record says
first : (t : ℕ) (k : Known) (xs : List (ℕ × Known)) → look_up ((t, k) ∷ xs) t ≡ Some k
first t k xs = ap (λ b. cond b (Some k) (look_up xs t)) (here t)

passed : (t u : ℕ) (k : Known) (xs : List (ℕ × Known)) → is_at (nat_cmp t) u ≡ false → look_up ((u, k) ∷ xs) t ≡ look_up xs t
passed t u k xs e = ap (λ b. cond b (Some k) (look_up xs t)) e

-- the others are in increasing order too, from above the first
others_rise : (x : ℕ) (xs : List ℕ) → IsStrictlyIncreasing (x ∷ xs) → IsStrictlyIncreasing xs
others_rise x xs r k lt =
    let e : suc k + 1 ≡ suc (k + 1) = omega arith in
    subst (λ n. slice_index (x ∷ xs) (suc k) < slice_index (x ∷ xs) n) e (r (suc k) (omega (arith, lt)))

second_above : (x y : ℕ) (xs : List ℕ) → IsStrictlyIncreasing (x ∷ y ∷ xs) → x < y
second_above x y xs r = r 0 (omega arith)

-- nothing is said of a thread before all of them
none_before : (t u : ℕ) (xs : List (ℕ × Known)) → IsStrictlyIncreasing (u ∷ tids xs) → t ≤ u → look_up xs t ≡ None
none_before t u [] r le = refl
none_before t u ((w, k) ∷ xs) r le =
    let above = second_above u w (tids xs) r in
    passed t w k xs (before t w (omega (arith, above, le))) ∙ none_before t w xs (others_rise u (w ∷ tids xs) r) (omega (arith, above, le))

-- lists that begin with the same record, and say the same, say the same behind it
same_behind : (u : ℕ) (k j : Known) (xs ys : List (ℕ × Known)) → IsStrictlyIncreasing (u ∷ tids xs) → IsStrictlyIncreasing (u ∷ tids ys) → ((t : ℕ) → look_up ((u, k) ∷ xs) t ≡ look_up ((u, j) ∷ ys) t) → (t : ℕ) → look_up xs t ≡ look_up ys t
same_behind u k j xs ys p q same t = by_order (cases_lt u t) (cases_lt t u)
  where
    skip : is_at (nat_cmp t) u ≡ false → look_up xs t ≡ look_up ys t
    skip e = sym (passed t u k xs e) ∙ (same t ∙ passed t u j ys e)

    by_order : (u < t) ⊎ (t ≤ u) → (t < u) ⊎ (u ≤ t) → look_up xs t ≡ look_up ys t
    by_order (inl lt) o = skip (behind t u lt)
    by_order (inr le) (inl lt) = skip (before t u lt)
    by_order (inr le) (inr ge) = none_before t u xs p le ∙ sym (none_before t u ys q le)

-- lists that say the same begin with the same record
same_first : (u w : ℕ) (k j : Known) (xs ys : List (ℕ × Known)) → IsStrictlyIncreasing (u ∷ tids xs) → IsStrictlyIncreasing (w ∷ tids ys) → ((t : ℕ) → look_up ((u, k) ∷ xs) t ≡ look_up ((w, j) ∷ ys) t) → u ≡ w
same_first u w k j xs ys p q same = by_order (cases_lt u w) (cases_lt w u)
  where
    by_order : (u < w) ⊎ (w ≤ u) → (w < u) ⊎ (u ≤ w) → u ≡ w
    by_order (inl lt) o = let z : Some k ≡ None = sym (first u k xs) ∙ (same u ∙ (passed u w j ys (before u w lt) ∙ none_before u w ys q (omega (arith, lt)))) in absurd cc
    by_order (inr le) (inl lt) = let z : Some j ≡ None = sym (first w j ys) ∙ (sym (same w) ∙ (passed w u k xs (before w u lt) ∙ none_before w u xs p (omega (arith, lt)))) in absurd cc
    by_order (inr le) (inr ge) = omega (arith, le, ge)

pub one_list : (xs ys : List (ℕ × Known)) → IsStrictlyIncreasing (tids xs) → IsStrictlyIncreasing (tids ys) → ((t : ℕ) → look_up xs t ≡ look_up ys t) → xs ≡ ys
one_list [] [] p q same = refl
one_list [] ((w, j) ∷ ys) p q same = let z : None ≡ Some j = same w ∙ first w j ys in absurd cc
one_list ((u, k) ∷ xs) [] p q same = let z : Some k ≡ None = sym (first u k xs) ∙ same u in absurd cc
one_list ((u, k) ∷ xs) ((w, j) ∷ ys) p q same =
    let e : w ≡ u = sym (same_first u w k j xs ys p q same) in
    let q' : IsStrictlyIncreasing (u ∷ tids ys) = subst (λ x. IsStrictlyIncreasing (x ∷ tids ys)) e q in
    let same' : (t : ℕ) → look_up ((u, k) ∷ xs) t ≡ look_up ((u, j) ∷ ys) t = subst (λ x. (t : ℕ) → look_up ((u, k) ∷ xs) t ≡ look_up ((x, j) ∷ ys) t) e same in
    let known : Some k ≡ Some j = sym (first u k xs) ∙ (same' u ∙ first u j ys) in
    let k_is : k ≡ j = cc in
    let rest : xs ≡ ys = one_list xs ys (others_rise u (tids xs) p) (others_rise u (tids ys) q') (same_behind u k j xs ys p q' same') in
    λ i. (sym e i, k_is i) ∷ rest i
