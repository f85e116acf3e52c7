-- What a change of what is known of one thread makes of the list.
use Rattle.std.proofs.Common.{◌≡◌, ◌≢◌, refl, ap, sym, ◌∙◌, ℕ, zero, suc, ◌+◌, ◌<◌, ◌≤◌, ◌⊎◌, inl, inr, Option, None, Some, is_some, ◌∷◌, length, arith}
use Rattle.std.proofs.lemmas.Bool.{cases_lt}
use Rattle.gs_layout.specs.declared.known.Known.{Known}
use Rattle.gs_layout.specs.View.{Look}
use Rattle.gs_view.specs.Listed.{listed, listed_one}
use Rattle.gs_view.proofs.Listed.{same_listed}

-- the list has as many records, if something is known of the same threads
pub length_kept : (v w : Look) (t n : ℕ) → ((u : ℕ) → is_some (v u) ≡ is_some (w u)) → length (listed v t n) ≡ length (listed w t n)
unfolding listed
length_kept v w t zero same = refl
length_kept v w t (suc n) same = by_known (v t) (w t) (same t) (length_kept v w (t + 1) n same)
  where
    by_known : (o p : Option Known) → is_some o ≡ is_some p → length (listed v (t + 1) n) ≡ length (listed w (t + 1) n)
        → length (listed_one t o (listed v (t + 1) n)) ≡ length (listed_one t p (listed w (t + 1) n))
    by_known None None e later = later
    by_known (Some k) (Some l) e later = ap suc later
    by_known None (Some l) e later = absurd cc
    by_known (Some k) None e later = absurd cc

-- one more thread of which something is known is one record more
pub length_more : (v w : Look) (k : Known) (t n u : ℕ) → t ≤ u → u < t + n → v u ≡ None → w u ≡ Some k
    → ((x : ℕ) → x ≢ u → w x ≡ v x) → length (listed w t n) ≡ suc (length (listed v t n))
unfolding listed
length_more v w k t zero u le lt none some same = absurd (omega arith)
length_more v w k t (suc n) u le lt none some same = by_place (cases_lt t u) (λ le' lt'. length_more v w k (t + 1) n u le' lt' none some same)
  where
    here : t ≡ u → length (listed_one t (w t) (listed w (t + 1) n)) ≡ suc (length (listed_one t (v t) (listed v (t + 1) n)))
    here e =
        let there : w t ≡ Some k = ap w e ∙ some in
        let was : v t ≡ None = ap v e ∙ none in
        let rest : listed w (t + 1) n ≡ listed v (t + 1) n = same_listed w v (t + 1) n (λ x ge. same x (λ f. omega (arith, e, f, ge))) in
        rw (there, was) (ap (λ es. suc (length es)) rest)

    by_known : (o : Option Known) → length (listed w (t + 1) n) ≡ suc (length (listed v (t + 1) n))
        → length (listed_one t o (listed w (t + 1) n)) ≡ suc (length (listed_one t o (listed v (t + 1) n)))
    by_known None later = later
    by_known (Some l) later = ap suc later

    by_place : (t < u) ⊎ (u ≤ t) → (t + 1 ≤ u → u < t + 1 + n → length (listed w (t + 1) n) ≡ suc (length (listed v (t + 1) n)))
        → length (listed_one t (w t) (listed w (t + 1) n)) ≡ suc (length (listed_one t (v t) (listed v (t + 1) n)))
    by_place (inl lt') later =
        ap (λ (o : Option Known). length (listed_one t o (listed w (t + 1) n))) (same t (λ e. omega (arith, e, lt')))
        ∙ by_known (v t) (later (omega (arith, lt')) (omega (arith, lt)))
    by_place (inr ge) later = here (omega (arith, le, ge))

-- the first thread of which something is known stands first, and then the others
pub first_listed : (v w : Look) (k : Known) (t n u : ℕ) → t ≤ u → u < t + n → v u ≡ Some k → ((x : ℕ) → x < u → v x ≡ None)
    → w u ≡ None → ((x : ℕ) → x ≢ u → w x ≡ v x) → listed v t n ≡ (u, k) ∷ listed w t n
unfolding listed
first_listed v w k t zero u le lt some first none same = absurd (omega arith)
first_listed v w k t (suc n) u le lt some first none same = by_place (cases_lt t u) (λ le' lt'. first_listed v w k (t + 1) n u le' lt' some first none same)
  where
    here : t ≡ u → listed_one t (v t) (listed v (t + 1) n) ≡ (u, k) ∷ listed_one t (w t) (listed w (t + 1) n)
    here e =
        let there : v t ≡ Some k = ap v e ∙ some in
        let is : w t ≡ None = ap w e ∙ none in
        let rest : listed v (t + 1) n ≡ listed w (t + 1) n = same_listed v w (t + 1) n (λ x ge. sym (same x (λ f. omega (arith, e, f, ge)))) in
        rw (there, is) (ap (λ x. (x, k) ∷ listed v (t + 1) n) e ∙ ap (λ es. (u, k) ∷ es) rest)

    by_place : (t < u) ⊎ (u ≤ t) → (t + 1 ≤ u → u < t + 1 + n → listed v (t + 1) n ≡ (u, k) ∷ listed w (t + 1) n)
        → listed_one t (v t) (listed v (t + 1) n) ≡ (u, k) ∷ listed_one t (w t) (listed w (t + 1) n)
    by_place (inl lt') later =
        let was : v t ≡ None = first t lt' in
        let is : w t ≡ None = same t (λ e. omega (arith, e, lt')) ∙ was in
        rw (was, is) (later (omega (arith, lt')) (omega (arith, lt)))
    by_place (inr ge) later = here (omega (arith, le, ge))
