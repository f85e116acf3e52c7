-- The least number that passes a test.
use Rattle.std.proofs.Common.{◌≡◌, ℕ, zero, suc, ◌+◌, ◌<◌, ◌≤◌, ◌⊎◌, ⊎_elim, inl, inr, Bool, true, false, Option, None, Some, ap, ◌∙◌, sym, refl, arith}
use Rattle.std.proofs.lemmas.Bool.{cases_lt}
use Rattle.gs_status.specs.Masks.{least, found_or}

-- none is the least if none passes
pub least_none : (test : ℕ → Bool) (n : ℕ) → ((i : ℕ) → i < n → test i ≡ false) → least test n ≡ None
unfolding least
least_none test zero none = refl
least_none test (suc n) none =
    ap (λ (o : Option ℕ). found_or o (test n) n) (least_none test n (λ i l. none i (omega arith)))
    ∙ ap (λ (b : Bool). found_or None b n) (none n (omega arith))

-- one that passes is the least if none below it does
pub least_found : (test : ℕ → Bool) (n c : ℕ) → c < n → test c ≡ true → ((i : ℕ) → i < c → test i ≡ false) → least test n ≡ Some c
unfolding least
least_found test zero c within passes none = absurd (omega arith)
least_found test (suc n) c within passes none =
    ⊎_elim
    (λ below. ap (λ (o : Option ℕ). found_or o (test n) n) (least_found test n c below passes none))
    (λ here.
    let e : n ≡ c = omega (arith, within, here) in
    ap (λ (o : Option ℕ). found_or o (test n) n) (least_none test n (λ i l. none i (omega (arith, l, e))))
    ∙ (ap (λ (b : Bool). found_or None b n) (ap test e ∙ passes) ∙ ap Some e))
    (cases_lt c n)

-- it goes by the test below n alone
pub least_same : (test other : ℕ → Bool) (n : ℕ) → ((i : ℕ) → i < n → test i ≡ other i) → least test n ≡ least other n
unfolding least
least_same test other zero same = refl
least_same test other (suc n) same =
    ap (λ (o : Option ℕ). found_or o (test n) n) (least_same test other n (λ i l. same i (omega arith)))
    ∙ ap (λ (b : Bool). found_or (least other n) b n) (same n (omega arith))

-- if none passes from n on, a greater bound finds the same
pub least_beyond : (test : ℕ → Bool) (n d : ℕ) → ((i : ℕ) → n ≤ i → test i ≡ false) → least test (n + d) ≡ least test n
unfolding least
least_beyond test n zero none = let e : n + 0 ≡ n = omega arith in ap (least test) e
least_beyond test n (suc d) none =
    let e : n + suc d ≡ suc (n + d) = omega arith in
    ap (least test) e
    ∙ (ap (λ (b : Bool). found_or (least test (n + d)) b (n + d)) (none (n + d) (omega arith))
    ∙ (or_nothing (least test (n + d)) (n + d) ∙ least_beyond test n d none))
  where
    or_nothing : (o : Option ℕ) (k : ℕ) → found_or o false k ≡ o
    or_nothing None k = refl
    or_nothing (Some x) k = refl

-- the least passes
pub least_passes : (test : ℕ → Bool) (n c : ℕ) → least test n ≡ Some c → test c ≡ true
unfolding least
least_passes test zero c found = absurd cc
least_passes test (suc n) c found = by_place (least_passes test n c) (least test n) refl (test n) refl found
  where
    by_place : (least test n ≡ Some c → test c ≡ true) → (o : Option ℕ) → least test n ≡ o → (b : Bool) → test n ≡ b → found_or o b n ≡ Some c → test c ≡ true
    by_place more (Some d) is b here e = more (is ∙ e)
    by_place more None is true here e = let same : n ≡ c = cc in ap test (sym same) ∙ here
    by_place more None is false here e = absurd cc

-- if none is the least, none passes
pub least_is_all : (test : ℕ → Bool) (n : ℕ) → least test n ≡ None → (c : ℕ) → c < n → test c ≡ false
unfolding least
least_is_all test zero none c within = absurd (omega arith)
least_is_all test (suc n) none c within = by_place (least_is_all test n) (least test n) refl (test n) refl none (cases_lt c n)
  where
    by_place : (least test n ≡ None → (c : ℕ) → c < n → test c ≡ false) → (o : Option ℕ) → least test n ≡ o → (b : Bool) → test n ≡ b → found_or o b n ≡ None → (c < n) ⊎ (n ≤ c) → test c ≡ false
    by_place more (Some d) is b here e place = absurd cc
    by_place more None is true here e place = absurd cc
    by_place more None is false here e (inl below) = more is c below
    by_place more None is false here e (inr past) = let same : c ≡ n = omega (arith, within, past) in ap test same ∙ here

-- below the least number that passes none does
pub least_before : (test : ℕ → Bool) (n c : ℕ) → least test n ≡ Some c → (k : ℕ) → k < c → test k ≡ false
unfolding least
least_before test zero c found k lt = absurd cc
least_before test (suc n) c found k lt = by_place (least_before test n c) (least test n) refl (test n) refl found
  where
    by_place : (least test n ≡ Some c → (k : ℕ) → k < c → test k ≡ false) → (o : Option ℕ) → least test n ≡ o → (b : Bool) → test n ≡ b
        → found_or o b n ≡ Some c → test k ≡ false
    by_place more (Some d) is b here e = more (is ∙ e) k lt
    by_place more None is true here e = let same : n ≡ c = cc in least_is_all test n is k (omega (arith, same, lt))
    by_place more None is false here e = absurd cc
