-- Since when something has been so is the first entry of the last time that it was.
use Rattle.std.proofs.Common.{◌≡◌, refl, ap, sym, ◌∙◌, ℕ, zero, suc, ◌⊎◌, inl, inr, Bool, true, false, cond, Option, None, Some, take, unwrap_or, arith}
use Rattle.std.proofs.lemmas.Bool.{cases_lt}
use Rattle.std.proofs.lemmas.Option.{same_Some}
use Rattle.gs_journal.specs.History.{History}
use Rattle.gs_turns.specs.Since.{LastsSince, since}

-- one entry more
step : (p : History → Bool) (h : History) (n m : ℕ) → ((k : ℕ) → since p h n ≡ Some k → LastsSince p h n k) → (since p h n ≡ None → (n ≡ 0) ⊎ (p (take n h) ≡ false)) → (b : Bool) → p (take (suc n) h) ≡ b → cond b (Some (unwrap_or (since p h n) n)) None ≡ Some m → LastsSince p h (suc n) m
step p h n m so_far none false e is = absurd cc
step p h n m so_far none true e is = by_since (since p h n) refl
  where
    here : (k : ℕ) → k ≡ n → p (take (suc k) h) ≡ true
    here k same = ap (λ i. p (take (suc i) h)) same ∙ e

    by_since : (o : Option ℕ) → since p h n ≡ o → LastsSince p h (suc n) m
    by_since None q =
        let same : n ≡ m = same_Some n m (ap (λ o. Some (unwrap_or o n)) (sym q) ∙ is) in
        record {
          begins = omega (arith, same);
          lasts = λ k from below. here k (omega (arith, same, from, below));
          before = elim (none q) [ inl first ↦ inl (omega (arith, same, first)) | inr fails ↦ inr (ap (λ i. p (take i h)) (sym same) ∙ fails) ];
        }
    by_since (Some i) q =
        let same : i ≡ m = same_Some i m (ap (λ o. Some (unwrap_or o n)) (sym q) ∙ is) in
        let old : LastsSince p h n m = so_far m (q ∙ ap Some same) in
        record {
          begins = omega (arith, old.begins);
          lasts = λ k from below. elim (cases_lt k n) [ inl lt ↦ old.lasts k from lt | inr le ↦ here k (omega (arith, le, below)) ];
          before = old.before;
        }

pub none_since : (p : History → Bool) (h : History) (n : ℕ) → since p h n ≡ None → (n ≡ 0) ⊎ (p (take n h) ≡ false)
unfolding since
none_since p h zero e = inl refl
none_since p h (suc n) e = by_test (p (take (suc n) h)) refl e
  where
    by_test : (b : Bool) → p (take (suc n) h) ≡ b → cond b (Some (unwrap_or (since p h n) n)) None ≡ None → (suc n ≡ 0) ⊎ (p (take (suc n) h) ≡ false)
    by_test true q none = absurd cc
    by_test false q none = inr q

pub lasts_since : (p : History → Bool) (h : History) (n m : ℕ) → since p h n ≡ Some m → LastsSince p h n m
unfolding since
lasts_since p h zero m e = absurd cc
lasts_since p h (suc n) m e = step p h n m (λ k. lasts_since p h n k) (none_since p h n) (p (take (suc n) h)) refl e
