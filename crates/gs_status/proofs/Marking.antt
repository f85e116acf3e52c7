-- A mask of the CPUs below a number that pass a test, made by going through the CPUs.
use Rattle.std.proofs.Common.{Bool, false, ◌≡◌, ◌≢◌, ℕ, ◌+◌, ◌<◌, ◌≤◌, ⊎_elim, ◌||◌, ◌∙◌, ap, subst, sym, arith}
use Rattle.std.proofs.lemmas.Bool.{cases_eq}
use Rattle.gs_status.specs.Masks.{has}

-- below the number just the CPUs that pass, and from there on none
pub record IsMarked (test : ℕ → Bool) (mask n : ℕ) : Type 0 where
  pub below : (c : ℕ) → c < n → has mask c ≡ test c
  pub above : (c : ℕ) → n ≤ c → has mask c ≡ false

-- one CPU more is marked as the test says
pub marked_more : (test : ℕ → Bool) (mask mask' n : ℕ) → IsMarked test mask n → has mask' n ≡ test n → ((c : ℕ) → c ≢ n → has mask' c ≡ has mask c) → IsMarked test mask' (n + 1)
marked_more test mask mask' n is here others =
    record {
      below = λ c lt. ⊎_elim (λ e. subst (λ k. has mask' k ≡ test k) (sym e) here) (λ other. others c other ∙ is.below c (omega arith)) (cases_eq c n);
      above = λ c le. let other : c ≢ n = omega arith in others c other ∙ is.above c (omega arith);
    }

-- one CPU more is put into the mask if it passes
pub marked_if : (test : ℕ → Bool) (mask mask' n : ℕ) (b : Bool) → IsMarked test mask n → has mask' n ≡ (has mask n || b) → b ≡ test n → ((c : ℕ) → c ≢ n → has mask' c ≡ has mask c) → IsMarked test mask' (n + 1)
marked_if test mask mask' n b is here passes others =
    marked_more test mask mask' n is (here ∙ (ap (λ a. a || b) (is.above n (omega arith)) ∙ passes)) others
