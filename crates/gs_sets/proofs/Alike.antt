-- The first number that passes, by a test that says the same.
use Rattle.std.proofs.Common.{◌≡◌, ◌∙◌, ℕ, Bool, Option, None, Some}
use Rattle.std.specs.Option.{MatchOption}
use Rattle.gs_sets.specs.Bits.{IsFirst, IsNone}

pub first_alike : (f g : ℕ → Bool) (from : ℕ) → ((n : ℕ) → g n ≡ f n) → (o : Option ℕ)
    → MatchOption o (IsNone f from) (IsFirst f from) → MatchOption o (IsNone g from) (IsFirst g from)
first_alike f g from same None none = λ n ge. same n ∙ none n ge
first_alike f g from same (Some n) first =
    record {
      after = first.after;
      passes = same n ∙ first.passes;
      none_before = λ k ge lt. same k ∙ first.none_before k ge lt;
    }
