-- How numbers are spread.
use Rattle.std.specs.Prelude.{◌<◌, ◌≤◌, ◌*◌, ℕ, List, length, nat_le, nat_lt}
use Rattle.std.specs.List.{count_by}
use Rattle.gs_tallies.specs.declared.spread.Percent.{Percent}
use Rattle.gs_tallies.specs.declared.spread.Percent.TheVariants.{Half, Ninety, NinetyNine, All}
use Rattle.gs_tallies.specs.declared.spread.Spread.{Spread}

-- of how many of a hundred
abbrev pub percent_of : Percent → ℕ
percent_of Half = 50
percent_of Ninety = 90
percent_of NinetyNine = 99
percent_of All = 100

-- a number is the percentile of numbers by the nearest rank: it is the least one that at least so many of a hundred of them do not exceed. Fewer are below it, so
-- it is one of them
pub record IsPercentile (percent : ℕ) (xs : List ℕ) (v : ℕ) : Type 0 where
  pub enough : percent * length xs ≤ 100 * count_by (λ (x : ℕ). nat_le x v) xs
  pub least : 100 * count_by (λ (x : ℕ). nat_lt x v) xs < percent * length xs

-- the percentiles of numbers: half of them, nine tenths, all but one of a hundred, and all, which is the greatest
pub record IsSpread (xs : List ℕ) (s : Spread) : Type 0 where
  pub half : IsPercentile (percent_of Half) xs s.half
  pub ninety : IsPercentile (percent_of Ninety) xs s.ninety
  pub ninety_nine : IsPercentile (percent_of NinetyNine) xs s.ninety_nine
  pub all : IsPercentile (percent_of All) xs s.all
