-- What a measure came to over several runs.
use Rattle.std.specs.Prelude.{◌≡◌, ℕ, ◌-◌, ◌/◌, List, [], Option, Some, IfNone, IfSome, length, slice_get}
use Rattle.std.specs.List.{filter_map}
use Rattle.std.specs.List.Sorted.{IsNonDecreasing, IsPermutation}
use Rattle.gs_compare.specs.declared.measure.Key.{Key}
use Rattle.gs_compare.specs.declared.measured.Measured.{Measured}
use Rattle.gs_compare.specs.declared.summary.Summary.{Summary}
use Rattle.gs_compare.specs.Measures.{value_of}

-- the values of a measure, of those runs in which it has one
abbrev pub values_of : Key → List Measured → List ℕ
values_of key runs = filter_map (value_of key) runs

-- of numbers that rise the first, the middle one, or the lower of the two that are in the middle, and the last
pub record IsSummaryIn (rising : List ℕ) (s : Summary) : Type 0 where
  pub least : slice_get rising 0 ≡ Some s.least
  pub median : slice_get rising ((length rising - 1) / 2) ≡ Some s.median
  pub most : slice_get rising (length rising - 1) ≡ Some s.most

-- the least of some numbers, the median, and the greatest
pub record IsSummaryOf (xs : List ℕ) (s : Summary) : Type 0 where
  pub rising : List ℕ
  pub all : IsPermutation xs rising
  pub sorted : IsNonDecreasing rising
  pub shows : IsSummaryIn rising s

-- the same, if there are any numbers
pub record IsSummary (xs : List ℕ) (o : Option Summary) : Type 0 where
  pub some : IfSome o (IsSummaryOf xs)
  pub none : IfNone o (xs ≡ [])
