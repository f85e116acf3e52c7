-- The rows of a table.
use Rattle.std.specs.Prelude.{◌≡◌, Bool, if◌then◌else◌, None, Some, List, [], ◌∷◌, ◌++◌, map}
use Rattle.std.specs.List.{AllZip, list_any}
use Rattle.std.specs.Option.{is_some}
use Rattle.gs_layout.specs.declared.facts.Class.{Class}
use Rattle.gs_layout.specs.declared.facts.Class.TheVariants.{Zero, One}
use Rattle.gs_compare.specs.declared.measure.Key.{Key}
use Rattle.gs_compare.specs.declared.measure.Measure.{Measure}
use Rattle.gs_compare.specs.declared.measure.Measure.TheVariants.{Bursts, WaitedHalf, WaitedNinety, WaitedNinetyNine, WaitedMost, Ran, Preempted, Migrated, Stale, Displaced, WorstShare, IdleWanted}
use Rattle.gs_compare.specs.declared.measured.Measured.{Measured}
use Rattle.gs_compare.specs.declared.row.Cell.{Cell}
use Rattle.gs_compare.specs.declared.row.Column.{Column}
use Rattle.gs_compare.specs.declared.row.Row.{Row}
use Rattle.gs_compare.specs.Measures.{part_of}
use Rattle.gs_compare.specs.Summaries.{IsSummary, values_of}

-- whether a thread of a class was created in some of these runs
abbrev pub part_is_some : Class → List Measured → Bool
part_is_some k runs = list_any (λ (m : Measured). is_some (part_of k m)) runs

-- whether one was created in some run
abbrev pub has_threads : {A : Type 0} → Class → List (Column A) → Bool
has_threads {A} k columns = list_any (λ (c : Column A). part_is_some k c.runs.items) columns

-- what is measured of a class, in order
abbrev pub class_measures : List Measure
class_measures = Bursts ∷ WaitedHalf ∷ WaitedNinety ∷ WaitedNinetyNine ∷ WaitedMost ∷ Ran ∷ Preempted ∷ Migrated ∷ Stale ∷ Displaced ∷ WorstShare ∷ []

abbrev pub key_of : Class → Measure → Key
key_of k measure = record { class = Some k; measure = measure }

-- what the rows of a class tell of. One without a thread has no rows
abbrev pub class_keys : {A : Type 0} → Class → List (Column A) → List Key
class_keys k columns = if has_threads k columns then map (key_of k) class_measures else []

-- what the rows of a table tell of: each class, and behind them the whole machine
abbrev pub keys_of : {A : Type 0} → List (Column A) → List Key
keys_of columns = class_keys Zero columns ++ class_keys One columns ++ record { class = None; measure = IdleWanted } ∷ []

-- what a measure came to under a policy, over the runs of all seeds
pub record IsCell {A : Type 0} (key : Key) (column : Column A) (cell : Cell A) : Type 0 where
  pub policy : cell.policy ≡ column.policy
  pub summary : IsSummary (values_of key column.runs.items) cell.summary

-- what it came to under each
pub record IsRow {A : Type 0} (columns : List (Column A)) (key : Key) (row : Row A) : Type 0 where
  pub key_is : row.key ≡ key
  pub cells : AllZip (IsCell key) columns row.cells.items

abbrev pub AreRows : {A : Type 0} → List (Column A) → List (Row A) → Type 0
AreRows columns rows = AllZip (IsRow columns) (keys_of columns) rows
