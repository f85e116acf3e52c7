-- A table as JSON: an object for each measure and policy, one a line.
use Rattle.std.specs.Prelude.{ℕ, Option, None, Some, List, codes}
use Rattle.std.specs.List.{flat_map}
use Rattle.serde_json.specs.Data.{Data, member, no_members, null, number, object, string, unsigned}
use Rattle.serde_json.specs.Written.{compact_text}
use Rattle.gs_layout.specs.declared.facts.Class.{Class}
use Rattle.gs_layout.specs.declared.facts.Class.TheVariants.{Zero, One}
use Rattle.gs_lines.specs.Lines.{line}
use Rattle.gs_script.specs.Naming.{Naming}
use Rattle.gs_compare.specs.declared.measure.Key.{Key}
use Rattle.gs_compare.specs.declared.row.Cell.{Cell}
use Rattle.gs_compare.specs.declared.row.Row.{Row}
use Rattle.gs_compare.specs.Columns.{least_of, median_of, most_of}
use Rattle.gs_compare.specs.Measures.{measure_text}

abbrev pub count : ℕ → Data
count n = number (unsigned n)

-- a number as JSON, or null for none
abbrev pub number_data : Option ℕ → Data
number_data None = null
number_data (Some n) = count n

-- the number of a class as JSON, or null for the whole machine
abbrev pub class_data : Option Class → Data
class_data None = null
class_data (Some Zero) = count 0
class_data (Some One) = count 1

-- what a measure came to under a policy, over so many seeds
abbrev pub cell_data : {A : Type 0} → Naming A → ℕ → Key → Cell A → Data
cell_data naming seeds key c =
    object (
    member (codes "class") (class_data key.class) (
    member (codes "least") (number_data (least_of c.summary)) (
    member (codes "measure") (string (measure_text key.measure)) (
    member (codes "median") (number_data (median_of c.summary)) (
    member (codes "most") (number_data (most_of c.summary)) (
    member (codes "policy") (string (naming.words c.policy)) (
    member (codes "seeds") (count seeds) no_members)))))))

abbrev pub cell_object : {A : Type 0} → Naming A → ℕ → Key → Cell A → List ℕ
cell_object naming seeds key c = line (compact_text (cell_data naming seeds key c))

abbrev pub row_objects : {A : Type 0} → Naming A → ℕ → Row A → List ℕ
row_objects naming seeds r = flat_map (cell_object naming seeds r.key) r.cells.items

-- the whole table
abbrev pub objects_text : {A : Type 0} → Naming A → ℕ → List (Row A) → List ℕ
objects_text naming seeds rows = flat_map (row_objects naming seeds) rows
