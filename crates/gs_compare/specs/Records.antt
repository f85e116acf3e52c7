-- A table as comma-separated fields: a record for each measure and policy, below a header.
use Rattle.std.specs.Prelude.{ℕ, Option, None, Some, List, [], ◌∷◌, ◌++◌, codes, decimal}
use Rattle.std.specs.List.{flat_map}
use Rattle.csv.specs.Writing.{default_writer, row_text}
use Rattle.gs_layout.specs.declared.facts.Class.{Class}
use Rattle.gs_layout.specs.declared.facts.Class.TheVariants.{Zero, One}
use Rattle.gs_script.specs.Naming.{Naming}
use Rattle.gs_compare.specs.declared.measure.Key.{Key}
use Rattle.gs_compare.specs.declared.row.Cell.{Cell}
use Rattle.gs_compare.specs.declared.row.Row.{Row}
use Rattle.gs_compare.specs.Columns.{least_of, median_of, most_of}
use Rattle.gs_compare.specs.Measures.{measure_text}

abbrev pub record_text : List (List ℕ) → List ℕ
record_text fields = row_text default_writer fields

abbrev pub header_fields : List (List ℕ)
header_fields = codes "policy" ∷ codes "class" ∷ codes "measure" ∷ codes "seeds" ∷ codes "median" ∷ codes "least" ∷ codes "most" ∷ []

-- the number of a class, or nothing for the whole machine
abbrev pub class_field : Option Class → List ℕ
class_field None = []
class_field (Some Zero) = codes "0"
class_field (Some One) = codes "1"

-- a number, or nothing for none
abbrev pub number_field : Option ℕ → List ℕ
number_field None = []
number_field (Some n) = decimal n

-- what a measure came to under a policy, over so many seeds
abbrev pub cell_fields : {A : Type 0} → Naming A → ℕ → Key → Cell A → List (List ℕ)
cell_fields naming seeds key c =
    naming.words c.policy ∷ class_field key.class ∷ measure_text key.measure ∷ decimal seeds ∷ number_field (median_of c.summary) ∷ number_field (least_of c.summary) ∷ number_field (most_of c.summary) ∷ []

abbrev pub cell_record : {A : Type 0} → Naming A → ℕ → Key → Cell A → List ℕ
cell_record naming seeds key c = record_text (cell_fields naming seeds key c)

abbrev pub row_records : {A : Type 0} → Naming A → ℕ → Row A → List ℕ
row_records naming seeds r = flat_map (cell_record naming seeds r.key) r.cells.items

-- the whole table
abbrev pub records_text : {A : Type 0} → Naming A → ℕ → List (Row A) → List ℕ
records_text naming seeds rows = record_text header_fields ++ flat_map (row_records naming seeds) rows
