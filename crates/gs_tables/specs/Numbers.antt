-- Numbers and classes as JSON.
use Rattle.std.specs.Prelude.{ℕ, Option, None, Some}
use Rattle.serde_json.specs.Data.{Data, null, number, unsigned}
use Rattle.gs_layout.specs.declared.facts.Class.{Class}
use Rattle.gs_layout.specs.Class.{class_number}

-- a number as JSON
abbrev pub count : ℕ → Data
count n = number (unsigned n)

-- the number of a class as JSON, or null for none
abbrev pub class_data : Option Class → Data
class_data None = null
class_data (Some k) = count (class_number k)
