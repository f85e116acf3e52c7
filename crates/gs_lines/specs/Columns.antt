-- Words at the right end of columns.
use Rattle.std.specs.Prelude.{ℕ, ◌-◌, Option, None, Some, List, ◌++◌, codes, length, replicate}
use Rattle.gs_layout.specs.declared.facts.Class.{Class}
use Rattle.gs_layout.specs.declared.facts.Class.TheVariants.{Zero, One}

-- a space, and a word at the right end of so many places: a longer word takes more
abbrev pub column : ℕ → List ℕ → List ℕ
column w word = (codes " " ++ replicate (w - length word) 32) ++ word

-- the number of a class, or a dash for none
abbrev pub class_word : Option Class → List ℕ
class_word None = codes "-"
class_word (Some Zero) = codes "0"
class_word (Some One) = codes "1"
