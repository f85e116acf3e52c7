-- A table of columns.
use Rattle.std.specs.Prelude.{ℕ, Bool, true, false, nat_lt, List, [], ◌++◌, codes, length, max, min}
use Rattle.std.specs.List.{flat_map}
use Rattle.gs_lines.specs.Columns.{class_word, column}
use Rattle.gs_lines.specs.Lines.{line}
use Rattle.gs_script.specs.Naming.{Naming}
use Rattle.gs_compare.specs.declared.row.Cell.{Cell}
use Rattle.gs_compare.specs.declared.row.Row.{Row}
use Rattle.gs_compare.specs.Columns.{least_of, median_of, most_of, number_word}
use Rattle.gs_compare.specs.Measures.{measure_text}

-- a policy has one column, as wide as its name, but of 12 places at least and 38 at most. Or it has three, with the spaces between them, if there are several seeds
abbrev pub policy_width : Bool → List ℕ → ℕ
policy_width false name = min 38 (max 12 (length name))
policy_width true name = 38

-- its name stands at the right end
abbrev pub policy_column : {A : Type 0} → Naming A → Bool → A → List ℕ
policy_column naming several p = column (policy_width several (naming.words p)) (naming.words p)

-- the first line names the policies
unfoldable pub key_words : List ℕ
key_words = column 5 (codes "class") ++ column 12 (codes "measure")

abbrev pub names_line : {A : Type 0} → Naming A → Bool → List A → List ℕ
names_line naming several policies = line (key_words ++ flat_map (policy_column naming several) policies)

unfoldable pub three_words : List ℕ
three_words = column 12 (codes "median") ++ column 12 (codes "least") ++ column 12 (codes "most")

abbrev pub statistics_words : {A : Type 0} → List A → List ℕ
statistics_words {A} policies = flat_map (λ (p : A). three_words) policies

unfoldable pub no_key_words : List ℕ
no_key_words = column 5 [] ++ column 12 []

-- the second one says what the three columns of each policy have
abbrev pub statistics_line : {A : Type 0} → Bool → List A → List ℕ
statistics_line false policies = []
statistics_line true policies = line (no_key_words ++ statistics_words policies)

-- what a measure came to under a policy: the median, and with several seeds the least and the most
abbrev pub cell_words : {A : Type 0} → Naming A → Bool → Cell A → List ℕ
cell_words naming false c = column (policy_width false (naming.words c.policy)) (number_word (median_of c.summary))
cell_words naming true c = column 12 (number_word (median_of c.summary)) ++ column 12 (number_word (least_of c.summary)) ++ column 12 (number_word (most_of c.summary))

-- the line of a measure: the class, what it is called, and what it came to under each policy
abbrev pub row_line : {A : Type 0} → Naming A → Bool → Row A → List ℕ
row_line naming several r = line (column 5 (class_word r.key.class) ++ column 12 (measure_text r.key.measure) ++ flat_map (cell_words naming several) r.cells.items)

abbrev pub lines_for : {A : Type 0} → Naming A → Bool → List A → List (Row A) → List ℕ
lines_for naming several policies rows = names_line naming several policies ++ statistics_line several policies ++ flat_map (row_line naming several) rows

-- the whole table, of so many seeds
abbrev pub lines_text : {A : Type 0} → Naming A → ℕ → List A → List (Row A) → List ℕ
lines_text naming seeds policies rows = lines_for naming (nat_lt 1 seeds) policies rows
