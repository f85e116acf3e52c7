-- What stands in columns.
use Rattle.std.specs.Prelude.{ℕ, Option, None, Some, List, codes, decimal, option_map}
use Rattle.gs_compare.specs.declared.summary.Summary.{Summary}

-- a number, or a dash for none
abbrev pub number_word : Option ℕ → List ℕ
number_word None = codes "-"
number_word (Some n) = decimal n

abbrev pub least_of : Option Summary → Option ℕ
least_of o = option_map (λ (s : Summary). s.least) o

abbrev pub median_of : Option Summary → Option ℕ
median_of o = option_map (λ (s : Summary). s.median) o

abbrev pub most_of : Option Summary → Option ℕ
most_of o = option_map (λ (s : Summary). s.most) o
