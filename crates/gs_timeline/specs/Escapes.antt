-- A name in the text of an SVG.
use Rattle.std.specs.Prelude.{ℕ, List, codes, encode_utf8, if◌then◌else◌, ◌==◌}
use Rattle.std.specs.List.{flat_map}

-- a byte as it is shown: a mark of the language by what stands for it, any other by itself
abbrev pub shown : ℕ → List ℕ
shown b = if b == 60 then codes "&lt;" else if b == 62 then codes "&gt;" else if b == 38 then codes "&amp;" else if b == 34 then codes "&quot;" else encode_utf8 b

-- a name as it is shown
abbrev pub escaped : List ℕ → List ℕ
escaped name = flat_map shown name
