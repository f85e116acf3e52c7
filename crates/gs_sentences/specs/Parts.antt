-- Parts of a text.
use Rattle.std.specs.Prelude.{◌-◌, ℕ, List, drop, take}

-- the bytes of a text from one place to another
abbrev pub part : ℕ → ℕ → List ℕ → List ℕ
part from to text = take (to - from) (drop from text)
