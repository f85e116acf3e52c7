-- Which tids have a key, and which.
use Rattle.std.specs.Prelude.{Bool, ℕ, ◌*◌, Option, None, Some, is_some, List, length, slice_index, if◌then◌else◌}
use Rattle.gs_sets.specs.Bits.{is_in}
use Rattle.gs_sets.specs.declared.bits.TheConstants.{WORD}

-- the tids that have a key, as words of bits, and a key for each tid from 0 on, which counts only if the tid has one
pub record IndexState : Type 0 where
  pub live : List ℕ
  pub keys : List ℕ

-- the key of a tid, if it has one
unfoldable pub key_of : IndexState → ℕ → Option ℕ
key_of i t = if is_in i.live t then Some (slice_index i.keys t) else None

-- whether a tid has one
abbrev pub has_key : IndexState → ℕ → Bool
has_key i t = is_some (key_of i t)

-- how many tids have a place, from tid 0 on
abbrev pub places : IndexState → ℕ
places i = WORD * length i.live
