-- The facts of a creation, where they stand in its bytes.
use Rattle.std.specs.Prelude.{◌≡◌, true, ℕ, ◌+◌, ◌-◌, List, ◌++◌, take, drop, length, replicate, slice_index}
use Rattle.gs_layout.specs.declared.name.TheConstants.{MOST_NAME_LEN}
use Rattle.gs_layout.specs.declared.wire.TheConstants.{NAME_AT, NAME_LEN_AT}
use Rattle.gs_layout.specs.Name.{is_name}
use Rattle.gs_layout.specs.Reading.{name_in}
use Rattle.gs_layout.specs.Spelling.{name_bytes, round_up}

-- the first n of these bytes, or all if there are fewer, and zeros behind them, as many as a name may have in all
abbrev pub name_front : ℕ → List ℕ → List ℕ
name_front n bytes = take n bytes ++ replicate (MOST_NAME_LEN - length (take n bytes)) 0

-- the bytes have a name and zeros where those of a creation have them
pub record IsCreation (bytes : List ℕ) : Type 0 where
  pub name : is_name (name_in bytes) ≡ true
  pub len : slice_index bytes NAME_LEN_AT ≡ length (name_in bytes)
  pub size : length bytes ≡ round_up (NAME_AT + length (name_in bytes))
  pub zeros : drop NAME_AT bytes ≡ name_bytes (name_in bytes)
