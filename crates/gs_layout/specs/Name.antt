-- Names of threads.
use Rattle.std.specs.Prelude.{Bool, ◌&&◌, ℕ, ◌-◌, nat_le, List, ◌++◌, length, replicate}
use Rattle.std.specs.List.{list_all}
use Rattle.gs_layout.specs.declared.name.TheConstants.{MOST_NAME_LEN}

-- a byte that may stand in a name
abbrev pub is_name_byte : ℕ → Bool
is_name_byte b = nat_le 33 b && nat_le b 126

-- no more bytes than a name may have, each from 33 to 126
abbrev pub is_name : List ℕ → Bool
is_name text = nat_le (length text) MOST_NAME_LEN && list_all is_name_byte text

-- a name in as many bytes as it may have: behind it are zeros
abbrev pub name_field : List ℕ → List ℕ
name_field name = name ++ replicate (MOST_NAME_LEN - length name) 0
