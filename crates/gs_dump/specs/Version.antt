-- The versions of the layout of records.
use Rattle.std.specs.Prelude.{ℕ, ◌+◌, ◌==◌, Option, None, Some, if◌then◌else◌}
use Rattle.gs_layout.specs.declared.name.TheConstants.{MOST_NAME_LEN}
use Rattle.gs_layout.specs.declared.wire.TheConstants.{MASK_LEN}
use Rattle.gs_dump.specs.declared.wire.TheConstants.{FIRST_MASK_LEN, MASK_AT}
use Rattle.gs_dump.specs.declared.version.Version.{Version}
use Rattle.gs_dump.specs.declared.version.Version.TheVariants.{One, Two}

-- the number that a record of a version names
abbrev pub version_number : Version → ℕ
version_number One = 1
version_number Two = 2

-- the version of a number
abbrev pub version_numbered : ℕ → Option Version
version_numbered n = if n == 1 then Some One else if n == 2 then Some Two else None

-- how many bytes a mask has
abbrev pub mask_len : Version → ℕ
mask_len One = FIRST_MASK_LEN
mask_len Two = MASK_LEN

-- where the name stands: behind the mask
abbrev pub name_at : Version → ℕ
name_at v = MASK_AT + mask_len v

-- how many bytes a record has: the name ends it
abbrev pub record_len : Version → ℕ
record_len v = name_at v + MOST_NAME_LEN
