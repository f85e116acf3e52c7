-- A mask is a set of CPUs: CPU c is in it if bit c is set.
use Rattle.std.specs.Prelude.{Bool, true, false, ℕ, zero, suc, ◌^◌, ◌/◌, ◌==◌, nat_le, bit_and, Option, None, Some}

-- whether a CPU is in a mask
abbrev pub has : ℕ → ℕ → Bool
has mask c = bit_and (mask / 2 ^ c) 1 == 1

-- whether a mask has a CPU that is not below a count
abbrev pub has_past : ℕ → ℕ → Bool
has_past mask cpus = nat_le (2 ^ cpus) mask

-- whether a mask has no CPU
abbrev pub has_none : ℕ → Bool
has_none mask = mask == 0

-- the number that was found, or else this one, if it passes
abbrev pub found_or : Option ℕ → Bool → ℕ → Option ℕ
found_or (Some d) passes c = Some d
found_or None true c = Some c
found_or None false c = None

-- the least number below n that passes
unfoldable pub least : (ℕ → Bool) → ℕ → Option ℕ
least test zero = None
least test (suc c) = found_or (least test c) (test c) c
