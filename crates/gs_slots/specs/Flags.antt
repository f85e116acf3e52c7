-- The flags of a transaction, and the one byte that a slot has for them.
use Rattle.std.specs.Prelude.{Bool, ◌==◌, false, ℕ, ◌+◌, ◌*◌, ◌%◌, nat_le, nat_lt, if◌then◌else◌}
use Rattle.gs_slots.specs.declared.flags.Flags.{Flags}

-- no flag is set
abbrev pub no_flags : Flags
no_flags = record { preempt = false; group = false }

-- of a transaction that is not one of a group
abbrev pub single : Bool → Flags
single preempt = record no_flags { preempt = preempt }

-- bit 0: whether a thread on the CPU is to give way; bit 1: whether it is of a group
abbrev pub flags_byte : Flags → ℕ
flags_byte f = (if f.preempt then 1 else 0) + 2 * (if f.group then 1 else 0)

-- whether a byte has no other bit
abbrev pub are_flags : ℕ → Bool
are_flags byte = nat_lt byte 4

-- the flags that a byte has: bit 0, and bit 1 or one above it
abbrev pub flags_in : ℕ → Flags
flags_in byte = record { preempt = byte % 2 == 1; group = nat_le 2 byte }
