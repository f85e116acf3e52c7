-- How bytes are tested for a slot, field by field.
use Rattle.std.specs.Prelude.{Bool, ◌&&◌, ◌==◌, nat_lt, ℕ, List, slice_index, if◌then◌else◌}
use Rattle.gs_layout.specs.declared.outcome.TheConstants.{OUTCOMES}
use Rattle.gs_slots.specs.declared.wire.TheConstants.{CPU_AT, DONE, END_AT, FLAGS_AT, OUTCOME_AT, STAMPED, STATE_AT, WORD_LEN}
use Rattle.gs_layout.specs.Reading.{number_at}
use Rattle.gs_slots.specs.Flags.{are_flags}

-- whether the bytes of a word from a place on are zero
abbrev pub is_zero_at : ℕ → List ℕ → Bool
is_zero_at place bytes = number_at place WORD_LEN bytes == 0

-- whether no flag but the first two is set, and the CPU is k
abbrev pub is_of : ℕ → List ℕ → Bool
is_of k bytes = are_flags (slice_index bytes FLAGS_AT) && number_at CPU_AT 2 bytes == k

abbrev pub is_idle : List ℕ → Bool
is_idle bytes = is_zero_at 0 bytes && is_zero_at WORD_LEN bytes && is_zero_at OUTCOME_AT bytes && is_zero_at END_AT bytes

abbrev pub is_stamp : ℕ → List ℕ → Bool
is_stamp k bytes = is_of k bytes && is_zero_at OUTCOME_AT bytes && is_zero_at END_AT bytes

abbrev pub is_done : ℕ → List ℕ → Bool
is_done k bytes = is_of k bytes && nat_lt (number_at OUTCOME_AT 2 bytes) OUTCOMES && is_zero_at END_AT bytes

-- whether the fields of the slot of CPU k are right, and all other bytes zero
abbrev pub passes : ℕ → List ℕ → Bool
passes k bytes =
    if slice_index bytes STATE_AT == STAMPED then is_stamp k bytes else if slice_index bytes STATE_AT == DONE then is_done k bytes else is_idle bytes
