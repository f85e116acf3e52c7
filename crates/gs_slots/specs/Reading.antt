-- What stands in the bytes of a slot.
use Rattle.std.specs.Prelude.{Bool, ◌&&◌, ℕ, suc, ◌==◌, nat_eq, Ok, Err, List, [], ◌∷◌, map, slice_index, unwrap_or, if◌then◌else◌}
use Rattle.std.specs.Cmp.Lexicographic.{pointwise}
use Rattle.gs_slots.specs.declared.wire.TheConstants.{DONE, FLAGS_AT, GENERATION_AT, OUTCOME_AT, PLACE_AT, SEEN_AT, STAMPED, STATE_AT, TID_AT, TSEQ_AT}
use Rattle.gs_layout.specs.declared.outcome.Outcome.{Outcome}
use Rattle.gs_layout.specs.declared.outcome.Outcome.TheVariants.{Malformed}
use Rattle.gs_layout.specs.Outcome.{outcome_numbered}
use Rattle.gs_layout.specs.Reading.{cpu_numbered, number_at}
use Rattle.gs_slots.specs.declared.state.SlotState.{SlotState}
use Rattle.gs_slots.specs.declared.state.SlotState.TheVariants.{Idle, Stamped, Done}
use Rattle.gs_slots.specs.declared.state.Stamp.{Stamp}
use Rattle.gs_slots.specs.Flags.{flags_in}
use Rattle.gs_slots.specs.State.{Held}
use Rattle.gs_slots.specs.Spelling.{can_hold, idle_bytes, slot_spelling}

-- whether these bytes have the flag of a group, if they are a slot's
abbrev pub is_flagged : List ℕ → Bool
is_flagged bytes = (flags_in (slice_index bytes FLAGS_AT)).group

abbrev pub stamp_in : List ℕ → Stamp
stamp_in bytes = record {
  generation = number_at GENERATION_AT 4 bytes;
  tid = number_at TID_AT 4 bytes;
  tseq = number_at TSEQ_AT 4 bytes;
  flags = flags_in (slice_index bytes FLAGS_AT);
}

abbrev pub outcome_in : List ℕ → Outcome
outcome_in bytes = unwrap_or (outcome_numbered (number_at OUTCOME_AT 2 bytes)) Malformed

abbrev pub done_in : List ℕ → SlotState
done_in bytes = Done (stamp_in bytes) (outcome_in bytes) (cpu_numbered (number_at PLACE_AT 2 bytes)) (number_at SEEN_AT 4 bytes)

-- what the fields of a slot say by its first byte, whatever its other bytes are
abbrev pub fields_in : List ℕ → SlotState
fields_in bytes =
    if slice_index bytes STATE_AT == STAMPED then Stamped (stamp_in bytes) else if slice_index bytes STATE_AT == DONE then done_in bytes else Idle

-- whether these bytes are what the slot of CPU k is with the fields that they have. Its CPU is k, and its outcome is one. No other flag is set, and
-- no byte between the fields or behind them
unfoldable pub is_spelt : ℕ → List ℕ → Bool
is_spelt k bytes = pointwise nat_eq bytes (slot_spelling k (fields_in bytes))

-- what is read of the slot of CPU k: the state whose spelling its bytes are, and all other bytes are malformed
unfoldable pub state_in : ℕ → List ℕ → Held
state_in k bytes = if is_spelt k bytes && can_hold (fields_in bytes) then Ok (fields_in bytes) else Err (record {})

-- slots, the first of which is that of CPU k, each changed as it is that of its CPU
abbrev pub by_cpu : {X Y : Type 0} → (ℕ → X → Y) → ℕ → List X → List Y
by_cpu f k [] = []
by_cpu f k (x ∷ xs) = f k x ∷ by_cpu f (suc k) xs

-- what is read of slots, the first of which is that of CPU k
abbrev pub states_in : ℕ → List (List ℕ) → List Held
states_in = by_cpu state_in

-- what a slot tells an agent: a malformed one nothing, as an idle one
abbrev pub state_or_idle : Held → SlotState
state_or_idle (Ok z) = z
state_or_idle (Err e) = Idle

-- what slots tell an agent
abbrev pub told_by : ℕ → List (List ℕ) → List SlotState
told_by k slots = map state_or_idle (states_in k slots)

-- the bytes of a slot of which this is read, after it was collected: a done one is idle, and any other as it is
abbrev pub idle_if_done : Held → List ℕ → List ℕ
idle_if_done (Ok (Done s outcome at seen)) bytes = idle_bytes
idle_if_done (Ok Idle) bytes = bytes
idle_if_done (Ok (Stamped s)) bytes = bytes
idle_if_done (Err e) bytes = bytes

-- the bytes of the slot of CPU k after it was collected
unfoldable pub collected_in : ℕ → List ℕ → List ℕ
collected_in k bytes = idle_if_done (state_in k bytes) bytes

-- the bytes of slots after they were collected
abbrev pub all_collected : ℕ → List (List ℕ) → List (List ℕ)
all_collected = by_cpu collected_in
