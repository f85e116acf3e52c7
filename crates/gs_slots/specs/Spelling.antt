-- The bytes of a slot. All numbers are little-endian, and every byte that no field names is zero.
use Rattle.std.specs.Prelude.{◌-◌, ◌≡◌, Bool, true, ◌&&◌, ◌==◌, ℕ, ◌^◌, ◌<◌, Option, is_none, List, [], ◌∷◌, ◌++◌, replicate, take, drop, slice_set, if◌then◌else◌}
use Rattle.byteorder.specs.Endian.{little_bytes}
use Rattle.gs_slots.specs.declared.wire.TheConstants.{DONE, END_AT, OUTCOME_AT, SLOT_LEN, STAMPED, STATE_AT}
use Rattle.gs_layout.specs.declared.outcome.Outcome.{Outcome}
use Rattle.gs_layout.specs.Outcome.{outcome_number}
use Rattle.gs_layout.specs.Spelling.{cpu_number, is_cpu_or_none}
use Rattle.gs_slots.specs.declared.state.SlotState.{SlotState}
use Rattle.gs_slots.specs.declared.state.SlotState.TheVariants.{Idle, Stamped, Done}
use Rattle.gs_slots.specs.declared.state.Stamp.{Stamp}
use Rattle.gs_slots.specs.Flags.{flags_byte}
use Rattle.gs_slots.specs.State.{is_malformed}

-- what stands before the outcome in a slot that is not idle: whether it is stamped or done, and the transaction
abbrev pub stamp_bytes : ℕ → ℕ → Stamp → List ℕ
stamp_bytes kind cpu s =
    (kind ∷ flags_byte s.flags ∷ []) ++ little_bytes 2 cpu ++ little_bytes 4 s.generation ++ little_bytes 4 s.tid ++ little_bytes 4 s.tseq

-- what became of a transaction
abbrev pub result_bytes : Outcome → Option ℕ → ℕ → List ℕ
result_bytes outcome at seen = little_bytes 2 (outcome_number outcome) ++ little_bytes 2 (cpu_number at) ++ little_bytes 4 seen

-- the bytes of a stamped slot after its transaction landed: only the first byte and what became of it are written
abbrev pub done_bytes : Outcome → Option ℕ → ℕ → List ℕ → List ℕ
done_bytes outcome at seen bytes = slice_set (take OUTCOME_AT bytes) STATE_AT DONE ++ result_bytes outcome at seen ++ drop END_AT bytes

-- the bytes of an idle slot, of whichever CPU
abbrev pub idle_bytes : List ℕ
idle_bytes = replicate SLOT_LEN 0

-- the bytes of the slot of a CPU
abbrev pub slot_spelling : ℕ → SlotState → List ℕ
slot_spelling cpu Idle = idle_bytes
slot_spelling cpu (Stamped s) = stamp_bytes STAMPED cpu s ++ replicate (SLOT_LEN - OUTCOME_AT) 0
slot_spelling cpu (Done s outcome at seen) = stamp_bytes DONE cpu s ++ result_bytes outcome at seen ++ replicate (SLOT_LEN - END_AT) 0

-- whether the numbers of a transaction, and of what became of it, are all zero, and no CPU is named
abbrev pub is_blank : Stamp → Option ℕ → ℕ → Bool
is_blank s at seen = s.generation == 0 && s.tid == 0 && s.tseq == 0 && flags_byte s.flags == 0 && is_none at && seen == 0

-- whether this can be left of a transaction: a CPU or none; of a malformed slot nothing but that
abbrev pub is_result : Stamp → Outcome → Option ℕ → ℕ → Bool
is_result s outcome at seen = if is_malformed outcome then is_blank s at seen else is_cpu_or_none at

-- whether a slot can hold this, its numbers aside
abbrev pub can_hold : SlotState → Bool
can_hold Idle = true
can_hold (Stamped s) = true
can_hold (Done s outcome at seen) = is_result s outcome at seen

-- the numbers of a transaction are in their ranges
pub record IsSpellableStamp (s : Stamp) : Type 0 where
  pub generation : s.generation < 2 ^ 32
  pub tid : s.tid < 2 ^ 32
  pub tseq : s.tseq < 2 ^ 32

-- the numbers in a slot are in their ranges
abbrev pub HasNumbers : SlotState → Type 0
HasNumbers Idle = Unit {0}
HasNumbers (Stamped s) = IsSpellableStamp s
HasNumbers (Done s outcome at seen) = IsSpellableStamp s × (seen < 2 ^ 32)

-- what a slot can hold
abbrev pub IsSpellableState : SlotState → Type 0
IsSpellableState z = (can_hold z ≡ true) × HasNumbers z
