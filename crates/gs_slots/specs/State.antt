-- What is in a slot, and what its calls make of that.
use Rattle.std.specs.Prelude.{Bool, true, false, ℕ, Option, None, Some, Result, Ok, Err}
use Rattle.gs_layout.specs.declared.outcome.Outcome.{Outcome}
use Rattle.gs_layout.specs.declared.outcome.Outcome.TheVariants.{Malformed}
use Rattle.gs_slots.specs.declared.state.SlotState.{SlotState}
use Rattle.gs_slots.specs.declared.state.SlotState.TheVariants.{Idle, Stamped, Done}
use Rattle.gs_slots.specs.declared.state.Stamp.{Stamp}
use Rattle.gs_slots.specs.declared.state.Malformed as errors
use Rattle.gs_slots.specs.Flags.{no_flags}

-- what is read of a slot: its state, or that it is malformed
abbrev pub Held : Type 0
Held = Result SlotState errors.Malformed

abbrev pub is_stamped : SlotState → Bool
is_stamped (Stamped s) = true
is_stamped _ = false

-- whether the transaction in a slot, landed or not, is one of a group
abbrev pub is_grouped : SlotState → Bool
is_grouped Idle = false
is_grouped (Stamped s) = s.flags.group
is_grouped (Done s outcome at seen) = s.flags.group

-- whether a transaction that has not landed is read of a slot
abbrev pub has_stamp : Held → Bool
has_stamp (Ok z) = is_stamped z
has_stamp (Err e) = false

-- what became of the transaction in a slot, if it landed
abbrev pub outcome_of : SlotState → Option Outcome
outcome_of (Done s outcome at seen) = Some outcome
outcome_of _ = None

-- the same of what is read of a slot
abbrev pub told_in : Held → Option Outcome
told_in (Ok z) = outcome_of z
told_in (Err e) = None

abbrev pub is_malformed : Outcome → Bool
is_malformed Malformed = true
is_malformed _ = false

-- a transaction of which nothing is known
abbrev pub no_stamp : Stamp
no_stamp = record { generation = 0; tid = 0; tseq = 0; flags = no_flags }

-- what is left of a malformed slot once it landed: no transaction, and that it was malformed
abbrev pub refused : SlotState
refused = Done no_stamp Malformed None 0

-- a stamped slot after its transaction landed; any other slot as it is
abbrev pub finished : Outcome → Option ℕ → ℕ → SlotState → SlotState
finished outcome at seen (Stamped s) = Done s outcome at seen
finished outcome at seen Idle = Idle
finished outcome at seen (Done s o a n) = Done s o a n

-- a done slot after it was collected; any other slot as it is
abbrev pub collected : SlotState → SlotState
collected (Done s outcome at seen) = Idle
collected Idle = Idle
collected (Stamped s) = Stamped s
