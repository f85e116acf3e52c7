-- Several slots are stamped, in order.
use Rattle.std.specs.Prelude.{ℕ, suc, ◌-◌, ◌<◌, ◌≤◌, nat_lt, Option, None, Some, Result, Ok, Err, List, [], ◌∷◌, slice_index_or, slice_set, if◌then◌else◌}
use Rattle.std.specs.Option.{option_or}
use Rattle.gs_slots.specs.declared.fill.Fill.{Fill}
use Rattle.gs_slots.specs.declared.fill.FillFault.{FillFault}
use Rattle.gs_slots.specs.declared.fill.FillFault.TheVariants.{SlotBusy}
use Rattle.gs_slots.specs.declared.state.SlotState.TheVariants.{Idle, Stamped, Done}
use Rattle.gs_slots.specs.declared.state.Stamp.{Stamp}
use Rattle.gs_slots.specs.Reading.{state_in}
use Rattle.gs_slots.specs.Spelling.{slot_spelling}
use Rattle.gs_slots.specs.State.{Held}

-- the CPUs of transactions increase, from one on, and are below another
abbrev pub AreWithin : ℕ → ℕ → List Fill → Type 0
AreWithin low end [] = Unit {0}
AreWithin low end (f ∷ fs) = (low ≤ f.cpu) × (f.cpu < end) × AreWithin (suc f.cpu) end fs

abbrev pub stamp_of : Fill → Stamp
stamp_of f = record { generation = f.generation; tid = f.tid; tseq = f.tseq; flags = f.flags }

-- the slot of a transaction, of which this is read: stamped if it is idle, and else as it is
abbrev pub stamped_if_idle : Held → Fill → List ℕ → List ℕ
stamped_if_idle (Ok Idle) f bytes = slot_spelling f.cpu (Stamped (stamp_of f))
stamped_if_idle (Ok (Stamped s)) f bytes = bytes
stamped_if_idle (Ok (Done s outcome at seen)) f bytes = bytes
stamped_if_idle (Err e) f bytes = bytes

unfoldable pub filled_slot : Fill → List ℕ → List ℕ
filled_slot f bytes = stamped_if_idle (state_in f.cpu bytes) f bytes

-- the CPU of a transaction, if this is read of its slot and it is not idle
abbrev pub busy_if : Held → Fill → Option ℕ
busy_if (Ok Idle) f = None
busy_if (Ok (Stamped s)) f = Some f.cpu
busy_if (Ok (Done s outcome at seen)) f = Some f.cpu
busy_if (Err e) f = Some f.cpu

unfoldable pub busy_slot : Fill → List ℕ → Option ℕ
busy_slot f bytes = busy_if (state_in f.cpu bytes) f

-- the slot of a transaction among slots the first of which is that of a CPU
abbrev pub slot_for : ℕ → Fill → List (List ℕ) → List ℕ
slot_for first f slots = slice_index_or slots (f.cpu - first) []

-- slots, the first of which is that of a CPU, after transactions were stamped into them in order. Each that is named and idle is stamped, and every
-- other is as before
abbrev pub filled : ℕ → List Fill → List (List ℕ) → List (List ℕ)
filled first [] slots = slots
filled first (f ∷ fs) slots = filled first fs (slice_set slots (f.cpu - first) (filled_slot f (slot_for first f slots)))

-- the first CPU that they name whose slot is not idle, which is the least if they increase
abbrev pub first_busy : ℕ → List Fill → List (List ℕ) → Option ℕ
first_busy first [] slots = None
first_busy first (f ∷ fs) slots = option_or (busy_slot f (slot_for first f slots)) (first_busy first fs slots)

-- what is returned then
abbrev pub fault_of : Option ℕ → Result (Unit {0}) FillFault
fault_of None = Ok tt
fault_of (Some cpu) = Err (SlotBusy cpu)

-- how many of transactions, from the first on, are for CPUs below one
abbrev pub count_below : ℕ → List Fill → ℕ
count_below cpu [] = 0
count_below cpu (f ∷ fs) = if nat_lt f.cpu cpu then suc (count_below cpu fs) else 0
