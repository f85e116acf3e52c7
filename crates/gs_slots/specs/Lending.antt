-- What a region, a part of it, or a slot is once what it lent is back.
use Rattle.std.specs.Prelude.{ℕ, List, [], ◌∷◌, ◌++◌, Option, take, drop, length, slice_set}
use Rattle.std.specs.Borrow.{Lends, LendsBoth, LendsBothIf, MutBor, Fml, Array, u8}
use Rattle.gs_slots.specs.declared.wire.TheConstants.{SLOT_LEN}
use Rattle.gs_slots.specs.declared.slot.SlotMut.{SlotMut}
use Rattle.gs_slots.specs.declared.slots.Slots.{Slots}
use Rattle.gs_slots.specs.contracts.region.Region as region_type
use Rattle.gs_slots.specs.contracts.slot.SlotMut as slot_type
use mir.Syntax.{named}

-- slots with these in place of the first of them, as many as before; if there are as many, just these
abbrev pub left_as : List (List ℕ) → List (List ℕ) → List (List ℕ)
left_as slots left = take (length slots) (left ++ drop (length left) slots)

-- the region is the slots as they are left
abbrev pub LendsAll : MutBor (List (List ℕ)) → Slots → Fml
LendsAll region slots = Lends region_type.the_row (Array (Array u8 SLOT_LEN) 0) region slots.rest (left_as region.now)

-- the region has the slot of CPU k as it is left, and every other as before
abbrev pub LendsOne : MutBor (List (List ℕ)) → ℕ → SlotMut → Fml
LendsOne region k slot = Lends region_type.the_row (Array u8 SLOT_LEN) region slot.bytes (slice_set region.now k)

-- the slots are the first as it is left, and then the rest as it is left
abbrev pub LendsNext : MutBor (List (List ℕ)) → Option (MutBor (List ℕ) × MutBor (List (List ℕ))) → Fml
LendsNext slots parts = LendsBothIf (Array (Array u8 SLOT_LEN) 0) (Array u8 SLOT_LEN) (Array (Array u8 SLOT_LEN) 0) slots parts ◌∷◌ slots.now

-- the slots are both parts as they are left, one after the other
abbrev pub LendsParts : MutBor (List (List ℕ)) → MutBor (List (List ℕ)) × MutBor (List (List ℕ)) → Fml
LendsParts slots parts = LendsBoth (Array (Array u8 SLOT_LEN) 0) (Array (Array u8 SLOT_LEN) 0) (Array (Array u8 SLOT_LEN) 0) slots parts ◌++◌

-- the slot is that of the same CPU, with the bytes as they are left
abbrev pub LendsBytes : MutBor SlotMut → MutBor (List ℕ) → Fml
LendsBytes slot bytes = Lends (slot_type.the_row (record { mir = named 1; lft = [] })) (Array u8 SLOT_LEN) slot bytes (λ w. record slot.now { bytes = record slot.now.bytes { now = w } })
