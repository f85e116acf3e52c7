-- What is seen of a slot that is lent.
use Rattle.std.specs.Prelude.{ℕ, List}
use Rattle.std.specs.Borrow.{GName, MutBor}
use Rattle.gs_slots.specs.declared.slot.SlotMut.{SlotMut}
use Rattle.gs_slots.specs.Reading.{state_in}
use Rattle.gs_slots.specs.State.{Held}

-- the CPU whose slot it is
abbrev pub cpu_of : SlotMut → ℕ
cpu_of slot = slot.cpu

-- its bytes
abbrev pub bytes_of : SlotMut → List ℕ
bytes_of slot = slot.bytes.now

-- what is read of it
abbrev pub state_of : SlotMut → Held
state_of slot = state_in (cpu_of slot) (bytes_of slot)

-- the reference by which it is lent: writes through the same one are writes to the same slot
abbrev pub reference_of : SlotMut → GName
reference_of slot = slot.bytes.ghost_name

-- the bytes that a call that is given the slot leaves
abbrev pub left_in : MutBor (List ℕ) × (ℕ × Unit {0}) → List ℕ
left_in exit = exit.0.now

-- the bytes that a call that is given several slots leaves
abbrev pub left_in_all : MutBor (List (List ℕ)) × (ℕ × Unit {0}) → List (List ℕ)
left_in_all exit = exit.0.now
