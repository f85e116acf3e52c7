-- What is left if stamped transactions are refused as stale.
use Rattle.std.specs.Prelude.{ℕ, List, None, Ok, Err}
use Rattle.gs_layout.specs.declared.outcome.Outcome.TheVariants.{Stale}
use Rattle.gs_slots.specs.declared.state.SlotState.TheVariants.{Idle, Stamped, Done}
use Rattle.gs_slots.specs.Reading.{state_in}
use Rattle.gs_slots.specs.Spelling.{slot_spelling}
use Rattle.gs_slots.specs.State.{Held}

-- the bytes of the slot of CPU k, of which this is read: a stamped one is done, and any other as it is
abbrev pub stale_if_stamped : Held → ℕ → List ℕ → List ℕ
stale_if_stamped (Ok (Stamped s)) k bytes = slot_spelling k (Done s Stale None 7)
stale_if_stamped (Ok Idle) k bytes = bytes
stale_if_stamped (Ok (Done s outcome at seen)) k bytes = bytes
stale_if_stamped (Err e) k bytes = bytes

unfoldable pub stale_in : ℕ → List ℕ → List ℕ
stale_in k bytes = stale_if_stamped (state_in k bytes) k bytes
