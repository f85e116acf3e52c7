-- How far the slots of a region were collected.
use Rattle.std.specs.Prelude.{Bool, true, false, ◌≡◌, ◌++◌, ℕ, List, drop, take, if◌then◌else◌}
use Rattle.gs_slots.specs.declared.state.SlotState.{SlotState}
use Rattle.gs_slots.specs.declared.state.SlotState.TheVariants.{Idle}
use Rattle.gs_slots.specs.Reading.{by_cpu, collected_in, is_flagged, state_in, state_or_idle}
use Rattle.gs_agent.specs.Mind.{MindState, picture_of, thinks}
use Rattle.gs_agent.specs.Picture.{after_slots}

-- whether a slot with these bytes is one of those that are wanted: those with the flag of a group, or all
abbrev pub is_wanted : Bool → List ℕ → Bool
is_wanted true bytes = is_flagged bytes
is_wanted false bytes = true

-- the bytes of the slot of CPU k after it was collected, if it is one of those that are wanted
abbrev pub left_if : Bool → ℕ → List ℕ → List ℕ
left_if group k bytes = if is_wanted group bytes then collected_in k bytes else bytes

-- what it tells the agent, if it is one of those
abbrev pub told_if : Bool → ℕ → List ℕ → SlotState
told_if group k bytes = if is_wanted group bytes then state_or_idle (state_in k bytes) else Idle

-- of the CPUs below k the slots that are wanted were collected, and all others are as they were
pub record IsCollected (group : Bool) (old : List (List ℕ)) (mind : MindState) (k : ℕ) (region : List (List ℕ)) (mind' : MindState) : Type 0 where
  pub slots : region ≡ by_cpu (left_if group) 0 (take k old) ++ drop k old
  pub thought : mind' ≡ thinks mind (after_slots 0 (take k (by_cpu (told_if group) 0 old)) (picture_of mind))
