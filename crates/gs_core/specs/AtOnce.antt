-- A commit whose slots are collected as it lands them.
use Rattle.std.specs.Prelude.{◌≡◌, ◌++◌, ◌∷◌, [], ℕ, true, List, map, slice_set}
use Rattle.gs_slots.specs.declared.state.SlotState.{SlotState}
use Rattle.gs_slots.specs.State.{collected}
use Rattle.gs_journal.specs.History.{History}
use Rattle.gs_agent.specs.Mind.{MindState, picture_of, thinks}
use Rattle.gs_agent.specs.Picture.{after_all, after_slot, after_slots}
use Rattle.gs_kernel.specs.declared.settings.Settings.{Settings}
use Rattle.gs_kernel.specs.declared.landing.Landing.{Landing}
use Rattle.gs_kernel.specs.Legal.{Room}
use Rattle.gs_kernel.specs.Lands.{Adds, Landings, LandsAll, LandsIf}
use Rattle.gs_kernel.specs.Group.{LandsCommit}

-- the slots of a mask land by a commit, and a mind collects what became of them. What they return is added to a list
pub record CommitsAtOnce (room : Room) (s : Settings) (mask : ℕ) (zs : List SlotState) (h : History) (before after : List Landing) (zs' : List SlotState) (h' : History) (v v' : MindState) : Type 0 where
  pub made : Landings
  pub lands : LandsCommit room s mask zs h made
  pub answers : after ≡ before ++ made.answers
  pub slots : zs' ≡ map collected made.slots
  pub history : h' ≡ made.history
  pub thought : v' ≡ thinks v (after_all made.slots (picture_of v))

-- the slot of CPU k lands, and is collected
pub record LandsOneAtOnce (room : Room) (s : Settings) (k : ℕ) (z : SlotState) (h : History) (before after : List Landing) (zs zs' : List SlotState) (h' : History) (v v' : MindState) : Type 0 where
  pub left : SlotState
  pub lands : Adds (LandsIf room s true k z h) before after (left ∷ []) h'
  pub slots : zs' ≡ slice_set zs k (collected left)
  pub thought : v' ≡ thinks v (after_slot k left (picture_of v))

-- the slots of a mask land, one after another, and each is collected before the next lands
pub record LandsAtOnce (room : Room) (s : Settings) (mask : ℕ) (zs : List SlotState) (h : History) (before after : List Landing) (zs' : List SlotState) (h' : History) (v v' : MindState) : Type 0 where
  pub left : List SlotState
  pub lands : Adds (LandsAll room s mask 0 zs h) before after left h'
  pub slots : zs' ≡ map collected left
  pub thought : v' ≡ thinks v (after_slots 0 left (picture_of v))
