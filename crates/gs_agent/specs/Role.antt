-- What an agent's role is, and why it stamps no slot.
use Rattle.std.specs.Prelude.{ℕ, Option, None, Some, Ok, Err, option_map}
use Rattle.gs_layout.specs.declared.known.Known.{Known}
use Rattle.gs_layout.specs.declared.refusal.Refusal.{Refusal}
use Rattle.gs_layout.specs.declared.refusal.Refusal.TheVariants.{NoThread, SlotOpen}
use Rattle.gs_slots.specs.declared.state.SlotState.TheVariants.{Idle, Stamped, Done}
use Rattle.gs_slots.specs.State.{Held}
use Rattle.gs_agent.specs.Mind.{MindState}

-- what the agent has in mind, its generation, its policy, and where the next page begins, none if it needs no more
pub record RoleOf (P : Type 0) : Type 0 where
  pub mind : MindState
  pub generation : ℕ
  pub policy : P
  pub next : Option ℕ

-- the number at which something is known of a thread, if anything is
abbrev pub number_of : Option Known → Option ℕ
number_of o = option_map (λ (k : Known). k.tseq) o

-- why a transaction is not stamped, by what is known of its thread and what is read of the slot: the first refusal that applies
abbrev pub stamp_refusal : Option Known → Held → Option Refusal
stamp_refusal None s = Some NoThread
stamp_refusal (Some k) (Ok Idle) = None
stamp_refusal (Some k) (Ok (Stamped t)) = Some SlotOpen
stamp_refusal (Some k) (Ok (Done t outcome at seen)) = Some SlotOpen
stamp_refusal (Some k) (Err e) = Some SlotOpen
