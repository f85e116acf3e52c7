-- How one agent is replaced by another, event by event.
use Rattle.std.specs.Prelude.{Bool, true, false, ℕ, ◌≡◌, Option, None, Some, List, [], ◌∷◌}
use Rattle.gs_kernel.specs.declared.command.Command.TheVariants as commands
use Rattle.gs_kernel.specs.Kernel.{has_agent}
use Rattle.gs_core.specs.declared.event.Event.{Event}
use Rattle.gs_core.specs.declared.event.Event.TheVariants as events
use Rattle.gs_replies.specs.declared.reply.Reply.{Reply}
use Rattle.gs_replies.specs.declared.reply.Reply.TheVariants as replies
use Rattle.gs_core.specs.declared.stage.Stage.{Stage}
use Rattle.gs_core.specs.declared.stage.Stage.TheVariants.{Crash, Begin, Page, Activate}
use Rattle.gs_core.specs.Machine.{Plan, State}
use Rattle.gs_core.specs.Safe.{Run}

-- what comes first: the agent that there is crashes, and if there is none a new one begins
abbrev pub first_stage : Bool → Stage
first_stage true = Crash
first_stage false = Begin

-- the event of a stage: the new agent is told of so many threads at most in a page, and becomes active on this CPU
abbrev pub stage_event : {P : Type 0} → ℕ → ℕ → Stage → Event P
stage_event cpu max Crash = events.Crash
stage_event cpu max Begin = events.Kernel commands.Begin
stage_event cpu max Page = events.Page max
stage_event cpu max Activate = events.Kernel (commands.Activate cpu)

-- what comes after a stage that was done: page follows page until one behind which none begins
abbrev pub stage_behind : Stage → Reply → Option Stage
stage_behind Crash r = Some Begin
stage_behind Begin r = Some Page
stage_behind Page (replies.Page n None bytes) = Some Activate
stage_behind Page r = Some Page
stage_behind Activate r = None

-- what comes after a stage whose event had this reply: nothing if it was refused, or tore the enclave down
abbrev pub stage_after : Stage → Reply → Option Stage
stage_after s (replies.Refused f) = None
stage_after s replies.Torn = None
stage_after s r = stage_behind s r

-- the events from one stage to another, or to the end, and their replies
abbrev pub GoesOn : ℕ → ℕ → Option Stage → List (Event Plan) → List Reply → Option Stage → Type 0
GoesOn cpu max s [] [] s' = s ≡ s'
GoesOn cpu max (Some s) (e ∷ es) (r ∷ rs) s' = (e ≡ stage_event cpu max s) × GoesOn cpu max (stage_after s r) es rs s'
GoesOn cpu max s es rs s' = ⊥

-- an agent is replaced by a run of all the stages' events, with these replies. They are a crash if there is an agent, a beginning, pages
-- until one behind which none begins, and an activation. Nothing follows a reply that is refused or torn
pub record Replaces (cpu max : ℕ) (m : State) (rs : List Reply) (m' : State) : Type 0 where
  pub events : List (Event Plan)
  pub in_order : GoesOn cpu max (Some (first_stage (has_agent m.history))) events rs None
  pub run : Run m events rs m'
