use Rattle.std.proofs.Common.{◌≡◌, Option, None, Some, ap, sym, subst}
use Rattle.gs_layout.specs.declared.refusal.Refusal.{Refusal}
use Rattle.gs_kernel.specs.declared.command.Command.{Command}
use Rattle.gs_kernel.specs.declared.command.Command.TheVariants.{Begin}
use Rattle.gs_kernel.specs.Kernel.{last_entry}
use Rattle.gs_core.specs.declared.event.Event.TheVariants as events
use Rattle.gs_replies.specs.declared.reply.Reply.{Reply}
use Rattle.gs_replies.specs.Replies.{reply_of}
use Rattle.gs_core.specs.Machine.{Plan, Serves, State, Step, StateOf, planning, refusal}
use Rattle.gs_core.proofs.Posting.{begun_step, same_planning}
use Rattle.gs_core.proofs.machine.Machine.change_agent.Goals as goal

-- an agent that begins by the policy that is there
served_as : (o : Option Refusal) (m : State) (r : Reply) (m' : State) → Serves o m (events.Begin m.policy) r m' → Serves o m (events.Kernel Begin) r m'
served_as None m r m' s = s
served_as (Some f) m r m' s = s

begins_as : (m : State) (p : Plan) → p ≡ m.policy → (r : Reply) (m' : State) → Step m (events.Begin p) r m' → Step m (events.Kernel Begin) r m'
begins_as m p is r m' s = served_as (refusal m (events.Begin m.policy)) m r m' (subst (λ (q : Plan). Step m (events.Begin q) r m') is s)

pub returns-in-Begin-clause-step : goal.returns-in-Begin-clause-step
returns-in-Begin-clause-step g c =
    let chosen = g.P.Policy.chosen in
    let m = planning chosen c.args.self.now in
    let b = c.begin-in-Begin in
    let r = reply_of b.result (last_entry b.new.self.history) in
    let e = b.ensures in
    subst (λ (x : Command). Step m (events.Kernel x) r (planning chosen b.new.self)) (sym c.in-Begin.is)
    (begins_as m (chosen c.begin.inside.policy) (ap (λ (x : StateOf _). chosen x.policy) c.begin.view_is) r (planning chosen b.new.self)
    (begun_step m (chosen c.begin.inside.policy) b.result (last_entry b.new.self.history) (planning chosen b.new.self) c.requires e.fits e.begun e.refused (same_planning chosen b.result c.args.self.now b.new.self e.unchanged)))
