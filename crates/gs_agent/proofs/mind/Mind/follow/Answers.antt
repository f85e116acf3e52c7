use Rattle.std.proofs.Common.{sym, ◌∙◌}
use Rattle.gs_layout.specs.View.{look_up}
use Rattle.gs_agent.proofs.Minds.{tick_waiting}
use Rattle.gs_agent.proofs.mind.Mind.follow.Goals as goal

pub invariant_of-self : goal.invariant_of-self
invariant_of-self c =
    record {
      waiting = tick_waiting (look_up c.self.inside.view.entries) c.self.inside.cpus c.hear_as.new.self c.self.inside.queue c.args.message (sym c.kind-kind.ensures ∙ c.in-TimerTick.is) c.hear_as.ensures c.self.invariant.waiting;
      room = c.self.invariant.room;
    }
