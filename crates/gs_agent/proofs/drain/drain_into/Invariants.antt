use Rattle.std.proofs.Common.{◌≡◌, ◌-◌, ◌≤◌, List, None}
use Rattle.gs_layout.specs.declared.message.Message.{Message}
use Rattle.gs_agent.specs.Drains.{Followed}
use Rattle.gs_agent.specs.Mind.{picture_of}
use Rattle.gs_agent.proofs.drain.drain_into.Given as goal

abbrev pub invariant-draining : goal.invariant-draining
invariant-draining g l = record {
  few : l.drained.count ≤ l.max;
  goes_on : l.drained.stop ≡ None;
  followed : (ms : List Message) × g.T.Taker.passed l.initial.taker ms l.taker × Followed (picture_of l.fn.mind) ms l.drained (picture_of l.mind);
}

abbrev pub decreases-draining : goal.decreases-draining
decreases-draining g l = l.max - l.drained.count
