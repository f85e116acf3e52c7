use Rattle.std.proofs.Common.{◌-◌, ◌≡◌, List, length, ◌≤◌}
use Rattle.gs_layout.specs.declared.message.Message.{Message}
use Rattle.api_tests.proofs.ring.take_some.Given as goal

abbrev pub invariant-taking : goal.invariant-taking
invariant-taking g l = (l.count ≤ l.max) × ((ms : List Message) × g.T.Taker.passed l.initial.taker ms l.taker × (length ms ≡ l.count))

abbrev pub decreases-taking : goal.decreases-taking
decreases-taking g l = l.max - l.count
