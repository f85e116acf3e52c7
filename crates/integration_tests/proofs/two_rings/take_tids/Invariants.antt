use Rattle.std.proofs.Common.{◌≡◌, ◌≤◌, List, map, vec_capacity, vec_len}
use Rattle.gs_layout.specs.Spelling.{tid_of}
use Rattle.gs_layout.specs.declared.message.Message.{Message}
use Rattle.integration_tests.proofs.two_rings.take_tids.Given as goal

-- what was taken so far, and room for the rest
abbrev pub invariant-loop : goal.invariant-loop
invariant-loop g l = (vec_len l.tids ≤ l.counter)
    × (l.max ≤ vec_capacity l.tids)
    × ((ms : List Message) × g.T.Taker.passed l.initial.taker ms l.taker × (l.tids.items ≡ map tid_of ms))
