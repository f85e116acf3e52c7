use Rattle.gs_status.proofs.Laws.{IsMarked}
use Rattle.gs_layout.specs.View.{look_up}
use Rattle.gs_status.specs.Masks.{has}
use Rattle.round_robin.specs.RoundRobin.{turn_is_over}
use Rattle.round_robin.proofs.policy.RoundRobin.spent_cpus.Given as goal

abbrev pub invariant-loop-cpu : goal.invariant-loop-cpu
invariant-loop-cpu l = IsMarked (turn_is_over l.self (look_up l.view.entries) l.cpus.beliefs.now (has l.cpus.taken)) l.mask l.cpu
