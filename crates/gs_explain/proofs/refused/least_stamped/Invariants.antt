use Rattle.std.proofs.Common.{◌≡◌, ◌≤◌, ◌-◌, drop}
use Rattle.gs_slots.specs.Reading.{states_in}
use Rattle.gs_explain.specs.Refusals.{least_stamped}
use Rattle.gs_explain.proofs.refused.least_stamped.Given as goal

abbrev pub invariant-loop-cpu : goal.invariant-loop-cpu
invariant-loop-cpu l = record { within : l.cpu ≤ l.cpus; left : least_stamped l.cpu (drop l.cpu (states_in 0 l.region)) ≡ least_stamped 0 (states_in 0 l.region) }

abbrev pub decreases-loop-cpu : goal.decreases-loop-cpu
decreases-loop-cpu l = l.cpus - l.cpu
