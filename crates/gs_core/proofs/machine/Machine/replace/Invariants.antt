use Rattle.std.proofs.Common.{◌≡◌, ◌+◌, ◌≤◌, List, Some, vec_len, vec_capacity}
use Rattle.gs_kernel.specs.Kernel.{has_agent}
use Rattle.gs_core.specs.declared.event.Event.{Event}
use Rattle.gs_core.specs.Machine.{Plan, planning}
use Rattle.gs_core.specs.Replacing.{GoesOn, first_stage}
use Rattle.gs_core.specs.Safe.{Run}
use Rattle.gs_core.proofs.Replaced.{events_left}
use Rattle.gs_core.proofs.machine.Machine.replace.Given as goal

abbrev pub invariant-stages : goal.invariant-stages
invariant-stages g l = record {
  so_far : (events : List (Event Plan)) × GoesOn l.cpu l.max (Some (first_stage (has_agent l.fn.self.history))) events l.replies.items l.next × Run (planning g.P.Policy.chosen l.fn.self) events l.replies.items (planning g.P.Policy.chosen l.self);
  policy : l.self.policy ≡ l.fn.self.policy;
  room : vec_len l.replies + events_left l.max l.next (planning g.P.Policy.chosen l.self) ≤ vec_capacity l.replies;
}

abbrev pub decreases-stages : goal.decreases-stages
decreases-stages g l = events_left l.max l.next (planning g.P.Policy.chosen l.self)
