use Rattle.std.proofs.Common.{◌≡◌, ◌+◌, ◌≤◌, ◌++◌, length, vec_capacity, vec_len}
use Rattle.gs_layout.specs.View.{look_up}
use Rattle.gs_runq.specs.Queue.{order}
use Rattle.gs_policy.specs.Candidates.{choices_of}
use Rattle.gs_policy.proofs.walk.plan_among_into.Given as goal

-- the choices so far and those that are left are the plan, and there is room for those that are left
abbrev pub invariant-loop-choice : goal.invariant-loop-choice
invariant-loop-choice l = record {
  all : l.choices.items ++ l.choice-iterator ≡ choices_of l.fn.all (look_up l.view.entries) (order l.queue);
  room : vec_len l.choices + length l.choice-iterator ≤ vec_capacity l.choices;
}
