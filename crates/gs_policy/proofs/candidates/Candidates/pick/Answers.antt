-- The least CPU of both masks is the thread's choice.
use Rattle.std.proofs.Common.{◌∙◌, ap, None, Some}
use Rattle.std.specs.Option.{option_to_list}
use Rattle.gs_layout.specs.View.{look_up}
use Rattle.gs_view.specs.Shown.{known_shown}
use Rattle.gs_policy.proofs.Left.{picked_busy, picked_free}
use Rattle.gs_policy.proofs.candidates.Candidates.pick.Goals as goal

pub returns-in-Some-clause-pick : goal.returns-in-Some-clause-pick
returns-in-Some-clause-pick c =
    picked_free c.args.self (look_up c.args.view.now.entries) c.args.tid (known_shown (c.in_ok-facts.facts, c.in_ok-facts.field-0-1)) c.in-Some.cpu
    c.in_ok-facts.ensures c.in-Some.ensures.least

pub returns-clause-pick : goal.returns-clause-pick
returns-clause-pick c =
    picked_busy c.args.self (look_up c.args.view.now.entries) c.args.tid (known_shown (c.in_ok-facts.facts, c.in_ok-facts.field-0-1)) c.busy_for.result (Some c.in_ok-cpu.cpu)
    c.in_ok-facts.ensures c.in_default.ensures.least c.busy_for.ensures c.in_ok-cpu.ensures.least

pub returns-in_err-cpu-clause-pick : goal.returns-in_err-cpu-clause-pick
returns-in_err-cpu-clause-pick c =
    ap option_to_list c.from_residual-in_err-cpu.ensures
    ∙ picked_busy c.args.self (look_up c.args.view.now.entries) c.args.tid (known_shown (c.in_ok-facts.facts, c.in_ok-facts.field-0-1)) c.busy_for.result None
    c.in_ok-facts.ensures c.in_default.ensures.least c.busy_for.ensures c.in_err-cpu.ensures.least
