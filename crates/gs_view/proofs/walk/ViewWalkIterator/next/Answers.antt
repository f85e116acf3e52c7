use Rattle.std.proofs.Common.{◌∙◌, ◌+◌, ◌<◌, length, ap, sym, arith, rules}
use Rattle.gs_view.specs.Shown.{shown_from}
use Rattle.gs_view.proofs.Showing.{first_shown, spent_shown}
use Rattle.gs_view.proofs.walk.ViewWalkIterator.next.Goals as goal

pub returns-in_err-tid-clause-steps : goal.returns-in_err-tid-clause-steps
returns-in_err-tid-clause-steps c =
    let over = sym c.self.view_is ∙ spent_shown c.self.inside.records.now c.self.inside.from c.in_err-tid.ensures.first in
    rw c.from_residual.ensures (over, over)

pub returns-clause-steps : goal.returns-clause-steps
returns-clause-steps c =
    sym c.self.view_is
    ∙ first_shown c.self.inside.records.now c.self.inside.from c.in_ok-tid.tid c.in_ok-known.known.now c.in_ok-tid.ensures.first
    c.in_ok-tid.ensures.within.0 (sym c.in_ok-known.ensures)

pub returns-clause-goes : goal.returns-clause-goes
returns-clause-goes c =
    let fewer : length (shown_from (c.in_ok-tid.tid + 1) c.self.inside.records.now) < length c.args.self.now = omega (arith, ap length (returns-clause-steps c)) in
    search rules
