use Rattle.std.proofs.Common.{◌≡◌, ◌∙◌, sym, [], rules}
use Rattle.gs_threads.proofs.Walks.{walk_none_in}
use Rattle.gs_threads.proofs.live.LiveRowsIterator.next.Goals as goal

pub returns-in_err-tid-clause-steps : goal.returns-in_err-tid-clause-steps
returns-in_err-tid-clause-steps c =
    let over : c.args.self.now ≡ [] =
    sym c.self.view_is ∙ walk_none_in c.self.inside.live.now c.self.inside.rows.now c.self.inside.from c.self.invariant.1 c.in_err-tid.ensures.first
    in
    rw c.from_residual.ensures (search rules)
