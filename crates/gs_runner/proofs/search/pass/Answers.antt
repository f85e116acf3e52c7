use Rattle.std.proofs.Common.{sym, arith}
use Rattle.gs_runner.proofs.Places.{before_next}
use Rattle.gs_runner.proofs.search.pass.Goals as goal

pub calls-preserved : goal.calls-preserved
calls-preserved c =
    let here = c.in-Some.ensures.lookup in
    before_next c.args.others.now c.args.at c.calls.passed c.args.kept.now c.in-Some.next.now here.3.0 (sym here.1) (omega (arith, c.place.ensures, c.if-place-at.false)) c.calls.invariant
