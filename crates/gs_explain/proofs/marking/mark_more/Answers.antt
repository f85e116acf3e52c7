use Rattle.std.proofs.Common.{arith}
use Rattle.gs_explain.proofs.Lasting.{one_marked}
use Rattle.gs_explain.proofs.marking.mark_more.Goals as goal

pub loop-n-preserved : goal.loop-n-preserved
loop-n-preserved c =
    record {
      within = omega (arith, c.loop-n-test.true);
      marked = one_marked c.loop-n.last.places.items c.set_if.new.self.places.items c.args.transactions.now c.loop-n.n _ c.loop-n-test.true c.in_ok-set_if.ensures c.loop-n.invariant.marked;
    }
