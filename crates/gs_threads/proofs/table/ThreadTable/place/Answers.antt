use Rattle.std.proofs.Common.{ap, length, arith}
use Rattle.gs_threads.specs.declared.row.ThreadRow.{ThreadRow}
use Rattle.gs_threads.specs.Table.{TableState}
use Rattle.gs_threads.proofs.Living.{placed}
use Rattle.gs_threads.proofs.table.ThreadTable.place.Goals as goal

pub invariant_of-self : goal.invariant_of-self
invariant_of-self c =
    let len = ap (λ (t : TableState). length t.rows) c.self.view_is in (
      c.self.invariant.0,
      c.self.invariant.1,
      placed c.self.inside.live c.self.inside.rows.items c.args.tid _ c.index_mut.result.now c.self.invariant.2 c.if-has.ensures.0
          (omega (arith, c.if-has.ensures.1, len))
          (ap (λ (row : ThreadRow). row.record) c.index_mut.ensures.value),
    )
