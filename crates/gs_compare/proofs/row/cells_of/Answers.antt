use Rattle.std.proofs.Common.{subst}
use Rattle.gs_compare.specs.Rows.{IsCell}
use Rattle.gs_compare.specs.declared.row.Column.{Column}
use Rattle.gs_compare.proofs.Zipping.{zip_more}
use Rattle.gs_compare.proofs.row.cells_of.Goals as goal

pub loop-column-preserved : goal.loop-column-preserved
loop-column-preserved g c =
    let key = c.args.key in
    let here = c.column-item.result in
    zip_more (IsCell key) c.args.columns.now c.loop-column.column-index here c.loop-column.cells.items c.push.new.self.items c.in_ok-cell.cell c.loop-column-test.true c.in_ok-push.ensures.items c.loop-column.invariant
    (subst (λ (x : Column g.row.P.Denot). IsCell key x c.in_ok-cell.cell) c.column-item.is c.in_ok-cell.ensures)
