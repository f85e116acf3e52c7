use Rattle.std.proofs.Common.{rules, ◌≡◌, ◌∙◌, ap, length, arith}
use Rattle.gs_threads.specs.declared.row.ThreadRow.{ThreadRow}
use Rattle.gs_threads.specs.Rows.{is_live}
use Rattle.gs_threads.specs.Table.{TableState}
use Rattle.gs_threads.proofs.Living.{changed, unchanged}
use Rattle.gs_threads.proofs.table.ThreadTable.apply.Goals as goal

pub invariant_of-self : goal.invariant_of-self
invariant_of-self c =
    let len = ap (λ (t : TableState). length t.rows) c.self.view_is in (
      c.self.invariant.0,
      c.self.invariant.1,
      changed c.self.inside.live c.set.new.self c.self.inside.rows.items c.in-Thread.tid c.take_in.new.self c.self.invariant.2 c.if-has.ensures.0
          (omega (arith, c.if-has.ensures.1, len))
          (c.set.ensures.here ∙ c.is_live-is_live.ensures) c.set.ensures.others c.set.ensures.room,
    )

pub invariant_of-self-else-is_live-was_live : goal.invariant_of-self-else-is_live-was_live
invariant_of-self-else-is_live-was_live c =
    let len = ap (λ (t : TableState). length t.rows) c.self.view_is in
    let before = c.index_mut-row.result.now in
    let same : is_live c.take_in.new.self.record ≡ is_live before.record = search rules in (
      c.self.invariant.0,
      c.self.invariant.1,
      unchanged c.self.inside.live c.self.inside.rows.items c.in-Thread.tid c.take_in.new.self before c.self.invariant.2 c.if-has.ensures.0
          (omega (arith, c.if-has.ensures.1, len))
          (same ∙ ap (λ (row : ThreadRow). is_live row.record) c.index_mut-row.ensures.value),
    )
