use Rattle.gs_core.specs.declared.event.Event.TheVariants as events
use Rattle.gs_script.specs.Rows as rows
use Rattle.gs_script.specs.Rows.{reads}
use Rattle.gs_script.proofs.PlainLines.{read_added, stamp_read}
use Rattle.gs_script.proofs.plain_line.stamp.Goals as goal

pub returns : goal.returns
returns g c =
    read_added (reads rows.stamp) (events.Stamp c.in_ok-cpu.cpu c.in_ok-tid.tid c.flags_first.result.0) _ _ _ _
    (stamp_read c.flags_first.result.0 c.args.text.now c.in_ok-cpu.rest.now c.in_ok-tid.rest.now c.flags_first.result.1.now c.in_ok-cpu.cpu c.in_ok-tid.tid c.in_ok-left.left c.in_ok-cpu.ensures.number c.in_ok-tid.ensures.number c.flags_first.ensures c.in_ok-left.ensures)
    c.push_reserved.ensures.items
