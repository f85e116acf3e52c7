use Rattle.std.proofs.Common.{[]}
use Rattle.gs_kernel.specs.declared.command.Command.TheVariants as commands
use Rattle.gs_core.specs.declared.event.Event.TheVariants as events
use Rattle.gs_script.specs.Rows as rows
use Rattle.gs_script.specs.Rows.{reads}
use Rattle.gs_script.proofs.PlainLines.{number_read, read_added}
use Rattle.gs_script.proofs.plain_line.to_thread.Goals as goal

pub returns : goal.returns
returns g c =
    read_added (reads (rows.to_thread [] c.args.event)) c.of_kernel.result _ _ _ _
    (rw c.of_kernel.ensures (number_read (λ tid. events.Kernel (commands.Thread tid c.args.event)) 4294967295 c.in_ok-tid.tid _ _ c.in_ok-tid.ensures))
    c.push_reserved.ensures.items
