use Rattle.gs_script.specs.Rows as rows
use Rattle.gs_script.specs.Rows.{reads}
use Rattle.gs_script.proofs.PlainLines.{affinity_read, read_added}
use Rattle.gs_script.proofs.plain_line.affinity.Goals as goal

pub returns : goal.returns
returns g c =
    read_added (reads rows.affinity) c.of_kernel.result _ _ _ _
    (rw (c.of_kernel.ensures, c.new.ensures) (affinity_read c.args.text.now c.in_ok-tid.rest.now c.in_ok-tid.tid c.in_ok-mask.mask c.in_ok-mask.left c.in_ok-tid.ensures.number c.in_ok-mask.ensures.number))
    c.push_reserved.ensures.items
