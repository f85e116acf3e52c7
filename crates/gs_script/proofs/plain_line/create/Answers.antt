use Rattle.std.proofs.Common.{sym}
use Rattle.gs_script.specs.Rows as rows
use Rattle.gs_script.specs.Rows.{reads}
use Rattle.gs_script.proofs.PlainLines.{create_read, read_added}
use Rattle.gs_script.proofs.plain_line.create.Goals as goal

pub returns : goal.returns
returns g c =
    read_added (reads rows.create) c.of_kernel.result _ _ _ _
    (rw (c.of_kernel.ensures, c.new.ensures, c.numbered.ensures) (create_read c.in_ok-runnable.runnable c.in_ok-mask.mask c.in_ok-class.class c.in_ok-name.name c.args.text.now c.in_ok-mask.rest.now c.in_ok-class.rest.now c.in_ok-runnable.rest.now c.in_ok-word.word.now c.in_ok-word.left c.in_ok-mask.ensures.number c.in_ok-class.ensures c.in_ok-runnable.ensures c.in_ok-word.ensures (sym c.in_ok-name.ensures)))
    c.push_reserved.ensures.items
