use Rattle.std.proofs.Common.{◌<◌, ◌++◌, arith, length}
use Rattle.std.proofs.KnownBytes.{Appends-nil}
use Rattle.std.proofs.lemmas.List.{length-append}
use Rattle.gs_explain.specs.Outlined.{outline_text, widened}
use Rattle.gs_explain.proofs.Outlining.{some_object}
use Rattle.gs_explain.proofs.Retelling.{on_err}
use Rattle.gs_explain.proofs.objects.add_object.Goals as goal

pub returns-in_err-push_object-clause-begun : goal.returns-in_err-push_object-clause-begun
returns-in_err-push_object-clause-begun g c =
    let text = c.args.text.now in
    let o = widened c.args.asides.now c.args.short.now in
    let bytes = outline_text text o in
    let more : 0 < length (c.args.block.now ++ bytes) = omega (arith, some_object text o, length-append c.args.block.now bytes) in
    on_err c.from_residual.result (0, more, Appends-nil (g.W.Write.contents c.args.writer.now))
