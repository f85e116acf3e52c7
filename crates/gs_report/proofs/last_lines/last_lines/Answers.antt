use Rattle.std.proofs.Common.{◌∙◌, ap}
use Rattle.std.specs.Str.Iter.{lines_rest}
use Rattle.std.proofs.lemmas.Iterator.Splits.{YieldsList-from_lines}
use Rattle.std.proofs.lemmas.Iterator.Consumers.{YieldsList-end}
use Rattle.circular_buffer.specs.Buffer.{buffer}
use Rattle.gs_report.proofs.Texts.{keep_last-push, last_lines_kept}
use Rattle.gs_report.proofs.last_lines.last_lines.Goals as goal

pub loop-line-preserved : goal.loop-line-preserved
loop-line-preserved c =
    let before = c.loop-line.invariant in
    let pushed = keep_last-push c.min-most.result c.loop-line.yielded c.in-Some.line in
    rw before at c.push_back.ensures.items ∙ ap (λ items. buffer items c.min-most.result) pushed

pub returns : goal.returns
returns c =
    let rest = ap lines_rest c.into_iter-line-iterator.ensures.into_iter_gives ∙ c.lines-line-items.ensures.rest in
    let read = YieldsList-end (YieldsList-from_lines c.args.text.now rest) c.loop-line.yielded c.loop-line.line-iterator c.loop-line.yielded_by c.next.result c.next.new.self c.in-None.is c.next.ensures.steps in
    rw c.loop-line.invariant (last_lines_kept c.args.last c.min-most.result c.args.text.now c.loop-line.yielded c.min-most.ensures read.0)
