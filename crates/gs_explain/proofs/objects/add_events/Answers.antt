use Rattle.std.proofs.Common.{◌++◌, append_assoc, subst, List, ℕ}
use Rattle.std.proofs.lemmas.Result.{on_err_weaker, on_ok_weaker}
use Rattle.gs_explain.specs.Outlined.{again, outline_text, outlines_text, widened}
use Rattle.gs_explain.specs.Retold.{IsBegun}
use Rattle.gs_explain.proofs.Retelling.{begun_more, moves_begun, moves_then, on_err}
use Rattle.gs_explain.proofs.objects.add_events.Goals as goal

pub returns-in_err-add_object-clause-begun : goal.returns-in_err-add_object-clause-begun
returns-in_err-add_object-clause-begun g c =
    let a = g.W.Write.contents c.args.writer.now in
    let b = g.W.Write.contents c.add_object.new.writer in
    let text : List ℕ = c.args.text.now in
    let o = widened c.args.asides.now c.args.short.now in
    let block : List ℕ = c.args.block.now in
    let more = outlines_text text (again o c.args.short.now.times) in
    on_err c.from_residual.result (subst (λ (t : List ℕ). IsBegun a b t) (append_assoc block (outline_text text o) more) (begun_more a b (block ++ outline_text text o) more c.in_err-add_object.ensures.begun))

pub returns-clause-moved : goal.returns-clause-moved
returns-clause-moved g c =
    let a = g.W.Write.contents c.args.writer.now in
    let b = g.W.Write.contents c.add_object.new.writer in
    let d = g.W.Write.contents c.add_again.new.writer in
    let text : List ℕ = c.args.text.now in
    let o = widened c.args.asides.now c.args.short.now in
    let more = outlines_text text (again o c.args.short.now.times) in
    on_ok_weaker c.add_again.result (λ m. moves_then a b d c.args.block.now (outline_text text o) c.add_object.new.block more c.add_again.new.block c.in_ok-add_object.ensures.moved m) c.add_again.ensures.moved

pub returns-clause-begun : goal.returns-clause-begun
returns-clause-begun g c =
    let a = g.W.Write.contents c.args.writer.now in
    let b = g.W.Write.contents c.add_object.new.writer in
    let d = g.W.Write.contents c.add_again.new.writer in
    let text : List ℕ = c.args.text.now in
    let o = widened c.args.asides.now c.args.short.now in
    let more = outlines_text text (again o c.args.short.now.times) in
    on_err_weaker c.add_again.result (λ w. moves_begun a b d c.args.block.now (outline_text text o) c.add_object.new.block more c.in_ok-add_object.ensures.moved w) c.add_again.ensures.begun
