use Rattle.std.proofs.Common.{◌≡◌, ◌∙◌, ◌++◌, ap, append-nil, append_assoc, subst}
use Rattle.gs_explain.specs.Rows.{heading}
use Rattle.gs_explain.specs.Retold.{IsBegun}
use Rattle.gs_explain.proofs.Retelling.{begun_more, moves_begun, moves_then, on_err}
use Rattle.gs_explain.proofs.pieces.add_part.Goals as goal

pub returns-in_err-add-clause-begun : goal.returns-in_err-add-clause-begun
returns-in_err-add-clause-begun g c =
    let head = heading (c.args.number, c.args.line.now) in
    let is : c.as_bytes.result.now ≡ head = c.as_bytes.ensures.value ∙ (c.row.view_is ∙ (c.put_heading.ensures ∙ (ap (λ t. head ++ t) c.clear.ensures ∙ append-nil head))) in
    let a = g.W.Write.contents c.args.writer.now in
    let b = g.W.Write.contents c.add.new.writer in
    let block = c.args.block.now.items in
    on_err c.from_residual.result
    (subst (λ t. IsBegun a b t) (append_assoc block head c.args.bytes.now) (begun_more a b (block ++ head) c.args.bytes.now (subst (λ t. IsBegun a b (block ++ t)) is c.in_err-add.ensures.begun)))

pub returns-in_err-add_any-clause-begun : goal.returns-in_err-add_any-clause-begun
returns-in_err-add_any-clause-begun g c =
    let head = heading (c.args.number, c.args.line.now) in
    let is : c.as_bytes.result.now ≡ head = c.as_bytes.ensures.value ∙ (c.row.view_is ∙ (c.put_heading.ensures ∙ (ap (λ t. head ++ t) c.clear.ensures ∙ append-nil head))) in
    on_err c.from_residual-in_err-add_any.result
    (moves_begun (g.W.Write.contents c.args.writer.now) (g.W.Write.contents c.add.new.writer) (g.W.Write.contents c.add_any.new.writer) c.args.block.now.items head c.add.new.block.items c.args.bytes.now
    (rw is at c.in_ok-add.ensures.moved) c.in_err-add_any.ensures.begun)

pub returns-clause-moved : goal.returns-clause-moved
returns-clause-moved g c =
    let head = heading (c.args.number, c.args.line.now) in
    let is : c.as_bytes.result.now ≡ head = c.as_bytes.ensures.value ∙ (c.row.view_is ∙ (c.put_heading.ensures ∙ (ap (λ t. head ++ t) c.clear.ensures ∙ append-nil head))) in
    moves_then (g.W.Write.contents c.args.writer.now) (g.W.Write.contents c.add.new.writer) (g.W.Write.contents c.add_any.new.writer) c.args.block.now.items head c.add.new.block.items c.args.bytes.now c.add_any.new.block.items
    (rw is at c.in_ok-add.ensures.moved) c.in_ok-add_any.ensures.moved
