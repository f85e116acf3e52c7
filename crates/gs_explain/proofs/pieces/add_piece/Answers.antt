use Rattle.std.proofs.Common.{OnErr, ◌++◌, subst, sym}
use Rattle.gs_sentences.specs.declared.tail.Tail.{Tail}
use Rattle.gs_sentences.specs.Tails.{tail_text}
use Rattle.gs_explain.specs.Retold.{IsBegun}
use Rattle.gs_explain.specs.Rows.{heading}
use Rattle.gs_explain.proofs.pieces.add_piece.Goals as goal

pub returns-in-Part-clause-begun : goal.returns-in-Part-clause-begun
returns-in-Part-clause-begun g c =
    let piece = c.args.piece.now in
    subst (λ (t : Tail). OnErr c.add_part.result (IsBegun (g.W.Write.contents c.args.writer.now) (g.W.Write.contents c.add_part.new.writer) (c.args.block.now.items ++ (heading (piece.number, piece.line.now) ++ tail_text c.args.text.now t)))) (sym c.in-Part.is)
    c.add_part.ensures.begun
