use Rattle.std.proofs.Common.{◌+◌, ◌++◌, [], drop, get_or, append-nil, sym, subst}
use Rattle.std.proofs.lemmas.List.{take_rest}
use Rattle.gs_explain.specs.declared.piece.Piece.{Piece}
use Rattle.gs_sentences.specs.Parts.{part}
use Rattle.gs_explain.specs.Retold.{IsBegun, Leads, piece_text, retold}
use Rattle.gs_explain.proofs.Retelling.{leads_begun, leads_last, leads_moves, leads_next, leads_stuck, leads_wrote, nothing, on_err}
use Rattle.gs_explain.proofs.pieces.write_retold.Goals as goal

pub returns-in_err-add_until-clause-begun : goal.returns-in_err-add_until-clause-begun
returns-in_err-add_until-clause-begun g c =
    let whole = retold 0 c.args.pieces.now c.args.text.now in
    let none : Piece = nothing in
    let i = c.loop-piece.piece-index in
    let again = get_or c.args.pieces.now i none in
    let bytes = part c.loop-piece.done again.at c.args.text.now in
    let told = piece_text again c.args.text.now in
    let rest = retold again.at (drop (i + 1) c.args.pieces.now) c.args.text.now in
    let a = g.W.Write.contents c.args.writer.now in
    let b = g.W.Write.contents c.loop-piece.writer in
    let leads = leads_next a b whole c.loop-piece.block.items c.loop-piece.done c.args.pieces.now i none c.args.text.now c.loop-piece-test.true c.loop-piece.invariant.leads in
    on_err c.from_residual.result (leads_stuck a b (g.W.Write.contents c.add_until.new.writer) whole c.loop-piece.block.items bytes (told ++ rest) leads c.in_err-add_until.ensures.begun)

pub returns-in_err-add_piece-clause-begun : goal.returns-in_err-add_piece-clause-begun
returns-in_err-add_piece-clause-begun g c =
    let whole = retold 0 c.args.pieces.now c.args.text.now in
    let none : Piece = nothing in
    let i = c.loop-piece.piece-index in
    let again = get_or c.args.pieces.now i none in
    let bytes = part c.loop-piece.done again.at c.args.text.now in
    let told = piece_text again c.args.text.now in
    let rest = retold again.at (drop (i + 1) c.args.pieces.now) c.args.text.now in
    let a = g.W.Write.contents c.args.writer.now in
    let b = g.W.Write.contents c.loop-piece.writer in
    let leads = leads_next a b whole c.loop-piece.block.items c.loop-piece.done c.args.pieces.now i none c.args.text.now c.loop-piece-test.true c.loop-piece.invariant.leads in
    let d = g.W.Write.contents c.add_until.new.writer in
    let then = leads_moves a b d whole c.loop-piece.block.items bytes (told ++ rest) c.add_until.new.block.items leads c.in_ok-add_until.ensures.moved in
    on_err c.from_residual-in_err-add_piece.result (leads_stuck a d (g.W.Write.contents c.add_piece.new.writer) whole c.add_until.new.block.items told rest then c.in_err-add_piece.ensures.begun)

pub loop-piece-preserved : goal.loop-piece-preserved
loop-piece-preserved g c =
    let whole = retold 0 c.args.pieces.now c.args.text.now in
    let none : Piece = nothing in
    let i = c.loop-piece.piece-index in
    let again = get_or c.args.pieces.now i none in
    let bytes = part c.loop-piece.done again.at c.args.text.now in
    let told = piece_text again c.args.text.now in
    let rest = retold again.at (drop (i + 1) c.args.pieces.now) c.args.text.now in
    let a = g.W.Write.contents c.args.writer.now in
    let b = g.W.Write.contents c.loop-piece.writer in
    let leads = leads_next a b whole c.loop-piece.block.items c.loop-piece.done c.args.pieces.now i none c.args.text.now c.loop-piece-test.true c.loop-piece.invariant.leads in
    let d = g.W.Write.contents c.add_until.new.writer in
    let then = leads_moves a b d whole c.loop-piece.block.items bytes (told ++ rest) c.add_until.new.block.items leads c.in_ok-add_until.ensures.moved in
    record {
      within = (c.requires.within i none c.loop-piece-test.true).at;
      leads = leads_moves a d (g.W.Write.contents c.add_piece.new.writer) whole c.add_until.new.block.items told rest c.add_piece.new.block.items then c.in_ok-add_piece.ensures.moved;
    }

pub returns-in_err-send-clause-begun : goal.returns-in_err-send-clause-begun
returns-in_err-send-clause-begun g c =
    let whole = retold 0 c.args.pieces.now c.args.text.now in
    let a = g.W.Write.contents c.args.writer.now in
    let b = g.W.Write.contents c.loop-piece.writer in
    let leads = leads_last a b whole c.loop-piece.block.items c.loop-piece.done c.args.pieces.now c.loop-piece.piece-index c.args.text.now c.loop-piece-test.false c.loop-piece.invariant.leads in
    on_err c.from_residual-in_err-send.result (leads_begun a b (g.W.Write.contents c.send.new.writer) whole c.loop-piece.block.items (drop c.loop-piece.done c.args.text.now) leads c.in_err-send.ensures.begun)

pub returns-in_err-write_out-clause-begun : goal.returns-in_err-write_out-clause-begun
returns-in_err-write_out-clause-begun g c =
    let whole = retold 0 c.args.pieces.now c.args.text.now in
    let a = g.W.Write.contents c.args.writer.now in
    let b = g.W.Write.contents c.loop-piece.writer in
    let leads = leads_last a b whole c.loop-piece.block.items c.loop-piece.done c.args.pieces.now c.loop-piece.piece-index c.args.text.now c.loop-piece-test.false c.loop-piece.invariant.leads in
    let left = drop c.loop-piece.done c.args.text.now in
    let d = g.W.Write.contents c.send.new.writer in
    let wrote = leads_wrote a b d whole c.loop-piece.block.items left leads c.in_ok-send.ensures.sent in
    on_err c.from_residual-in_err-write_out.result (leads_begun a d (g.W.Write.contents c.write_out.new.writer) whole left [] (subst (λ t. Leads a whole d t) (sym (append-nil left)) wrote) (subst (λ t. IsBegun d (g.W.Write.contents c.write_out.new.writer) t) (take_rest c.args.text.now c.loop-piece.done) c.in_err-write_out.ensures.err))
