use Rattle.std.proofs.Common.{◌≡◌, ◌∷◌, [], sym, true}
use Rattle.std.proofs.lemmas.Result.{on_ok_weaker}
use Rattle.gs_timeline.specs.Bars.{end_of, has_letter, scale}
use Rattle.gs_timeline.proofs.Pieces.{adds_if}
use Rattle.gs_timeline.proofs.bars.write_end.Goals as goal

pub returns : goal.returns
returns c =
    let v = scale c.args.part.now in
    let room : has_letter v c.args.stay.now ≡ true = sym c.if-not-has_letter.ensures in
    on_ok_weaker c.write_letter.result (λ added. adds_if (has_letter v c.args.stay.now) (end_of v c.args.ending c.args.stay.now ∷ []) c.args.out.now.settled c.write_letter.new.out.settled room added) c.write_letter.ensures
