use Rattle.std.proofs.Common.{◌++◌, flat_map, map, refl, subst, Option, List, ℕ}
use Rattle.std.proofs.lemmas.Result.{on_err_weaker, on_ok_weaker}
use Rattle.std.specs.Io.KnownBytes.{Appends}
use Rattle.gs_timeline.specs.Bars.{pieces_of, scale}
use Rattle.gs_timeline.specs.Counts.{told_by}
use Rattle.gs_timeline.specs.Lives.{born, class_among}
use Rattle.gs_timeline.specs.Pieces.{HasEach}
use Rattle.gs_timeline.specs.Stays.{all_stays}
use Rattle.gs_timeline.specs.declared.drawing.Picture.TheInside.{Inside}
use Rattle.gs_timeline.proofs.Sent.{grows_more, sends_grows, sends_last}
use Rattle.gs_timeline.proofs.drawing.Picture.write.Goals as goal

abbrev HasText : Option (List ℕ) → Option (List ℕ) → List (List ℕ) → Type 0
HasText a b pieces = (text : List ℕ) × Appends a b text × HasEach pieces text

abbrev pieces : Inside → List (List ℕ)
pieces p = told_by p.all.counts ++ flat_map (pieces_of (scale p.part) (class_among (map born p.all.lives.items)) p.all.endings) (all_stays p.all.endings p.cpus)

pub returns-clause-written : goal.returns-clause-written
returns-clause-written g c =
    let ps = pieces c.self.inside in
    let first = g.W.Write.contents c.args.writer.now in
    let last = g.W.Write.contents c.send.new.writer in
    let end = c.draw.new.out in
    let drawn = c.in_ok-draw.ensures.sent in
    on_ok_weaker c.send.result
    (λ sent.
    let all = sends_last ps first (g.W.Write.contents c.draw.new.writer) last drawn.0 end.settled end.told (end.settled ++ end.told) drawn.1 sent refl in
    subst (λ (qs : List (List ℕ)). HasText first last qs) c.self.view_is all)
    c.send.ensures.sent

pub returns-clause-stuck : goal.returns-clause-stuck
returns-clause-stuck g c =
    on_err_weaker c.send.result
    (λ more. grows_more _ _ _ (sends_grows (pieces c.self.inside) _ _ _ _ c.in_ok-draw.ensures.sent.1) more)
    c.send.ensures.stuck
