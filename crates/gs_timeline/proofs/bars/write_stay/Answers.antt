use Rattle.std.proofs.Common.{◌∷◌, [], subst, Option, List, ℕ}
use Rattle.std.proofs.lemmas.Result.{on_ok_weaker}
use Rattle.gs_layout.specs.declared.facts.Class.{Class}
use Rattle.gs_timeline.specs.Bars.{bar_front, ends, reason, scale}
use Rattle.gs_timeline.specs.Lives.{class_known}
use Rattle.gs_timeline.specs.Pieces.{Adds}
use Rattle.gs_timeline.proofs.Pieces.{adds_then}
use Rattle.gs_timeline.proofs.bars.write_stay.Goals as goal

pub returns : goal.returns
returns c =
    let v = scale c.args.part.now in
    let s = c.args.stay.now in
    let old = c.args.out.now.settled in
    let barred = c.write_bar.new.out.settled in
    let titled = c.write_title.new.out.settled in
    let new = c.write_end.new.out.settled in
    let front : List ℕ = bar_front v (class_known c.args.life) s in
    let bar : Adds (front ∷ []) old barred = subst (λ (k : Option Class). Adds (bar_front v k s ∷ []) old barred) c.class_known-class.ensures c.in_ok-write_bar.ensures in
    let both = adds_then (front ∷ []) (reason c.args.ending ∷ []) old barred titled bar c.in_ok-write_title.ensures in
    on_ok_weaker c.write_end.result
    (λ ended. adds_then (front ∷ reason c.args.ending ∷ []) (ends v c.args.ending s) old titled new both (subst (λ (t : List ℕ). Adds (ends v c.args.ending s) t new) c.write_label.ensures ended))
    c.write_end.ensures
