use Rattle.std.proofs.Common.{◌∙◌, ap, map}
use Rattle.std.proofs.Math.Seq.{map-set_same}
use Rattle.gs_timeline.specs.Lives.{born}
use Rattle.gs_timeline.proofs.lives.add_stays.Goals.{then-index-lives+in_ok-add_stay, else-index-lives}
use Rattle.gs_timeline.proofs.lives.add_stays.Goals as goal

pub loop-stay-preserved : goal.loop-stay-preserved
loop-stay-preserved c =
    elim c.if-index-lives.branch [
      | then-index-lives+in_ok-add_stay w ↦ ap (map born) w.lives-is ∙ (map-set_same born c.loop-stay.lives c.index_of-index.result w.add_stay.new.self w.index-lives-index.result w.add_stay.ensures ∙ c.loop-stay.invariant)
      | else-index-lives w ↦ ap (map born) w.lives-is ∙ c.loop-stay.invariant
    ]
