use Rattle.std.proofs.Common.{◌∙◌, ap, map}
use Rattle.std.proofs.Math.Seq.{map-set_same}
use Rattle.gs_timeline.specs.Lives.{born}
use Rattle.gs_timeline.proofs.lives.keep_words_of_failed.Goals.{then-index-lives+in_ok-keep_words, else-index-lives}
use Rattle.gs_timeline.proofs.lives.keep_words_of_failed.Goals as goal

pub loop-mark-preserved : goal.loop-mark-preserved
loop-mark-preserved c =
    elim c.if-index-lives.branch [
      | then-index-lives+in_ok-keep_words w ↦ ap (map born) w.lives-is ∙ (map-set_same born c.loop-mark.lives c.index_of-index.result w.keep_words.new.self w.index-lives-index.result w.keep_words.ensures ∙ c.loop-mark.invariant)
      | else-index-lives w ↦ ap (map born) w.lives-is ∙ c.loop-mark.invariant
    ]
