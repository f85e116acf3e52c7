use Rattle.std.proofs.Math.Seq.{map-set_same}
use Rattle.gs_timeline.specs.Lives.{born}
use Rattle.gs_timeline.proofs.lives.tell.Goals as goal

pub returns-then-index-lives : goal.returns-then-index-lives
returns-then-index-lives c = map-set_same born c.args.lives.now c.index_of-index.result c.tell.new.self c.index-lives-index.result c.tell.ensures
