use Rattle.std.specs.Io.KnownBytes.{prepend_known}
use Rattle.gs_serve.proofs.SoFar.{ServesSoFar}
use Rattle.gs_serve.proofs.serving.serve_from.Given as goal

abbrev pub invariant-loop-round : goal.invariant-loop-round
invariant-loop-round g l =
    record {
      serves : ServesSoFar g.A.Answers.way (g.A.Answers.noted l.fn.answers) (g.R.Read.remaining l.fn.reader) (prepend_known l.source (g.R.Read.remaining l.reader)) (g.W.Write.contents l.fn.writer) (g.W.Write.contents l.writer) (g.A.Answers.noted l.answers) l.session;
      follows : g.A.Answers.follows l.answers l.session;
    }
