use Rattle.std.proofs.Common.{◌≡◌, ◌++◌, map, take}
use Rattle.gs_trace.specs.Watched.{landed, told_by}
use Rattle.gs_trace.proofs.noting.Noting.add_landings.Given as goal

abbrev pub invariant-loop-landing : goal.invariant-loop-landing
invariant-loop-landing l = told_by l.self.marks.items ≡ told_by l.fn.self.marks.items ++ map landed (take l.landing-index l.landings)
