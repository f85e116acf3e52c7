use Rattle.std.proofs.Common.{◌≡◌, None, take}
use Rattle.gs_journal.specs.History.{at_below}
use Rattle.gs_journal.proofs.query.cpu_of.Given as goal

abbrev pub invariant-loop-cpu : goal.invariant-loop-cpu
invariant-loop-cpu l = at_below l.cpu (take l.n l.journal.entries) l.tid ≡ None
