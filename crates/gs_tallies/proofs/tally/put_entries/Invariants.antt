use Rattle.std.proofs.Common.{◌≡◌, map, take}
use Rattle.gs_tallies.specs.Drafts.{entries_in}
use Rattle.gs_tallies.proofs.tally.put_entries.Given as goal

abbrev pub invariant-loop-wait : goal.invariant-loop-wait
invariant-loop-wait l = l.all.items ≡ map entries_in (take l.wait-index l.waits)
