use Rattle.std.proofs.Common.{length}
use Rattle.api_tests.proofs.slots.+collect_all.Given as goal

abbrev pub decreases-collect_all : goal.decreases-collect_all
decreases-collect_all l = length l.rest.now
