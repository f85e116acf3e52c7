use Rattle.std.proofs.Common.{length}
use Rattle.threads_driver.proofs.+run_all.Given as goal

abbrev pub decreases-run_all : goal.decreases-run_all
decreases-run_all g l = length l.words.now
