-- What beliefs always are.
use Rattle.std.specs.Prelude.{ℕ, ◌≤◌, ◌≡◌, Option, None, Some, List, length, map}
use Rattle.gs_status.specs.declared.mask.TheConstants.{MOST_CPUS}
use Rattle.gs_beliefs.specs.declared.running.Running.{Running}
use Rattle.gs_beliefs.specs.ByThread.{StandApart}

-- the thread that a belief is of
abbrev pub thread_of : Option Running → Option ℕ
thread_of None = None
thread_of (Some r) = Some r.tid

-- no more than the most CPUs, and as many stamps as beliefs; the threads that are believed to run are found, each on one CPU
pub record IsCpus (beliefs : List (Option Running)) (running stamps : List (Option ℕ)) : Type 0 where
  pub most : length beliefs ≤ MOST_CPUS
  pub even : length stamps ≡ length beliefs
  pub found : running ≡ map thread_of beliefs
  pub apart : StandApart running
