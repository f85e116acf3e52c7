-- Which thread is on each CPU.
use Rattle.std.specs.Prelude.{◌≡◌, ◌<◌, ◌==◌, ◌&&◌, ℕ, Option, None, Some, List, if◌then◌else◌, get_or, length}
use Rattle.gs_status.specs.declared.mask.TheConstants.{MOST_CPUS}
use Rattle.gs_status.specs.Masks.{has}
use Rattle.gs_usage.specs.declared.seats.Seats.{Seats}

-- who is on a CPU, by the set of those that somebody is on and the threads by CPU
abbrev pub who_at : ℕ → List ℕ → ℕ → Option ℕ
who_at busy threads i = if has busy i then Some (get_or threads i 0) else None

abbrev pub who : Seats → ℕ → Option ℕ
who s i = who_at s.busy s.threads.items i

-- the CPUs by thread are those that it is on
pub record IsKept (busy : ℕ) (by_cpu by_tid : List ℕ) : Type 0 where
  pub room : length by_cpu ≡ MOST_CPUS
  pub places : (t i : ℕ) → i < MOST_CPUS → has (get_or by_tid t 0) i ≡ (has busy i && (get_or by_cpu i 0 == t))
