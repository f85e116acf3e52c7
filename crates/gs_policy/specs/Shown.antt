-- What a policy is shown.
use Rattle.std.specs.Prelude.{Bool, ℕ, List}
use Rattle.gs_layout.specs.declared.known.Known.{Known}
use Rattle.gs_layout.specs.View.{Look, look_up}
use Rattle.gs_status.specs.Masks.{has}
use Rattle.gs_runq.specs.Queue.{Queue, order}
use Rattle.gs_beliefs.specs.Cpus.{Cpus}
use Rattle.gs_beliefs.specs.declared.cpu_beliefs.CpuBeliefs.{CpuBeliefs}

-- what is known of each thread, what is believed of each CPU, whether the other class holds a CPU, and the threads that wait, in order
pub record Shown : Type 0 where
  pub view : Look
  pub cpus : Cpus
  pub taken : ℕ → Bool
  pub queue : List ℕ

-- what a view, beliefs with the CPUs that are taken, and a queue show
abbrev pub shows : List (ℕ × Known) → CpuBeliefs → Queue → Shown
shows records cpus queue = record { view = look_up records; cpus = cpus.beliefs.now; taken = has cpus.taken; queue = order queue }
