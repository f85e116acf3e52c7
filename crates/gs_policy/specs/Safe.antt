-- Which plans are safe to stamp, whatever policy made them.
use Rattle.std.specs.Prelude.{Bool, true, false, ℕ, ◌≡◌, Option, None, Some, is_some, List, [], ◌∷◌, map}
use Rattle.gs_layout.specs.declared.known.Known.{Known}
use Rattle.gs_status.specs.Masks.{has}
use Rattle.gs_runq.specs.Queue.{is_in, Apart}
use Rattle.gs_beliefs.specs.Cpus.{believed_on, is_usable}
use Rattle.gs_policy.specs.declared.choice.Choice.{Choice}
use Rattle.gs_policy.specs.Shown.{Shown}

-- whether a thread is known, with a CPU in its mask
abbrev pub allows : Option Known → ℕ → Bool
allows None c = false
allows (Some k) c = has k.facts.mask c

-- a choice of a thread that waits, for a usable CPU that the thread's mask allows. It has leave to preempt exactly if somebody is believed to run
-- there
pub record IsSafeChoice (s : Shown) (x : Choice) : Type 0 where
  pub waits : is_in x.tid s.queue ≡ true
  pub usable : is_usable s.cpus s.taken x.cpu ≡ true
  pub allowed : allows (s.view x.tid) x.cpu ≡ true
  pub preempts : x.preempt ≡ is_some (believed_on s.cpus x.cpu)

-- each choice is safe
abbrev pub AreSafe : Shown → List Choice → Type 0
AreSafe s [] = Unit {0}
AreSafe s (x ∷ xs) = IsSafeChoice s x × AreSafe s xs

-- the threads that a plan chooses, in order
abbrev pub threads : List Choice → List ℕ
threads xs = map (λ x. x.tid) xs

-- the CPUs that a plan uses, in order
abbrev pub cpus : List Choice → List ℕ
cpus xs = map (λ x. x.cpu) xs

-- each choice is safe, no thread is chosen twice, and no CPU is used twice
pub record IsSafePlan (s : Shown) (xs : List Choice) : Type 0 where
  pub choices : AreSafe s xs
  pub threads_apart : Apart (threads xs)
  pub cpus_apart : Apart (cpus xs)
