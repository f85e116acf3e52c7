-- What is so of each workload that was read.
use Rattle.std.specs.Prelude.{◌≡◌, ◌≤◌, ◌<◌, ℕ, List, true, false, length, Option, Some, None, Ok, IfSome}
use Rattle.std.specs.List.{All}
use Rattle.gs_kernel.specs.declared.settings.TheConstants.{LEAST_CPUS}
use Rattle.gs_ring.specs.Places.{is_capacity}
use Rattle.gs_script.specs.Header.{policy_said}
use Rattle.gs_script.specs.Naming.{Naming}
use Rattle.gs_status.specs.declared.mask.TheConstants.{MOST_CPUS}
use Rattle.gs_workload.specs.declared.machine.Head.{Head}
use Rattle.gs_workload.specs.declared.workload.AgentPlan.{AgentPlan}
use Rattle.gs_workload.specs.declared.workload.Workload.{Workload}
use Rattle.gs_workload.specs.Machine.{first_early, threads}
use Rattle.gs_status.specs.Masks.{has_none, has_past}
use Rattle.gs_workload.specs.declared.workload.Span.{Span}
use Rattle.gs_workload.specs.declared.workload.Group.{Group}
use Rattle.gs_workload.specs.declared.workload.Taking.{Taking}
use Rattle.gs_workload.specs.declared.workload.Change.{Change}
use Rattle.gs_workload.specs.declared.workload.Change.TheVariants.{HandOff, Crash, Replace}
use Rattle.gs_workload.specs.declared.workload.TheConstants.{MOST_THREADS, MOST_TIME}
use Rattle.gs_workload.specs.Values.{is_thread_name}

-- numbers of ticks, none below the least
pub record IsSpan (least : ℕ) (s : Span) : Type 0 where
  pub low : least ≤ s.least
  pub order : s.least ≤ s.most
  pub high : s.most ≤ MOST_TIME

pub record IsGroup (cpus : ℕ) (g : Group) : Type 0 where
  pub name : is_thread_name g.name ≡ true
  pub some_thread : 1 ≤ g.count
  pub few_threads : g.count ≤ MOST_THREADS
  pub some_cpu : has_none g.mask ≡ false
  pub its_cpus : has_past g.mask cpus ≡ false
  pub run : IsSpan 1 g.run
  pub sleep : IsSpan 1 g.sleep
  pub some_burst : IfSome g.bursts (λ n. 1 ≤ n)
  pub few_bursts : IfSome g.bursts (λ n. n ≤ MOST_TIME)
  pub created : IsSpan 0 g.created

pub record IsTaking (cpus : ℕ) (t : Taking) : Type 0 where
  pub its_cpu : t.cpu < cpus
  pub order : t.from < t.until
  pub high : t.until ≤ MOST_TIME

abbrev pub IsChange : ℕ → Change → Type 0
IsChange cpus (HandOff at cpu) = (at ≤ MOST_TIME) × (cpu < cpus)
IsChange cpus (Crash at) = at ≤ MOST_TIME
IsChange cpus (Replace at cpu) = (at ≤ MOST_TIME) × (cpu < cpus)

-- a text names the policy
pub record IsNamed {A : Type 0} (naming : Naming A) (p : A) : Type 0 where
  pub text : List ℕ
  pub names : policy_said naming text ≡ Ok p

-- the policy is one that a text names, if there is one
abbrev pub IsPolicy : {A : Type 0} → Naming A → Option A → Type 0
IsPolicy naming None = Unit {0}
IsPolicy naming (Some p) = IsNamed naming p

pub record IsHead {A : Type 0} (naming : Naming A) (h : Head A) : Type 0 where
  pub some_cpus : LEAST_CPUS ≤ h.cpus
  pub few_cpus : h.cpus ≤ MOST_CPUS
  pub ring : is_capacity h.ring ≡ true
  pub policy : IsPolicy naming h.policy
  pub some_ticks : 1 ≤ h.ticks
  pub few_ticks : h.ticks ≤ MOST_TIME

pub record IsAgent (a : AgentPlan) : Type 0 where
  pub some_ticks : 1 ≤ a.every
  pub few_ticks : a.every ≤ MOST_TIME
  pub late : IsSpan 0 a.late

-- each number of a workload is in its range
pub record IsWorkload {A : Type 0} (naming : Naming A) (w : Workload A) : Type 0 where
  pub some_cpus : LEAST_CPUS ≤ w.cpus
  pub few_cpus : w.cpus ≤ MOST_CPUS
  pub ring : is_capacity w.ring ≡ true
  pub policy : IsPolicy naming w.policy
  pub some_ticks : 1 ≤ w.ticks
  pub few_ticks : w.ticks ≤ MOST_TIME
  pub agent : IsAgent w.agent
  pub some_group : 1 ≤ length w.groups.items
  pub groups : All (IsGroup w.cpus) w.groups.items
  pub few_threads : threads w.groups.items ≤ MOST_THREADS
  pub takings : All (IsTaking w.cpus) w.takings.items
  pub changes : All (IsChange w.cpus) w.changes.items
  pub order : first_early w.changes.items ≡ None
