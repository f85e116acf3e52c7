-- The CPUs that can still be chosen.
use Rattle.std.specs.Prelude.{not, ◌&&◌, ◌≡◌, ℕ, Bool, List, []}
use Rattle.gs_layout.specs.declared.facts.Class.{Class}
use Rattle.gs_layout.specs.declared.facts.Class.TheVariants.{Zero, One}
use Rattle.gs_layout.specs.View.{Look}
use Rattle.gs_status.specs.Masks.{has, has_none}
use Rattle.gs_status.specs.declared.mask.TheConstants.{MOST_CPUS}
use Rattle.gs_policy.specs.declared.candidates.Candidates.{Candidates}
use Rattle.gs_policy.specs.declared.choice.Choice.{Choice}
use Rattle.gs_policy.specs.Plan.{choice, planned, uses}
use Rattle.gs_policy.specs.Shown.{Shown}

-- the mask of the CPUs that a thread of a class may take from somebody
abbrev pub busy_for : Candidates → Class → ℕ
busy_for l Zero = l.zero_class
busy_for l One = l.one_class

-- whether a CPU is one of these
abbrev pub is_busy_for : Candidates → Class → ℕ → Bool
is_busy_for l class c = has (busy_for l class) c

-- these masks have just the CPUs that a thread of class 0, and one of class 1, may take by a test
pub record AreTakenBy (test : Class → ℕ → Bool) (zero_class one_class : ℕ) : Type 0 where
  pub by_zero : (c : ℕ) → has zero_class c ≡ test Zero c
  pub by_one : (c : ℕ) → has one_class c ≡ test One c

-- the later ones are the earlier ones without the CPUs that these choices use
pub record AreLeft (earlier later : Candidates) (xs : List Choice) : Type 0 where
  pub free : (c : ℕ) → has later.free c ≡ (has earlier.free c && not (uses xs c))
  pub busy : (class : Class) (c : ℕ) → is_busy_for later class c ≡ (is_busy_for earlier class c && not (uses xs c))

-- whether none can be chosen
abbrev pub are_spent : Candidates → Bool
are_spent l = has_none l.free && (has_none l.zero_class && has_none l.one_class)

-- a thread's choice among these
abbrev pub picked : Candidates → Look → ℕ → List Choice
picked l v t = choice MOST_CPUS (has l.free) (is_busy_for l) [] t (v t)

-- the choices of threads among these, one after another, behind those of a plan
abbrev pub planned_of : Candidates → Look → List Choice → List ℕ → List Choice
planned_of l v xs ts = planned MOST_CPUS (has l.free) (is_busy_for l) v xs ts

-- the choices of threads among these, one after another
abbrev pub choices_of : Candidates → Look → List ℕ → List Choice
choices_of l v ts = planned_of l v [] ts

-- the choices of the threads that wait
abbrev pub plan_among : Candidates → Shown → List Choice
plan_among l s = choices_of l s.view s.queue
