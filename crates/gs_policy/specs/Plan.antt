-- Plans that go through the waiting threads in order.
use Rattle.std.specs.Prelude.{Bool, true, false, not, ◌&&◌, ◌==◌, ◌≡◌, ℕ, nat_le, Option, None, Some, List, [], ◌∷◌, ◌++◌, length}
use Rattle.std.specs.List.{list_any}
use Rattle.gs_layout.specs.declared.facts.Class.{Class}
use Rattle.gs_layout.specs.declared.facts.Class.TheVariants.{Zero, One}
use Rattle.gs_layout.specs.declared.known.Known.{Known}
use Rattle.gs_layout.specs.View.{Look}
use Rattle.gs_status.specs.Masks.{has, least}
use Rattle.gs_runq.specs.Queue.{is_in}
use Rattle.gs_beliefs.specs.declared.running.Running.{Running}
use Rattle.gs_beliefs.specs.Cpus.{believed_on, is_free, is_usable}
use Rattle.gs_policy.specs.declared.choice.Choice.{Choice}
use Rattle.gs_policy.specs.Shown.{Shown}

-- whether a choice is for a CPU
abbrev pub is_on : ℕ → Choice → Bool
is_on c x = x.cpu == c

-- whether a plan uses a CPU
abbrev pub uses : List Choice → ℕ → Bool
uses xs c = list_any (is_on c) xs

-- whether a choice is of a thread
abbrev pub is_of : ℕ → Choice → Bool
is_of t x = x.tid == t

-- whether a plan chooses a thread
abbrev pub chooses : List Choice → ℕ → Bool
chooses xs t = list_any (is_of t) xs

-- whether a CPU passes a test, is in a thread's mask, and is not used by a plan yet
abbrev pub is_open : (ℕ → Bool) → Known → List Choice → ℕ → Bool
is_open test k xs c = (test c && has k.facts.mask c) && not (uses xs c)

-- a thread on a free CPU, or else on one where it preempts, or else nowhere
abbrev pub placed : ℕ → Option ℕ → Option ℕ → List Choice
placed t (Some c) o = record { cpu = c; tid = t; preempt = false } ∷ []
placed t None (Some c) = record { cpu = c; tid = t; preempt = true } ∷ []
placed t None None = []

-- the choice of a thread after those of a plan, of so many CPUs. It takes the least that is free, or else the least that a thread of its class may
-- take from somebody
abbrev pub choice : ℕ → (ℕ → Bool) → (Class → ℕ → Bool) → List Choice → ℕ → Option Known → List Choice
choice count free may_take xs t None = []
choice count free may_take xs t (Some k) = placed t (least (is_open free k xs) count) (least (is_open (may_take k.facts.class) k xs) count)

-- the choices of threads, one after another, behind those of a plan
abbrev pub planned : ℕ → (ℕ → Bool) → (Class → ℕ → Bool) → Look → List Choice → List ℕ → List Choice
planned count free may_take v xs [] = xs
planned count free may_take v xs (t ∷ ts) = planned count free may_take v (xs ++ choice count free may_take xs t (v t)) ts

-- from whom a thread may take a CPU: by what is shown, its class, and the CPU
abbrev pub Taking : Type 0
Taking = Shown → Class → ℕ → Bool

-- the plan for threads, in order, by what is shown
abbrev pub plan_for : Taking → Shown → List ℕ → List Choice
plan_for may_take s ts = planned (length s.cpus.believed) (is_free s.cpus s.taken) (may_take s) s.view [] ts

-- the plan for those that wait
abbrev pub plan : Taking → Shown → List Choice
plan may_take s = plan_for may_take s s.queue

-- from nobody
abbrev pub nobody : Taking
nobody s class c = false

-- whether a class is class 1
abbrev pub is_one : Class → Bool
is_one Zero = false
is_one One = true

-- whether a thread is known, and of class 1
abbrev pub is_known_one : Option Known → Bool
is_known_one None = false
is_known_one (Some k) = is_one k.facts.class

-- whether a belief is of a thread of class 1 that has had at least so many ticks
abbrev pub has_had : ℕ → Look → Option Running → Bool
has_had ticks v None = false
has_had ticks v (Some r) = is_known_one (v r.tid) && nat_le ticks r.ticks

-- whether a CPU is usable and believed to run a thread of class 1 that has had at least so many ticks
abbrev pub runs_one : ℕ → Shown → ℕ → Bool
runs_one ticks s c = is_usable s.cpus s.taken c && has_had ticks s.view (believed_on s.cpus c)

-- how many ticks a thread of class 1 has before a thread of a class takes its CPU: class 0 does not wait
abbrev pub slice_for : ℕ → Class → ℕ
slice_for slice Zero = 0
slice_for slice One = slice

-- from threads of class 1: class 0 at once, class 1 after their slice
abbrev pub class_one_after : ℕ → Taking
class_one_after slice s class c = runs_one (slice_for slice class) s c

-- no waiting thread is left beside a free CPU of its mask that the plan does not use
abbrev pub LeavesNone : Shown → List Choice → Type 0
LeavesNone s xs =
    (t c : ℕ) (k : Known) → is_in t s.queue ≡ true → s.view t ≡ Some k → chooses xs t ≡ false → is_free s.cpus s.taken c ≡ true
    → has k.facts.mask c ≡ true → uses xs c ≡ true

-- so it is of each plan that goes through the waiting threads in order
abbrev pub PlansLeaveNone : Type 0
PlansLeaveNone = (may_take : Taking) (s : Shown) → LeavesNone s (plan may_take s)

-- for threads that end in one, a plan is that for the others, followed by this one's choice
abbrev pub PlansInOrder : Type 0
PlansInOrder =
    (may_take : Taking) (s : Shown) (ts : List ℕ) (t : ℕ)
    → plan_for may_take s (ts ++ t ∷ []) ≡ plan_for may_take s ts ++ choice (length s.cpus.believed) (is_free s.cpus s.taken) (may_take s) (plan_for may_take s ts) t (s.view t)
