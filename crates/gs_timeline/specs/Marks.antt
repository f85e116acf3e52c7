-- What a picture tells of decisions, and how a thread is coloured.
use Rattle.std.specs.Prelude.{ℕ, List, codes, Option, None, Some, if◌then◌else◌, ◌==◌, ◌%◌}
use Rattle.gs_layout.specs.declared.facts.Class.{Class}
use Rattle.gs_layout.specs.declared.facts.Class.TheVariants.{One, Zero}
use Rattle.gs_layout.specs.declared.outcome.Outcome.{Outcome}
use Rattle.gs_layout.specs.declared.outcome.Outcome.TheVariants.{Placed}
use Rattle.gs_timeline.specs.declared.notes.Mark.{Mark}
use Rattle.gs_timeline.specs.declared.notes.What.{What}
use Rattle.gs_timeline.specs.declared.notes.What.TheVariants.{Landed, Late, Stamped}

-- an outcome, unless the thread was placed
abbrev pub unless_placed : Outcome → Option Outcome
unless_placed Placed = None
unless_placed o = Some o

-- what a transaction came to, if it landed and was not placed
abbrev pub failure_in : What → Option Outcome
failure_in (Stamped preempt group) = None
failure_in (Landed outcome) = unless_placed outcome
failure_in (Late number outcome) = unless_placed outcome

abbrev pub failure_of : Mark → Option Outcome
failure_of m = failure_in m.what

-- one of four shades, in turn
abbrev pub one_of_four : ℕ → List ℕ → List ℕ → List ℕ → List ℕ → List ℕ
one_of_four n a b c d = if n % 4 == 0 then a else if n % 4 == 1 then b else if n % 4 == 2 then c else d

-- the shade of a thread: each class has its own hue
abbrev pub shade_of : ℕ → Option Class → List ℕ
shade_of t (Some Zero) = one_of_four t (codes "z0") (codes "z1") (codes "z2") (codes "z3")
shade_of t (Some One) = one_of_four t (codes "o0") (codes "o1") (codes "o2") (codes "o3")
shade_of t None = codes "unknown"
