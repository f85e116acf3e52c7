-- The ticks of those who run, by class.
use Rattle.std.specs.Prelude.{Bool, true, false, ℕ, Option, None, Some, if◌then◌else◌}
use Rattle.std.specs.List.{sum_by}
use Rattle.gs_layout.specs.declared.facts.Class.{Class}
use Rattle.gs_layout.specs.declared.facts.Class.TheVariants.{Zero, One}
use Rattle.gs_layout.specs.declared.known.Known.{Known}
use Rattle.gs_layout.specs.View.{Look}
use Rattle.gs_beliefs.specs.declared.running.Running.{Running}
use Rattle.gs_beliefs.specs.Cpus.{Cpus}

-- whether two classes are one
abbrev pub same_class : Class → Class → Bool
same_class Zero Zero = true
same_class One One = true
same_class _ _ = false

-- whether a thread is known, and of a class
abbrev pub is_of_class : Class → Option Known → Bool
is_of_class class None = false
is_of_class class (Some k) = same_class k.facts.class class

-- the ticks of a belief, if it is of a thread of a class
abbrev pub ticks_had : Class → Look → Option Running → ℕ
ticks_had class v None = 0
ticks_had class v (Some r) = if is_of_class class (v r.tid) then r.ticks else 0

-- the ticks that the threads of a class have had that are believed to run
abbrev pub class_ticks : Class → Look → Cpus → ℕ
class_ticks class v cpus = sum_by (ticks_had class v) cpus.believed
