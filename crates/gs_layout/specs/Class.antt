-- The classes of threads.
use Rattle.std.specs.Prelude.{ℕ}
use Rattle.gs_layout.specs.declared.facts.Class.{Class}
use Rattle.gs_layout.specs.declared.facts.Class.TheVariants.{Zero, One}

abbrev pub class_number : Class → ℕ
class_number Zero = 0
class_number One = 1
