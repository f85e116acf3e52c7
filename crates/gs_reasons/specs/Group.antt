-- What fails a group.
use Rattle.std.specs.Prelude.{Bool, true, false, ℕ, ◌==◌, Option, None, Some, List, [], ◌∷◌, if◌then◌else◌}
use Rattle.gs_layout.specs.declared.outcome.Outcome.{Outcome}
use Rattle.gs_layout.specs.declared.outcome.Outcome.TheVariants as outcomes
use Rattle.gs_kernel.specs.declared.landing.Landing.{Landing}
use Rattle.gs_reasons.specs.declared.group.GroupFault.{GroupFault}
use Rattle.gs_reasons.specs.declared.group.GroupFault.TheVariants.{Slot, Twice}

-- whether an outcome is one that a transaction has by itself, and is not to place it
abbrev pub by_itself : Outcome → Bool
by_itself outcomes.Placed = false
by_itself outcomes.GroupFailed = false
by_itself _ = true

-- the first of these landings that would not be placed by itself
abbrev pub own_failure : List Landing → Option GroupFault
own_failure [] = None
own_failure (l ∷ ls) = if by_itself l.outcome then Some (Slot l.cpu l.tid l.outcome) else own_failure ls

-- the CPU of the first of these landings that names a thread
abbrev pub cpu_naming : ℕ → List Landing → Option ℕ
cpu_naming t [] = None
cpu_naming t (l ∷ ls) = if l.tid == t then Some l.cpu else cpu_naming t ls

abbrev pub twice_or : Landing → Option ℕ → Option GroupFault → Option GroupFault
twice_or l (Some c) later = Some (Twice l.tid l.cpu c)
twice_or l None later = later

-- the first of these landings whose thread a later one names too
abbrev pub named_twice : List Landing → Option GroupFault
named_twice [] = None
named_twice (l ∷ ls) = twice_or l (cpu_naming l.tid ls) (named_twice ls)

abbrev pub or_else : Option GroupFault → Option GroupFault → Option GroupFault
or_else (Some f) later = Some f
or_else None later = later

-- what fails a group of which this became: one of it that would not be placed by itself, or two of it that name the same thread
abbrev pub fault_of_group : List Landing → Option GroupFault
fault_of_group ls = or_else (own_failure ls) (named_twice ls)
