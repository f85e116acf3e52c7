-- Who finds its home free has its turn first.
use Rattle.std.specs.Prelude.{ℕ, Option, None, Some, if◌then◌else◌}
use Rattle.gs_status.specs.declared.mask.TheConstants.{MOST_CPUS}
use Rattle.gs_status.specs.Masks.{has, least}
use Rattle.gs_beliefs.specs.Cpus.{is_free}
use Rattle.gs_keyed.specs.Order.{Waiting}
use Rattle.gs_policy.specs.Shown.{Shown}

-- the key of a thread with this home: 0 if it is free
abbrev pub home_key : Shown → Option ℕ → ℕ
home_key s None = 1
home_key s (Some home) = if is_free s.cpus s.taken home then 0 else 1

-- a thread's home is the least CPU of its mask
abbrev pub home_first : Shown → Waiting → ℕ
home_first s w = home_key s (least (has w.known.facts.mask) MOST_CPUS)
