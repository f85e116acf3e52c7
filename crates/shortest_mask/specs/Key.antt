-- The key of a waiting thread: on how many CPUs it may run.
use Rattle.std.specs.Prelude.{ℕ, count_ones}
use Rattle.gs_keyed.specs.Order.{Waiting}
use Rattle.gs_policy.specs.Shown.{Shown}

-- how many CPUs are in its mask: a mask has a bit for each, 1 if the CPU is in it
abbrev pub shortest_mask : Shown → Waiting → ℕ
shortest_mask s w = count_ones w.known.facts.mask
