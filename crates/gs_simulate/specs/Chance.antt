-- What is drawn, by a seed.
use Rattle.std.specs.Prelude.{ℕ, ◌+◌, ◌-◌, ◌%◌}
use Rattle.rand_pcg.specs.Lcg.{Lcg, started, increment_of}
use Rattle.rand_pcg.specs.Pcg.{multiplier_64}
use Rattle.gs_workload.specs.declared.workload.Span.{Span}

-- the generator of a seed, which is its stream too
unfoldable pub seeded : ℕ → Lcg
seeded seed = started 64 multiplier_64 seed (increment_of 64 seed)

-- the number of a span that a word stands for: words go round it
abbrev pub drawn : Span → ℕ → ℕ
drawn span word = span.least + word % (span.most - span.least + 1)
