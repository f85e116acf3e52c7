-- Times, in entries and in ticks.
use Rattle.std.specs.Prelude.{ℕ, ◌+◌, ◌-◌, ◌^◌, min}
use Rattle.gs_turns.specs.declared.time.Time.{Time}

abbrev pub no_time : Time
no_time = record { entries = 0; ticks = 0 }

-- a number as far as 64 bits hold it
abbrev pub in_word : ℕ → ℕ
in_word n = min n (2 ^ 64 - 1)

-- a time and so many entries and ticks more
abbrev pub time_then : ℕ → ℕ → Time → Time
time_then entries ticks t = record { entries = in_word (t.entries + entries); ticks = in_word (t.ticks + ticks) }
