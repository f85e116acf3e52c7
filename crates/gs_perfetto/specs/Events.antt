-- The events of a trace, as JSON.
use Rattle.std.specs.Prelude.{ℕ, ◌+◌, ◌-◌, List, ◌++◌, codes, decimal}
use Rattle.gs_layout.specs.declared.outcome.Outcome.{Outcome}
use Rattle.gs_lines.specs.Lines.{outcome_text}
use Rattle.gs_timeline.specs.declared.stay.Stay.{Stay}
use Rattle.gs_perfetto.specs.declared.tracks.TheConstants.{CPU_SLICE, FIRST_CPU}

-- the beginning of an event: its kind and its process, its track, and when it happens
abbrev pub event_front : List ℕ → ℕ → ℕ → List ℕ
event_front head track place = head ++ (decimal track ++ (codes ",\"ts\":" ++ decimal place))

-- the track of a CPU
abbrev pub cpu_track : ℕ → ℕ
cpu_track c = FIRST_CPU + c

-- how long a stay is, and whose
abbrev pub slice_length : Stay → List ℕ
slice_length s = codes ",\"dur\":" ++ (decimal (s.to - s.from) ++ (codes ",\"args\":{\"tid\":" ++ decimal s.tid))

-- a stay as a slice of its CPU, up to its thread. It begins at the entry that put the thread there, and ends at the one that took it off
abbrev pub slice_front : Stay → List ℕ
slice_front s = event_front CPU_SLICE.now (cpu_track s.cpu) s.from ++ slice_length s

-- and the rest of it: the line that placed the thread, and what the thread is called
abbrev pub slice_back : Stay → ℕ → List ℕ → List ℕ
slice_back s line name = codes ",\"line\":" ++ (decimal line ++ (codes ",\"entry\":" ++ (decimal s.from ++ (codes "},\"name\":" ++ (name ++ codes "}")))))

-- the name of an outcome, as the name of an event and as an argument
abbrev pub outcome_args : Outcome → List ℕ
outcome_args o = codes ",\"name\":\"" ++ (outcome_text o ++ (codes "\",\"args\":{\"outcome\":\"" ++ outcome_text o))
