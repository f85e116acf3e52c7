-- Who was on a CPU, as a history is walked.
use Rattle.std.specs.Prelude.{Bool, true, false, ℕ, ◌+◌, nat_eq, Option, None, Some, List, [], ◌∷◌, ◌++◌, if◌then◌else◌}
use Rattle.std.specs.Option.{option_eq, option_map}
use Rattle.gs_layout.specs.declared.message.Message.TheVariants.{Thread}
use Rattle.gs_layout.specs.Message.{takes_off_cpu}
use Rattle.gs_journal.specs.declared.entry.Entry.{Entry}
use Rattle.gs_journal.specs.declared.entry.Entry.TheVariants.{Placed, Posted, Torn}
use Rattle.gs_journal.specs.History.{ends_run, placed_on}
use Rattle.gs_journal.specs.Standing.{then_stands}
use Rattle.gs_timeline.specs.declared.stay.Stay.{Stay}
use Rattle.gs_timeline.specs.Stays.{stay}

-- the stays that ended, and who is on the CPU, with the entry since which that is so
pub record LaneOf : Type 0 where
  pub ended : List Stay
  pub there : Option (ℕ × ℕ)

-- a CPU on which nobody was yet
abbrev pub vacant : LaneOf
vacant = record { ended = []; there = None }

-- who is on the CPU
abbrev pub seat : LaneOf → Option ℕ
seat l = option_map (λ (p : ℕ × ℕ). p.0) l.there

-- the stay of whoever is there, up to an entry
abbrev pub standing_stay : ℕ → ℕ → Option (ℕ × ℕ) → List Stay
standing_stay c n None = []
standing_stay c n (Some p) = stay c p.0 p.1 n ∷ []

-- all stays behind so many entries
abbrev pub told : ℕ → ℕ → LaneOf → List Stay
told c n l = l.ended ++ standing_stay c n l.there

-- whoever is there leaves by entry n
abbrev pub left : ℕ → ℕ → LaneOf → LaneOf
left c n l = record { ended = told c n l; there = None }

-- a thread leaves by entry n, if it is there
abbrev pub gone : ℕ → ℕ → ℕ → LaneOf → LaneOf
gone c t n l = if option_eq nat_eq (Some t) (seat l) then left c n l else l

-- entry n leaves this thread on the CPU, or nobody: if that is as before, nothing changes
abbrev pub seated : ℕ → ℕ → Option ℕ → LaneOf → LaneOf
seated c n after l = if option_eq nat_eq after (seat l) then l else record (left c n l) { there = option_map (λ (t : ℕ). (t, n)) after }

-- what entry n makes of a CPU
abbrev pub lane_then : ℕ → Entry → ℕ → LaneOf → LaneOf
lane_then n x c l = seated c n (then_stands (placed_on c x) ends_run x (seat l)) l

-- whether an entry takes a thread off its CPU, or all
abbrev pub empties : Entry → Bool
empties Torn = true
empties (Posted (Thread t s c)) = takes_off_cpu c
empties _ = false

-- the thread that an entry places, and on which CPU, if it places one
abbrev pub placing : Entry → Option (ℕ × ℕ)
placing (Placed t s c g) = Some (t, c)
placing _ = None

-- the thread that an entry is about, if it is a message about one
abbrev pub subject : Entry → Option ℕ
subject (Posted (Thread t s c)) = Some t
subject _ = None

-- each CPU from one on after a change
abbrev pub each_then : (ℕ → LaneOf → LaneOf) → ℕ → List LaneOf → List LaneOf
each_then f c [] = []
each_then f c (l ∷ ls) = f c l ∷ each_then f (c + 1) ls
