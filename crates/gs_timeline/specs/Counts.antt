-- How many decisions a picture shows, and how many of them came to what.
use Rattle.std.specs.Prelude.{Bool, true, false, ℕ, ◌==◌, ◌&&◌, nat_lt, Option, None, Some, List, [], ◌∷◌, ◌++◌, codes, decimal, flat_map, get_or, if◌then◌else◌}
use Rattle.std.specs.List.{count_by, range_with_len}
use Rattle.std.specs.Option.{is_some}
use Rattle.gs_layout.specs.Outcome.{outcome_number, outcome_numbered}
use Rattle.gs_layout.specs.declared.outcome.TheConstants.{OUTCOMES}
use Rattle.gs_layout.specs.declared.outcome.Outcome.{Outcome}
use Rattle.gs_layout.specs.declared.outcome.Outcome.TheVariants as outcomes
use Rattle.gs_timeline.specs.Marks.{failure_of}
use Rattle.gs_timeline.specs.Places.{Scale, meets}
use Rattle.gs_timeline.specs.Shapes.{outcome_shape, outcome_words}
use Rattle.gs_timeline.specs.declared.counts.Counts.{Counts}
use Rattle.gs_timeline.specs.declared.counts.Which.{Which}
use Rattle.gs_timeline.specs.declared.counts.Which.TheVariants.{Failed, Numbered, Placed, Stamped}
use Rattle.gs_timeline.specs.declared.notes.Mark.{Mark}
use Rattle.gs_timeline.specs.declared.notes.What.{What}
use Rattle.gs_timeline.specs.declared.notes.What.TheVariants as whats
use Rattle.gs_timeline.specs.declared.part.Part.{Part}

-- whether a transaction was stamped
abbrev pub is_stamped : What → Bool
is_stamped (whats.Stamped preempt group) = true
is_stamped _ = false

-- whether its thread was placed
abbrev pub is_placing : Outcome → Bool
is_placing outcomes.Placed = true
is_placing _ = false

abbrev pub is_placed : What → Bool
is_placed (whats.Stamped preempt group) = false
is_placed (whats.Landed o) = is_placing o
is_placed (whats.Late n o) = is_placing o

-- whether what it came to has a number
abbrev pub has_number : ℕ → Option Outcome → Bool
has_number n None = false
has_number n (Some o) = outcome_number o == n

-- whether a decision is counted
abbrev pub takes : Which → Mark → Bool
takes Stamped m = is_stamped m.what
takes Placed m = is_placed m.what
takes Failed m = is_some (failure_of m)
takes (Numbered n) m = has_number n (failure_of m)

abbrev pub is_counted : Part → Which → Mark → Bool
is_counted p c m = meets p.first p.count m.entries && takes c m

-- how many decisions are shown and counted
abbrev pub count_of : Part → Which → List Mark → ℕ
count_of p c ms = count_by (is_counted p c) ms

-- how many of the decisions that a picture shows satisfy a condition
abbrev pub shown_so : Scale → (Mark → Bool) → List Mark → ℕ
shown_so v q ms = count_by (λ m. meets v.first v.count m.entries && q m) ms

-- how many were stamped, how many were placed, and how many were not
abbrev pub sums : ℕ → ℕ → ℕ → List ℕ
sums stamped placed failed = codes "Decisions: stamped " ++ (decimal stamped ++ (codes ", placed " ++ (decimal placed ++ (codes ", not placed " ++ decimal failed))))

-- an outcome and how many came to it: its shape, and then its words
abbrev pub came_to : Outcome → ℕ → List (List ℕ)
came_to o n = (outcome_shape o ++ codes "\"/>\n") ∷ (outcome_words o ++ (codes " " ++ (decimal n ++ codes "</text>\n"))) ∷ []

-- if any did
abbrev pub any_came : Option Outcome → ℕ → List (List ℕ)
any_came None n = []
any_came (Some o) n = if nat_lt 0 n then came_to o n else []

-- what a picture tells of decisions by how many were stamped, placed and not placed, and how many came to the outcome of each number
abbrev pub told_of : ℕ → ℕ → ℕ → (ℕ → ℕ) → List (List ℕ)
told_of stamped placed failed came = (sums stamped placed failed ++ codes "</text>\n") ∷ flat_map (λ n. any_came (outcome_numbered n) (came n)) (range_with_len 0 OUTCOMES)

-- by counts that were made
abbrev pub told_by : Counts → List (List ℕ)
told_by c = told_of c.stamped c.placed c.failed (λ n. get_or c.outcomes.items n 0)

-- of these decisions
abbrev pub decisions : Scale → List Mark → List (List ℕ)
decisions v ms =
    told_of (shown_so v (λ m. is_stamped m.what) ms) (shown_so v (λ m. is_placed m.what) ms) (shown_so v (λ m. is_some (failure_of m)) ms)
    (λ n. shown_so v (λ m. has_number n (failure_of m)) ms)
