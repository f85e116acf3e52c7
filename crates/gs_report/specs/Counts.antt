-- What is counted of the replies of a run.
use Rattle.std.specs.Prelude.{ℕ, ◌+◌, ◌-◌, ◌||◌, if◌then◌else◌, List, [], ◌∷◌, length, Bool, true, false, count_by, sum_by}
use Rattle.std.specs.List.{list_any}
use Rattle.gs_layout.specs.declared.outcome.Outcome.{Outcome}
use Rattle.gs_layout.specs.declared.outcome.Outcome.TheVariants.{Placed}
use Rattle.gs_kernel.specs.declared.landing.Landing.{Landing}
use Rattle.gs_replies.specs.declared.reply.Reply.{Reply}
use Rattle.gs_replies.specs.declared.reply.Reply.TheVariants as replies
use Rattle.gs_report.specs.declared.counts.Counts.{Counts}

-- the landings that a reply tells of
abbrev pub landings_of : Reply → List Landing
landings_of (replies.Landed landings torn) = landings
landings_of (replies.Late number landing torn) = landing ∷ []
landings_of _ = []

-- whether the event of the reply tore the enclave down
abbrev pub tears_down : Reply → Bool
tears_down replies.Torn = true
tears_down (replies.Landed landings torn) = torn
tears_down (replies.Late number landing torn) = torn
tears_down _ = false

-- whether the event of the reply was refused
abbrev pub is_refusal : Reply → Bool
is_refusal (replies.Refused reason) = true
is_refusal _ = false

-- whether the outcome of a landing is Placed
abbrev pub is_placed : Landing → Bool
is_placed a = is_placed_by a.outcome
  where
    is_placed_by : Outcome → Bool
    is_placed_by Placed = true
    is_placed_by _ = false

-- how many of a reply's landings have the outcome Placed
unfoldable pub placed_in : Reply → ℕ
placed_in r = count_by is_placed (landings_of r)

-- and how many otherwise
unfoldable pub unplaced_in : Reply → ℕ
unplaced_in r = length (landings_of r) - placed_in r

-- each event has one reply
abbrev pub counts_of : List Reply → Counts
counts_of rs =
    record {
      events = length rs;
      placed = sum_by placed_in rs;
      refused = count_by is_refusal rs;
      torn = list_any tears_down rs;
      unplaced = sum_by unplaced_in rs;
    }

-- what is counted once there is one more reply
abbrev pub counts_more : Counts → Reply → Counts
counts_more c r =
    record {
      events = c.events + 1;
      placed = c.placed + placed_in r;
      refused = c.refused + (if is_refusal r then 1 else 0);
      torn = c.torn || tears_down r;
      unplaced = c.unplaced + unplaced_in r;
    }
