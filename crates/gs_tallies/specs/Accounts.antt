-- What the turns and the landings of a class, or of a thread, come to.
use Rattle.std.specs.Prelude.{◌≡◌, ℕ, ◌==◌, Bool, Option, None, Some, List, [], ◌∷◌, is_some, length, map}
use Rattle.std.specs.List.{count_by, filter, range_with_len}
use Rattle.gs_layout.specs.declared.facts.Class.{Class}
use Rattle.gs_layout.specs.declared.facts.Class.TheVariants.{Zero, One}
use Rattle.gs_layout.specs.Outcome.{outcome_number}
use Rattle.gs_kernel.specs.declared.landing.Landing.{Landing}
use Rattle.gs_turns.specs.Knowing.{known_in}
use Rattle.gs_turns.specs.declared.stance.Known.{Known}
use Rattle.gs_turns.specs.declared.turn.Turn.{Turn}
use Rattle.gs_tallies.specs.Tallies.{IsTally, is_of_class, same_class}
use Rattle.gs_tallies.specs.declared.account.Account.{Account}

-- whether a slot came to the outcome of a number
abbrev pub has_outcome : ℕ → Landing → Bool
has_outcome o l = outcome_number l.outcome == o

-- how many slots came to each outcome, in order of the outcomes' numbers
abbrev pub outcomes_of : List Landing → List ℕ
outcomes_of ls = map (λ (o : ℕ). count_by (has_outcome o) ls) (range_with_len 0 15)

-- this is what these turns and landings come to: of a class, or of a thread of that class
pub record IsAccount (k : Option Class) (t : Option ℕ) (ts : List Turn) (ls : List Landing) (a : Account) : Type 0 where
  pub class : a.class ≡ k
  pub tid : a.tid ≡ t
  pub turns : IsTally ts a.tally
  pub landings : a.landings ≡ outcomes_of ls

-- the class of a thread, by what is known of each
abbrev pub class_known : List Known → ℕ → Option Class
class_known threads t = (known_in threads t).class

-- whether what became of a slot concerns a thread of a class: by the thread that the slot names
abbrev pub is_landing_of_class : List Known → Option Class → Landing → Bool
is_landing_of_class threads k l = same_class (class_known threads l.tid) k

abbrev pub is_turn_of : ℕ → Turn → Bool
is_turn_of t x = x.stay.tid == t

abbrev pub is_landing_of : ℕ → Landing → Bool
is_landing_of t l = l.tid == t

-- what a class comes to, and those of which no class is known
abbrev pub IsAccountOfClass : List Known → List Turn → List Landing → Option Class → Account → Type 0
IsAccountOfClass threads ts ls k a = IsAccount k None (filter (is_of_class k) ts) (filter (is_landing_of_class threads k) ls) a

-- what a thread comes to
abbrev pub IsAccountOfThread : List Known → List Turn → List Landing → ℕ → Account → Type 0
IsAccountOfThread threads ts ls t a = IsAccount (class_known threads t) (Some t) (filter (is_turn_of t) ts) (filter (is_landing_of t) ls) a

-- the classes, and none
abbrev pub classes : List (Option Class)
classes = Some Zero ∷ Some One ∷ None ∷ []

-- whether a thread was created: then its class is known
abbrev pub is_created : List Known → ℕ → Bool
is_created threads t = is_some (class_known threads t)

-- the threads that were created, in increasing order of tid
abbrev pub created_in : List Known → List ℕ
created_in threads = filter (is_created threads) (range_with_len 0 (length threads))

-- the place of a class among these
abbrev pub class_place : Option Class → ℕ
class_place (Some Zero) = 0
class_place (Some One) = 1
class_place None = 2
