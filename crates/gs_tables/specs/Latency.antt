-- Tables of how long threads waited and ran, of what became of slots, and of what CPUs were used for.
use Rattle.std.specs.Prelude.{◌≡◌, Bool, ℕ, ◌+◌, ◌==◌, ◌&&◌, is_none, Option, None, Some, List, [], ◌∷◌, ◌++◌, codes, decimal, get_or, if◌then◌else◌}
use Rattle.std.specs.List.{flat_map}
use Rattle.serde_json.specs.Data.{Data, member, no_members, null, object, string}
use Rattle.serde_json.specs.Written.{compact_text}
use Rattle.gs_layout.specs.declared.outcome.Outcome.{Outcome}
use Rattle.gs_layout.specs.declared.outcome.Outcome.TheVariants as outcomes
use Rattle.gs_layout.specs.Outcome.{outcome_number}
use Rattle.gs_lines.specs.Lines.{line, outcome_text}
use Rattle.gs_tallies.specs.declared.account.Account.{Account}
use Rattle.gs_tallies.specs.declared.spread.Spread.{Spread}
use Rattle.gs_tallies.specs.declared.sums.Sums.{Sums}
use Rattle.gs_turns.specs.declared.time.Time.{Time}
use Rattle.gs_usage.specs.declared.usage.Usage.{Usage}
use Rattle.gs_trace.specs.declared.form.Notation.{Notation}
use Rattle.gs_trace.specs.declared.form.Notation.TheVariants as notations
use Rattle.gs_lines.specs.Columns.{class_word, column}
use Rattle.gs_tables.specs.Numbers.{class_data, count}
use Rattle.gs_tables.specs.Timehist.{times_data}
use Rattle.gs_tables.specs.declared.latency.Unit.{Unit}
use Rattle.gs_tables.specs.declared.latency.Unit.TheVariants.{Entries, Ticks}

-- in what a time is told
abbrev pub unit_text : Unit → List ℕ
unit_text Entries = codes "entries"
unit_text Ticks = codes "ticks"

-- a thread's tid, or 'all' where all threads of a class are meant
abbrev pub tid_word : Option ℕ → List ℕ
tid_word None = codes "all"
tid_word (Some t) = decimal t

abbrev pub time_in : Unit → Time → ℕ
time_in Entries t = t.entries
time_in Ticks t = t.ticks

-- how the waits are spread, if there are any
abbrev pub waits_in : Unit → Account → Option Spread
waits_in Entries a = a.tally.waits_in_entries
waits_in Ticks a = a.tally.waits_in_ticks

abbrev pub spread_words : Option Spread → List ℕ
spread_words None = column 8 (codes "-") ++ column 8 (codes "-") ++ column 8 (codes "-") ++ column 8 (codes "-")
spread_words (Some s) = column 8 (decimal s.half) ++ column 8 (decimal s.ninety) ++ column 8 (decimal s.ninety_nine) ++ column 8 (decimal s.all)

-- whose line it is
abbrev pub who : Account → List ℕ
who a = column 5 (class_word a.class) ++ column 6 (tid_word a.tid)

-- how many stays there were, and how many were preempted and migrated
abbrev pub stays_words : Sums → List ℕ
stays_words s = column 7 (decimal s.stays) ++ column 9 (decimal s.preempted) ++ column 8 (decimal s.migrated)

-- how long threads ran and waited
abbrev pub times_words : Unit → Sums → List ℕ
times_words u s = column 7 (unit_text u) ++ column 9 (decimal (time_in u s.ran)) ++ column 9 (decimal (time_in u s.waited))

-- the first table has two lines for each account, or an object
unfoldable pub waits_heading : List ℕ
waits_heading =
    line (
    column 5 (codes "class") ++ column 6 (codes "tid") ++ column 7 (codes "stays") ++ column 9 (codes "preempted") ++ column 8 (codes "migrated") ++ column 7 (codes "in")
    ++ column 9 (codes "ran") ++ column 9 (codes "waited") ++ column 8 (codes "p50") ++ column 8 (codes "p90") ++ column 8 (codes "p99") ++ column 8 (codes "most"))

-- no tick came while the threads of an account ran and waited
pub record IsTickless (a : Account) : Type 0 where
  pub ran : a.tally.sums.ran.ticks ≡ 0
  pub waited : a.tally.sums.waited.ticks ≡ 0
  pub waits : a.tally.waits_in_ticks ≡ Some (record { half = 0; ninety = 0; ninety_nine = 0; all = 0 })

abbrev pub waits_row : Unit → Account → List ℕ
waits_row u a = line (who a ++ stays_words a.tally.sums ++ times_words u a.tally.sums ++ spread_words (waits_in u a))

abbrev pub option_data : Option ℕ → Data
option_data None = null
option_data (Some n) = count n

abbrev pub spread_data : Option Spread → Data
spread_data None = null
spread_data (Some s) = object (member (codes "most") (count s.all) (member (codes "p50") (count s.half) (member (codes "p90") (count s.ninety) (member (codes "p99") (count s.ninety_nine) no_members))))

abbrev pub time_data : Time → Data
time_data t = times_data t.entries t.ticks

abbrev pub waits_data : Account → Data
waits_data a = object (member (codes "entries") (spread_data a.tally.waits_in_entries) (member (codes "ticks") (spread_data a.tally.waits_in_ticks) no_members))

abbrev pub account_data : Account → Data
account_data a =
    object (
    member (codes "class") (class_data a.class) (
    member (codes "migrated") (count a.tally.sums.migrated) (
    member (codes "preempted") (count a.tally.sums.preempted) (
    member (codes "ran") (time_data a.tally.sums.ran) (
    member (codes "stays") (count a.tally.sums.stays) (
    member (codes "tid") (option_data a.tid) (
    member (codes "waited") (time_data a.tally.sums.waited) (
    member (codes "waits") (waits_data a) no_members))))))))

abbrev pub account_row : Notation → Account → List ℕ
account_row notations.Lines a = waits_row Entries a ++ waits_row Ticks a
account_row notations.Json a = line (compact_text (account_data a))

-- whether nobody is told of: an account of threads of which no class is known, and none of them was placed
abbrev pub is_nobody : Account → Bool
is_nobody a = is_none a.class && (a.tally.sums.stays == 0)

abbrev pub account_shown : Notation → Account → List ℕ
account_shown notation a = if is_nobody a then [] else account_row notation a

-- the second has a line for each outcome that slots of an account came to, or an object
unfoldable pub landings_heading : List ℕ
landings_heading = line (column 5 (codes "class") ++ column 6 (codes "tid") ++ column 8 (codes "landings") ++ codes "  " ++ codes "outcome")

-- all outcomes, in order of their numbers
abbrev pub all_outcomes : List Outcome
all_outcomes =
    outcomes.Placed ∷ outcomes.Gone ∷ outcomes.Displaced ∷ outcomes.NoThread ∷ outcomes.Stale ∷ outcomes.NotRunnable ∷ outcomes.AlreadyPlaced ∷ outcomes.NotAllowed
    ∷ outcomes.CpuIsAgent ∷ outcomes.CpuTaken ∷ outcomes.CpuBusy ∷ outcomes.SeqSpent ∷ outcomes.HistoryFull ∷ outcomes.Malformed ∷ outcomes.GroupFailed ∷ []

abbrev pub count_at : Account → Outcome → ℕ
count_at a o = get_or a.landings (outcome_number o) 0

abbrev pub landing_data : Account → Outcome → Data
landing_data a o =
    object (
    member (codes "class") (class_data a.class) (
    member (codes "landings") (count (count_at a o)) (
    member (codes "outcome") (string (outcome_text o)) (
    member (codes "tid") (option_data a.tid) no_members))))

abbrev pub landing_row : Notation → Account → Outcome → List ℕ
landing_row notations.Lines a o = line (who a ++ column 8 (decimal (count_at a o)) ++ codes "  " ++ outcome_text o)
landing_row notations.Json a o = line (compact_text (landing_data a o))

abbrev pub landing_shown : Notation → Account → Outcome → List ℕ
landing_shown notation a o = if count_at a o == 0 then [] else landing_row notation a o

unfoldable pub landings_shown : Notation → Account → List ℕ
landings_shown notation a = flat_map (landing_shown notation a) all_outcomes

-- the third has two lines for each CPU, or an object
unfoldable pub uses_heading : List ℕ
uses_heading = line (column 5 (codes "cpu") ++ column 7 (codes "in") ++ column 9 (codes "busy") ++ column 9 (codes "agent") ++ column 9 (codes "other") ++ column 9 (codes "wanted") ++ column 9 (codes "idle"))

abbrev pub uses_row : Unit → ℕ → Usage → List ℕ
uses_row u c x =
    line (
    column 5 (decimal c) ++ column 7 (unit_text u) ++ column 9 (decimal (time_in u x.busy)) ++ column 9 (decimal (time_in u x.agent)) ++ column 9 (decimal (time_in u x.other))
    ++ column 9 (decimal (time_in u x.wanted)) ++ column 9 (decimal (time_in u x.idle)))

abbrev pub usage_data : ℕ → Usage → Data
usage_data c x =
    object (
    member (codes "agent") (time_data x.agent) (
    member (codes "busy") (time_data x.busy) (
    member (codes "cpu") (count c) (
    member (codes "idle") (time_data x.idle) (
    member (codes "other") (time_data x.other) (
    member (codes "wanted") (time_data x.wanted) no_members))))))

abbrev pub usage_shown : Notation → ℕ → Usage → List ℕ
usage_shown notations.Lines c x = uses_row Entries c x ++ uses_row Ticks c x
usage_shown notations.Json c x = line (compact_text (usage_data c x))

-- those of CPUs from one on
abbrev pub usages_shown : Notation → ℕ → List Usage → List ℕ
usages_shown notation c [] = []
usages_shown notation c (x ∷ xs) = usage_shown notation c x ++ usages_shown notation (c + 1) xs

-- the names of columns stand above lines alone
abbrev pub headed : Notation → List ℕ → List ℕ
headed notations.Lines names = names
headed notations.Json names = []

abbrev pub waits_table : Notation → List Account → List ℕ
waits_table notation accounts = headed notation waits_heading ++ flat_map (account_shown notation) accounts

abbrev pub landings_table : Notation → List Account → List ℕ
landings_table notation accounts = headed notation landings_heading ++ flat_map (landings_shown notation) accounts

abbrev pub uses_table : Notation → List Usage → List ℕ
uses_table notation usages = headed notation uses_heading ++ usages_shown notation 0 usages

-- the tables, one below another
abbrev pub latency_of : Notation → List Account → List Usage → List ℕ
latency_of notation accounts usages = waits_table notation accounts ++ landings_table notation accounts ++ uses_table notation usages
