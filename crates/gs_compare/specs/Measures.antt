-- What is measured of a run.
use Rattle.std.specs.Prelude.{◌≡◌, ℕ, ◌==◌, ◌&&◌, Bool, true, false, if◌then◌else◌, Option, None, Some, List, [], codes, get_or, length, map}
use Rattle.std.specs.List.{AllZip, count_by, filter, range_with_len}
use Rattle.std.specs.Option.{option_map}
use Rattle.gs_layout.specs.declared.facts.Class.{Class}
use Rattle.gs_layout.specs.declared.facts.Class.TheVariants.{Zero, One}
use Rattle.gs_layout.specs.declared.outcome.Outcome.{Outcome}
use Rattle.gs_layout.specs.declared.outcome.Outcome.TheVariants as outcomes
use Rattle.gs_layout.specs.Outcome.{outcome_number}
use Rattle.gs_journal.specs.History.{History}
use Rattle.gs_kernel.specs.declared.landing.Landing.{Landing}
use Rattle.gs_core.specs.Machine.{StateOf}
use Rattle.gs_session.specs.Session.{Session}
use Rattle.gs_timeline.specs.declared.ending.Ending.{Ending}
use Rattle.gs_timeline.specs.declared.ending.Ending.TheVariants.{Blocked, Yielded, Died}
use Rattle.gs_turns.specs.Knowing.{AreKnown}
use Rattle.gs_turns.specs.Turns.{IsTurns}
use Rattle.gs_turns.specs.declared.stance.Known.{Known}
use Rattle.gs_turns.specs.declared.turn.Turn.{Turn}
use Rattle.gs_tallies.specs.Accounts.{IsAccountOfClass, IsAccountOfThread, created_in}
use Rattle.gs_tallies.specs.Tallies.{is_of_class, same_class}
use Rattle.gs_tallies.specs.declared.account.Account.{Account}
use Rattle.gs_tallies.specs.declared.spread.Spread.{Spread}
use Rattle.gs_usage.specs.Uses.{usage_of}
use Rattle.gs_usage.specs.declared.usage.Usage.{Usage}
use Rattle.gs_compare.specs.declared.measure.Key.{Key}
use Rattle.gs_compare.specs.declared.measure.Measure.{Measure}
use Rattle.gs_compare.specs.declared.measure.Measure.TheVariants.{Bursts, WaitedHalf, WaitedNinety, WaitedNinetyNine, WaitedMost, Ran, Preempted, Migrated, Stale, Displaced, WorstShare, IdleWanted}
use Rattle.gs_compare.specs.declared.measured.Measured.{Measured}
use Rattle.gs_compare.specs.declared.measured.Measures.{Measures}
use Rattle.gs_compare.specs.Shares.{total_of, worst_share}

-- what a measure is called
abbrev pub measure_text : Measure → List ℕ
measure_text Bursts = codes "bursts"
measure_text WaitedHalf = codes "waited p50"
measure_text WaitedNinety = codes "waited p90"
measure_text WaitedNinetyNine = codes "waited p99"
measure_text WaitedMost = codes "waited most"
measure_text Ran = codes "ran"
measure_text Preempted = codes "preempted"
measure_text Migrated = codes "migrated"
measure_text Stale = codes "stale"
measure_text Displaced = codes "displaced"
measure_text WorstShare = codes "worst share"
measure_text IdleWanted = codes "idle wanted"

-- whether a stay that ended so was a whole burst: the thread left the CPU by itself
abbrev pub ends_burst : Ending → Bool
ends_burst Blocked = true
ends_burst Yielded = true
ends_burst Died = true
ends_burst _ = false

-- whether a turn is of a thread of a class, and ended a burst
abbrev pub is_burst_of : Class → Turn → Bool
is_burst_of k t = is_of_class (Some k) t && ends_burst t.ending

-- how many slots of an account came to an outcome
abbrev pub count_at : Account → Outcome → ℕ
count_at a o = get_or a.landings (outcome_number o) 0

-- whether an account is of a class
abbrev pub tells_of : Class → Account → Bool
tells_of k a = same_class a.class (Some k)

abbrev pub ran_ticks_of : Account → ℕ
ran_ticks_of a = a.tally.sums.ran.ticks

-- how many ticks each thread of a class ran, by what each created thread comes to
abbrev pub rans_of : Class → List Account → List ℕ
rans_of k threads = map ran_ticks_of (filter (tells_of k) threads)

-- what is measured of a class: by the turns, by how many ticks each of its threads ran, and by what its turns and landings come to
abbrev pub measures_of : Class → List Turn → List ℕ → Account → Measures
measures_of k turns rans a =
    record {
      bursts = count_by (is_burst_of k) turns;
      waits = a.tally.waits_in_ticks;
      ran = a.tally.sums.ran.ticks;
      preempted = a.tally.sums.preempted;
      migrated = a.tally.sums.migrated;
      stale = count_at a outcomes.Stale;
      displaced = count_at a outcomes.Displaced;
      worst_share = worst_share rans;
    }

-- the same, if a thread of the class was created
abbrev pub class_measures : Class → List Turn → List Account → Account → Option Measures
class_measures k turns threads a = if length (rans_of k threads) == 0 then None else Some (measures_of k turns (rans_of k threads) a)

-- for how many ticks CPUs were idle while a thread waited that might run on them
abbrev pub wanted_ticks : Usage → ℕ
wanted_ticks u = u.wanted.ticks

abbrev pub idle_wanted : List Usage → ℕ
idle_wanted usages = total_of (map wanted_ticks usages)

-- this is measured of turns and landings, by what is known of each thread, and by what CPUs were used for
pub record Weighs (known : List Known) (turns : List Turn) (landings : List Landing) (usages : List Usage) (m : Measured) : Type 0 where
  pub zero : Account
  pub of_zero : IsAccountOfClass known turns landings (Some Zero) zero
  pub one : Account
  pub of_one : IsAccountOfClass known turns landings (Some One) one
  pub threads : List Account
  pub of_threads : AllZip (IsAccountOfThread known turns landings) (created_in known) threads
  pub is : m ≡ record { zero = class_measures Zero turns threads zero; one = class_measures One turns threads one; idle_wanted = idle_wanted usages }

-- this is measured of a history on so many CPUs, and of what became of slots
pub record IsMeasured (landings : List Landing) (cpus : ℕ) (h : History) (m : Measured) : Type 0 where
  pub turns : List Turn
  pub are : IsTurns cpus h turns
  pub known : List Known
  pub tell : AreKnown h (length h) known
  pub weighs : Weighs known turns landings (map (usage_of h) (range_with_len 0 cpus)) m

-- what happened in a session, and on how many CPUs: nothing, if no header was heard
abbrev pub history_in : {A : Type 0} → Option (StateOf A) → History
history_in None = []
history_in (Some m) = m.history

abbrev pub cpus_in : {A : Type 0} → Option (StateOf A) → ℕ
cpus_in None = 0
cpus_in (Some m) = m.settings.cpus

abbrev pub history_of : {A : Type 0} → Session A → History
history_of s = history_in s.opened

abbrev pub cpus_of : {A : Type 0} → Session A → ℕ
cpus_of s = cpus_in s.opened

-- one of the measures of a class. Of no waits there is no percentile
abbrev pub of_class : Measure → Measures → Option ℕ
of_class Bursts p = Some p.bursts
of_class WaitedHalf p = option_map (λ (s : Spread). s.half) p.waits
of_class WaitedNinety p = option_map (λ (s : Spread). s.ninety) p.waits
of_class WaitedNinetyNine p = option_map (λ (s : Spread). s.ninety_nine) p.waits
of_class WaitedMost p = option_map (λ (s : Spread). s.all) p.waits
of_class Ran p = Some p.ran
of_class Preempted p = Some p.preempted
of_class Migrated p = Some p.migrated
of_class Stale p = Some p.stale
of_class Displaced p = Some p.displaced
of_class WorstShare p = p.worst_share
of_class IdleWanted p = None

-- what was measured of a class
abbrev pub part_of : Class → Measured → Option Measures
part_of Zero m = m.zero
part_of One m = m.one

abbrev pub of_part : Measure → Option Measures → Option ℕ
of_part measure None = None
of_part measure (Some p) = of_class measure p

-- one of the measures of the whole machine
abbrev pub of_machine : Measure → Measured → Option ℕ
of_machine IdleWanted m = Some m.idle_wanted
of_machine _ m = None

-- the value of a measure, if it has one: of a class, or of the whole machine
abbrev pub value_for : Option Class → Measure → Measured → Option ℕ
value_for None measure m = of_machine measure m
value_for (Some k) measure m = of_part measure (part_of k m)

abbrev pub value_of : Key → Measured → Option ℕ
value_of key m = value_for key.class key.measure m
