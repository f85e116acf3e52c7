-- Objects of accounts, slots and CPUs as they are put together.
use Rattle.std.specs.Prelude.{ℕ, Option, None, Some, List, ◌++◌, codes, decimal}
use Rattle.gs_layout.specs.declared.outcome.Outcome.{Outcome}
use Rattle.gs_lines.specs.Lines.{outcome_text}
use Rattle.gs_tallies.specs.declared.account.Account.{Account}
use Rattle.gs_tallies.specs.declared.spread.Spread.{Spread}
use Rattle.gs_tallies.specs.declared.sums.Sums.{Sums}
use Rattle.gs_turns.specs.declared.time.Time.{Time}
use Rattle.gs_usage.specs.declared.usage.Usage.{Usage}
use Rattle.gs_tables.specs.Latency.{count_at}
use Rattle.gs_tables.specs.Timehist.{class_json, times_pieces}

-- a number, or null for none
abbrev pub option_json : Option ℕ → List ℕ
option_json None = codes "null"
option_json (Some n) = decimal n

-- how waits are spread, or null if there are none
abbrev pub spread_json : Option Spread → List ℕ
spread_json None = codes "null"
spread_json (Some s) = codes "{\"most\":" ++ (decimal s.all ++ (codes ",\"p50\":" ++ (decimal s.half ++ (codes ",\"p90\":" ++ (decimal s.ninety ++ (codes ",\"p99\":" ++ (decimal s.ninety_nine ++ codes "}")))))))

-- the same as it is put together
abbrev pub spread_pieces : Spread → List ℕ
spread_pieces s = codes "{\"most\":" ++ decimal s.all ++ codes ",\"p50\":" ++ decimal s.half ++ codes ",\"p90\":" ++ decimal s.ninety ++ codes ",\"p99\":" ++ decimal s.ninety_nine ++ codes "}"

abbrev pub time_pieces : List ℕ → Time → List ℕ
time_pieces words t = times_pieces words t.entries t.ticks

-- an account: its class, and how many stays were migrated and preempted
abbrev pub account_front : Account → List ℕ
account_front a = codes "{\"class\":" ++ class_json a.class ++ codes ",\"migrated\":" ++ decimal a.tally.sums.migrated ++ codes ",\"preempted\":" ++ decimal a.tally.sums.preempted

-- how long the threads ran and waited, how many stays there were, and the thread
abbrev pub account_sums : Sums → Option ℕ → List ℕ
account_sums s t = time_pieces (codes ",\"ran\":{\"entries\":") s.ran ++ codes ",\"stays\":" ++ decimal s.stays ++ codes ",\"tid\":" ++ option_json t ++ time_pieces (codes ",\"waited\":{\"entries\":") s.waited

-- how the waits are spread
abbrev pub account_rest : Account → List ℕ
account_rest a = codes ",\"waits\":{\"entries\":" ++ spread_json a.tally.waits_in_entries ++ codes ",\"ticks\":" ++ spread_json a.tally.waits_in_ticks ++ codes "}}\n"

abbrev pub account_pieces : Account → List ℕ
account_pieces a = account_front a ++ account_sums a.tally.sums a.tid ++ account_rest a

-- how many slots of an account came to an outcome: the class and the count; the outcome and the thread
abbrev pub landing_front : Account → Outcome → List ℕ
landing_front a o = codes "{\"class\":" ++ class_json a.class ++ codes ",\"landings\":" ++ decimal (count_at a o)

abbrev pub landing_rest : Account → Outcome → List ℕ
landing_rest a o = codes ",\"outcome\":\"" ++ outcome_text o ++ codes "\",\"tid\":" ++ option_json a.tid ++ codes "}\n"

abbrev pub landing_pieces : Account → Outcome → List ℕ
landing_pieces a o = landing_front a o ++ landing_rest a o

-- what a CPU was used for
abbrev pub usage_pieces : ℕ → Usage → List ℕ
usage_pieces c u =
    time_pieces (codes "{\"agent\":{\"entries\":") u.agent ++ time_pieces (codes ",\"busy\":{\"entries\":") u.busy ++ codes ",\"cpu\":" ++ decimal c ++ time_pieces (codes ",\"idle\":{\"entries\":") u.idle
    ++ time_pieces (codes ",\"other\":{\"entries\":") u.other ++ time_pieces (codes ",\"wanted\":{\"entries\":") u.wanted ++ codes "}\n"
