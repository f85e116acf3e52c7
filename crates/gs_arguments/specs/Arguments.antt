-- The arguments of the program.
use Rattle.std.specs.Prelude.{◌≡◌, ◌≤◌, ⊤, ℕ, List, [], ◌∷◌, Bool, true, false, Option, None, Some, codes, bytes_eq, decimal, IfSome, if◌then◌else◌, is_some, map, nat_le, nat_lt, ◌&&◌, filter_map, find, option_and_then, option_map, unwrap_or}
use Rattle.std.specs.Option.{option_map_or}
use Rattle.std.specs.Str.Parse.{digits_value, without_leading_plus}
use Rattle.clap.specs.ValueTests.{is_unsigned_in}
use Rattle.clap.specs.Words.{App, Row, Rule, Shape, Text, all_of, first_of, new_app, new_rule, one_of, subcommand_of, with_rule, with_subcommand}
use Rattle.clap.specs.declared.builder.action.ArgAction.TheVariants.{Append, SetTrue}
use Rattle.clap.specs.declared.builder.value_parser.ValueParser.TheVariants as vp
use Rattle.clap.specs.Faults.{fault_of}
use Rattle.gs_arguments.specs.declared.command.Asked.{Asked}
use Rattle.gs_arguments.specs.declared.command.Command.{Command}
use Rattle.gs_arguments.specs.declared.command.Command.TheVariants.{Run, Explain, Report, Journal, Timeline, Timehist, Latency, Trace, Serve, Simulate, Compare, Threads}
use Rattle.gs_arguments.specs.declared.command.Listed.{Listed}
use Rattle.gs_arguments.specs.declared.command.Listed.TheVariants.{All, Few, Most, One}
use Rattle.gs_arguments.specs.declared.command.TheConstants.{DEFAULT_LINES, LEAST_COUNT, LEAST_LINES, MOST_EACH, MOST_LINES, MOST_TICKS, MOST_WORKERS}
use Rattle.gs_arguments.specs.declared.values.Clash.{Clash}
use Rattle.gs_arguments.specs.declared.values.Clash.TheVariants.{Backward, TwoForms}

-- a program without arguments of its own: its version, and the commands, of which one is to be given
abbrev pub ghost_alone : App
ghost_alone = record (new_app (codes "ghost")) { top = record ((new_app (codes "ghost")).top) { has_version = true; subcommand_required = true } }

-- FILE, which may stand among the words of a command and is no option
abbrev pub file_rule : Rule
file_rule = record (new_rule (codes "file")) { value_names = 1 }

-- a command that reads a script
abbrev pub reads_script : App → App
reads_script app = with_rule app file_rule

abbrev pub run_alone : App
run_alone = reads_script (new_app (codes "run"))

-- a flag
abbrev pub flag_rule : Text → Rule
flag_rule name = record (new_rule name) { long = Some name; action = Some SetTrue }

abbrev pub explain_alone : App
explain_alone = reads_script (with_rule (new_app (codes "explain")) (flag_rule (codes "json")))

-- `--last N`, a number of lines that a report may show, and the default if it is not given
abbrev pub last_rule : Rule
last_rule = record (new_rule (codes "last")) { long = Some (codes "last"); value_names = 1; parser = Some (vp.Unsigned LEAST_LINES MOST_LINES); defaults = decimal DEFAULT_LINES ∷ [] }

abbrev pub report_alone : App
report_alone = reads_script (with_rule (new_app (codes "report")) last_rule)

abbrev pub journal_alone : App
journal_alone = reads_script (with_rule (new_app (codes "journal")) (flag_rule (codes "json")))

-- an option that takes a number
abbrev pub place_rule : Text → Rule
place_rule name = record (new_rule name) { long = Some name; value_names = 1; parser = Some (vp.Unsigned 0 18446744073709551615) }

-- a picture's command, with what says which entries it shows
abbrev pub timeline_of_part : App
timeline_of_part = with_rule (with_rule (new_app (codes "timeline")) (place_rule (codes "from"))) (place_rule (codes "to"))

-- and with what says which threads it lists
abbrev pub timeline_alone : App
timeline_alone = reads_script (with_rule (with_rule (with_rule timeline_of_part (place_rule (codes "threads"))) (place_rule (codes "thread"))) (flag_rule (codes "all-threads")))

abbrev pub trace_alone : App
trace_alone = reads_script (new_app (codes "trace"))

abbrev pub timehist_alone : App
timehist_alone = reads_script (with_rule (new_app (codes "timehist")) (flag_rule (codes "json")))

abbrev pub latency_alone : App
latency_alone = reads_script (with_rule (with_rule (new_app (codes "latency")) (flag_rule (codes "json"))) (flag_rule (codes "threads")))

-- a command that reads no file
abbrev pub serve_alone : App
serve_alone = with_rule (new_app (codes "serve")) (flag_rule (codes "explain"))

-- an option that may be given: how many ticks there are
abbrev pub ticks_rule : Rule
ticks_rule = record (new_rule (codes "ticks")) { long = Some (codes "ticks"); value_names = 1; parser = Some (vp.Unsigned LEAST_COUNT MOST_TICKS) }

-- and a policy, by its words
abbrev pub policy_rule : Rule
policy_rule = record (new_rule (codes "policy")) { long = Some (codes "policy"); value_names = 1 }

-- one that may be given more than once
abbrev pub repeated : Rule → Rule
repeated rule = record rule { action = Some Append }

-- a simulation's command: which policy it has, how many ticks there are, what numbers are drawn by, and the workload
abbrev pub simulate_alone : App
simulate_alone = reads_script (with_rule (with_rule (with_rule (new_app (codes "simulate")) policy_rule) ticks_rule) (place_rule (codes "seed")))

-- a comparison's command, with what says what is compared: policies, ticks and seeds
abbrev pub compare_runs : App
compare_runs = with_rule (with_rule (with_rule (new_app (codes "compare")) (repeated policy_rule)) ticks_rule) (repeated (place_rule (codes "seed")))

-- and with how the table is written, and the workload
abbrev pub compare_alone : App
compare_alone = reads_script (with_rule (with_rule compare_runs (flag_rule (codes "json"))) (flag_rule (codes "csv")))

-- an option that has to be given: a count, of which this is the most
abbrev pub count_rule : Text → ℕ → Rule
count_rule name most = record (new_rule name) { long = Some name; value_names = 1; required = true; parser = Some (vp.Unsigned LEAST_COUNT most) }

abbrev pub threads_alone : App
threads_alone = with_rule (with_rule (with_rule (new_app (codes "threads")) (count_rule (codes "workers") MOST_WORKERS)) (count_rule (codes "each") MOST_EACH)) (flag_rule (codes "journal"))

-- a program, and with it the commands that run a script and write what came of it
abbrev pub with_runs : App → App
with_runs app = with_subcommand (with_subcommand (with_subcommand (with_subcommand app run_alone.top) explain_alone.top) report_alone.top) journal_alone.top

-- and those that draw or tabulate it
abbrev pub with_pictures : App → App
with_pictures app = with_subcommand (with_subcommand (with_subcommand (with_subcommand app timeline_alone.top) timehist_alone.top) latency_alone.top) trace_alone.top

-- and all others
abbrev pub with_others : App → App
with_others app = with_subcommand (with_subcommand (with_subcommand (with_subcommand app serve_alone.top) simulate_alone.top) compare_alone.top) threads_alone.top

abbrev pub ghost_program : App
ghost_program = with_others (with_pictures (with_runs ghost_alone))

-- a command without the program around it
abbrev pub alone : Shape → App
alone command = record { top = command; subs = [] }

-- the command of the program that has this name, without the program around it
abbrev pub alone_named : Text → Option App
alone_named name = option_map alone (find (λ command. bytes_eq name command.name) ghost_program.subs)

-- the number that a text spells in decimal digits, of those that 64 bits hold
abbrev pub number_of : Text → Option ℕ
number_of text = if is_unsigned_in 0 18446744073709551615 text then Some (digits_value 10 (without_leading_plus text)) else None

-- whether a flag is given, by the value that it has then
abbrev pub flag_of : Text → Option Bool
flag_of text = if bytes_eq text (codes "true") then Some true else if bytes_eq text (codes "false") then Some false else None

-- the count that a text spells, if it is no more than this
abbrev pub count_of : ℕ → Text → Option ℕ
count_of most text = option_and_then (λ n. if nat_le LEAST_COUNT n && nat_le n most then Some n else None) (number_of text)

-- the place that an option is given, or another one if it is not
abbrev pub place_in : List Row → Text → ℕ → ℕ
place_in rows name other = unwrap_or (option_and_then number_of (one_of name rows)) other

-- the number that an option is given, if it is
abbrev pub number_in : List Row → Text → Option ℕ
number_in rows name = option_and_then number_of (one_of name rows)

-- which threads a picture lists: all, the one that is named, as many as are said, or a few
abbrev pub listed_by : Bool → Option ℕ → Option ℕ → Listed
listed_by true one most = All
listed_by false (Some tid) most = One tid
listed_by false None (Some count) = Most count
listed_by false None None = Few

-- `timeline`, with the values that were given to it
abbrev pub timeline_given : List Row → Option Command
timeline_given rows =
    option_map (λ all. Timeline (place_in rows (codes "from") 0) (place_in rows (codes "to") 18446744073709551615) (listed_by all (number_in rows (codes "thread")) (number_in rows (codes "threads")))) (option_and_then flag_of (one_of (codes "all-threads") rows))

-- `latency`, with the values that were given to it
abbrev pub latency_given : List Row → Option Command
latency_given rows = option_and_then (λ json. option_map (λ threads. Latency json threads) (option_and_then flag_of (one_of (codes "threads") rows))) (option_and_then flag_of (one_of (codes "json") rows))

-- the count that an option is given, if it is no more than this
abbrev pub count_in : List Row → Text → ℕ → Option ℕ
count_in rows name most = option_and_then (count_of most) (one_of name rows)

-- how many ticks a workload is to be simulated for, if that is said
abbrev pub ticks_in : List Row → Option ℕ
ticks_in rows = count_in rows (codes "ticks") MOST_TICKS

-- `compare`, with the values that were given to it
abbrev pub compare_given : List Row → Option Command
compare_given rows = option_and_then (λ json. option_map (λ csv. Compare (ticks_in rows) json csv) (option_and_then flag_of (one_of (codes "csv") rows))) (option_and_then flag_of (one_of (codes "json") rows))

-- `threads`, with the values that were given to it
abbrev pub threads_given : List Row → Option Command
threads_given rows =
    option_and_then (λ workers.
    option_and_then (λ each.
    option_map (λ journal. Threads workers each journal) (option_and_then flag_of (one_of (codes "journal") rows)))
    (option_and_then (count_of MOST_EACH) (one_of (codes "each") rows)))
    (option_and_then (count_of MOST_WORKERS) (one_of (codes "workers") rows))

-- the command of a name, with the values that were given to it
abbrev pub command_given : Text × List Row → Option Command
command_given given =
    if bytes_eq given.0 (codes "run") then Some Run
    else if bytes_eq given.0 (codes "explain") then option_map Explain (option_and_then flag_of (one_of (codes "json") given.1))
    else if bytes_eq given.0 (codes "report") then option_map Report (option_and_then (count_of MOST_LINES) (one_of (codes "last") given.1))
    else if bytes_eq given.0 (codes "journal") then option_map Journal (option_and_then flag_of (one_of (codes "json") given.1))
    else if bytes_eq given.0 (codes "timeline") then timeline_given given.1
    else if bytes_eq given.0 (codes "timehist") then option_map Timehist (option_and_then flag_of (one_of (codes "json") given.1))
    else if bytes_eq given.0 (codes "latency") then latency_given given.1
    else if bytes_eq given.0 (codes "trace") then Some Trace
    else if bytes_eq given.0 (codes "serve") then option_map Serve (option_and_then flag_of (one_of (codes "explain") given.1))
    else if bytes_eq given.0 (codes "simulate") then Some (Simulate (ticks_in given.1))
    else if bytes_eq given.0 (codes "compare") then compare_given given.1
    else if bytes_eq given.0 (codes "threads") then threads_given given.1
    else None

-- what does not go together in a command: the first entry that a picture is to show is above the last, or a table is to have two forms
abbrev pub clash_in : Command → Option Clash
clash_in (Timeline from to listed) = if nat_lt to from then Some (Backward from to) else None
clash_in (Compare ticks true true) = Some TwoForms
clash_in _ = None

-- a command, unless something in it does not go together
abbrev pub unless_clashing : Command → Option Command
unless_clashing command = if is_some (clash_in command) then None else Some command

-- the command of a name, with the values that were given to it, unless something in it does not go together
abbrev pub command_of : Text × List Row → Option Command
command_of given = option_and_then unless_clashing (command_given given)

-- the command that the words of a command line give, of which the first is the program's name
abbrev pub command_in : List Text → Option Command
command_in words = option_and_then command_of (subcommand_of ghost_program words)

-- the file of this name, of which `-` alone is standard input
abbrev pub unless_standard : Text → Option Text
unless_standard name = if bytes_eq name (codes "-") then None else Some name

-- the file that was given to a command, if one was
abbrev pub file_given : List Row → Option Text
file_given rows = option_and_then unless_standard (first_of (codes "file") rows)

-- the file that the words of a command line name
abbrev pub file_in : List Text → Option Text
file_in words = option_and_then (λ given. file_given given.1) (subcommand_of ghost_program words)

-- the words that an option is given, in order
abbrev pub words_in : List Row → Text → List Text
words_in rows name = unwrap_or (all_of name rows) []

-- what `--policy` says of what was given to a command, in order
abbrev pub policies_given : List Row → List Text
policies_given rows = words_in rows (codes "policy")

-- what `--policy` says in the words of a command line
abbrev pub policies_in : List Text → List Text
policies_in words = option_map_or (λ given. policies_given given.1) (subcommand_of ghost_program words) []

-- what `--seed` says of what was given to a command, in order
abbrev pub seeds_given : List Row → List ℕ
seeds_given rows = filter_map number_of (words_in rows (codes "seed"))

-- what `--seed` says in the words of a command line
abbrev pub seeds_in : List Text → List ℕ
seeds_in words = option_map_or (λ given. seeds_given given.1) (subcommand_of ghost_program words) []

-- there are as many ticks as there may be, if that is said
abbrev pub AreAllowedTicks : Option ℕ → Type 0
AreAllowedTicks ticks = IfSome ticks (λ n. (LEAST_COUNT ≤ n) × (n ≤ MOST_TICKS))

-- a report shows as many lines as it may, a picture does not end before it begins, and a table has one form. There are as many ticks,
-- workers and creations as there may be
abbrev pub AsksAllowed : Command → Type 0
AsksAllowed Run = ⊤
AsksAllowed (Explain json) = ⊤
AsksAllowed (Journal json) = ⊤
AsksAllowed (Timeline from to listed) = from ≤ to
AsksAllowed (Timehist json) = ⊤
AsksAllowed (Latency json threads) = ⊤
AsksAllowed Trace = ⊤
AsksAllowed (Serve explained) = ⊤
AsksAllowed (Simulate ticks) = AreAllowedTicks ticks
AsksAllowed (Compare ticks json csv) = AreAllowedTicks ticks × ((json && csv) ≡ false)
AsksAllowed (Report last) = (LEAST_LINES ≤ last) × (last ≤ MOST_LINES)
AsksAllowed (Threads workers each journal) = (LEAST_COUNT ≤ workers) × (workers ≤ MOST_WORKERS) × (LEAST_COUNT ≤ each) × (each ≤ MOST_EACH)

-- what the words of a command line, which have no fault, ask for
pub record IsAskedBy (words : List Text) (asked : Asked) : Type 0 where
  pub faultless : fault_of ghost_program words ≡ []
  pub command : command_in words ≡ Some asked.command
  pub file : option_map (λ file. file.now) asked.file ≡ file_in words
  pub policies : map (λ word. word.now) asked.policies.items ≡ policies_in words
  pub seeds : asked.seeds.items ≡ seeds_in words
  pub allowed : AsksAllowed asked.command
