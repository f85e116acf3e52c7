-- A command takes the words after its name as the program does.
use Rattle.std.proofs.Common.{◌≡◌, ◌∙◌, Bool, List, [], ◌∷◌, Option, Some, true, false, refl, sym, subst, ap, ap₂, codes, cond, is_some}
use Rattle.std.specs.Prelude.{⊤, bytes_eq, fold, find, map, option_and_then, option_map}
use Rattle.std.proofs.lemmas.Slice.Eq.{bytes_eq-Decides}
use Rattle.std.specs.Option.{option_map_or}
use Rattle.clap.proofs.FaultLemmas.{leaf_fault, stopped_fault}
use Rattle.clap.proofs.OnLiterals.{clap_on_literals}
use Rattle.clap.proofs.WalkLemmas.{walk_stopped}
use Rattle.clap.specs.Faults.{built_fault, check_fault, defaults_fault, entered_fault, fault_of, is_simple_and_free, level_fault, settle_fault, turn_fault, walk_fault}
use Rattle.clap.specs.Kinds.{Kinds, or_else}
use Rattle.clap.specs.Simple.{argument_words, entered, label_of, names_of, rows_at}
use Rattle.clap.specs.Walk.{Names, Walk, answers_to, finished, nothing_held, rows_after, settled, walk, walk_from, walked}
use Rattle.clap.specs.Words.{App, Row, Shape, Text, built, is_simple, matches_of, subcommand_of}
use Rattle.gs_arguments.proofs.Given.{command_in_range}
use Rattle.gs_arguments.specs.declared.command.Asked.{Asked}
use Rattle.gs_arguments.specs.declared.command.Command.{Command}
use Rattle.gs_arguments.specs.Arguments.{AsksAllowed, IsAskedBy, alone, alone_named, command_in, command_of, compare_alone, explain_alone, file_given, ghost_program, journal_alone, latency_alone, policies_given, report_alone, run_alone, seeds_given, serve_alone, simulate_alone, threads_alone, timehist_alone, timeline_alone, trace_alone}

-- the words of a command line that name a command are taken as the command takes them that is alone
pub record IsTakenAlone (word : Text) (app : App) : Type 0 where
  pub simple : is_simple app ≡ true
  pub free : is_simple_and_free app ≡ true
  pub given : (name : Text) (rest : List Text) → subcommand_of ghost_program (name ∷ word ∷ rest) ≡ Some (word, matches_of app (word ∷ rest))
  pub faults : (name : Text) (rest : List Text) → fault_of ghost_program (name ∷ word ∷ rest) ≡ fault_of app (word ∷ rest)

abbrev program : App
program = built ghost_program

abbrev names : Names
names = names_of program

abbrev begun : Walk
begun = walk_from nothing_held

abbrev stopped_at : Text → List Text → Walk
stopped_at word rest = record begun { stopped = Some (word, rest) }

or_none : (kinds : Kinds) → or_else kinds [] ≡ kinds
or_none [] = refl
or_none (k ∷ ks) = refl

-- the walk stops at a command's name
walk_is : (word : Text) (rest : List Text) → walked program.top.rules names begun word ≡ stopped_at word []
    → walk program.top.rules names nothing_held (word ∷ rest) ≡ stopped_at word rest
walk_is word rest step =
    ap (λ v. fold (walked program.top.rules names) v rest) step ∙ sym (walk_stopped program.top.rules names begun word [] rest)

-- and has no fault
walk_faultless : (word : Text) (rest : List Text) → walked program.top.rules names begun word ≡ stopped_at word [] → turn_fault program.top names begun word ≡ []
    → walk_fault program.top names begun (word ∷ rest) ≡ []
unfolding walk_fault
walk_faultless word rest step turn =
    ap₂ (λ kinds v. or_else kinds (walk_fault program.top names v rest)) turn step ∙ stopped_fault program.top names begun (word, []) rest

-- the faults of the program, by where its walk ended
abbrev program_fault : Walk → Kinds → Kinds
program_fault end kinds =
    or_else kinds
    (or_else (entered_fault program end.stopped)
    (or_else (settle_fault program.top.rules program.top.args_override_self end.held)
    (or_else (defaults_fault (settled program.top.rules end.held).rows program.top.rules)
    (check_fault program.top (finished program.top.rules end.held) (is_some (entered program end.stopped))))))

-- and by the command that was met
abbrev command_fault : List Text → Option Shape → Kinds
command_fault rest met =
    or_else (option_map_or (λ s. level_fault s [] nothing_held rest false []) met [])
    (check_fault program.top (finished program.top.rules nothing_held) (is_some (option_map (λ s. rows_at s rest) met)))

program_is : (word : Text) (rest : List Text) → program_fault (stopped_at word rest) [] ≡ command_fault rest (find (λ s. answers_to word (label_of s)) program.subs)
unfolding clap_on_literals
program_is word rest = refl

command_is : (rest : List Text) (made : Shape) → command_fault rest (Some made) ≡ level_fault made [] nothing_held rest false []
unfolding clap_on_literals
command_is rest made = or_none (level_fault made [] nothing_held rest false [])

takes_alone : (command made : Shape) → is_simple (alone command) ≡ true → is_simple_and_free (alone command) ≡ true → built (alone command) ≡ alone made → command.no_binary_name ≡ false → made.name ≡ command.name
    → walked program.top.rules names begun command.name ≡ stopped_at command.name [] → turn_fault program.top names begun command.name ≡ []
    → find (λ s. answers_to command.name (label_of s)) program.subs ≡ Some made → IsTakenAlone command.name (alone command)
takes_alone command made simple free is same named step turn met = record {
  simple = simple;
  free = free;
  given = given_is;
  faults = faults_are;
}
  where
    words_are : (rest : List Text) → argument_words (alone command) (command.name ∷ rest) ≡ rest
    words_are rest = ap (λ (b : Bool). cond b (command.name ∷ rest) rest) same

    given_is : (name : Text) (rest : List Text) → subcommand_of ghost_program (name ∷ command.name ∷ rest) ≡ Some (command.name, matches_of (alone command) (command.name ∷ rest))
    given_is name rest =
        ap (λ (v : Walk). entered program v.stopped) (walk_is command.name rest step)
        ∙ ap (option_map (λ s. rows_at s rest)) met
        ∙ ap₂ (λ (word : Text) (rows : List Row). Some (word, rows)) named
        (ap₂ (λ (app : App) (words : List Text). rows_after app.top.rules (names_of app) words) (sym is) (sym (words_are rest)))

    faults_are : (name : Text) (rest : List Text) → fault_of ghost_program (name ∷ command.name ∷ rest) ≡ fault_of (alone command) (command.name ∷ rest)
    faults_are name rest =
        ap₂ program_fault (walk_is command.name rest step) (walk_faultless command.name rest step turn)
        ∙ program_is command.name rest
        ∙ ap (command_fault rest) met
        ∙ command_is rest made
        ∙ sym (leaf_fault (alone made) nothing_held rest refl)
        ∙ ap₂ (λ (app : App) (words : List Text). built_fault app nothing_held words) (sym is) (sym (words_are rest))

run_taken : IsTakenAlone (codes "run") run_alone
unfolding clap_on_literals
run_taken = takes_alone run_alone.top (built run_alone).top refl refl refl refl refl refl refl refl

explain_taken : IsTakenAlone (codes "explain") explain_alone
unfolding clap_on_literals
explain_taken = takes_alone explain_alone.top (built explain_alone).top refl refl refl refl refl refl refl refl

report_taken : IsTakenAlone (codes "report") report_alone
unfolding clap_on_literals
report_taken = takes_alone report_alone.top (built report_alone).top refl refl refl refl refl refl refl refl

journal_taken : IsTakenAlone (codes "journal") journal_alone
unfolding clap_on_literals
journal_taken = takes_alone journal_alone.top (built journal_alone).top refl refl refl refl refl refl refl refl

timeline_taken : IsTakenAlone (codes "timeline") timeline_alone
unfolding clap_on_literals
timeline_taken = takes_alone timeline_alone.top (built timeline_alone).top refl refl refl refl refl refl refl refl

timehist_taken : IsTakenAlone (codes "timehist") timehist_alone
unfolding clap_on_literals
timehist_taken = takes_alone timehist_alone.top (built timehist_alone).top refl refl refl refl refl refl refl refl

latency_taken : IsTakenAlone (codes "latency") latency_alone
unfolding clap_on_literals
latency_taken = takes_alone latency_alone.top (built latency_alone).top refl refl refl refl refl refl refl refl

trace_taken : IsTakenAlone (codes "trace") trace_alone
unfolding clap_on_literals
trace_taken = takes_alone trace_alone.top (built trace_alone).top refl refl refl refl refl refl refl refl

serve_taken : IsTakenAlone (codes "serve") serve_alone
unfolding clap_on_literals
serve_taken = takes_alone serve_alone.top (built serve_alone).top refl refl refl refl refl refl refl refl

simulate_taken : IsTakenAlone (codes "simulate") simulate_alone
unfolding clap_on_literals
simulate_taken = takes_alone simulate_alone.top (built simulate_alone).top refl refl refl refl refl refl refl refl

compare_taken : IsTakenAlone (codes "compare") compare_alone
unfolding clap_on_literals
compare_taken = takes_alone compare_alone.top (built compare_alone).top refl refl refl refl refl refl refl refl

threads_taken : IsTakenAlone (codes "threads") threads_alone
unfolding clap_on_literals
threads_taken = takes_alone threads_alone.top (built threads_alone).top refl refl refl refl refl refl refl refl

-- each of these commands is taken alone
abbrev AreTakenAlone : List Shape → Type 0
AreTakenAlone [] = ⊤
AreTakenAlone (command ∷ others) = IsTakenAlone command.name (alone command) × AreTakenAlone others

all_taken : AreTakenAlone ghost_program.subs
all_taken = (run_taken, (explain_taken, (report_taken, (journal_taken, (timeline_taken, (timehist_taken, (latency_taken, (trace_taken, (serve_taken, (simulate_taken, (compare_taken, (threads_taken, tt))))))))))))

-- the one that is named is, too
named_taken : (word : Text) (app : App) (commands : List Shape) → AreTakenAlone commands → option_map alone (find (λ command. bytes_eq word command.name) commands) ≡ Some app → IsTakenAlone word app
named_taken word app [] taken is = absurd cc
named_taken word app (command ∷ others) taken is = by_test (named_taken word app others taken.1) (bytes_eq word command.name) refl is
  where
    by_test : (option_map alone (find (λ other. bytes_eq word other.name) others) ≡ Some app → IsTakenAlone word app) → (b : Bool) → bytes_eq word command.name ≡ b
        → option_map alone (cond b (Some command) (find (λ other. bytes_eq word other.name) others)) ≡ Some app → IsTakenAlone word app
    by_test other true same is =
        let name : word ≡ command.name = (bytes_eq-Decides word command.name).0 same in
        let it : alone command ≡ app = cc in
        subst (λ w. IsTakenAlone w app) (sym name) (subst (IsTakenAlone command.name) it taken.0)
    by_test other false differs is = other is

-- what was found of a command that is alone is what the words ask for
pub asked_alone : (first word : Text) (rest : List Text) (app : App) (rows : List Row) (command : Command) (asked : Asked) → alone_named word ≡ Some app
    → (is_simple app ≡ true → rows ≡ matches_of app (word ∷ rest)) → (is_simple_and_free app ≡ true → fault_of app (word ∷ rest) ≡ []) → command_of (word, rows) ≡ Some command
    → asked.command ≡ command → option_map (λ file. file.now) asked.file ≡ file_given rows → map (λ word. word.now) asked.policies.items ≡ policies_given rows → asked.seeds.items ≡ seeds_given rows
    → IsAskedBy (first ∷ word ∷ rest) asked
asked_alone first word rest app rows command asked named found faultless is same file policies seeds = record {
  faultless = taken.faults first rest ∙ faultless taken.free;
  command = given ∙ ap Some (sym same);
  file = file ∙ sym (ap (option_and_then (λ given. file_given given.1)) met);
  policies = policies ∙ sym (ap (λ given. option_map_or (λ given. policies_given given.1) given []) met);
  seeds = seeds ∙ sym (ap (λ given. option_map_or (λ given. seeds_given given.1) given []) met);
  allowed = subst AsksAllowed (sym same) (command_in_range (word, rows) command is);
}
  where
    taken : IsTakenAlone word app
    taken = named_taken word app ghost_program.subs all_taken named

    met : subcommand_of ghost_program (first ∷ word ∷ rest) ≡ Some (word, rows)
    met = taken.given first rest ∙ ap (λ (found : List Row). Some (word, found)) (sym (found taken.simple))

    given : command_in (first ∷ word ∷ rest) ≡ Some command
    given = ap (option_and_then command_of) met ∙ is
