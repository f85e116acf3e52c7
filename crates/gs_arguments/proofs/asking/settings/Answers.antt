use Rattle.std.proofs.Common.{rules, ◌≡◌, inl, inr, subst, Some, None, [], ◌∷◌, false, Option, List, map, codes, option_map, refl, sym, ◌∙◌, ap, ap₂}
use Rattle.clap.specs.Words.{App, Row, Text, found_of, kind_of, is_simple, rows_of, takes, subcommand_of, subcommand_rows, subcommand_rows_of}
use Rattle.std.specs.Prelude.{Box, option_and_then}
use Rattle.std.specs.Option.{option_map_or}
use Rattle.std.specs.Box.{box_value}
use Rattle.clap.specs.declared.parser.matches.ArgMatches.TheViews.{out-ArgMatches, out-SubCommand}
use Rattle.clap.specs.declared.parser.matches.SubCommand.{SubCommand}
use Rattle.clap.specs.Kinds.{Kinds, HasKind}
use Rattle.clap.specs.declared.error.Error.{Error}
use Rattle.clap.specs.declared.error.kind.ErrorKind.{ErrorKind}
use Rattle.clap.specs.Faults.{fault_of, is_simple_and_free}
use Rattle.clap.specs.declared.error.kind.ErrorKind.TheVariants.{OutOfMemory, MissingSubcommand, ValueValidation}
use Rattle.gs_arguments.specs.declared.command.Command.{Command}
use Rattle.gs_arguments.specs.declared.command.Command.TheVariants.{Run, Report, Journal}
use Rattle.gs_arguments.specs.Arguments.{command_in, command_of, file_given, ghost_program, policies_given, seeds_given}
use Rattle.gs_arguments.proofs.Given.{run_taken, report_taken, journal_taken, run_is_run, report_is_ten, journal_is_lines, ghost_is_simple, ghost_is_free, command_in_range}
use Rattle.gs_arguments.proofs.asking.settings.Goals as goal
use Rattle.gs_arguments.proofs.asking.settings.Goals.{In_err-matches, In_ok-matches, In-Some-subcommand}

or_one_more : (k : ErrorKind) (kinds : Kinds) (e : Error) → HasKind kinds e → HasKind (k ∷ kinds) e
or_one_more k kinds e (inl h) = inl h
or_one_more k kinds e (inr h) = inr (inr h)

-- an error has a kind of the words' faults
had : (g : _) (c : In_err-matches g) → HasKind (fault_of ghost_program (map g.S.AsStr.text c.args.words.now)) c.in_err-matches.field-0.0
had g c =
    subst (λ (app : App). HasKind (fault_of app (map g.S.AsStr.text c.args.words.now)) c.in_err-matches.field-0.0) c.in_ok-command_line.ensures
    (c.in_err-matches.ensures.kinds (ap is_simple_and_free c.in_ok-command_line.ensures ∙ ghost_is_free))

-- what was found is what the words give
met : (g : _) (c : In_ok-matches g) → subcommand_rows_of c.in_ok-matches.matches ≡ subcommand_of ghost_program (map g.S.AsStr.text c.args.words.now)
met g c =
    (c.in_ok-matches.ensures.ok.2 (ap is_simple c.in_ok-command_line.ensures ∙ ghost_is_simple)).1
    ∙ ap (λ app. subcommand_of app (map g.S.AsStr.text c.args.words.now)) c.in_ok-command_line.ensures

-- so they have no fault
faultless : (g : _) (c : In_ok-matches g) → fault_of ghost_program (map g.S.AsStr.text c.args.words.now) ≡ []
faultless g c =
    sym (ap (λ app. fault_of app (map g.S.AsStr.text c.args.words.now)) c.in_ok-command_line.ensures) ∙ c.in_ok-matches.ensures.kinds (ap is_simple_and_free c.in_ok-command_line.ensures ∙ ghost_is_free)

-- a command's name and its rows are those of what was found
found_is : {Z : Type 0} (o : Option (Box SubCommand Z)) (name : Text) (rows : List Row) → Some name ≡ option_map (λ b. (out-SubCommand (box_value b)).name.now) o → Some rows ≡ option_map (λ p. p.1) (subcommand_rows o) → subcommand_rows o ≡ Some (name, rows)
found_is None name rows named with = absurd cc
found_is {Z} (Some b) name rows named with =
    let name_is : name ≡ (out-SubCommand (box_value b)).name.now = cc in
    let rows_are : rows ≡ rows_of (found_of (out-SubCommand (box_value b)).matches) = cc in
    ap₂ (λ (n : Text) (r : List Row). Some (n, r)) (sym name_is) (sym rows_are)

-- the command's name and its rows are those that the words give
entered : (g : _) (c : In-Some-subcommand g) → subcommand_of ghost_program (map g.S.AsStr.text c.args.words.now) ≡ Some (c.in-Some-subcommand.name.now, rows_of (found_of c.in-Some-subcommand.given.now))
entered g c =
    let found = (c.in_ok-matches.ensures.ok.2 (ap is_simple c.in_ok-command_line.ensures ∙ ghost_is_simple)).1 in
    let known = found ∙ ap (λ app. subcommand_of app (map g.S.AsStr.text c.args.words.now)) c.in_ok-command_line.ensures in
    sym known ∙ found_is (out-ArgMatches c.in_ok-matches.matches).subcommand c.in-Some-subcommand.name.now (rows_of (found_of c.in-Some-subcommand.given.now)) c.in-Some-subcommand.ensures.name c.in-Some-subcommand.ensures.rows

-- nothing is left of no subcommand
none_found : (o : Option (Text × List Row)) → None ≡ option_map (λ p. p.1) o → o ≡ None
none_found None none = refl
none_found (Some p) some = absurd cc

-- words give no command if they name none
no_name : (words : List Text) → subcommand_of ghost_program words ≡ None → command_in words ≡ None
no_name words none = ap (option_and_then command_of) none

-- or one in which something does not go together
no_command : (words : List Text) (given : Text × List Row) → subcommand_of ghost_program words ≡ Some given → None ≡ command_of given → command_in words ≡ None
no_command words given named none = ap (option_and_then command_of) named ∙ sym none

the_one : (words : List Text) (command other : Command) → command_in words ≡ Some command → command_in words ≡ Some other → command ≡ other
the_one words command other is was = let same : Some command ≡ Some other = sym is ∙ was in cc

no_other : (words : List Text) (command : Command) → command_in words ≡ None → command_in words ≡ Some command → ⊥
no_other words command none some = let same : None ≡ Some command = sym none ∙ some in absurd cc

run_given : (words : List Text) (name : Text) → words ≡ name ∷ codes "run" ∷ [] → command_in words ≡ Some Run
run_given words name is = ap command_in is ∙ run_is_run name

journal_given : (words : List Text) (name : Text) → words ≡ name ∷ codes "journal" ∷ [] → command_in words ≡ Some (Journal false)
journal_given words name is = ap command_in is ∙ journal_is_lines name

report_given : (words : List Text) (name : Text) → words ≡ name ∷ codes "report" ∷ [] → command_in words ≡ Some (Report 10)
report_given words name is = ap command_in is ∙ report_is_ten name

pub returns-in_err-matches-clause-failed : goal.returns-in_err-matches-clause-failed
returns-in_err-matches-clause-failed g c =
    let faults = fault_of ghost_program (map g.S.AsStr.text c.args.words.now) in
    let e = c.in_err-matches.field-0.0 in
    let more : HasKind (MissingSubcommand ∷ ValueValidation ∷ faults) e = or_one_more MissingSubcommand (ValueValidation ∷ faults) e (or_one_more ValueValidation faults e (had g (goal.at.returns-in_err-matches-clause-failed g c).In_err-matches)) in
    search (rules, more)

pub returns-in_err-matches-clause-run : goal.returns-in_err-matches-clause-run
returns-in_err-matches-clause-run g c name h =
    let kind : kind_of c.in_err-matches.field-0.0 ≡ OutOfMemory = c.in_err-matches.ensures.passes (ap₂ takes c.in_ok-command_line.ensures h ∙ run_taken name) in
    search (rules, kind)

pub returns-in_err-matches-clause-report : goal.returns-in_err-matches-clause-report
returns-in_err-matches-clause-report g c name h =
    let kind : kind_of c.in_err-matches.field-0.0 ≡ OutOfMemory = c.in_err-matches.ensures.passes (ap₂ takes c.in_ok-command_line.ensures h ∙ report_taken name) in
    search (rules, kind)

pub returns-in_err-matches-clause-journal : goal.returns-in_err-matches-clause-journal
returns-in_err-matches-clause-journal g c name h =
    let kind : kind_of c.in_err-matches.field-0.0 ≡ OutOfMemory = c.in_err-matches.ensures.passes (ap₂ takes c.in_ok-command_line.ensures h ∙ journal_taken name) in
    search (rules, kind)

-- words that have no fault fail only if out of memory
only_memory : (kinds : Kinds) (e : Error) → kinds ≡ [] → HasKind kinds e → kind_of e ≡ OutOfMemory
only_memory kinds e none (inl h) = h
only_memory [] e none (inr h) = absurd h
only_memory (k ∷ ks) e none (inr h) = absurd (cc)

pub returns-in_err-matches-clause-answered : goal.returns-in_err-matches-clause-answered
returns-in_err-matches-clause-answered g c none command is =
    let kind : kind_of c.in_err-matches.field-0.0 ≡ OutOfMemory = only_memory (fault_of ghost_program (map g.S.AsStr.text c.args.words.now)) c.in_err-matches.field-0.0 none (had g (goal.at.returns-in_err-matches-clause-answered g c).In_err-matches) in
    search (rules, kind)

pub returns-in_err-matches-clause-told : goal.returns-in_err-matches-clause-told
returns-in_err-matches-clause-told g c faulty = search (rules, had g (goal.at.returns-in_err-matches-clause-told g c).In_err-matches)

-- ---- what a command alone gives

pub returns-in-Some-clause-journal : goal.returns-in-Some-clause-journal
returns-in-Some-clause-journal g c name h = the_one (map g.S.AsStr.text c.args.words.now) _ _ c.in-Some.ensures.command (journal_given _ name h)

pub returns-in-Some-clause-report : goal.returns-in-Some-clause-report
returns-in-Some-clause-report g c name h = the_one (map g.S.AsStr.text c.args.words.now) _ _ c.in-Some.ensures.command (report_given _ name h)

-- ---- what the program gives

pub returns-in-Some-command_of-clause-faultless : goal.returns-in-Some-command_of-clause-faultless
returns-in-Some-command_of-clause-faultless g c = faultless g (goal.at.returns-in-Some-command_of-clause-faultless g c).In_ok-matches

pub returns-in-Some-command_of-clause-given : goal.returns-in-Some-command_of-clause-given
returns-in-Some-command_of-clause-given g c =
    ap (option_and_then command_of) (entered g (goal.at.returns-in-Some-command_of-clause-given g c).In-Some-subcommand) ∙ sym c.in-Some-command_of.ensures ∙ ap Some (sym c.in_ok-asked_of-in-Some-command_of.ensures.command)

pub returns-in-Some-command_of-clause-file : goal.returns-in-Some-command_of-clause-file
returns-in-Some-command_of-clause-file g c =
    c.in_ok-asked_of-in-Some-command_of.ensures.file ∙ sym (ap (option_and_then (λ given. file_given given.1)) (entered g (goal.at.returns-in-Some-command_of-clause-file g c).In-Some-subcommand))

pub returns-in-Some-command_of-clause-policies : goal.returns-in-Some-command_of-clause-policies
returns-in-Some-command_of-clause-policies g c =
    c.in_ok-asked_of-in-Some-command_of.ensures.policies ∙ sym (ap (λ given. option_map_or (λ given. policies_given given.1) given []) (entered g (goal.at.returns-in-Some-command_of-clause-policies g c).In-Some-subcommand))

pub returns-in-Some-command_of-clause-seeds : goal.returns-in-Some-command_of-clause-seeds
returns-in-Some-command_of-clause-seeds g c =
    c.in_ok-asked_of-in-Some-command_of.ensures.seeds ∙ sym (ap (λ given. option_map_or (λ given. seeds_given given.1) given []) (entered g (goal.at.returns-in-Some-command_of-clause-seeds g c).In-Some-subcommand))

pub returns-in-Some-command_of-clause-allowed : goal.returns-in-Some-command_of-clause-allowed
returns-in-Some-command_of-clause-allowed g c =
    let given : Text × List Row = (c.in-Some-subcommand.name.now, rows_of (found_of c.in-Some-subcommand.given.now)) in
    command_in_range given c.in_ok-asked_of-in-Some-command_of.field-0.command (sym c.in-Some-command_of.ensures ∙ ap Some (sym c.in_ok-asked_of-in-Some-command_of.ensures.command))

pub returns-in-Some-command_of-clause-answered : goal.returns-in-Some-command_of-clause-answered
returns-in-Some-command_of-clause-answered g c none command is = the_one (map g.S.AsStr.text c.args.words.now) _ _ (returns-in-Some-command_of-clause-given g c) is

pub returns-in-Some-command_of-clause-journal : goal.returns-in-Some-command_of-clause-journal
returns-in-Some-command_of-clause-journal g c name h = the_one (map g.S.AsStr.text c.args.words.now) _ _ (returns-in-Some-command_of-clause-given g c) (journal_given _ name h)

pub returns-in-Some-command_of-clause-report : goal.returns-in-Some-command_of-clause-report
returns-in-Some-command_of-clause-report g c name h = the_one (map g.S.AsStr.text c.args.words.now) _ _ (returns-in-Some-command_of-clause-given g c) (report_given _ name h)

-- ---- what is given does not go together

pub returns-in-Some-subcommand-clause-told : goal.returns-in-Some-subcommand-clause-told
returns-in-Some-subcommand-clause-told g c faulty = absurd (faulty (faultless g (goal.at.returns-in-Some-subcommand-clause-told g c).In_ok-matches))

pub returns-in-Some-subcommand-clause-answered : goal.returns-in-Some-subcommand-clause-answered
returns-in-Some-subcommand-clause-answered g c none command is = absurd (no_other (map g.S.AsStr.text c.args.words.now) _ (no_command (map g.S.AsStr.text c.args.words.now) _ (entered g (goal.at.returns-in-Some-subcommand-clause-answered g c).In-Some-subcommand) c.in-None-command_of.ensures) is)

pub returns-in-Some-subcommand-clause-run : goal.returns-in-Some-subcommand-clause-run
returns-in-Some-subcommand-clause-run g c name h = absurd (no_other (map g.S.AsStr.text c.args.words.now) _ (no_command (map g.S.AsStr.text c.args.words.now) _ (entered g (goal.at.returns-in-Some-subcommand-clause-run g c).In-Some-subcommand) c.in-None-command_of.ensures) (run_given _ name h))

pub returns-in-Some-subcommand-clause-journal : goal.returns-in-Some-subcommand-clause-journal
returns-in-Some-subcommand-clause-journal g c name h = absurd (no_other (map g.S.AsStr.text c.args.words.now) _ (no_command (map g.S.AsStr.text c.args.words.now) _ (entered g (goal.at.returns-in-Some-subcommand-clause-journal g c).In-Some-subcommand) c.in-None-command_of.ensures) (journal_given _ name h))

pub returns-in-Some-subcommand-clause-report : goal.returns-in-Some-subcommand-clause-report
returns-in-Some-subcommand-clause-report g c name h = absurd (no_other (map g.S.AsStr.text c.args.words.now) _ (no_command (map g.S.AsStr.text c.args.words.now) _ (entered g (goal.at.returns-in-Some-subcommand-clause-report g c).In-Some-subcommand) c.in-None-command_of.ensures) (report_given _ name h))

-- ---- no command is given

pub returns-clause-told : goal.returns-clause-told
returns-clause-told g c faulty = absurd (faulty (faultless g (goal.at.returns-clause-told g c).In_ok-matches))

pub returns-clause-answered : goal.returns-clause-answered
returns-clause-answered g c none command is = absurd (no_other (map g.S.AsStr.text c.args.words.now) _ (no_name (map g.S.AsStr.text c.args.words.now) (sym (met g (goal.at.returns-clause-answered g c).In_ok-matches) ∙ none_found _ c.in-None.ensures.rows)) is)

pub returns-clause-run : goal.returns-clause-run
returns-clause-run g c name h = absurd (no_other (map g.S.AsStr.text c.args.words.now) _ (no_name (map g.S.AsStr.text c.args.words.now) (sym (met g (goal.at.returns-clause-run g c).In_ok-matches) ∙ none_found _ c.in-None.ensures.rows)) (run_given _ name h))

pub returns-clause-journal : goal.returns-clause-journal
returns-clause-journal g c name h = absurd (no_other (map g.S.AsStr.text c.args.words.now) _ (no_name (map g.S.AsStr.text c.args.words.now) (sym (met g (goal.at.returns-clause-journal g c).In_ok-matches) ∙ none_found _ c.in-None.ensures.rows)) (journal_given _ name h))

pub returns-clause-report : goal.returns-clause-report
returns-clause-report g c name h = absurd (no_other (map g.S.AsStr.text c.args.words.now) _ (no_name (map g.S.AsStr.text c.args.words.now) (sym (met g (goal.at.returns-clause-report g c).In_ok-matches) ∙ none_found _ c.in-None.ensures.rows)) (report_given _ name h))
