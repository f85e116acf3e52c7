-- What the program's command line takes.
use Rattle.std.proofs.Common.{◌≡◌, ◌≤◌, ◌<◌, ◌+◌, ◌++◌, get_or, length, map, take, is_some, ℕ, Bool, List, [], ◌∷◌, true, false, refl, codes, cond, ◌∙◌, ap, sym, subst, Option, None, Some, arith}
use Rattle.std.specs.Fmt.{digits}
use Rattle.std.specs.Prelude.{decimal, nat_le, nat_lt, Result, Ok, Err, ◌&&◌, bytes_eq, option_map, option_and_then}
use Rattle.std.specs.List.{cons_option, filter_map}
use Rattle.std.specs.Result.{result_ok}
use Rattle.std.proofs.lemmas.List.{map-append, take_more}
use Rattle.std.proofs.lemmas.List.Elements.{filter_map-append}
use Rattle.std.specs.Str.Parse.{ParsesBool, ParsesUnsigned, digits_value, without_leading_plus}
use Rattle.std.proofs.lemmas.Bool.{and_parts}
use Rattle.std.proofs.lemmas.Bool.Decides.{nat_tests}
use Rattle.std.proofs.lemmas.Slice.Eq.{bytes_eq-Decides}
use Rattle.clap.specs.Words.{Row, Text, takes, one_of, is_simple}
use Rattle.clap.specs.Faults.{is_simple_and_free}
use Rattle.clap.specs.ValueTests.{is_unsigned_in}
use Rattle.clap.specs.Matches.{ReadsOne}
use Rattle.clap.proofs.ValueTestLemmas.{accepts-Accepts, Accepts-accepts}
use Rattle.clap.specs.declared.builder.value_parser.ValueParser.TheVariants as vp
use Rattle.clap.proofs.OnLiterals.{clap_on_literals}
use Rattle.gs_arguments.specs.declared.command.Command.{Command}
use Rattle.gs_arguments.specs.declared.command.Command.TheVariants.{Run, Explain, Report, Journal, Timeline, Timehist, Latency, Trace, Serve, Simulate, Compare, Threads}
use Rattle.gs_arguments.specs.declared.command.Listed.{Listed}
use Rattle.gs_arguments.specs.declared.command.TheConstants.{DEFAULT_LINES, LEAST_COUNT, MOST_EACH, MOST_LINES, MOST_TICKS, MOST_WORKERS}
use Rattle.gs_arguments.specs.declared.values.Clash.{Clash}
use Rattle.gs_arguments.specs.declared.values.Clash.TheVariants.{Backward}
use Rattle.gs_arguments.specs.Arguments.{ghost_program, command_given, command_of, clash_in, unless_clashing, command_in, compare_given, AreAllowedTicks, AsksAllowed, count_of, flag_of, latency_given, number_of, threads_given, ticks_in, timeline_given}

-- the default as a word of the command line
pub default_word : codes "10" ≡ decimal DEFAULT_LINES
unfolding digits
default_word = refl

pub run_taken : (name : Text) → takes ghost_program (name ∷ codes "run" ∷ []) ≡ true
unfolding clap_on_literals
run_taken name = refl

pub report_taken : (name : Text) → takes ghost_program (name ∷ codes "report" ∷ []) ≡ true
unfolding clap_on_literals digits
report_taken name = refl

pub ghost_is_simple : is_simple ghost_program ≡ true
ghost_is_simple = refl

pub ghost_is_free : is_simple_and_free ghost_program ≡ true
ghost_is_free = refl

pub run_is_run : (name : Text) → command_in (name ∷ codes "run" ∷ []) ≡ Some Run
unfolding clap_on_literals
run_is_run name = refl

pub report_is_ten : (name : Text) → command_in (name ∷ codes "report" ∷ []) ≡ Some (Report 10)
unfolding clap_on_literals digits
report_is_ten name = refl

pub journal_taken : (name : Text) → takes ghost_program (name ∷ codes "journal" ∷ []) ≡ true
unfolding clap_on_literals
journal_taken name = refl

pub journal_is_lines : (name : Text) → command_in (name ∷ codes "journal" ∷ []) ≡ Some (Journal false)
unfolding clap_on_literals
journal_is_lines name = refl

-- ---- the command

explain_allowed : (o : Option Bool) (command : Command) → option_map Explain o ≡ Some command → AsksAllowed command
explain_allowed None command e = absurd cc
explain_allowed (Some json) command e = let same : Explain json ≡ command = cc in subst AsksAllowed same tt

journal_allowed : (o : Option Bool) (command : Command) → option_map Journal o ≡ Some command → AsksAllowed command
journal_allowed None command e = absurd cc
journal_allowed (Some json) command e = let same : Journal json ≡ command = cc in subst AsksAllowed same tt

timehist_allowed : (o : Option Bool) (command : Command) → option_map Timehist o ≡ Some command → AsksAllowed command
timehist_allowed None command e = absurd cc
timehist_allowed (Some json) command e = let same : Timehist json ≡ command = cc in subst AsksAllowed same tt

latency_allowed : (json threads : Option Bool) (command : Command) → option_and_then (λ j. option_map (λ t. Latency j t) threads) json ≡ Some command → AsksAllowed command
latency_allowed None threads command e = absurd cc
latency_allowed (Some json) None command e = absurd cc
latency_allowed (Some json) (Some threads) command e = let same : Latency json threads ≡ command = cc in subst AsksAllowed same tt

not_above : (from to : ℕ) (listed : Listed) → clash_in (Timeline from to listed) ≡ None → from ≤ to
not_above from to listed e = by_test (nat_lt to from) refl e
  where
    by_test : (b : Bool) → nat_lt to from ≡ b → cond {A = Option Clash} b (Some (Backward from to)) None ≡ None → from ≤ to
    by_test true is e = absurd cc
    by_test false is e = grind (arith, nat_tests)

timeline_allowed : (from to : ℕ) (listed : Bool → Listed) (o : Option Bool) (command : Command) → option_map (λ all. Timeline from to (listed all)) o ≡ Some command → clash_in command ≡ None → AsksAllowed command
timeline_allowed from to listed None command e forward = absurd cc
timeline_allowed from to listed (Some all) command e forward =
    let same : Timeline from to (listed all) ≡ command = cc in
    subst AsksAllowed same (not_above from to (listed all) (ap clash_in same ∙ forward))

-- a count that is read is one of those that may be
counted : (most : ℕ) (o : Option Text) (n : ℕ) → option_and_then (count_of most) o ≡ Some n → (LEAST_COUNT ≤ n) × (n ≤ most)
counted most None n e = absurd cc
counted most (Some text) n e = by_number (number_of text) e
  where
    by_test : (m : ℕ) (b : Bool) → (nat_le LEAST_COUNT m && nat_le m most) ≡ b → cond {A = Option ℕ} b (Some m) None ≡ Some n → (LEAST_COUNT ≤ n) × (n ≤ most)
    by_test m true is e =
        let same : m ≡ n = cc in
        let parts = and_parts (nat_le LEAST_COUNT m) (nat_le m most) is in
        let least : nat_le LEAST_COUNT m ≡ true = parts.0 in
        let greatest : nat_le m most ≡ true = parts.1 in
        subst (λ (x : ℕ). (LEAST_COUNT ≤ x) × (x ≤ most)) same (grind (arith, nat_tests, least), grind (arith, nat_tests, greatest))
    by_test m false is e = absurd cc

    by_number : (o : Option ℕ) → option_and_then (λ m. cond {A = Option ℕ} (nat_le LEAST_COUNT m && nat_le m most) (Some m) None) o ≡ Some n → (LEAST_COUNT ≤ n) × (n ≤ most)
    by_number None e = absurd cc
    by_number (Some m) e = by_test m (nat_le LEAST_COUNT m && nat_le m most) refl e

abbrev journal_in : List Row → Option Bool
journal_in rows = option_and_then flag_of (one_of (codes "journal") rows)

serve_allowed : (o : Option Bool) (command : Command) → option_map Serve o ≡ Some command → AsksAllowed command
serve_allowed None command e = absurd cc
serve_allowed (Some explained) command e = let same : Serve explained ≡ command = cc in subst AsksAllowed same tt

ticks_allowed : (rows : List Row) → AreAllowedTicks (ticks_in rows)
ticks_allowed rows = by_count (ticks_in rows) refl
  where
    by_count : (o : Option ℕ) → ticks_in rows ≡ o → AreAllowedTicks o
    by_count None is = tt
    by_count (Some n) is = counted MOST_TICKS (one_of (codes "ticks") rows) n is

simulate_allowed : (rows : List Row) (command : Command) → Some (Simulate (ticks_in rows)) ≡ Some command → AsksAllowed command
simulate_allowed rows command e = let same : Simulate (ticks_in rows) ≡ command = cc in subst AsksAllowed same (ticks_allowed rows)

-- a table that is asked for has one form
one_form : (ticks : Option ℕ) (json csv : Bool) → clash_in (Compare ticks json csv) ≡ None → (json && csv) ≡ false
one_form ticks true true e = absurd cc
one_form ticks true false e = refl
one_form ticks false csv e = refl

compare_allowed : (rows : List Row) (json csv : Option Bool) (command : Command) → option_and_then (λ j. option_map (λ c. Compare (ticks_in rows) j c) csv) json ≡ Some command → clash_in command ≡ None → AsksAllowed command
compare_allowed rows None csv command e alone = absurd cc
compare_allowed rows (Some json) None command e alone = absurd cc
compare_allowed rows (Some json) (Some csv) command e alone =
    let same : Compare (ticks_in rows) json csv ≡ command = cc in
    subst AsksAllowed same (ticks_allowed rows, one_form (ticks_in rows) json csv (ap clash_in same ∙ alone))

threads_allowed : (rows : List Row) (command : Command) → threads_given rows ≡ Some command → AsksAllowed command
threads_allowed rows command e = by_workers (option_and_then (count_of MOST_WORKERS) (one_of (codes "workers") rows)) refl e
  where
    by_flag : (w k : ℕ) (o : Option Bool) → option_map (λ journal. Threads w k journal) o ≡ Some command → (LEAST_COUNT ≤ w) × (w ≤ MOST_WORKERS) → (LEAST_COUNT ≤ k) × (k ≤ MOST_EACH) → AsksAllowed command
    by_flag w k None e p q = absurd cc
    by_flag w k (Some journal) e p q = let same : Threads w k journal ≡ command = cc in subst AsksAllowed same (p.0, p.1, q.0, q.1)

    by_each : (w : ℕ) (o : Option ℕ) → option_and_then (count_of MOST_EACH) (one_of (codes "each") rows) ≡ o
        → option_and_then (λ k. option_map (λ journal. Threads w k journal) (journal_in rows)) o ≡ Some command → (LEAST_COUNT ≤ w) × (w ≤ MOST_WORKERS) → AsksAllowed command
    by_each w None is e p = absurd cc
    by_each w (Some k) is e p = by_flag w k (journal_in rows) e p (counted MOST_EACH (one_of (codes "each") rows) k is)

    by_workers : (o : Option ℕ) → option_and_then (count_of MOST_WORKERS) (one_of (codes "workers") rows) ≡ o
        → option_and_then (λ w. option_and_then (λ k. option_map (λ journal. Threads w k journal) (journal_in rows)) (option_and_then (count_of MOST_EACH) (one_of (codes "each") rows))) o ≡ Some command → AsksAllowed command
    by_workers None is e = absurd cc
    by_workers (Some w) is e = by_each w (option_and_then (count_of MOST_EACH) (one_of (codes "each") rows)) refl e (counted MOST_WORKERS (one_of (codes "workers") rows) w is)

-- a command that is given, in which all goes together
kept : (o : Option Command) (command : Command) → option_and_then unless_clashing o ≡ Some command → (o ≡ Some command) × (clash_in command ≡ None)
kept None command e = absurd cc
kept (Some given) command e = by_clash (clash_in given) refl e
  where
    by_clash : (clash : Option Clash) → clash_in given ≡ clash → cond (is_some clash) None (Some given) ≡ Some command → (Some given ≡ Some command) × (clash_in command ≡ None)
    by_clash (Some clash) is e = absurd cc
    by_clash None is e = let same : given ≡ command = cc in (e, ap clash_in (sym same) ∙ is)

report_allowed : (rows : List Row) (command : Command) → option_map Report (option_and_then (count_of MOST_LINES) (one_of (codes "last") rows)) ≡ Some command → AsksAllowed command
report_allowed rows command e = by_count (option_and_then (count_of MOST_LINES) (one_of (codes "last") rows)) refl e
  where
    by_count : (o : Option ℕ) → option_and_then (count_of MOST_LINES) (one_of (codes "last") rows) ≡ o → option_map Report o ≡ Some command → AsksAllowed command
    by_count None is e = absurd cc
    by_count (Some n) is e = let report : Report n ≡ command = cc in subst AsksAllowed report (counted MOST_LINES (one_of (codes "last") rows) n is)

-- a command that is given is in its range
given_allowed : (given : Text × List Row) (command : Command) → command_given given ≡ Some command → clash_in command ≡ None → AsksAllowed command
given_allowed given command is alone = by_name (bytes_eq given.0 (codes "run")) (bytes_eq given.0 (codes "explain")) (bytes_eq given.0 (codes "report")) (bytes_eq given.0 (codes "journal")) (bytes_eq given.0 (codes "timeline")) (bytes_eq given.0 (codes "timehist")) (bytes_eq given.0 (codes "latency")) (bytes_eq given.0 (codes "trace")) (bytes_eq given.0 (codes "serve")) (bytes_eq given.0 (codes "simulate")) (bytes_eq given.0 (codes "compare")) (bytes_eq given.0 (codes "threads")) is
  where
    by_name : (run explain report journal timeline timehist latency trace serve simulate compare threads : Bool)
        → cond run (Some Run) (cond explain (option_map Explain (option_and_then flag_of (one_of (codes "json") given.1))) (cond report (option_map Report (option_and_then (count_of MOST_LINES) (one_of (codes "last") given.1)))
        (cond journal (option_map Journal (option_and_then flag_of (one_of (codes "json") given.1)))
        (cond timeline (timeline_given given.1) (cond timehist (option_map Timehist (option_and_then flag_of (one_of (codes "json") given.1))) (cond latency (latency_given given.1) (cond trace (Some Trace)
        (cond serve (option_map Serve (option_and_then flag_of (one_of (codes "explain") given.1))) (cond simulate (Some (Simulate (ticks_in given.1))) (cond compare (compare_given given.1) (cond threads (threads_given given.1) None))))))))))) ≡ Some command → AsksAllowed command
    by_name true explain report journal timeline timehist latency trace serve simulate compare threads e = let same : Run ≡ command = cc in subst AsksAllowed same tt
    by_name false true report journal timeline timehist latency trace serve simulate compare threads e = explain_allowed _ command e
    by_name false false true journal timeline timehist latency trace serve simulate compare threads e = report_allowed given.1 command e
    by_name false false false true timeline timehist latency trace serve simulate compare threads e = journal_allowed _ command e
    by_name false false false false true timehist latency trace serve simulate compare threads e = timeline_allowed _ _ _ _ command e alone
    by_name false false false false false true latency trace serve simulate compare threads e = timehist_allowed _ command e
    by_name false false false false false false true trace serve simulate compare threads e = latency_allowed _ _ command e
    by_name false false false false false false false true serve simulate compare threads e = let same : Trace ≡ command = cc in subst AsksAllowed same tt
    by_name false false false false false false false false true simulate compare threads e = serve_allowed _ command e
    by_name false false false false false false false false false true compare threads e = simulate_allowed given.1 command e
    by_name false false false false false false false false false false true threads e = compare_allowed given.1 _ _ command e alone
    by_name false false false false false false false false false false false true e = threads_allowed given.1 command e
    by_name false false false false false false false false false false false false e = absurd cc

pub command_in_range : (given : Text × List Row) (command : Command) → command_of given ≡ Some command → AsksAllowed command
command_in_range given command is = let met = kept (command_given given) command is in given_allowed given command met.0 met.1

-- ---- the number that is read of a text

number_spelled : {E : Type 0} (G : Text → Result ℕ E → Type 0) (t : Text) (r : Option ℕ) → ((u : Text) (x : Result ℕ E) → G u x → ParsesUnsigned 64 10 u x) → ReadsOne G t r → r ≡ number_of t
number_spelled G t (Some n) only read =
    let parsed = only t (Ok n) read in
    let fits : is_unsigned_in 0 18446744073709551615 t ≡ true = Accepts-accepts false (vp.Unsigned 0 18446744073709551615) t (parsed.0.0, parsed.0.1, omega arith, omega (arith, parsed.0.1)) in
    rw fits (ap Some parsed.1)
number_spelled G t None only read = by_number (is_unsigned_in 0 18446744073709551615 t) refl
  where
    by_number : (b : Bool) → is_unsigned_in 0 18446744073709551615 t ≡ b → None ≡ cond b (Some (digits_value 10 (without_leading_plus t))) None
    by_number true is = let fits = accepts-Accepts false (vp.Unsigned 0 18446744073709551615) t is in absurd (only t (Err read.0) read.1 (fits.0, fits.1))
    by_number false is = refl

pub number_read : {E : Type 0} (G : Text → Result ℕ E → Type 0) (text : Option Text) (r : Option ℕ) → ((t : Text) (x : Result ℕ E) → G t x → ParsesUnsigned 64 10 t x)
    → (text ≡ None → r ≡ None) → ((t : Text) → text ≡ Some t → ReadsOne G t r) → r ≡ option_and_then number_of text
number_read G None r only none some = none refl
number_read {E} G (Some t) r only none some = number_spelled G t r only (some t refl)

pub number_parsed : {E : Type 0} (t : Text) (r : Result ℕ E) → ParsesUnsigned 64 10 t r → result_ok r ≡ number_of t
number_parsed {E} t (Ok n) parses = number_spelled {E = E} (λ u x. ParsesUnsigned 64 10 u x) t (Some n) (λ u x h. h) parses
number_parsed {E} t (Err e) parses = number_spelled {E = E} (λ u x. ParsesUnsigned 64 10 u x) t None (λ u x h. h) (e, parses)

-- ---- the numbers that are read of texts, one more

pub numbers_more : {A : Type 0} (f : A → Text) (words : List A) (i : ℕ) (d : A) → i < length words
    → filter_map number_of (map f (take (i + 1) words)) ≡ filter_map number_of (map f (take i words)) ++ cons_option (number_of (f (get_or words i d))) []
numbers_more f words i d lt =
    ap (λ some. filter_map number_of (map f some)) (take_more words i d lt)
    ∙ ap (filter_map number_of) (map-append f (take i words) (get_or words i d ∷ []))
    ∙ filter_map-append number_of (map f (take i words)) (f (get_or words i d) ∷ [])

-- ---- the flag that is read of a text

pub flag_read : {E : Type 0} (G : Text → Result Bool E → Type 0) (text : Option Text) (r : Option Bool) → ((t : Text) (x : Result Bool E) → G t x → ParsesBool t x)
    → (text ≡ None → r ≡ None) → ((t : Text) → text ≡ Some t → ReadsOne G t r) → r ≡ option_and_then flag_of text
flag_read G None r only none some = none refl
flag_read {E} G (Some t) r only none some = by_read r (some t refl)
  where
    by_tests : (a b : Bool) → bytes_eq t (codes "true") ≡ a → bytes_eq t (codes "false") ≡ b → (t ≡ codes "true" → ⊥) → (t ≡ codes "false" → ⊥) → None ≡ cond a (Some true) (cond b (Some false) None)
    by_tests true b p q other another = absurd (other ((bytes_eq-Decides t (codes "true")).0 p))
    by_tests false true p q other another = absurd (another ((bytes_eq-Decides t (codes "false")).0 q))
    by_tests false false p q other another = refl

    by_read : (o : Option Bool) → ReadsOne G t o → o ≡ flag_of t
    by_read (Some true) read = ap flag_of (sym (only t (Ok true) read))
    by_read (Some false) read = ap flag_of (sym (only t (Ok false) read))
    by_read None read = let text = only t (Err read.0) read.1 in by_tests (bytes_eq t (codes "true")) (bytes_eq t (codes "false")) refl refl text.0 text.1
