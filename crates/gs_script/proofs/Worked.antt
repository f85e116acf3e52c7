-- What the definitions say of some scripts.
use Rattle.std.proofs.Common.{◌≡◌, ℕ, List, [], ◌∷◌, ◌++◌, codes, decimal, refl, Result, Ok, Err, true, false, cond, Option, Some, None}
use Rattle.std.specs.Fmt.{digits}
use Rattle.gs_slots.specs.Flags.{no_flags, single}
use Rattle.gs_layout.specs.declared.facts.Class.TheVariants.{Zero, One}
use Rattle.gs_policy.specs.declared.any.AnyPolicy.TheVariants as policies
use Rattle.gs_kernel.specs.declared.command.Command.TheVariants as commands
use Rattle.gs_core.specs.declared.event.Event.{Event}
use Rattle.gs_core.specs.declared.event.Event.TheVariants as events
use Rattle.gs_kernel.specs.declared.thread_event.ThreadEvent.TheVariants as threads
use Rattle.gs_script.specs.declared.fault.Reason.{Reason}
use Rattle.gs_script.specs.declared.fault.Reason.TheVariants.{NoHeader, BadWord, BadCount, BadNumber, BadName, BadByte}
use Rattle.gs_script.specs.Words.{number, words_of}
use Rattle.gs_script.specs.Grammar.{Form, Number, first_fault, literal}
use Rattle.gs_script.specs.Naming.{Naming, policy_named}
use Rattle.gs_script.specs.Rows.{at, event_of, is}
use Rattle.gs_script.specs.Any.{any}
use Rattle.gs_script.specs.Header.{parts, header_of, policy_said}
use Rattle.gs_script.specs.Script.{script_of, fault}
use Rattle.gs_replies.specs.declared.config.Config.{Config}

abbrev says : List ℕ → List ℕ
says text = codes "cpus 2 ring 128" ++ 10 ∷ text

empty : script_of any [] ≡ Err (fault 0 NoHeader)
empty = refl

comments_alone : script_of any (codes "# cpus 2" ++ 10 ∷ 10 ∷ codes "  ") ≡ Err (fault 0 NoHeader)
comments_alone = refl

no_header : script_of any (codes "drain 1") ≡ Err (fault 1 NoHeader)
no_header = refl

small_ring : script_of any (codes "cpus 2 ring 100") ≡ Err (fault 1 BadNumber)
small_ring = refl

odd_ring : script_of any (codes "cpus 2 ring 130") ≡ Err (fault 1 BadNumber)
odd_ring = refl

unknown : script_of any (says (codes "blok 1")) ≡ Err (fault 2 BadWord)
unknown = refl

second_header : script_of any (says (codes "cpus 2 ring 128")) ≡ Err (fault 2 BadWord)
second_header = refl

none : script_of any (says (codes "drain")) ≡ Err (fault 2 BadCount)
none = refl

zero_first : script_of any (says (codes "drain 01")) ≡ Err (fault 2 BadNumber)
zero_first = refl

bad_byte : script_of any (says (9 ∷ [])) ≡ Err (fault 2 BadByte)
bad_byte = refl

lone_return : script_of any (13 ∷ 10 ∷ codes "cpus 2 ring 128") ≡ Err (fault 1 BadByte)
lone_return = refl

bad_comment : script_of any (codes "# " ++ 127 ∷ []) ≡ Err (fault 1 BadByte)
bad_comment = refl

header_count : script_of any (codes "cpus 1 ring") ≡ Err (fault 1 BadCount)
header_count = refl

header_order : script_of any (codes "cpus 1 ring 128 x") ≡ Err (fault 1 BadNumber)
header_order = refl

create_order : event_of any (words_of (codes "create 3 0 x seventeenbyteslong")) ≡ Err BadWord
create_order = refl

create_number : event_of any (words_of (codes "create 03 9 x seventeenbyteslong")) ≡ Err BadNumber
create_number = refl

create_class : event_of any (words_of (codes "create 3 2 r a")) ≡ Err BadNumber
create_class = refl

create_name : event_of any (words_of (codes "create 3 0 r seventeenbytesxyz")) ≡ Err BadName
create_name = refl

created : event_of any (words_of (codes "create 3 1 b sixteenbytesname")) ≡ Ok (events.Kernel (commands.Create (record { runnable = false; mask = 3; class = One; name = codes "sixteenbytesname" })))
created = refl

created_nameless : event_of any (words_of (codes "create 0 0 r -")) ≡ Ok (events.Kernel (commands.Create (record { runnable = true; mask = 0; class = Zero; name = [] })))
created_nameless = refl

stamp_flag : event_of any (words_of (codes "stamp 1 1 p")) ≡ Ok (events.Stamp 1 1 (single true))
stamp_flag = refl

stamp_group : event_of any (words_of (codes "stamp 1 1 g")) ≡ Ok (events.Stamp 1 1 (record no_flags { group = true }))
stamp_group = refl

stamp_both : event_of any (words_of (codes "stamp 1 1 pg")) ≡ Ok (events.Stamp 1 1 (record (single true) { group = true }))
stamp_both = refl

stamp_no_flag : event_of any (words_of (codes "stamp 1 1 gp")) ≡ Err BadWord
stamp_no_flag = refl

stamp_twice : event_of any (words_of (codes "stamp 1 1 p g")) ≡ Err BadCount
stamp_twice = refl

stamp_long : event_of any (words_of (codes "stamp 1 1 p p")) ≡ Err BadCount
stamp_long = refl

stamp_cpu : event_of any (words_of (codes "stamp 65536 1")) ≡ Err BadNumber
stamp_cpu = refl

stamped : event_of any (words_of (codes " stamp  1 12 ")) ≡ Ok (events.Stamp 1 12 no_flags)
stamped = refl

committed : event_of any (words_of (codes "commit 18446744073709551615")) ≡ Ok (events.Commit 18446744073709551615)
committed = refl

committed_past : event_of any (words_of (codes "commit 340282366920938463463374607431768211456")) ≡ Err BadNumber
committed_past = refl

ticked : event_of any (words_of (codes "tick 1")) ≡ Ok (events.Kernel (commands.Tick 1))
ticked = refl

tick_least : event_of any (words_of (codes "tick 0")) ≡ Ok (events.Kernel (commands.Tick 0))
tick_least = refl

tick_most : event_of any (words_of (codes "tick 65535")) ≡ Ok (events.Kernel (commands.Tick 65535))
tick_most = refl

tick_past : event_of any (words_of (codes "tick 65536")) ≡ Err BadNumber
tick_past = refl

tick_zero_first : event_of any (words_of (codes "tick 01")) ≡ Err BadNumber
tick_zero_first = refl

tick_alone : event_of any (words_of (codes "tick")) ≡ Err BadCount
tick_alone = refl

tick_two : event_of any (words_of (codes "tick x 2")) ≡ Err BadCount
tick_two = refl

decided : event_of any (words_of (codes " decide ")) ≡ Ok events.Decide
decided = refl

decided_more : event_of any (words_of (codes "decide decide")) ≡ Err BadCount
decided_more = refl

looked : event_of any (words_of (codes " unread ")) ≡ Ok events.Unread
looked = refl

look_behind : event_of any (words_of (codes "unread 1")) ≡ Err BadCount
look_behind = refl

look_comment : event_of any (words_of (codes "unread #")) ≡ Err BadCount
look_comment = refl

look_other : event_of any (words_of (codes "unreads")) ≡ Err BadWord
look_other = refl

events_in_order : script_of any (says (codes "unread" ++ 10 ∷ codes "tick 1" ++ 10 ∷ codes "unread" ++ 10 ∷ codes "tick")) ≡ Err (fault 5 BadCount)
events_in_order = refl

-- the parts behind the sizes
abbrev of : List ℕ → Option Reason
of text = first_fault (parts any) (words_of text)

no_part : of [] ≡ None
no_part = refl

all_parts : of (codes "first-tseq 4294967294 first-gen 1 history 2") ≡ None
all_parts = refl

unknown_part : of (codes "x") ≡ Some BadWord
unknown_part = refl

misplaced : of (codes "first-gen 5 first-tseq 1") ≡ Some BadWord
misplaced = refl

twice : of (codes "first-gen 5 first-gen 1") ≡ Some BadWord
twice = refl

misplaced_last : of (codes "history 5 first-gen 1") ≡ Some BadWord
misplaced_last = refl

behind_the_last : of (codes "policy first first-gen 1") ≡ Some BadCount
behind_the_last = refl

left_out_before : of (codes "first-gen 5 policy first") ≡ None
left_out_before = refl

all_but_one : of (codes "first-tseq 1 first-gen 5 policy two 2") ≡ None
all_but_one = refl

ends_early : of (codes "history") ≡ Some BadCount
ends_early = refl

too_small : of (codes "history 1") ≡ Some BadNumber
too_small = refl

no_generation : of (codes "first-gen 0") ≡ Some BadNumber
no_generation = refl

defaults : header_of any (words_of (codes "cpus 2 ring 128")) ≡ Ok (record { cpus = 2; ring = 128; first_tseq = 0; first_generation = 1; history = 16777216; policy = policies.FirstCome (record {}) })
defaults = refl

two_class_given : header_of any (words_of (codes "cpus 64 ring 1048576 first-tseq 7 first-gen 8 history 9 policy two 10"))
    ≡ Ok (record { cpus = 64; ring = 1048576; first_tseq = 7; first_generation = 8; history = 9; policy = policies.TwoClass (record { slice = 10 }) })
two_class_given = refl

all_given : header_of any (words_of (codes "cpus 64 ring 1048576 first-tseq 7 first-gen 8 history 9")) ≡ Ok (record { cpus = 64; ring = 1048576; first_tseq = 7; first_generation = 8; history = 9; policy = policies.FirstCome (record {}) })
all_given = refl

-- what happens to a thread and to a CPU
blocks : event_of any (words_of (codes "block 65536")) ≡ Ok (events.Kernel (commands.Thread 65536 threads.Block))
blocks = refl

wakes : event_of any (words_of (codes "wake 0")) ≡ Ok (events.Kernel (commands.Thread 0 threads.Wake))
wakes = refl

yields : event_of any (words_of (codes " yield  4294967295")) ≡ Ok (events.Kernel (commands.Thread 4294967295 threads.Yield))
yields = refl

dies : event_of any (words_of (codes "die 4294967296")) ≡ Err BadNumber
dies = refl

moves : event_of any (words_of (codes "affinity 1 18446744073709551615")) ≡ Ok (events.Kernel (commands.Thread 1 (threads.Affinity 18446744073709551615)))
moves = refl

moves_alone : event_of any (words_of (codes "affinity x")) ≡ Err BadCount
moves_alone = refl

taken : event_of any (words_of (codes "take 65535")) ≡ Ok (events.Kernel (commands.Take 65535))
taken = refl

given : event_of any (words_of (codes "give 65536")) ≡ Err BadNumber
given = refl

looked_at_all : event_of any (words_of (codes "state")) ≡ Ok events.State
looked_at_all = refl

state_behind : event_of any (words_of (codes "state 1")) ≡ Err BadCount
state_behind = refl

looked_at_the_view : event_of any (words_of (codes "view")) ≡ Ok events.View
looked_at_the_view = refl

-- policies of another kind: `rr` and two numbers, or `idle`, which has none. A header that names no policy has 1 and 1
abbrev turn_forms : List Form
turn_forms = (literal (codes "rr") ∷ Number 1 9 ∷ Number 0 99 ∷ []) ∷ (literal (codes "idle") ∷ []) ∷ []

abbrev turn_named : List (List ℕ) → ℕ × ℕ
turn_named [] = (1, 1)
turn_named (v ∷ ws) = cond (is v (codes "rr")) (number (at 0 ws), number (at 1 ws)) (0, 0)

abbrev turn_words : ℕ × ℕ → List ℕ
turn_words (a, b) = codes "rr " ++ decimal a ++ codes " " ++ decimal b

abbrev turns : Naming (ℕ × ℕ)
turns = record { forms = turn_forms; named = turn_named; words = turn_words }

abbrev turns_header : List ℕ → Result (Config (ℕ × ℕ)) Reason
turns_header text = header_of turns (words_of text)

abbrev turns_event : List ℕ → Result (Event (ℕ × ℕ)) Reason
turns_event text = event_of turns (words_of text)

turns_default : turns_header (codes "cpus 2 ring 128") ≡ Ok (record { cpus = 2; ring = 128; first_tseq = 0; first_generation = 1; history = 16777216; policy = (1, 1) })
turns_default = refl

turns_given : turns_header (codes "cpus 2 ring 128 policy rr 2 5") ≡ Ok (record { cpus = 2; ring = 128; first_tseq = 0; first_generation = 1; history = 16777216; policy = (2, 5) })
turns_given = refl

turns_behind_all : turns_header (codes "cpus 2 ring 128 first-tseq 7 first-gen 8 history 9 policy rr 3 99") ≡ Ok (record { cpus = 2; ring = 128; first_tseq = 7; first_generation = 8; history = 9; policy = (3, 99) })
turns_behind_all = refl

turns_idle : turns_header (codes "cpus 2 ring 128 policy idle") ≡ Ok (record { cpus = 2; ring = 128; first_tseq = 0; first_generation = 1; history = 16777216; policy = (0, 0) })
turns_idle = refl

turns_other : turns_header (codes "cpus 2 ring 128 policy first") ≡ Err BadWord
turns_other = refl

turns_short : turns_header (codes "cpus 2 ring 128 policy rr 2") ≡ Err BadCount
turns_short = refl

turns_long : turns_header (codes "cpus 2 ring 128 policy rr 2 5 6") ≡ Err BadCount
turns_long = refl

turns_past : turns_header (codes "cpus 2 ring 128 policy rr 2 100") ≡ Err BadNumber
turns_past = refl

turns_from_the_left : turns_header (codes "cpus 2 ring 128 policy rr 0 100") ≡ Err BadNumber
turns_from_the_left = refl

turns_misplaced : turns_header (codes "cpus 2 ring 128 policy rr 2 5 history 9") ≡ Err BadCount
turns_misplaced = refl

turns_begun : turns_event (codes "begin rr 2 5") ≡ Ok (events.Begin (2, 5))
turns_begun = refl

turns_begun_idle : turns_event (codes "begin idle") ≡ Ok (events.Begin (0, 0))
turns_begun_idle = refl

turns_begun_again : turns_event (codes "begin") ≡ Ok (events.Kernel commands.Begin)
turns_begun_again = refl

-- a count of words comes before the words: none of these policies has two
turns_begun_two : turns_event (codes "begin x 0") ≡ Err BadCount
turns_begun_two = refl

turns_begun_three : turns_event (codes "begin x 0 0") ≡ Err BadWord
turns_begun_three = refl

turns_begun_half : turns_event (codes "begin rr") ≡ Err BadCount
turns_begun_half = refl

turns_begun_past : turns_event (codes "begin rr 2 100") ≡ Err BadNumber
turns_begun_past = refl

turns_tick : turns_event (codes "tick 1") ≡ Ok (events.Kernel (commands.Tick 1))
turns_tick = refl

turns_named : policy_named turns (words_of (codes "rr 2 5")) ≡ Ok (2, 5)
turns_named = refl

turns_said : policy_said turns (codes " rr  2 5 ") ≡ Ok (2, 5)
turns_said = refl

turns_said_alone : policy_said turns (codes "") ≡ Err BadCount
turns_said_alone = refl

turns_script : script_of turns (codes "cpus 2 ring 128 policy rr 2 5" ++ 10 ∷ codes "begin rr 3 4" ++ 10 ∷ codes "decide")
    ≡ Ok (record { config = record { cpus = 2; ring = 128; first_tseq = 0; first_generation = 1; history = 16777216; policy = (2, 5) }; events = events.Begin (3, 4) ∷ events.Decide ∷ [] })
turns_script = refl

turns_fault : script_of turns (codes "cpus 2 ring 128 policy rr 2 5" ++ 10 ∷ codes "begin two 4") ≡ Err (fault 2 BadCount)
turns_fault = refl

-- what stands behind `policy` is the policy's own, even if it reads like another part
abbrev keeps : Naming ℕ
keeps = record { forms = (literal (codes "keep") ∷ literal (codes "history") ∷ Number 0 9 ∷ []) ∷ []; named = λ ws. number (at 2 ws); words = λ n. codes "keep history " ++ decimal n }

keeps_its_words : header_of keeps (words_of (codes "cpus 2 ring 128 first-gen 3 policy keep history 5")) ≡ Ok (record { cpus = 2; ring = 128; first_tseq = 0; first_generation = 3; history = 16777216; policy = 5 })
keeps_its_words = refl

-- the words that policies are told by
first_told : any.words (policies.FirstCome (record {})) ≡ codes "first"
first_told = refl

two_told : any.words (policies.TwoClass (record { slice = 10 })) ≡ codes "two 10"
unfolding digits
two_told = refl
