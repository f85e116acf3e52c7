-- What the definitions say if a script, a line or a word is at its edge.
use Rattle.std.proofs.Common.{◌≡◌, ℕ, List, [], ◌∷◌, ◌++◌, codes, refl, Ok, Err, true, false, Option, Some, None, Result}
use Rattle.gs_slots.specs.Flags.{no_flags}
use Rattle.gs_layout.specs.declared.facts.Class.TheVariants.{Zero, One}
use Rattle.gs_policy.specs.declared.any.AnyPolicy.TheVariants as policies
use Rattle.gs_policy.specs.declared.any.AnyPolicy.{AnyPolicy}
use Rattle.gs_replies.specs.declared.config.Config.{Config}
use Rattle.gs_core.specs.declared.event.Event.{Event}
use Rattle.gs_kernel.specs.declared.command.Command.TheVariants as commands
use Rattle.gs_core.specs.declared.event.Event.TheVariants as events
use Rattle.gs_script.specs.declared.fault.Reason.{Reason}
use Rattle.gs_script.specs.declared.fault.Reason.TheVariants.{NoHeader, BadWord, BadCount, BadNumber, BadName, BadByte}
use Rattle.gs_script.specs.Words.{lines_of, words_of, is_text, is_number, number}
use Rattle.gs_script.specs.Grammar.{Form, Number, line_fault, first_fault, literal}
use Rattle.gs_script.specs.Rows.{event_of, u16s, u32s}
use Rattle.gs_script.specs.Any.{any}
use Rattle.gs_script.specs.Header.{header_of, histories}
use Rattle.gs_script.specs.Script.{script_of, fault}
use Rattle.gs_script.specs.declared.line.LineError.TheVariants as line_errors
use Rattle.gs_script.specs.declared.script.ScriptError.TheVariants as script_errors
use Rattle.gs_script.specs.Held.{placed, begins_plainly}

-- lines: each newline ends one, and what is behind the last is a line too
no_bytes : lines_of [] ≡ [] ∷ []
no_bytes = refl

final_newline : lines_of (codes "a" ++ 10 ∷ []) ≡ codes "a" ∷ [] ∷ []
final_newline = refl

no_final_newline : lines_of (codes "a" ++ 10 ∷ codes "b") ≡ codes "a" ∷ codes "b" ∷ []
no_final_newline = refl

newlines_alone : lines_of (10 ∷ 10 ∷ []) ≡ [] ∷ [] ∷ [] ∷ []
newlines_alone = refl

-- words
spaces_alone : words_of (codes "   ") ≡ []
spaces_alone = refl

spaces_around : words_of (codes "  a   bc ") ≡ codes "a" ∷ codes "bc" ∷ []
spaces_around = refl

-- bytes of a line
text_edges : is_text (32 ∷ 126 ∷ []) ≡ true
text_edges = refl

below_text : is_text (31 ∷ []) ≡ false
below_text = refl

above_text : is_text (127 ∷ []) ≡ false
above_text = refl

no_ascii : is_text (195 ∷ 164 ∷ []) ≡ false
no_ascii = refl

-- numbers
zero_is_number : is_number (codes "0") ≡ true
zero_is_number = refl

two_zeros : is_number (codes "00") ≡ false
two_zeros = refl

nothing_is_number : is_number [] ≡ false
nothing_is_number = refl

plus : is_number (codes "+5") ≡ false
plus = refl

plus_alone : is_number (codes "+") ≡ false
plus_alone = refl

minus : is_number (codes "-5") ≡ false
minus = refl

minus_zero : is_number (codes "-0") ≡ false
minus_zero = refl

hexadecimal : is_number (codes "0x5") ≡ false
hexadecimal = refl

grouped : is_number (codes "1_000") ≡ false
grouped = refl

ends_in_letter : is_number (codes "5a") ≡ false
ends_in_letter = refl

many_digits : number (codes "123456789012345678901234567890") ≡ 123456789012345678901234567890
many_digits = refl

many_digits_is_number : is_number (codes "123456789012345678901234567890") ≡ true
many_digits_is_number = refl

-- lines of events
abbrev event : List ℕ → Result (Event AnyPolicy) Reason
event text = event_of any (words_of text)

drain_least : event (codes "drain 0") ≡ Ok (events.Drain 0)
drain_least = refl

drain_most : event (codes "drain 4294967295") ≡ Ok (events.Drain 4294967295)
drain_most = refl

drain_past : event (codes "drain 4294967296") ≡ Err BadNumber
drain_past = refl

drain_far_past : event (codes "drain 18446744073709551617") ≡ Err BadNumber
drain_far_past = refl

drain_with_plus : event (codes "drain +1") ≡ Err BadNumber
drain_with_plus = refl

drain_with_zeros : event (codes "drain 00000000000000000000000001") ≡ Err BadNumber
drain_with_zeros = refl

comment_behind : event (codes "drain 1 # all") ≡ Err BadCount
comment_behind = refl

comment_as_number : event (codes "drain #") ≡ Err BadNumber
comment_as_number = refl

count_before_number : event (codes "drain x y") ≡ Err BadCount
count_before_number = refl

word_before_count : event (codes "drains x y z") ≡ Err BadWord
word_before_count = refl

other_case : event (codes "Drain 1") ≡ Err BadWord
other_case = refl

stamp_most : event (codes "stamp 65535 4294967295") ≡ Ok (events.Stamp 65535 4294967295 no_flags)
stamp_most = refl

stamp_first : event (codes "stamp 65536 4294967296") ≡ Err BadNumber
stamp_first = refl

decided : event (codes "decide") ≡ Ok events.Decide
decided = refl

decide_more : event (codes "decide 1") ≡ Err BadCount
decide_more = refl

decide_comment : event (codes "decide #") ≡ Err BadCount
decide_comment = refl

decide_other : event (codes "decides") ≡ Err BadWord
decide_other = refl

late_most : event (codes "late 4294967295") ≡ Ok (events.Late 4294967295)
late_most = refl

late_short : event (codes "late") ≡ Err BadCount
late_short = refl

commit_least : event (codes "commit 0") ≡ Ok (events.Commit 0)
commit_least = refl

create_most : event (codes "create 18446744073709551615 1 b --") ≡ Ok (events.Kernel (commands.Create (record { runnable = false; mask = 18446744073709551615; class = One; name = codes "--" })))
create_most = refl

create_hash : event (codes "create 1 0 r #") ≡ Ok (events.Kernel (commands.Create (record { runnable = true; mask = 1; class = Zero; name = codes "#" })))
create_hash = refl

create_past : event (codes "create 340282366920938463463374607431768211456 1 b a") ≡ Err BadNumber
create_past = refl

create_zeros : event (codes "create 3 00 r a") ≡ Err BadNumber
create_zeros = refl

create_state : event (codes "create 3 0 R a") ≡ Err BadWord
create_state = refl

create_states : event (codes "create 3 0 rb a") ≡ Err BadWord
create_states = refl

create_nameless : event (codes "create 3 0 r") ≡ Err BadCount
create_nameless = refl

create_two_names : event (codes "create x 9 x a b") ≡ Err BadCount
create_two_names = refl

create_edge : event (codes "create 3 0 r 1234567890123456") ≡ Ok (events.Kernel (commands.Create (record { runnable = true; mask = 3; class = Zero; name = codes "1234567890123456" })))
create_edge = refl

create_over : event (codes "create 3 0 r 12345678901234567") ≡ Err BadName
create_over = refl

-- lines of agents that go, begin and attach
crashes : event (codes "crash") ≡ Ok events.Crash
crashes = refl

crash_behind : event (codes "crash 1") ≡ Err BadCount
crash_behind = refl

leaves : event (codes "leave") ≡ Ok (events.Kernel commands.Leave)
leaves = refl

leave_behind : event (codes "leave #") ≡ Err BadCount
leave_behind = refl

begins_again : event (codes "begin") ≡ Ok (events.Kernel commands.Begin)
begins_again = refl

begins_first : event (codes "begin first") ≡ Ok (events.Begin (policies.FirstCome (record {})))
begins_first = refl

begins_two : event (codes "begin two 65535") ≡ Ok (events.Begin (policies.TwoClass (record { slice = 65535 })))
begins_two = refl

begins_two_past : event (codes "begin two 65536") ≡ Err BadNumber
begins_two_past = refl

begins_two_none : event (codes "begin two 0") ≡ Err BadNumber
begins_two_none = refl

begins_two_alone : event (codes "begin two") ≡ Err BadCount
begins_two_alone = refl

begins_first_behind : event (codes "begin first x") ≡ Err BadCount
begins_first_behind = refl

begins_other : event (codes "begin x") ≡ Err BadWord
begins_other = refl

begins_others : event (codes "begin x y") ≡ Err BadWord
begins_others = refl

begins_three : event (codes "begin x y z") ≡ Err BadCount
begins_three = refl

begins_two_behind : event (codes "begin two 1 x") ≡ Err BadCount
begins_two_behind = refl

page_least : event (codes "page 0") ≡ Ok (events.Page 0)
page_least = refl

page_most : event (codes "page 65535") ≡ Ok (events.Page 65535)
page_most = refl

page_past : event (codes "page 65536") ≡ Err BadNumber
page_past = refl

page_alone : event (codes "page") ≡ Err BadCount
page_alone = refl

activates : event (codes "activate 64") ≡ Ok (events.Kernel (commands.Activate 64))
activates = refl

activates_past : event (codes "activate 65536") ≡ Err BadNumber
activates_past = refl

activates_alone : event (codes "activate") ≡ Err BadCount
activates_alone = refl

-- headers
abbrev header : List ℕ → Result (Config AnyPolicy) Reason
header text = header_of any (words_of text)

header_word : header (codes "cpus") ≡ Err BadCount
header_word = refl

header_three : header (codes "cpus 1 Ring") ≡ Err BadCount
header_three = refl

header_case : header (codes "CPUS 2 ring 128") ≡ Err NoHeader
header_case = refl

header_joined : header (codes "cpus2 ring 128") ≡ Err NoHeader
header_joined = refl

header_zero : header (codes "cpus 02 ring 128") ≡ Err BadNumber
header_zero = refl

header_few : header (codes "cpus 1 ring 128") ≡ Err BadNumber
header_few = refl

header_many : header (codes "cpus 129 ring 128") ≡ Err BadNumber
header_many = refl

header_ring_word : header (codes "cpus 2 Ring 100 x") ≡ Err BadWord
header_ring_word = refl

header_no_ring : header (codes "cpus 2 ring 0") ≡ Err BadNumber
header_no_ring = refl

header_ring_least : header (codes "cpus 2 ring 120") ≡ Err BadNumber
header_ring_least = refl

header_ring_past : header (codes "cpus 2 ring 1048584") ≡ Err BadNumber
header_ring_past = refl

header_comment : header (codes "cpus 2 ring 128 # two") ≡ Err BadWord
header_comment = refl

header_number_left : header (codes "cpus 2 ring 128 64") ≡ Err BadWord
header_number_left = refl

header_part_alone : header (codes "cpus 2 ring 128 first-tseq") ≡ Err BadCount
header_part_alone = refl

header_part_for_number : header (codes "cpus 2 ring 128 first-tseq first-gen 1") ≡ Err BadNumber
header_part_for_number = refl

header_tseq_past : header (codes "cpus 2 ring 128 first-tseq 4294967295") ≡ Err BadNumber
header_tseq_past = refl

header_generation_past : header (codes "cpus 2 ring 128 first-gen 4294967296") ≡ Err BadNumber
header_generation_past = refl

header_history_past : header (codes "cpus 2 ring 128 history 16777217") ≡ Err BadNumber
header_history_past = refl

header_zero_twice : header (codes "cpus 2 ring 128 first-tseq 0 first-tseq 0") ≡ Err BadWord
header_zero_twice = refl

header_behind_history : header (codes "cpus 2 ring 128 history 2 x") ≡ Err BadWord
header_behind_history = refl

header_behind_all : header (codes "cpus 2 ring 128 history 2 policy first x") ≡ Err BadCount
header_behind_all = refl

header_policy_first : header (codes "cpus 2 ring 128 policy first") ≡ header (codes "cpus 2 ring 128")
header_policy_first = refl

header_policy_two : header (codes "cpus 2 ring 128 first-gen 3 policy two 65535") ≡ Ok (record { cpus = 2; ring = 128; first_tseq = 0; first_generation = 3; history = 16777216; policy = policies.TwoClass (record { slice = 65535 }) })
header_policy_two = refl

header_policy_named_as_a_part : header (codes "cpus 2 ring 128 policy history 5") ≡ Err BadWord
header_policy_named_as_a_part = refl

header_policy_twice : header (codes "cpus 2 ring 128 policy first policy first") ≡ Err BadCount
header_policy_twice = refl

header_policy_in_front : header (codes "cpus 2 policy first ring 128") ≡ Err BadWord
header_policy_in_front = refl

header_policy_before_history : header (codes "cpus 2 ring 128 policy two 3 history 5") ≡ Err BadCount
header_policy_before_history = refl

header_first_of_two : header (codes "cpus 2 ring 128 history 1 x") ≡ Err BadNumber
header_first_of_two = refl

header_edges : header (codes "cpus 2 ring 136 first-gen 4294967295 history 16777216") ≡ Ok (record { cpus = 2; ring = 136; first_tseq = 0; first_generation = 4294967295; history = 16777216; policy = policies.FirstCome (record {}) })
header_edges = refl

header_first_and_last : header (codes "cpus 2 ring 128 first-tseq 1 history 2") ≡ Ok (record { cpus = 2; ring = 128; first_tseq = 1; first_generation = 1; history = 2; policy = policies.FirstCome (record {}) })
header_first_and_last = refl

-- scripts

header_alone : script_of any (codes "cpus 2 ring 128") ≡ Ok (record { config = record { cpus = 2; ring = 128; first_tseq = 0; first_generation = 1; history = 16777216; policy = policies.FirstCome (record {}) }; events = [] })
header_alone = refl

header_line : script_of any (codes "  cpus 2  ring 128 " ++ 10 ∷ []) ≡ Ok (record { config = record { cpus = 2; ring = 128; first_tseq = 0; first_generation = 1; history = 16777216; policy = policies.FirstCome (record {}) }; events = [] })
header_line = refl

two_events : script_of any (codes "# a" ++ 10 ∷ codes "cpus 2 ring 128" ++ 10 ∷ 10 ∷ codes "drain 1" ++ 10 ∷ codes " #drain 2" ++ 10 ∷ codes "drain 3") ≡ Ok (record { config = record { cpus = 2; ring = 128; first_tseq = 0; first_generation = 1; history = 16777216; policy = policies.FirstCome (record {}) }; events = events.Drain 1 ∷ events.Drain 3 ∷ [] })
two_events = refl

counted_lines : script_of any (codes "#" ++ 10 ∷ 10 ∷ codes "cpus 2 ring 128" ++ 10 ∷ codes "   " ++ 10 ∷ codes "# x" ++ 10 ∷ codes "drain") ≡ Err (fault 6 BadCount)
counted_lines = refl

first_line_first : script_of any (codes "cpus 2 ring 128" ++ 10 ∷ codes "drain" ++ 10 ∷ codes "blok" ++ 10 ∷ 9 ∷ []) ≡ Err (fault 2 BadCount)
first_line_first = refl

header_before_events : script_of any (codes "cpus 2" ++ 10 ∷ codes "blok" ++ 10 ∷ 9 ∷ []) ≡ Err (fault 1 BadCount)
header_before_events = refl

byte_before_header : script_of any (codes "block" ++ 9 ∷ codes "1") ≡ Err (fault 1 BadByte)
byte_before_header = refl

byte_before_word : script_of any (codes "cpus 2 ring 128" ++ 10 ∷ codes "blok 01" ++ 9 ∷ []) ≡ Err (fault 2 BadByte)
byte_before_word = refl

header_before_byte : script_of any (codes "block 1" ++ 10 ∷ 9 ∷ []) ≡ Err (fault 1 NoHeader)
header_before_byte = refl

byte_without_header : script_of any (codes "# a" ++ 10 ∷ codes "#" ++ 0 ∷ []) ≡ Err (fault 2 BadByte)
byte_without_header = refl

return_at_end : script_of any (codes "cpus 2 ring 128" ++ 13 ∷ 10 ∷ []) ≡ Err (fault 1 BadByte)
return_at_end = refl

-- the policy, and the part before it
abbrev policy : List ℕ → Option Reason
policy text = first_fault (histories any) (words_of text)

policy_first : policy (codes "history 5 policy first") ≡ None
policy_first = refl

policy_two : policy (codes "policy two 7") ≡ None
policy_two = refl

policy_least : policy (codes "policy two 1") ≡ None
policy_least = refl

policy_most : policy (codes "policy two 65535") ≡ None
policy_most = refl

policy_past : policy (codes "policy two 65536") ≡ Some BadNumber
policy_past = refl

policy_none : policy (codes "policy two 0") ≡ Some BadNumber
policy_none = refl

policy_no_number : policy (codes "policy two x") ≡ Some BadNumber
policy_no_number = refl

policy_zero_first : policy (codes "policy two 03") ≡ Some BadNumber
policy_zero_first = refl

policy_alone : policy (codes "policy") ≡ Some BadCount
policy_alone = refl

policy_half : policy (codes "policy two") ≡ Some BadCount
policy_half = refl

policy_third : policy (codes "policy third") ≡ Some BadWord
policy_third = refl

policy_third_first : policy (codes "policy third 0 x") ≡ Some BadWord
policy_third_first = refl

policy_first_two : policy (codes "policy first 2") ≡ Some BadCount
policy_first_two = refl

policy_two_more : policy (codes "policy two 3 x") ≡ Some BadCount
policy_two_more = refl

policy_left_first : policy (codes "policy two 0 x") ≡ Some BadNumber
policy_left_first = refl

behind_policy : policy (codes "policy first history 5") ≡ Some BadCount
behind_policy = refl

behind_history : policy (codes "history 5 policie") ≡ Some BadWord
behind_history = refl

history_twice : policy (codes "history 5 history 5") ≡ Some BadWord
history_twice = refl

-- forms that come in several shapes
abbrev begins : List Form
begins = [] ∷ (literal (codes "first") ∷ []) ∷ (literal (codes "two") ∷ Number 1 65535 ∷ []) ∷ []

abbrev begin : List ℕ → Option Reason
begin text = line_fault begins (words_of text)

begin_alone : begin [] ≡ None
begin_alone = refl

begin_half : begin (codes "two") ≡ Some BadCount
begin_half = refl

begin_more : begin (codes "first x") ≡ Some BadCount
begin_more = refl

begin_other : begin (codes "x y") ≡ Some BadWord
begin_other = refl

begin_three : begin (codes "x y z") ≡ Some BadCount
begin_three = refl

begin_none : begin (codes "two 0") ≡ Some BadNumber
begin_none = refl

abbrev stamps : List ℕ → Option Reason
stamps text = line_fault ((u16s ∷ u32s ∷ []) ∷ (u16s ∷ u32s ∷ literal (codes "p") ∷ []) ∷ []) (words_of text)

stamp_other : stamps (codes "1 1 q") ≡ Some BadWord
stamp_other = refl

stamp_left_first : stamps (codes "1 x q") ≡ Some BadNumber
stamp_left_first = refl

stamp_short : stamps (codes "1") ≡ Some BadCount
stamp_short = refl

-- what a helper of the code returns
placed_in_line : placed 3 (line_errors.Fault BadByte) ≡ script_errors.Fault (fault 3 BadByte)
placed_in_line = refl

plus_is_no_beginning : begins_plainly (codes "+5") ≡ false
plus_is_no_beginning = refl
