-- The sentence of each outcome, each refusal, and the others.
use Rattle.std.proofs.Common.{◌≡◌, ℕ, codes, refl, true, false, Option, Some, None, []}
use Rattle.std.specs.Fmt.{digits}
use Rattle.gs_layout.specs.declared.refusal.Refusal.{Refusal}
use Rattle.gs_layout.specs.declared.refusal.Refusal.TheVariants as refusals
use Rattle.gs_layout.specs.declared.outcome.Outcome.{Outcome}
use Rattle.gs_layout.specs.declared.outcome.Outcome.TheVariants as outcomes
use Rattle.gs_layout.specs.declared.facts.Class.TheVariants.{Zero}
use Rattle.gs_layout.specs.declared.message.Change.TheVariants as changes
use Rattle.gs_layout.specs.declared.message.Message.TheVariants.{Thread}
use Rattle.gs_agent.specs.declared.drained.Stop.TheVariants.{Gap, Memory}
use Rattle.gs_journal.specs.declared.entry.Entry.{Entry}
use Rattle.gs_journal.specs.declared.entry.Entry.TheVariants as entries
use Rattle.gs_kernel.specs.declared.command.Command.TheVariants as commands
use Rattle.gs_kernel.specs.declared.thread_event.ThreadEvent.TheVariants as happens
use Rattle.gs_core.specs.declared.event.Event.{Event}
use Rattle.gs_core.specs.declared.event.Event.TheVariants as events
use Rattle.gs_slots.specs.Flags.{no_flags}
use Rattle.gs_reasons.specs.declared.group.GroupFault.{GroupFault}
use Rattle.gs_reasons.specs.declared.group.GroupFault.TheVariants.{Slot, Twice}
use Rattle.gs_sentences.specs.Told.{Cause}
use Rattle.gs_sentences.specs.declared.landed.Overflow.{Overflow}
use Rattle.gs_sentences.specs.declared.numbers.Waiting.{Waiting}
use Rattle.gs_sentences.specs.Reason.{Reason}
use Rattle.gs_sentences.specs.Reason as reasons
use Rattle.gs_sentences.specs.Words.{said}
use Rattle.gs_sentences.specs.Reasons.{reason_text}

-- an entry that line 6 added, as the fourth
abbrev by : Entry → Option Cause
by e = Some (record { line = 6; place = 3; entry = e })

-- a transaction for thread 1 and CPU 2, stamped on line 4, that landed so
abbrev landed : Outcome → Option Cause → Option Overflow → Option GroupFault → Reason
landed o c over fault = reasons.Landed (record { landing = record { cpu = 2; tid = 1; outcome = o; seen = 2; at = Some 3 }; stamped = record { generation = 1; tseq = 1; line = 4 }; cause = c; overflow = over; fault = fault; entries = 5; limit = 6 })

-- an event that was refused so, in an enclave of two CPUs
abbrev refused : Refusal → Event (Unit {0}) → Option Cause → Option ℕ → Option Waiting → Reason
refused f e c page waiting = reasons.Refused (record { refusal = f; event = e; cause = c; numbers = record { cpus = 2; entries = 5; transactions = 3; limit = 6; page = page; waiting = waiting } })

placed : reason_text (landed outcomes.Placed None None None) ≡ codes "placed"
unfolding digits said
placed = refl

gone : reason_text (landed outcomes.Gone (by entries.Torn) None None) ≡ codes "the enclave was torn down on line 6 (entry 3)"
unfolding digits said
gone = refl

gone_itself : reason_text (landed outcomes.Gone None (Some (record { needs = 72; free = 48 })) None) ≡ codes "the message needs 72 bytes with its pad, and 48 are free"
unfolding digits said
gone_itself = refl

displaced : reason_text (landed outcomes.Displaced (by (entries.Role 2 1)) None None) ≡ codes "stamped under generation 1 on line 4; generation 2 is active on CPU 1 since line 6 (entry 3)"
unfolding digits said
displaced = refl

displaced_by_none : reason_text (landed outcomes.Displaced (by entries.Left) None None) ≡ codes "stamped under generation 1 on line 4; there is no agent since line 6 (entry 3)"
unfolding digits said
displaced_by_none = refl

displaced_by_begin : reason_text (landed outcomes.Displaced (by (entries.Begin 2)) None None) ≡ codes "stamped under generation 1 on line 4; generation 2 attaches since line 6 (entry 3)"
unfolding digits said
displaced_by_begin = refl

dead : reason_text (landed outcomes.NoThread (by (entries.Posted (Thread 1 2 (changes.Dead None)))) None None) ≡ codes "thread 1 died on line 6 (entry 3)"
unfolding digits said
dead = refl

never : reason_text (landed outcomes.NoThread None None None) ≡ codes "there never was a thread 1"
unfolding digits said
never = refl

stale : reason_text (landed outcomes.Stale (by (entries.Posted (Thread 1 2 (changes.Affinity None false 1)))) None None) ≡ codes "stamped at seq 1 on line 4; thread 1 has seq 2 since its new mask of line 6 (entry 3)"
unfolding digits said
stale = refl

stale_by_block : reason_text (landed outcomes.Stale (by (entries.Posted (Thread 1 2 (changes.Blocked 1)))) None None) ≡ codes "stamped at seq 1 on line 4; thread 1 has seq 2 since it blocked on line 6 (entry 3)"
unfolding digits said
stale_by_block = refl

stale_by_wake : reason_text (landed outcomes.Stale (by (entries.Posted (Thread 1 2 (changes.Wakeup)))) None None) ≡ codes "stamped at seq 1 on line 4; thread 1 has seq 2 since it was woken on line 6 (entry 3)"
unfolding digits said
stale_by_wake = refl

stale_by_way : reason_text (landed outcomes.Stale (by (entries.Posted (Thread 1 2 (changes.Preempted 1)))) None None) ≡ codes "stamped at seq 1 on line 4; thread 1 has seq 2 since it made way on line 6 (entry 3)"
unfolding digits said
stale_by_way = refl

stale_by_yield : reason_text (landed outcomes.Stale (by (entries.Posted (Thread 1 2 (changes.Yield 1)))) None None) ≡ codes "stamped at seq 1 on line 4; thread 1 has seq 2 since it yielded on line 6 (entry 3)"
unfolding digits said
stale_by_yield = refl

blocked : reason_text (landed outcomes.NotRunnable (by (entries.Posted (Thread 1 2 (changes.Blocked 1)))) None None) ≡ codes "thread 1 is blocked since line 6 (entry 3)"
unfolding digits said
blocked = refl

already : reason_text (landed outcomes.AlreadyPlaced (by (entries.Placed 1 1 3 1)) None None) ≡ codes "thread 1 is on CPU 3 since line 6 (entry 3)"
unfolding digits said
already = refl

not_allowed : reason_text (landed outcomes.NotAllowed (by (entries.Posted (Thread 1 2 (changes.Affinity None false 1)))) None None) ≡ codes "thread 1 may not run on CPU 2 by its mask 1 since line 6 (entry 3)"
unfolding digits said
not_allowed = refl

not_allowed_from_the_start : reason_text (landed outcomes.NotAllowed (by (entries.Posted (Thread 1 2 (changes.Created (record { runnable = true; mask = 3; class = Zero; name = [] }))))) None None) ≡ codes "thread 1 may not run on CPU 2 by its mask 3 since line 6 (entry 3)"
unfolding digits said
not_allowed_from_the_start = refl

agent_there : reason_text (landed outcomes.CpuIsAgent (by (entries.Role 1 2)) None None) ≡ codes "generation 1 is active on CPU 2 since line 6 (entry 3)"
unfolding digits said
agent_there = refl

taken : reason_text (landed outcomes.CpuTaken (by (entries.Taken 2)) None None) ≡ codes "the other class holds CPU 2 since line 6 (entry 3)"
unfolding digits said
taken = refl

busy : reason_text (landed outcomes.CpuBusy (by (entries.Placed 7 1 2 1)) None None) ≡ codes "thread 7 is on CPU 2 since line 6 (entry 3)"
unfolding digits said
busy = refl

spent_there : reason_text (landed outcomes.SeqSpent (by (entries.Placed 7 1 2 1)) None None) ≡ codes "thread 7 is on CPU 2 since line 6 (entry 3), and has its last sequence number"
unfolding digits said
spent_there = refl

full : reason_text (landed outcomes.HistoryFull None None None) ≡ codes "the journal has 5 of at most 6 entries, and too few are left"
unfolding digits said
full = refl

malformed : reason_text (landed outcomes.Malformed None None None) ≡ codes "the slot of CPU 2 is malformed"
unfolding digits said
malformed = refl

group : reason_text (landed outcomes.GroupFailed None None (Some (Slot 3 2 outcomes.Stale))) ≡ codes "its group failed: thread 2 for CPU 3 landed as stale"
unfolding digits said
group = refl

group_twice : reason_text (landed outcomes.GroupFailed None None (Some (Twice 2 1 3))) ≡ codes "its group failed: thread 2 is named for CPU 1 and for CPU 3"
unfolding digits said
group_twice = refl

no_thread : reason_text (refused refusals.NoThread (events.Kernel (commands.Thread 1 happens.Block)) (by (entries.Posted (Thread 1 2 (changes.Dead None)))) None None) ≡ codes "thread 1 died on line 6 (entry 3)"
unfolding digits said
no_thread = refl

no_such_thread : reason_text (refused refusals.NoThread (events.Kernel (commands.Thread 1 happens.Block)) None None None) ≡ codes "there never was a thread 1"
unfolding digits said
no_such_thread = refl

not_known : reason_text (refused refusals.NoThread (events.Stamp 1 3 no_flags) None None None) ≡ codes "the agent knows of no thread 3"
unfolding digits said
not_known = refl

not_running : reason_text (refused refusals.NotRunning (events.Kernel (commands.Thread 1 happens.Block)) (by (entries.Posted (Thread 1 2 (changes.Blocked 1)))) None None) ≡ codes "thread 1 is on no CPU since line 6 (entry 3)"
unfolding digits said
not_running = refl

never_placed : reason_text (refused refusals.NotRunning (events.Kernel (commands.Thread 1 happens.Block)) None None None) ≡ codes "thread 1 was never placed"
unfolding digits said
never_placed = refl

not_blocked : reason_text (refused refusals.NotBlocked (events.Kernel (commands.Thread 1 happens.Wake)) (by (entries.Posted (Thread 1 2 (changes.Wakeup)))) None None) ≡ codes "thread 1 may run since line 6 (entry 3)"
unfolding digits said
not_blocked = refl

empty_mask : reason_text (refused refusals.EmptyMask (events.Kernel (commands.Thread 1 (happens.Affinity 0))) None None None) ≡ codes "the mask names no CPU"
unfolding digits said
empty_mask = refl

mask_past : reason_text (refused refusals.EmptyMask (events.Commit 8) None None None) ≡ codes "mask 8 names a CPU past the last, which is 1"
unfolding digits said
mask_past = refl

bad_cpu : reason_text (refused refusals.BadCpu (events.Kernel (commands.Tick 5)) None None None) ≡ codes "there is no CPU 5: the last is 1"
unfolding digits said
bad_cpu = refl

agent_on : reason_text (refused refusals.AgentThere (events.Kernel (commands.Take 1)) (by (entries.Role 1 1)) None None) ≡ codes "generation 1 is active on CPU 1 since line 6 (entry 3)"
unfolding digits said
agent_on = refl

cpu_taken : reason_text (refused refusals.CpuTaken (events.Kernel (commands.Take 1)) (by (entries.Taken 1)) None None) ≡ codes "the other class holds CPU 1 since line 6 (entry 3)"
unfolding digits said
cpu_taken = refl

not_taken : reason_text (refused refusals.NotTaken (events.Kernel (commands.Give 1)) (by (entries.Given 1)) None None) ≡ codes "the other class gave CPU 1 back on line 6 (entry 3)"
unfolding digits said
not_taken = refl

never_taken : reason_text (refused refusals.NotTaken (events.Kernel (commands.Give 1)) None None None) ≡ codes "the other class never took CPU 1"
unfolding digits said
never_taken = refl

not_active : reason_text (refused refusals.NotActive events.Decide (by entries.Left) None None) ≡ codes "there is no agent since line 6 (entry 3)"
unfolding digits said
not_active = refl

still_attached : reason_text (refused refusals.StillAttached (events.Kernel commands.Begin) (by (entries.Role 2 1)) None None) ≡ codes "generation 2 is active on CPU 1 since line 6 (entry 3)"
unfolding digits said
still_attached = refl

not_attaching : reason_text (refused refusals.NotAttaching (events.Page 4) (by (entries.Role 2 1)) None None) ≡ codes "generation 2 is active on CPU 1 since line 6 (entry 3)"
unfolding digits said
not_attaching = refl

given_all : reason_text (refused refusals.NotAttaching (events.Page 4) (by (entries.Begin 2)) (Some 9) None) ≡ codes "generation 2 was given its last page on line 9"
unfolding digits said
given_all = refl

not_given_all : reason_text (refused refusals.NotAttaching (events.Kernel (commands.Activate 1)) (by (entries.Begin 2)) None None) ≡ codes "generation 2 attaches, and was not given its last page"
unfolding digits said
not_given_all = refl

spent : reason_text (refused refusals.SeqSpent (events.Kernel (commands.Thread 1 happens.Block)) (by (entries.Posted (Thread 1 2 (changes.Wakeup)))) None None) ≡ codes "thread 1 has its last sequence number since line 6 (entry 3)"
unfolding digits said
spent = refl

spent_on : reason_text (refused refusals.SeqSpent (events.Kernel (commands.Take 1)) (by (entries.Placed 7 1 1 1)) None None) ≡ codes "thread 7 is on CPU 1 since line 6 (entry 3), and has its last sequence number"
unfolding digits said
spent_on = refl

last_generation : reason_text (refused refusals.GenSpent (events.Kernel commands.Begin) (by (entries.Role 4294967295 1)) None None) ≡ codes "no generation follows that of line 6 (entry 3)"
unfolding digits said
last_generation = refl

last_tid : reason_text (refused refusals.TidsSpent (events.Kernel (commands.Create (record { runnable = true; mask = 3; class = Zero; name = [] }))) (by (entries.Posted (Thread 1 2 (changes.Created (record { runnable = true; mask = 3; class = Zero; name = [] }))))) None None) ≡ codes "no tid follows that of line 6 (entry 3)"
unfolding digits said
last_tid = refl

journal_full : reason_text (refused refusals.HistoryFull (events.Kernel (commands.Thread 1 happens.Block)) None None None) ≡ codes "the journal has 5 of at most 6 entries, and too few are left"
unfolding digits said
journal_full = refl

transactions_full : reason_text (refused refusals.HistoryFull events.Decide None None None) ≡ codes "there are 3 of at most 6 transactions, and too few are left"
unfolding digits said
transactions_full = refl

slot_open : reason_text (refused refusals.SlotOpen (events.Stamp 1 3 no_flags) None None (Some (record { cpu = 1; number = 3; line = 7 }))) ≡ codes "transaction 3 of line 7 waits in the slot of CPU 1"
unfolding digits said
slot_open = refl

no_transaction : reason_text (refused refusals.NoSuchTransaction (events.Late 4) None None None) ≡ codes "the last transaction has number 3"
unfolding digits said
no_transaction = refl

all_gone : reason_text (refused refusals.Gone (events.Kernel (commands.Thread 1 happens.Block)) (by entries.Torn) None None) ≡ codes "the enclave was torn down on line 6 (entry 3)"
unfolding digits said
all_gone = refl

memory : reason_text (refused refusals.OutOfMemory (events.Kernel (commands.Thread 1 happens.Block)) None None None) ≡ codes "out of memory"
unfolding digits said
memory = refl

torn : reason_text (reasons.Torn (record { needs = 72; free = 48 })) ≡ codes "the message needs 72 bytes with its pad, and 48 are free"
unfolding digits said
torn = refl

skipped : reason_text (reasons.Skipped 2) ≡ codes "2 skipped: no newer than what the agent knew of the thread"
unfolding digits said
skipped = refl

orphans : reason_text (reasons.Orphans 3) ≡ codes "3 orphans: about a thread of which the agent knew nothing"
unfolding digits said
orphans = refl

gap : reason_text (reasons.Stopped Gap) ≡ codes "the next message is more than one above what the agent knows"
unfolding digits said
gap = refl

short : reason_text (reasons.Stopped Memory) ≡ codes "out of memory at the next creation"
unfolding digits said
short = refl
