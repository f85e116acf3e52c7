-- The lines of some replies.
use Rattle.std.proofs.Common.{◌≡◌, [], ◌∷◌, ◌++◌, codes, refl, true, false, Some, None}
use Rattle.std.specs.Fmt.{digits}
use Rattle.gs_layout.specs.declared.refusal.Refusal.TheVariants as refusals
use Rattle.gs_layout.specs.declared.outcome.Outcome.TheVariants as outcomes
use Rattle.gs_agent.specs.declared.drained.Stop.TheVariants.{Gap}
use Rattle.gs_replies.specs.declared.reply.Reply.TheVariants.{Refused, Torn, Done, Crashed, Page, Drained, Stamped, Decided, Landed, Late, View, State, Unread}
use Rattle.gs_journal.specs.declared.entry.Entry.TheVariants as entries
use Rattle.gs_journal.specs.declared.entry.Entry.TheVariants.{Posted, Taken, Given, Placed, Role, Begin, Left}
use Rattle.gs_layout.specs.declared.facts.Class.TheVariants.{Zero, One}
use Rattle.gs_layout.specs.declared.message.Change.TheVariants as changes
use Rattle.gs_layout.specs.declared.message.Message.TheVariants.{Thread, TimerTick}
use Rattle.gs_lines.specs.Lines.{lines, line}

refused : lines (Refused refusals.SlotOpen ∷ []) ≡ line (codes "refused 16 SlotOpen")
refused = refl

created : lines (Done (Posted (Thread 1 4294967295 (changes.Created (record { runnable = true; mask = 3; class = Zero; name = codes "web" })))) ∷ Stamped 12 ∷ []) ≡ line (codes "created 1 seq 4294967295") ++ line (codes "stamped 12")
unfolding digits
created = refl

drained : lines (Drained (record { count = 0; skipped = 0; orphans = 0; stop = None }) ∷ []) ≡ line (codes "drained 0")
unfolding digits
drained = refl

drained_in_part : lines (Drained (record { count = 6; skipped = 1; orphans = 2; stop = Some Gap }) ∷ []) ≡ line (codes "drained 6 skipped 1 orphans 2 stopped gap")
unfolding digits
drained_in_part = refl

nothing_decided : lines (Decided 7 [] ∷ []) ≡ line (codes "decided 0")
unfolding digits
nothing_decided = refl

decided : lines (Decided 1 (record { cpu = 1; tid = 1; preempt = false } ∷ record { cpu = 2; tid = 2; preempt = false } ∷ []) ∷ [])
    ≡ line (codes "decided 2") ++ line (codes "stamped 1 cpu 1 thread 1") ++ line (codes "stamped 2 cpu 2 thread 2")
unfolding digits
decided = refl

decided_to_preempt : lines (Decided 9 (record { cpu = 63; tid = 65536; preempt = true } ∷ record { cpu = 0; tid = 2; preempt = false } ∷ record { cpu = 1; tid = 3; preempt = true } ∷ []) ∷ Stamped 12 ∷ [])
    ≡ line (codes "decided 3") ++ line (codes "stamped 9 cpu 63 thread 65536 preempt") ++ line (codes "stamped 10 cpu 0 thread 2") ++ line (codes "stamped 11 cpu 1 thread 3 preempt") ++ line (codes "stamped 12")
unfolding digits
decided_to_preempt = refl

landed_nowhere : lines (Landed [] false ∷ []) ≡ []
landed_nowhere = refl

landed_and_torn : lines (Landed (record { cpu = 1; tid = 2; outcome = outcomes.Gone; seen = 1; at = None } ∷ []) true ∷ []) ≡ line (codes "cpu 1 gone 2 seq 1") ++ line (codes "torn")
unfolding digits
landed_and_torn = refl

late_landed : lines (Late 12 (record { cpu = 1; tid = 3; outcome = outcomes.Stale; seen = 4; at = None }) false ∷ []) ≡ line (codes "late 12 stale 3 seq 4")
unfolding digits
late_landed = refl

late_and_torn : lines (Late 1 (record { cpu = 1; tid = 3; outcome = outcomes.Gone; seen = 4; at = None }) true ∷ []) ≡ line (codes "late 1 gone 3 seq 4") ++ line (codes "torn")
unfolding digits
late_and_torn = refl

landed : lines (Landed (record { cpu = 1; tid = 1; outcome = outcomes.Placed; seen = 1; at = Some 1 } ∷ record { cpu = 2; tid = 65536; outcome = outcomes.CpuIsAgent; seen = 0; at = None } ∷ []) false ∷ []) ≡ line (codes "cpu 1 placed 1 seq 1") ++ line (codes "cpu 2 cpuisagent 65536 seq 0")
unfolding digits
landed = refl

torn : lines (Torn ∷ []) ≡ line (codes "torn")
torn = refl

ticked : lines (Done (Posted (TimerTick 0)) ∷ Done (Posted (TimerTick 63)) ∷ Torn ∷ []) ≡ line (codes "tick 0") ++ line (codes "tick 63") ++ line (codes "torn")
unfolding digits
ticked = refl

nothing_waits : lines (Unread [] ∷ []) ≡ []
nothing_waits = refl

-- one line for each message, in order, of every kind
waits : lines (
    Unread (
    Thread 1 1 (changes.Created (record { runnable = true; mask = 3; class = Zero; name = codes "web" }))
    ∷ Thread 7 3 (changes.Blocked 2)
    ∷ Thread 7 4 changes.Wakeup
    ∷ TimerTick 0
    ∷ Thread 9 5 (changes.Preempted 0)
    ∷ Thread 9 6 (changes.Yield 63)
    ∷ []
    )
    ∷ []
    ) ≡ line (codes "unread created 1 seq 1 cpu -")
    ++ line (codes "unread blocked 7 seq 3 cpu 2")
    ++ line (codes "unread wakeup 7 seq 4 cpu -")
    ++ line (codes "unread tick 0 seq 0 cpu 0")
    ++ line (codes "unread preempted 9 seq 5 cpu 0")
    ++ line (codes "unread yield 9 seq 6 cpu 63")
unfolding digits
waits = refl

-- a death and a new mask, of a thread that was on a CPU and of one that was on none
waits_anywhere : lines (
    Unread (
    Thread 65536 4294967295 (changes.Dead (Some 1))
    ∷ Thread 2 2 (changes.Dead None)
    ∷ Thread 1 2 (changes.Affinity (Some 1) true 1)
    ∷ Thread 1 3 (changes.Affinity None false 2)
    ∷ TimerTick 63
    ∷ []
    )
    ∷ []
    ) ≡ line (codes "unread dead 65536 seq 4294967295 cpu 1")
    ++ line (codes "unread dead 2 seq 2 cpu -")
    ++ line (codes "unread affinity 1 seq 2 cpu 1")
    ++ line (codes "unread affinity 1 seq 3 cpu -")
    ++ line (codes "unread tick 0 seq 0 cpu 63")
unfolding digits
waits_anywhere = refl

-- what happened to a thread
happened : lines (
    Done (Posted (Thread 1 2 (changes.Blocked 1)))
    ∷ Done (Posted (Thread 1 3 changes.Wakeup))
    ∷ Done (Posted (Thread 1 4 (changes.Yield 1)))
    ∷ Done (Posted (Thread 1 5 (changes.Affinity (Some 1) true 1)))
    ∷ Done (Posted (Thread 1 6 (changes.Affinity (Some 1) false 3)))
    ∷ Done (Posted (Thread 1 7 (changes.Affinity None false 3)))
    ∷ Done (Posted (Thread 1 8 (changes.Dead None)))
    ∷ Done (Taken 1)
    ∷ Done (Given 63)
    ∷ []
    ) ≡ line (codes "blocked 1 seq 2")
    ++ line (codes "woken 1 seq 3")
    ++ line (codes "yielded 1 seq 4")
    ++ line (codes "affinity 1 seq 5 off 1")
    ++ line (codes "affinity 1 seq 6")
    ++ line (codes "affinity 1 seq 7")
    ++ line (codes "dead 1 seq 8")
    ++ line (codes "taken 1")
    ++ line (codes "given 63")
unfolding digits
happened = refl

-- one line for each thread that lives
live : lines (
    State (
    record { tid = 1; known = record { facts = record { runnable = true; mask = 1; class = Zero; name = codes "web" }; tseq = 2 }; cpu = None }
    ∷ record { tid = 65536; known = record { facts = record { runnable = false; mask = 18446744073709551615; class = One; name = [] }; tseq = 4294967295 }; cpu = Some 63 }
    ∷ []
    )
    ∷ []
    ) ≡ line (codes "state 1 seq 2 r mask 1 class 0 name web cpu -")
    ++ line (codes "state 65536 seq 4294967295 b mask 18446744073709551615 class 1 name - cpu 63")
unfolding digits
live = refl

known : lines (View ((1, record { facts = record { runnable = true; mask = 3; class = Zero; name = codes "web" }; tseq = 1 }) ∷ (2, record { facts = record { runnable = false; mask = 1; class = One; name = [] }; tseq = 9 }) ∷ []) ∷ [])
    ≡ line (codes "view 1 seq 1 r mask 3 class 0 name web") ++ line (codes "view 2 seq 9 b mask 1 class 1 name -")
unfolding digits
known = refl

-- each other entry of the journal
each_entry : lines (Done (Placed 1 2 3 4) ∷ Done (Role 2 1) ∷ Done (Begin 3) ∷ Done Left ∷ Done entries.Torn ∷ [])
    ≡ line (codes "placed 1 seq 2 cpu 3 generation 4") ++ line (codes "agent 1 generation 2") ++ line (codes "begun generation 3") ++ line (codes "left") ++ line (codes "torn")
unfolding digits
each_entry = refl

-- an agent crashes, and another is told of threads
crashes : lines (Crashed ∷ []) ≡ line (codes "crashed")
crashes = refl

pages : lines (Page 2 (Some 3) (1 ∷ 2 ∷ []) ∷ Page 0 None [] ∷ []) ≡ line (codes "page 2 next 3") ++ line (codes "page 0 end")
unfolding digits
pages = refl
