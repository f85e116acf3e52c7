-- What is shown of some events.
use Rattle.std.proofs.Common.{◌≡◌, refl, Bool, true, false, ℕ, Option, Some, None, Ok, List, [], ◌∷◌, ◌++◌, codes}
use Rattle.std.specs.Fmt.{digits}
use Rattle.gs_layout.specs.declared.facts.Class.TheVariants.{Zero}
use Rattle.gs_layout.specs.declared.facts.Facts.{Facts}
use Rattle.gs_layout.specs.declared.refusal.Refusal.TheVariants as refusals
use Rattle.gs_layout.specs.declared.outcome.Outcome.{Outcome}
use Rattle.gs_layout.specs.declared.outcome.Outcome.TheVariants as outcomes
use Rattle.gs_layout.specs.declared.message.Change.TheVariants as changes
use Rattle.gs_layout.specs.declared.message.Message.TheVariants.{Thread}
use Rattle.gs_slots.specs.Flags.{no_flags}
use Rattle.gs_slots.specs.declared.state.SlotState.TheVariants.{Idle, Stamped}
use Rattle.gs_journal.specs.declared.entry.Entry.TheVariants as entries
use Rattle.gs_journal.specs.History.{History}
use Rattle.gs_kernel.specs.declared.landing.Landing.{Landing}
use Rattle.gs_kernel.specs.declared.command.Command.TheVariants as commands
use Rattle.gs_kernel.specs.declared.thread_event.ThreadEvent.TheVariants as happens
use Rattle.gs_replies.specs.declared.reply.Reply.TheVariants as replies
use Rattle.gs_core.specs.declared.event.Event.{Event}
use Rattle.gs_core.specs.declared.event.Event.TheVariants as events
use Rattle.gs_core.specs.declared.transaction.Transaction.{Transaction}
use Rattle.gs_lines.specs.Lines.{line}
use Rattle.gs_reasons.specs.Place.{last_place}
use Rattle.gs_sentences.specs.Words.{said}
use Rattle.gs_explain.specs.Moment.{Moment}
use Rattle.gs_trace.specs.Noted.{filled, page_after}
use Rattle.gs_explain.specs.Rows.{row}

abbrev facts : Facts
facts = record { mask = 7; runnable = true; class = Zero; name = [] }

-- a thread that was created on line 2, another one on line 3, a new mask of the first on line 6, and a placing of the second on line 7
abbrev some : History
some = entries.Role 1 0 ∷ entries.Posted (Thread 1 1 (changes.Created facts)) ∷ entries.Posted (Thread 2 1 (changes.Created facts)) ∷ entries.Posted (Thread 1 2 (changes.Affinity None false 7)) ∷ entries.Placed 2 1 2 1 ∷ []

-- the transactions of lines 4 and 5
abbrev two : Bool → List Transaction
two g = record { cpu = 1; slot = record { generation = 1; tid = 1; tseq = 1; flags = record no_flags { group = g } } } ∷ record { cpu = 2; slot = record { generation = 1; tid = 2; tseq = 1; flags = record no_flags { group = g } } } ∷ []

abbrev at_hand : Bool → Event (Unit {0}) → Moment
at_hand g e =
    record {
      lines = 1 ∷ 2 ∷ 3 ∷ 6 ∷ 7 ∷ [];
      stamped = 4 ∷ 5 ∷ [];
      page = None;
      event = e;
      history = some;
      transactions = two g;
      slots = Ok Idle ∷ Ok (Stamped (record { generation = 1; tid = 1; tseq = 1; flags = record no_flags { group = g } })) ∷ Ok Idle ∷ [];
      settings = record { cpus = 3; first_tseq = 0; first_generation = 1; history = 9 };
      overflow = record { needs = 24; free = 16 };
    }

abbrev landed : ℕ → ℕ → ℕ → Outcome → Option ℕ → Landing
landed k t n o at = record { cpu = k; tid = t; outcome = o; seen = n; at = at }

-- the second one is placed by the very commit, and is asked for only behind its placing
committed : row (7, codes "commit 6") (at_hand false (events.Commit 6)) 4 (replies.Landed (landed 1 1 2 outcomes.Stale None ∷ landed 2 2 1 outcomes.Placed (Some 2) ∷ []) false)
    ≡ line (codes "line 7: commit 6") ++ line (codes "cpu 1 stale 1 seq 2") ++ line (codes "  stamped at seq 1 on line 4; thread 1 has seq 2 since its new mask of line 6 (entry 3)") ++ line (codes "cpu 2 placed 2 seq 1") ++ line (codes "  entry 4")
unfolding digits said last_place
committed = refl

-- a reason that an earlier landing of the same commit added
busy_by_the_same : row (7, codes "commit 6") (at_hand false (events.Commit 6)) 4 (replies.Landed (landed 2 2 1 outcomes.Placed (Some 2) ∷ landed 1 2 1 outcomes.AlreadyPlaced (Some 2) ∷ []) false)
    ≡ line (codes "line 7: commit 6") ++ line (codes "cpu 2 placed 2 seq 1") ++ line (codes "cpu 1 alreadyplaced 2 seq 1") ++ line (codes "  thread 2 is on CPU 2 since line 7 (entry 4)") ++ line (codes "  entry 4")
unfolding digits said last_place
busy_by_the_same = refl

-- one of a group is stale, and the other fails with it
group_failed : row (8, codes "commit 6") (at_hand true (events.Commit 6)) 5 (replies.Landed (landed 1 1 2 outcomes.Stale None ∷ landed 2 2 1 outcomes.GroupFailed None ∷ []) false)
    ≡ line (codes "line 8: commit 6") ++ line (codes "cpu 1 stale 1 seq 2") ++ line (codes "  stamped at seq 1 on line 4; thread 1 has seq 2 since its new mask of line 6 (entry 3)")
    ++ line (codes "cpu 2 groupfailed 2 seq 1") ++ line (codes "  its group failed: thread 1 for CPU 1 landed as stale")
unfolding digits said last_place
group_failed = refl

nothing_stamped : row (8, codes "commit 1") (at_hand false (events.Commit 1)) 5 (replies.Landed [] false) ≡ line (codes "line 8: commit 1") ++ line (codes "  no slot of the mask is stamped")
unfolding digits said last_place
nothing_stamped = refl

late : row (8, codes "late 2") (at_hand false (events.Late 2)) 5 (replies.Late 2 (landed 2 2 1 outcomes.AlreadyPlaced (Some 2)) false)
    ≡ line (codes "line 8: late 2") ++ line (codes "late 2 alreadyplaced 2 seq 1") ++ line (codes "  thread 2 is on CPU 2 since line 7 (entry 4)")
unfolding digits said last_place
late = refl

refused : row (8, codes "wake 2") (at_hand false (events.Kernel (commands.Thread 2 happens.Wake))) 5 (replies.Refused refusals.NotBlocked)
    ≡ line (codes "line 8: wake 2") ++ line (codes "refused 3 NotBlocked") ++ line (codes "  thread 2 may run since line 3 (entry 2)")
unfolding digits said last_place
refused = refl

slot_open : row (8, codes "stamp 2 1") (at_hand false (events.Stamp 2 1 no_flags)) 5 (replies.Refused refusals.SlotOpen)
    ≡ line (codes "line 8: stamp 2 1") ++ line (codes "refused 16 SlotOpen") ++ line (codes "  transaction 2 of line 5 waits in the slot of CPU 2")
unfolding digits said last_place
slot_open = refl

leaving : row (8, codes "leave") (at_hand false (events.Kernel commands.Leave)) 5 (replies.Refused refusals.SlotOpen)
    ≡ line (codes "line 8: leave") ++ line (codes "refused 16 SlotOpen") ++ line (codes "  transaction 1 of line 4 waits in the slot of CPU 1")
unfolding digits said last_place
leaving = refl

drained : row (8, codes "drain 9") (at_hand false (events.Drain 9)) 5 (replies.Drained (record { count = 3; skipped = 2; orphans = 1; stop = None }))
    ≡ line (codes "line 8: drain 9") ++ line (codes "drained 3 skipped 2 orphans 1") ++ line (codes "  2 skipped: no newer than what the agent knew of the thread") ++ line (codes "  1 orphans: about a thread of which the agent knew nothing")
unfolding digits said last_place
drained = refl

torn : row (8, codes "tick 1") (at_hand false (events.Kernel (commands.Tick 1))) 3 replies.Torn
    ≡ line (codes "line 8: tick 1") ++ line (codes "torn") ++ line (codes "  the message needs 24 bytes with its pad, and 16 are free") ++ line (codes "  entries 3 to 4")
unfolding digits said last_place
torn = refl

two_more_lines : filled 4 9 (1 ∷ 2 ∷ []) ≡ 1 ∷ 2 ∷ 9 ∷ 9 ∷ []
two_more_lines = refl

last_page : page_after 9 (replies.Page 1 None []) None ≡ Some 9
last_page = refl

not_the_last_page : page_after 9 (replies.Page 1 (Some 4) []) None ≡ None
not_the_last_page = refl

next_agent : page_after 9 (replies.Done (entries.Begin 3)) (Some 7) ≡ None
next_agent = refl
