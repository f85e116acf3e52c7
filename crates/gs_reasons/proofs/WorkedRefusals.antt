-- Refusals of commands, each with the place of its reason, computed.
use Rattle.std.proofs.Common.{◌≡◌, refl, ℕ, Bool, true, false, Option, None, Some, [], ◌∷◌}
use Rattle.std.specs.Option.{option_map}
use Rattle.gs_layout.specs.declared.facts.Class.TheVariants.{Zero}
use Rattle.gs_layout.specs.declared.facts.Facts.{Facts}
use Rattle.gs_layout.specs.declared.message.Change.TheVariants.{Blocked, Created, Wakeup}
use Rattle.gs_layout.specs.declared.message.Message.TheVariants.{Thread}
use Rattle.gs_layout.specs.declared.refusal.Refusal.{Refusal}
use Rattle.gs_layout.specs.declared.refusal.Refusal.TheVariants as refusals
use Rattle.gs_journal.specs.declared.entry.Entry.TheVariants.{Posted, Placed, Role, Begin, Left, Taken, Given, Torn}
use Rattle.gs_journal.specs.History.{History, active, at, attaching, generation, last_taken, messages, on, posted, record_in, seq, taken, torn}
use Rattle.gs_journal.specs.Record.{record_of}
use Rattle.gs_journal.specs.Standing.{last_of, latest, standing}
use Rattle.gs_kernel.specs.declared.command.Command.{Command}
use Rattle.gs_kernel.specs.declared.command.Command.TheVariants as commands
use Rattle.gs_kernel.specs.declared.settings.Settings.{Settings}
use Rattle.gs_kernel.specs.declared.thread_event.ThreadEvent.TheVariants as happens
use Rattle.gs_kernel.specs.Attaching.{activate_refusal, begin_refusal}
use Rattle.gs_kernel.specs.Kernel.{give_refusal, hand_off_refusal, take_refusal, thread_refusal}
use Rattle.gs_kernel.specs.Legal.{refusal}
use Rattle.gs_reasons.specs.Cause.{place_of}
use Rattle.gs_reasons.specs.Place.{last_place}
use Rattle.gs_reasons.specs.Refused.{sign_of_refusal}

three : Settings
three = record { cpus = 3; first_tseq = 0; first_generation = 1; history = 16 }

facts : Facts
facts = record { runnable = true; mask = 7; class = Zero; name = [] }

-- the refusal of a command, and the place of the entry that is its reason
shown : History → Bool → Command → Option (Refusal × Option ℕ)
shown h given c = option_map (λ r. (r, place_of (sign_of_refusal c r) h)) (refusal three h given c)

-- thread 1 blocked on CPU 1 and woke, thread 2 is on CPU 2, and CPU 1 was taken and given back
some : History
some = Role 1 0 ∷ Posted (Thread 1 1 (Created facts)) ∷ Posted (Thread 2 1 (Created facts)) ∷ Placed 1 1 1 1 ∷ Posted (Thread 1 2 (Blocked 1)) ∷ Taken 1 ∷ Placed 2 1 2 1 ∷ Posted (Thread 1 3 Wakeup) ∷ Given 1 ∷ []

off : shown some false (commands.Thread 1 happens.Yield) ≡ Some (refusals.NotRunning, Some 4)
unfolding shown some three facts thread_refusal torn record_in record_of messages posted seq at on standing latest last_of last_place
off = refl

may_run : shown some false (commands.Thread 1 happens.Wake) ≡ Some (refusals.NotBlocked, Some 7)
unfolding shown some three facts thread_refusal torn record_in record_of messages posted seq at on standing latest last_of last_place
may_run = refl

unknown : shown some false (commands.Thread 3 happens.Wake) ≡ Some (refusals.NoThread, None)
unfolding shown some three facts thread_refusal torn record_in record_of messages posted seq at on standing latest last_of last_place
unknown = refl

given_back : shown some false (commands.Give 1) ≡ Some (refusals.NotTaken, Some 8)
unfolding shown some three facts give_refusal torn taken last_taken standing latest last_of last_place
given_back = refl

never_taken : shown some false (commands.Give 2) ≡ Some (refusals.NotTaken, None)
unfolding shown some three facts give_refusal torn taken last_taken standing latest last_of last_place
never_taken = refl

agent_there : shown some false (commands.Take 0) ≡ Some (refusals.AgentThere, Some 0)
unfolding shown some three facts take_refusal torn active taken last_taken on standing latest last_of last_place
agent_there = refl

active_still : shown some false commands.Begin ≡ Some (refusals.StillAttached, Some 0)
unfolding shown some three facts begin_refusal torn active attaching generation standing latest last_of last_place
active_still = refl

-- the next agent waits for its last page
begun : History
begun = Role 1 0 ∷ Left ∷ Begin 2 ∷ []

not_ready : shown begun false (commands.Activate 1) ≡ Some (refusals.NotAttaching, Some 2)
unfolding shown begun three activate_refusal take_refusal torn active attaching taken last_taken on standing latest last_of last_place
not_ready = refl

-- and none is active
none_active : shown begun false (commands.HandOff 1) ≡ Some (refusals.NotActive, Some 2)
unfolding shown begun three hand_off_refusal take_refusal torn active generation taken last_taken on standing latest last_of last_place
none_active = refl

torn_down : shown (Role 1 0 ∷ Taken 1 ∷ Torn ∷ []) false (commands.Tick 9) ≡ Some (refusals.Gone, Some 2)
unfolding shown three torn last_place
torn_down = refl

-- the last generation
last_one : History
last_one = Role 4294967295 0 ∷ Left ∷ []

no_generation : shown last_one false commands.Begin ≡ Some (refusals.GenSpent, Some 0)
unfolding shown last_one three begin_refusal torn active attaching generation standing latest last_of last_place
no_generation = refl

-- no kernel's history: thread 2 is put on CPU 1 while thread 1 is there. So thread 1 is on no CPU, though no entry took it off
replaced : History
replaced = Role 1 0 ∷ Posted (Thread 1 1 (Created facts)) ∷ Posted (Thread 2 1 (Created facts)) ∷ Placed 1 1 1 1 ∷ Placed 2 1 1 1 ∷ []

nowhere : shown replaced false (commands.Thread 1 happens.Block) ≡ Some (refusals.NotRunning, None)
unfolding shown replaced three facts thread_refusal torn record_in record_of messages posted seq at on standing latest last_of last_place
nowhere = refl
