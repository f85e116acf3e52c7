-- Worked rows: a machine of three CPUs, of which the agent has the first.
use Rattle.std.proofs.Common.{◌≡◌, ℕ, refl, true, false, Option, None, Some, [], ◌∷◌}
use Rattle.gs_layout.specs.declared.message.Change.TheVariants.{Wakeup, Blocked, Affinity}
use Rattle.gs_layout.specs.declared.message.Message.TheVariants.{Thread, TimerTick}
use Rattle.gs_layout.specs.declared.outcome.Outcome.TheVariants.{Placed, AlreadyPlaced, Stale, CpuBusy}
use Rattle.gs_status.specs.Masks.{has}
use Rattle.gs_beliefs.specs.declared.running.Running.{Running}
use Rattle.gs_beliefs.specs.Cpus.{Cpus, unknown, believed_on, stamp_on, is_believed, is_named, is_usable, is_free, clears, raises, ticks, places, stamps, unstamps}
use Rattle.gs_beliefs.specs.Belief.{hears, after_outcome}

abbrev at : ℕ → ℕ → ℕ → Option Running
at t n ticks = Some (record { tid = t; tseq = n; ticks = ticks })

-- these beliefs on three CPUs, with no stamp
abbrev three : Option Running → Option Running → Option Running → Cpus
three a b c = record { believed = a ∷ b ∷ c ∷ []; stamped = None ∷ None ∷ None ∷ []; agent = Some 0 }

begun : unknown 3 (Some 0) ≡ three None None None
begun = refl

placed : places 1 7 4 (unknown 3 (Some 0)) ≡ three None (at 7 4 0) None
placed = refl

-- a thread is on one CPU, and a CPU runs one thread
moved : places 2 7 5 (three None (at 7 4 3) (at 8 2 6)) ≡ three None None (at 7 5 0)
moved = refl

placed_again : places 1 7 5 (three None (at 7 4 3) None) ≡ three None (at 7 5 0) None
placed_again = refl

placed_past : places 3 7 5 (three None (at 7 4 3) None) ≡ three None (at 7 4 3) None
placed_past = refl

cleared : clears 7 (three None (at 7 4 3) (at 8 2 6)) ≡ three None None (at 8 2 6)
cleared = refl

raised : raises 7 5 (three None (at 7 4 3) (at 8 2 6)) ≡ three None (at 7 5 3) (at 8 2 6)
raised = refl

ticked_once : ticks 1 (three None (at 7 4 3) (at 8 2 6)) ≡ three None (at 7 4 4) (at 8 2 6)
ticked_once = refl

ticked_up : ticks 1 (three None (at 7 4 65534) None) ≡ three None (at 7 4 65535) None
ticked_up = refl

ticked_most : ticks 1 (three None (at 7 4 65535) None) ≡ three None (at 7 4 65535) None
ticked_most = refl

ticked_nobody : ticks 2 (three None (at 7 4 3) None) ≡ three None (at 7 4 3) None
ticked_nobody = refl

ticked_past : ticks 3 (three None (at 7 4 3) None) ≡ three None (at 7 4 3) None
ticked_past = refl

heard_blocked : hears (Thread 7 5 (Blocked 1)) (three None (at 7 4 3) (at 8 2 6)) ≡ three None None (at 8 2 6)
heard_blocked = refl

heard_wakeup : hears (Thread 7 5 Wakeup) (three None (at 7 4 3) (at 8 2 6)) ≡ three None (at 7 5 3) (at 8 2 6)
heard_wakeup = refl

-- a mask that leaves the thread where it is, and one that does not
heard_stays : hears (Thread 7 5 (Affinity (Some 1) false 2)) (three None (at 7 4 3) None) ≡ three None (at 7 5 3) None
heard_stays = refl

heard_off : hears (Thread 7 5 (Affinity (Some 1) true 4)) (three None (at 7 4 3) None) ≡ three None None None
heard_off = refl

heard_tick : hears (TimerTick 2) (three None (at 7 4 3) (at 8 2 6)) ≡ three None (at 7 4 3) (at 8 2 7)
heard_tick = refl

learnt_placed : after_outcome Placed (Some 1) 7 4 (three None None None) ≡ three None (at 7 4 0) None
learnt_placed = refl

-- it is on another CPU than was believed, and its ticks begin anew
learnt_already : after_outcome AlreadyPlaced (Some 2) 7 6 (three None (at 7 4 3) None) ≡ three None None (at 7 6 0)
learnt_already = refl

learnt_stale : after_outcome Stale (Some 2) 7 6 (three None (at 7 4 3) None) ≡ three None (at 7 4 3) None
learnt_stale = refl

learnt_busy : after_outcome CpuBusy None 7 6 (three None (at 8 4 3) None) ≡ three None (at 8 4 3) None
learnt_busy = refl

learnt_nowhere : after_outcome Placed None 7 4 (three None None None) ≡ three None None None
learnt_nowhere = refl

-- three CPUs: the agent's own, one that runs thread 7, and one that is idle
abbrev held : Cpus
held = record { believed = None ∷ at 7 4 3 ∷ None ∷ []; stamped = None ∷ None ∷ None ∷ []; agent = Some 0 }

own : is_usable held (has 4) 0 ≡ false
own = refl

busy : is_usable held (has 4) 1 ≡ true
busy = refl

busy_not_free : is_free held (has 4) 1 ≡ false
busy_not_free = refl

taken_away : is_usable held (has 4) 2 ≡ false
taken_away = refl

past_last : is_usable held (has 4) 3 ≡ false
past_last = refl

attaching : is_free (record held { agent = None }) (has 4) 0 ≡ true
attaching = refl

given_back : is_free held (has 0) 2 ≡ true
given_back = refl

stamped : is_usable (stamps 1 9 held) (has 4) 1 ≡ false
stamped = refl

stamp_collected : unstamps 1 (stamps 1 9 held) ≡ held
stamp_collected = refl

stamped_past : stamps 3 9 held ≡ held
stamped_past = refl

names_stamped : is_named (stamps 1 9 held) 9 ≡ true
names_stamped = refl

names_no_belief : is_named held 7 ≡ false
names_no_belief = refl

believes : is_believed held 7 ≡ true
believes = refl

believes_no_stamp : is_believed (stamps 1 9 held) 9 ≡ false
believes_no_stamp = refl

nobody_past : believed_on held 3 ≡ None
nobody_past = refl

stamp_there : stamp_on (stamps 2 9 held) 2 ≡ Some 9
stamp_there = refl
