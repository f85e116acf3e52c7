-- The text of some journals.
use Rattle.std.proofs.Common.{◌≡◌, [], ◌∷◌, ◌++◌, codes, refl, true, false, Some, None}
use Rattle.std.specs.Fmt.{digits}
use Rattle.gs_layout.specs.declared.facts.Class.TheVariants.{Zero, One}
use Rattle.gs_layout.specs.declared.message.Change.TheVariants as changes
use Rattle.gs_layout.specs.declared.message.Message.TheVariants.{Thread, TimerTick}
use Rattle.gs_journal.specs.declared.entry.Entry.TheVariants.{Posted, Placed, Role, Begin, Left, Taken, Given, Torn}
use Rattle.gs_lines.specs.Lines.{line}
use Rattle.gs_history.specs.Journal.{journal_lines}

nothing : journal_lines [] ≡ []
nothing = refl

each_kind : journal_lines (
    Role 1 0
    ∷ Posted (Thread 1 1 (changes.Created (record { runnable = true; mask = 3; class = Zero; name = codes "web" })))
    ∷ Posted (Thread 1 2 (changes.Blocked 1))
    ∷ Posted (TimerTick 1)
    ∷ Placed 1 1 1 1
    ∷ Taken 1
    ∷ Given 1
    ∷ Left
    ∷ Begin 2
    ∷ Torn
    ∷ []
    ) ≡ line (codes "0 role cpu 0 generation 1")
    ++ line (codes "1 posted created 1 seq 1 r mask 3 class 0 name web")
    ++ line (codes "2 posted blocked 1 seq 2 cpu 1")
    ++ line (codes "3 posted tick cpu 1")
    ++ line (codes "4 placed 1 seq 1 cpu 1 generation 1")
    ++ line (codes "5 taken 1")
    ++ line (codes "6 given 1")
    ++ line (codes "7 left")
    ++ line (codes "8 begin generation 2")
    ++ line (codes "9 torn")
unfolding digits
each_kind = refl

each_message : journal_lines (
    Posted (Thread 65536 4294967295 (changes.Created (record { runnable = false; mask = 340282366920938463463374607431768211455; class = One; name = [] })))
    ∷ Posted (Thread 7 4 changes.Wakeup)
    ∷ Posted (Thread 9 5 (changes.Preempted 0))
    ∷ Posted (Thread 9 6 (changes.Yield 127))
    ∷ Posted (Thread 9 7 (changes.Dead (Some 1)))
    ∷ Posted (Thread 2 2 (changes.Dead None))
    ∷ Posted (Thread 1 2 (changes.Affinity (Some 1) true 1))
    ∷ Posted (Thread 1 3 (changes.Affinity (Some 0) false 3))
    ∷ Posted (Thread 1 4 (changes.Affinity None false 2))
    ∷ []
    ) ≡ line (codes "0 posted created 65536 seq 4294967295 b mask 340282366920938463463374607431768211455 class 1 name -")
    ++ line (codes "1 posted woken 7 seq 4")
    ++ line (codes "2 posted preempted 9 seq 5 cpu 0")
    ++ line (codes "3 posted yielded 9 seq 6 cpu 127")
    ++ line (codes "4 posted dead 9 seq 7 cpu 1")
    ++ line (codes "5 posted dead 2 seq 2 cpu -")
    ++ line (codes "6 posted affinity 1 seq 2 mask 1 cpu 1 off")
    ++ line (codes "7 posted affinity 1 seq 3 mask 3 cpu 0")
    ++ line (codes "8 posted affinity 1 seq 4 mask 2 cpu -")
unfolding digits
each_message = refl
