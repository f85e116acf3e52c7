-- Worked rows: the table, and a history that it mirrors.
use Rattle.std.proofs.Common.{◌≡◌, refl, ℕ, Bool, true, false, Option, None, Some, List, [], ◌∷◌, ◌++◌}
use Rattle.gs_layout.specs.declared.facts.Facts.{Facts}
use Rattle.gs_layout.specs.declared.facts.Class.TheVariants.{Zero}
use Rattle.gs_layout.specs.declared.message.Change.TheVariants.{Created, Blocked, Wakeup, Preempted, Yield, Dead as Dies, Affinity}
use Rattle.gs_layout.specs.declared.message.Message.TheVariants.{Thread, TimerTick}
use Rattle.gs_layout.specs.declared.record.Record.{Record}
use Rattle.gs_layout.specs.declared.record.Record.TheVariants.{Absent, Dead, Live}
use Rattle.gs_threads.specs.declared.row.ThreadRow.{ThreadRow}
use Rattle.gs_threads.specs.Rows.{new_row}
use Rattle.gs_threads.specs.Table.{row_of, change_row, rows_after, rows_placed, record_at, number_at, place_at}
use Rattle.gs_threads.specs.Live.{live_from}
use Rattle.gs_threads.specs.Mirrors.{Mirrors}
use Rattle.gs_threads.proofs.Mirroring.{mirrors_posted, mirrors_created}
use Rattle.gs_threads.proofs.Placing.{mirrors_placed, mirrors_quiet}
use Rattle.gs_threads.proofs.Mirrored.{mirrors_none}
use Rattle.gs_journal.specs.declared.entry.Entry.TheVariants.{Posted, Placed, Role}
use Rattle.gs_journal.specs.Standing.{standing, last_of}
use Rattle.gs_journal.specs.History.{History, on, seq, messages, posted}

facts : Bool → ℕ → Facts
facts may mask = record { runnable = may; mask = mask; class = Zero; name = 119 ∷ 101 ∷ 98 ∷ [] }

row : Record → ℕ → Option ℕ → ThreadRow
row r n c = record { «record» = r; tseq = n; cpu = c }

fresh : ThreadRow
fresh = row (Live (facts true 3)) 5 None

-- thread 1 waits, thread 2 runs on CPU 1, thread 3 waits
three : List ThreadRow
three = fresh ∷ row (Live (facts true 3)) 5 (Some 1) ∷ fresh ∷ []

begins : new_row 4 (facts true 3) ≡ fresh
unfolding facts row fresh
begins = refl

placed : rows_placed (fresh ∷ fresh ∷ fresh ∷ []) 2 (Some 1) ≡ three
unfolding rows_placed change_row facts row fresh three
placed = refl

-- thread 2 after a message that takes it off, and after one that leaves it there
after_this : Record → Option ℕ → List ThreadRow
after_this r c = fresh ∷ row r 6 c ∷ fresh ∷ []

ticked : rows_after three (TimerTick 1) ≡ three
unfolding rows_after
ticked = refl

blocked : rows_after three (Thread 2 6 (Blocked 1)) ≡ after_this (Live (facts false 3)) None
unfolding rows_after change_row facts row fresh three after_this
blocked = refl

woken : rows_after (row (Live (facts false 3)) 6 None ∷ []) (Thread 1 7 Wakeup) ≡ row (Live (facts true 3)) 7 None ∷ []
unfolding rows_after change_row facts row
woken = refl

preempted : rows_after three (Thread 2 6 (Preempted 1)) ≡ after_this (Live (facts true 3)) None
unfolding rows_after change_row facts row fresh three after_this
preempted = refl

gave_way : rows_after three (Thread 2 6 (Yield 1)) ≡ after_this (Live (facts true 3)) None
unfolding rows_after change_row facts row fresh three after_this
gave_way = refl

new_mask : rows_after three (Thread 2 6 (Affinity (Some 1) false 2)) ≡ after_this (Live (facts true 2)) (Some 1)
unfolding rows_after change_row facts row fresh three after_this
new_mask = refl

new_mask_takes_off : rows_after three (Thread 2 6 (Affinity (Some 1) true 1)) ≡ after_this (Live (facts true 1)) None
unfolding rows_after change_row facts row fresh three after_this
new_mask_takes_off = refl

dead : rows_after three (Thread 2 6 (Dies (Some 1))) ≡ after_this Dead None
unfolding rows_after change_row facts row fresh three after_this
dead = refl

dead_for_good : rows_after (row Dead 6 None ∷ []) (Thread 1 7 Wakeup) ≡ row Dead 7 None ∷ []
unfolding rows_after change_row facts row
dead_for_good = refl

-- a thread that never was
nobody : rows_after three (Thread 4 6 Wakeup) ≡ three
unfolding rows_after change_row three
nobody = refl

nobody_0 : row_of three 0 ≡ None
unfolding row_of
nobody_0 = refl

nobody_4 : row_of three 4 ≡ None
unfolding row_of three
nobody_4 = refl

first : row_of three 1 ≡ Some fresh
unfolding row_of three
first = refl

number_never : number_at three 4 ≡ 0
unfolding number_at row_of three
number_never = refl

record_never : record_at three 4 ≡ Absent
unfolding record_at row_of three
record_never = refl

runs : place_at three 2 ≡ Some 1
unfolding place_at row_of three row
runs = refl

waits : place_at three 3 ≡ None
unfolding place_at row_of three fresh row
waits = refl

-- the live from a tid on
all_live : live_from three 0 ≡ (1, fresh) ∷ (2, row (Live (facts true 3)) 5 (Some 1)) ∷ (3, fresh) ∷ []
unfolding live_from three fresh row
all_live = refl

live_from_2 : live_from (after_this Dead None) 2 ≡ (3, fresh) ∷ []
unfolding live_from after_this fresh row
live_from_2 = refl

live_from_1 : live_from (after_this Dead None) 1 ≡ (1, fresh) ∷ (3, fresh) ∷ []
unfolding live_from after_this fresh row
live_from_1 = refl

none_live : live_from three 4 ≡ []
unfolding live_from three
none_live = refl

-- thread 1 is created, placed on CPU 1, and blocks: the rows at each step
opened : History
opened = Role 1 0 ∷ []

with_thread : History
with_thread = opened ++ Posted (Thread 1 5 (Created (facts true 3))) ∷ []

with_place : History
with_place = with_thread ++ Placed 1 5 1 1 ∷ []

without_place : History
without_place = with_place ++ Posted (Thread 1 6 (Blocked 1)) ∷ []

mirrored_opened : Mirrors 4 opened []
unfolding opened
mirrored_opened = mirrors_quiet 4 [] [] (Role 1 0) (mirrors_none 4) refl

mirrored_thread : Mirrors 4 with_thread (fresh ∷ [])
unfolding with_thread fresh row
mirrored_thread = mirrors_created 4 opened [] (facts true 3) mirrored_opened

mirrored_place : Mirrors 4 with_place (row (Live (facts true 3)) 5 (Some 1) ∷ [])
unfolding with_place with_thread opened fresh row row_of place_at rows_placed change_row on standing last_of
mirrored_place = mirrors_placed 4 with_thread (fresh ∷ []) 1 5 1 1 mirrored_thread refl refl refl

mirrored_blocked : Mirrors 4 without_place (row (Live (facts false 3)) 6 None ∷ [])
unfolding without_place with_place with_thread opened facts row row_of rows_after change_row seq messages posted
mirrored_blocked =
    mirrors_posted 4 with_place (row (Live (facts true 3)) 5 (Some 1) ∷ []) (Thread 1 6 (Blocked 1)) mirrored_place (refl, refl, refl)
