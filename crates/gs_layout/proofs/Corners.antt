-- Corners of the definitions, computed.
use Rattle.std.proofs.Common.{◌≡◌, ℕ, Bool, true, false, Option, Some, None, [], ◌∷◌, replicate, refl}
use Rattle.gs_layout.specs.declared.facts.Class.TheVariants.{Zero}
use Rattle.gs_layout.specs.declared.facts.Facts.{Facts}
use Rattle.gs_layout.specs.declared.known.Known.{Known}
use Rattle.gs_layout.specs.declared.known.Word.TheVariants.{Applied, Orphan, Skipped, Gap}
use Rattle.gs_layout.specs.declared.message.Change.TheVariants as changes
use Rattle.gs_layout.specs.declared.message.Message.TheVariants.{Thread, TimerTick}
use Rattle.gs_layout.specs.declared.record.Record.TheVariants.{Absent, Dead, Live}
use Rattle.gs_layout.specs.Message.{takes_off}
use Rattle.gs_layout.specs.Name.{is_name}
use Rattle.gs_layout.specs.Outcome.{outcome_numbered}
use Rattle.gs_layout.specs.Reading.{cpu_numbered, kind_numbered}
use Rattle.gs_layout.specs.Record.{after}
use Rattle.gs_layout.specs.View.{next_known, word_at}

abbrev facts : Bool → ℕ → Facts
facts may mask = record { runnable = may; mask = mask; class = Zero; name = 119 ∷ 101 ∷ 98 ∷ [] }

abbrev known : ℕ → Option Known
known s = Some (record { facts = facts true 3; tseq = s })

-- a creation of a thread that lives gives it new facts
created_again : after (Live (facts false 3)) (Thread 1 2 (changes.Created (facts true 1))) ≡ Live (facts true 1)
created_again = refl

-- the dead stay dead, whatever is told of them
dead_created : after Dead (Thread 1 2 (changes.Created (facts true 1))) ≡ Dead
dead_created = refl

dead_woken : after Dead (Thread 1 2 changes.Wakeup) ≡ Dead
dead_woken = refl

-- who never was begins by a creation alone, and may be told to be dead
never_woken : after Absent (Thread 1 1 changes.Wakeup) ≡ Absent
never_woken = refl

never_masked : after Absent (Thread 1 1 (changes.Affinity None false 1)) ≡ Absent
never_masked = refl

never_dies : after Absent (Thread 1 1 (changes.Dead None)) ≡ Dead
never_dies = refl

ticked : after (Live (facts true 3)) (TimerTick 0) ≡ Live (facts true 3)
ticked = refl

-- a new mask is all that changes, also if it takes the thread off
new_mask : after (Live (facts false 3)) (Thread 1 2 (changes.Affinity (Some 1) true 4)) ≡ Live (facts false 4)
new_mask = refl

-- who gives way may run on
gave_way : after (Live (facts true 3)) (Thread 1 2 (changes.Yield 1)) ≡ Live (facts true 3)
gave_way = refl

takes_off_another : takes_off 2 (Thread 1 2 (changes.Blocked 0)) ≡ false
takes_off_another = refl

takes_off_by_tick : takes_off 0 (TimerTick 0) ≡ false
takes_off_by_tick = refl

-- nothing is known: a creation is news at any number, and all else is an orphan
first_news : word_at None (Thread 1 9 (changes.Created (facts true 3))) ≡ Applied
first_news = refl

orphan_death : word_at None (Thread 1 9 (changes.Dead None)) ≡ Orphan
orphan_death = refl

-- something is known at number 5
number_none : word_at (known 5) (Thread 1 0 changes.Wakeup) ≡ Skipped
number_none = refl

number_same : word_at (known 5) (Thread 1 5 changes.Wakeup) ≡ Skipped
number_same = refl

number_next : word_at (known 5) (Thread 1 6 (changes.Created (facts true 3))) ≡ Applied
number_next = refl

number_past : word_at (known 5) (Thread 1 7 changes.Wakeup) ≡ Gap
number_past = refl

tick_there : word_at (known 5) (TimerTick 0) ≡ Applied
tick_there = refl

-- a death that applies leaves nothing to be known, and one behind a gap leaves all
buried : next_known (known 5) (Thread 1 6 (changes.Dead None)) ≡ None
buried = refl

not_buried : next_known (known 5) (Thread 1 7 (changes.Dead None)) ≡ known 5
not_buried = refl

no_cpu : cpu_numbered 65535 ≡ None
no_cpu = refl

no_kinds : (kind_numbered 0 ∷ kind_numbered 9 ∷ []) ≡ None ∷ None ∷ []
no_kinds = refl

no_outcome : outcome_numbered 15 ≡ None
no_outcome = refl

longest_name : is_name (replicate 16 33) ≡ true
longest_name = refl

longer_name : is_name (replicate 17 33) ≡ false
longer_name = refl

edges_of_names : (is_name [] ∷ is_name (32 ∷ []) ∷ is_name (126 ∷ []) ∷ is_name (127 ∷ []) ∷ []) ≡ true ∷ false ∷ true ∷ false ∷ []
edges_of_names = refl
