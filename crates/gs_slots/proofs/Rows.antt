-- The definitions computed on slots worked out by hand.
use Rattle.std.proofs.Common.{◌≡◌, true, ℕ, None, Some, Ok, Err, List, [], ◌∷◌, ◌++◌, replicate, slice_set, refl}
use Rattle.gs_layout.specs.declared.outcome.Outcome.TheVariants.{Placed, Stale, HistoryFull}
use Rattle.gs_slots.specs.declared.state.SlotState.TheVariants.{Idle, Stamped, Done}
use Rattle.gs_slots.specs.declared.state.Stamp.{Stamp}
use Rattle.gs_slots.specs.Flags.{no_flags, single}
use Rattle.gs_slots.specs.Lending.{left_as}
use Rattle.gs_slots.specs.Reading.{is_spelt, state_in}
use Rattle.gs_slots.specs.Spelling.{slot_spelling}
use Rattle.gs_slots.specs.State.{Held, collected, finished, outcome_of, refused}

abbrev first : Stamp
first = record { generation = 1; tid = 1; tseq = 1; flags = no_flags }

abbrev greatest : Stamp
greatest = record { generation = 4294967295; tid = 65536; tseq = 4294967294; flags = record (single true) { group = true } }

-- stamped for CPU 1
abbrev stamped_bytes : List ℕ
stamped_bytes = (1 ∷ 0 ∷ 1 ∷ 0 ∷ 1 ∷ 0 ∷ 0 ∷ 0 ∷ 1 ∷ 0 ∷ 0 ∷ 0 ∷ 1 ∷ 0 ∷ 0 ∷ 0 ∷ []) ++ replicate 16 0

-- the same after it was placed
abbrev placed_bytes : List ℕ
placed_bytes = (2 ∷ 0 ∷ 1 ∷ 0 ∷ 1 ∷ 0 ∷ 0 ∷ 0 ∷ 1 ∷ 0 ∷ 0 ∷ 0 ∷ 1 ∷ 0 ∷ 0 ∷ 0 ∷ 0 ∷ 0 ∷ 1 ∷ 0 ∷ 1 ∷ 0 ∷ 0 ∷ 0 ∷ []) ++ replicate 8 0

-- a transaction of a group that preempts, on CPU 127, for which the journal had no room
abbrev full_bytes : List ℕ
full_bytes = (2 ∷ 3 ∷ 127 ∷ 0 ∷ 255 ∷ 255 ∷ 255 ∷ 255 ∷ 0 ∷ 0 ∷ 1 ∷ 0 ∷ 254 ∷ 255 ∷ 255 ∷ 255 ∷ 12 ∷ 0 ∷ 255 ∷ 255 ∷ 254 ∷ 255 ∷ 255 ∷ 255 ∷ []) ++ replicate 8 0

idle_spelt : slot_spelling 5 Idle ≡ replicate 32 0
idle_spelt = refl

stamped_spelt : slot_spelling 1 (Stamped first) ≡ stamped_bytes
stamped_spelt = refl

placed_spelt : slot_spelling 1 (Done first Placed (Some 1) 1) ≡ placed_bytes
placed_spelt = refl

full_spelt : slot_spelling 127 (Done greatest HistoryFull None 4294967294) ≡ full_bytes
full_spelt = refl

-- CPU 1's slot after it landed malformed
abbrev refused_bytes : List ℕ
refused_bytes = (2 ∷ 0 ∷ 1 ∷ 0 ∷ []) ++ replicate 12 0 ++ (13 ∷ 0 ∷ 255 ∷ 255 ∷ []) ++ replicate 12 0

refused_spelt : slot_spelling 1 refused ≡ refused_bytes
refused_spelt = refl

idle_read : state_in 5 (replicate 32 0) ≡ Ok Idle
unfolding state_in is_spelt
idle_read = refl

stamped_read : state_in 1 stamped_bytes ≡ Ok (Stamped first)
unfolding state_in is_spelt
stamped_read = refl

placed_read : state_in 1 placed_bytes ≡ Ok (Done first Placed (Some 1) 1)
unfolding state_in is_spelt
placed_read = refl

full_read : state_in 127 full_bytes ≡ Ok (Done greatest HistoryFull None 4294967294)
unfolding state_in is_spelt
full_read = refl

refused_read : state_in 1 refused_bytes ≡ Ok refused
unfolding state_in is_spelt
refused_read = refl

-- malformed: another CPU's; all ones; a third flag; an outcome 15; a place 128; a byte behind the fields. Malformed too: an idle slot with a byte
-- set; a malformed landing of a thread
abbrev malformed : Held
malformed = Err (record {})

other_cpu : state_in 2 stamped_bytes ≡ malformed
unfolding state_in is_spelt
other_cpu = refl

all_ones : state_in 1 (replicate 32 255) ≡ malformed
unfolding state_in is_spelt
all_ones = refl

other_flag : state_in 1 (slice_set stamped_bytes 1 4) ≡ malformed
unfolding state_in is_spelt
other_flag = refl

other_outcome : state_in 1 (slice_set placed_bytes 16 15) ≡ malformed
unfolding state_in is_spelt
other_outcome = refl

other_place : state_in 1 (slice_set placed_bytes 18 128) ≡ malformed
unfolding state_in is_spelt
other_place = refl

other_padding : state_in 1 (slice_set placed_bytes 31 1) ≡ malformed
unfolding state_in is_spelt
other_padding = refl

other_idle : state_in 1 (slice_set (replicate 32 0) 9 1) ≡ malformed
unfolding state_in is_spelt
other_idle = refl

other_refusal : state_in 1 (slice_set refused_bytes 8 1) ≡ malformed
unfolding state_in is_spelt
other_refusal = refl

-- only a stamped slot is finished, and only a done one is collected
stamped_finished : finished Stale None 7 (Stamped greatest) ≡ Done greatest Stale None 7
stamped_finished = refl

done_finished : finished Stale None 7 (Done first Placed (Some 1) 1) ≡ Done first Placed (Some 1) 1
done_finished = refl

done_collected : collected (Done first Placed (Some 1) 1) ≡ Idle
done_collected = refl

stamped_collected : collected (Stamped first) ≡ Stamped first
stamped_collected = refl

stamped_outcome : outcome_of (Stamped first) ≡ None
stamped_outcome = refl

done_outcome : outcome_of (Done first HistoryFull None 1) ≡ Some HistoryFull
done_outcome = refl

-- a region of three is the slots as they are left, in order
three_left : left_as (replicate 32 0 ∷ stamped_bytes ∷ placed_bytes ∷ []) (full_bytes ∷ replicate 32 0 ∷ stamped_bytes ∷ []) ≡ full_bytes ∷ replicate 32 0 ∷ stamped_bytes ∷ []
three_left = refl
