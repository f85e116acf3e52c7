-- Worked rings, by the definitions.
use Rattle.std.proofs.Common.{◌≡◌, ℕ, true, false, [], ◌∷◌, ◌++◌, replicate, refl}
use Rattle.gs_layout.specs.declared.facts.Class.TheVariants.{Zero}
use Rattle.gs_layout.specs.declared.message.Change.TheVariants.{Created}
use Rattle.gs_layout.specs.declared.message.Message.{Message}
use Rattle.gs_layout.specs.declared.message.Message.TheVariants.{Thread, TimerTick}
use Rattle.gs_layout.specs.Pad.{pad}
use Rattle.gs_layout.specs.Spelling.{spelling}
use Rattle.gs_ring.specs.Block.{behind_front, behind_pad, front_message, messages_in}
use Rattle.gs_ring.specs.Places.{bytes, is_capacity, need, pad_bytes, pad_len, written}
use Rattle.gs_ring.specs.RingState.{RingState, end, free, need_of}

-- a creation with a name of 14 bytes, which has 48
created : ℕ → Message
created t = Thread t 1 (Created (record { runnable = true; mask = 3; class = Zero; name = replicate 14 0x61 }))

-- two of them were posted to a ring of 128 bytes, and consumed
consumed : RingState
consumed = record { capacity = 128; consumed = 2; read = 96; unread = [] }

third_row : (need 128 (written 128 (created 1 ∷ created 2 ∷ [])) 48 ∷ need_of consumed (created 3) ∷ free consumed ∷ []) ≡ 80 ∷ 80 ∷ 128 ∷ []
unfolding created consumed need pad_len
third_row = refl

-- the third lies behind a PAD of 32 bytes, at the start of the block
lies_row : bytes 128 96 (created 3 ∷ []) ≡ 0x20 ∷ 0x00 ∷ 0x09 ∷ 0x00 ∷ replicate 28 0 ++ spelling (created 3)
unfolding created need pad_len pad_bytes
lies_row = refl

after : RingState
after = record { capacity = 128; consumed = 2; read = 96; unread = created 3 ∷ [] }

after_row : (free after ∷ end after ∷ []) ≡ 48 ∷ 176 ∷ []
unfolding created after need pad_len
after_row = refl

-- a record that ends where the block ends has no PAD
fits_row : (need 128 80 48 ∷ need 128 80 56 ∷ need 128 112 16 ∷ need 128 120 16 ∷ []) ≡ 48 ∷ 104 ∷ 16 ∷ 24 ∷ []
unfolding need pad_len
fits_row = refl

-- ticks, of 16 bytes each: eight fill the ring, from whatever place
ticks_row : (written 128 (replicate 8 (TimerTick 1)) ∷ free (record { capacity = 128; consumed = 3; read = 48; unread = replicate 8 (TimerTick 1) }) ∷ []) ≡ 128 ∷ 0 ∷ []
unfolding need pad_len
ticks_row = refl

capacities_row : (is_capacity 120 ∷ is_capacity 128 ∷ is_capacity 132 ∷ is_capacity 136 ∷ is_capacity 1048576 ∷ is_capacity 1048584 ∷ []) ≡ false ∷ true ∷ false ∷ true ∷ true ∷ false ∷ []
capacities_row = refl

-- the first was consumed: the second lies before a PAD in the first segment, the third in the second one
shown_row : messages_in 2 ((spelling (created 2) ++ pad 32) ++ spelling (created 3)) ≡ created 2 ∷ created 3 ∷ []
unfolding created front_message behind_pad behind_front
shown_row = refl
