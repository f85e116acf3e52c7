-- Worked messages, spelled by the definition.
use Rattle.std.proofs.Common.{◌≡◌, ◌^◌, ℕ, true, false, Some, None, List, [], ◌∷◌, ◌++◌, replicate, refl}
use Rattle.gs_layout.specs.declared.facts.Class.TheVariants.{Zero}
use Rattle.gs_layout.specs.declared.message.Change.TheVariants.{Created, Blocked, Affinity}
use Rattle.gs_layout.specs.declared.message.Message.{Message}
use Rattle.gs_layout.specs.declared.message.Message.TheVariants.{Thread, TimerTick}
use Rattle.gs_layout.specs.Spelling.{round_up, spelling}

-- thread 1, named "web", is created: it is runnable, on CPUs 0 and 1, of class 0
pub created : Message
created = Thread 1 1 (Created (record { runnable = true; mask = 3; class = Zero; name = 0x77 ∷ 0x65 ∷ 0x62 ∷ [] }))

abbrev created_bytes : List ℕ
created_bytes =
    (0x28 ∷ 0x00 ∷ 0x01 ∷ 0x00 ∷ 0x01 ∷ 0x00 ∷ 0x00 ∷ 0x00 ∷ 0x01 ∷ 0x00 ∷ 0x00 ∷ 0x00 ∷ 0xff ∷ 0xff ∷ 0x01 ∷ 0x00 ∷ 0x03 ∷ []) ++ replicate 15 0
    ++ 0x00 ∷ 0x03 ∷ 0x77 ∷ 0x65 ∷ 0x62 ∷ 0x00 ∷ 0x00 ∷ 0x00 ∷ []

created_row : spelling created ≡ created_bytes
unfolding created
created_row = refl

-- thread 1 is taken off CPU 1 by a new mask
affinity_row : spelling (Thread 1 2 (Affinity (Some 1) true 1)) ≡ (0x20 ∷ 0x00 ∷ 0x07 ∷ 0x00 ∷ 0x01 ∷ 0x00 ∷ 0x00 ∷ 0x00 ∷ 0x02 ∷ 0x00 ∷ 0x00 ∷ 0x00 ∷ 0x01 ∷ 0x00 ∷ 0x01 ∷ 0x00 ∷ 0x01 ∷ []) ++ replicate 15 0
affinity_row = refl

tick_row : spelling (TimerTick 1) ≡ 0x10 ∷ 0x00 ∷ 0x08 ∷ 0x00 ∷ 0x00 ∷ 0x00 ∷ 0x00 ∷ 0x00 ∷ 0x00 ∷ 0x00 ∷ 0x00 ∷ 0x00 ∷ 0x01 ∷ 0x00 ∷ 0x00 ∷ 0x00 ∷ []
tick_row = refl

blocked_row : spelling (Thread 7 3 (Blocked 2)) ≡ 0x10 ∷ 0x00 ∷ 0x02 ∷ 0x00 ∷ 0x07 ∷ 0x00 ∷ 0x00 ∷ 0x00 ∷ 0x03 ∷ 0x00 ∷ 0x00 ∷ 0x00 ∷ 0x02 ∷ 0x00 ∷ 0x00 ∷ 0x00 ∷ []
blocked_row = refl

-- the greatest CPU alone in a mask, and a number near the last
high_row : spelling (Thread 65536 4294967294 (Affinity None false (2 ^ 127))) ≡ (0x20 ∷ 0x00 ∷ 0x07 ∷ 0x00 ∷ 0x00 ∷ 0x00 ∷ 0x01 ∷ 0x00 ∷ 0xfe ∷ 0xff ∷ 0xff ∷ 0xff ∷ 0xff ∷ 0xff
    ∷ 0x00 ∷ 0x00 ∷ []) ++ replicate 15 0 ++ 0x80 ∷ []
high_row = refl

-- the lengths of creations with names of 0, 6, 7, 14, 15 and 16 bytes
lengths_row : (round_up 34 ∷ round_up 40 ∷ round_up 41 ∷ round_up 48 ∷ round_up 49 ∷ round_up 50 ∷ []) ≡ 40 ∷ 40 ∷ 48 ∷ 48 ∷ 56 ∷ 56 ∷ []
lengths_row = refl
