-- Where messages lie in a ring. Places are counted from 0 and never wrap; a place in the block is the place modulo the ring's capacity.
use Rattle.std.specs.Prelude.{Bool, ◌&&◌, ◌==◌, nat_le, ℕ, ◌+◌, ◌-◌, ◌%◌, List, [], ◌∷◌, ◌++◌, length, take, if◌then◌else◌}
use Rattle.gs_layout.specs.declared.message.Message.{Message}
use Rattle.gs_layout.specs.Pad.{pad}
use Rattle.gs_layout.specs.Spelling.{spelling}
use Rattle.gs_layout.specs.declared.wire.TheConstants.{ALIGNMENT}
use Rattle.gs_ring.specs.declared.block.TheConstants.{LEAST_CAPACITY, MOST_CAPACITY}

-- the capacities that a ring may have, in bytes
abbrev pub is_capacity : ℕ → Bool
is_capacity n = nat_le LEAST_CAPACITY n && nat_le n MOST_CAPACITY && n % ALIGNMENT == 0

-- how many bytes a message has in the ring, in which its spelling lies
abbrev pub record_len : Message → ℕ
record_len m = length (spelling m)

-- how many bytes there are from a place to the end of the block
abbrev pub rest : ℕ → ℕ → ℕ
rest capacity place = capacity - place % capacity

-- how many bytes of PAD stand before a record of so many bytes that is written at a place: a record is never split over the end of the block
unfoldable pub pad_len : ℕ → ℕ → ℕ → ℕ
pad_len capacity place len = if nat_le len (rest capacity place) then 0 else rest capacity place

-- how many bytes a record of so many bytes takes up there, with its PAD
unfoldable pub need : ℕ → ℕ → ℕ → ℕ
need capacity place len = pad_len capacity place len + len

-- the place behind messages that are written from a place on
abbrev pub place_behind : ℕ → ℕ → List Message → ℕ
place_behind capacity place [] = place
place_behind capacity place (m ∷ ms) = place_behind capacity (place + need capacity place (record_len m)) ms

-- how many bytes all these messages took up, written from place 0 on
abbrev pub written : ℕ → List Message → ℕ
written capacity ms = place_behind capacity 0 ms

-- a PAD of so many bytes, if there is one
unfoldable pub pad_bytes : ℕ → List ℕ
pad_bytes len = if len == 0 then [] else pad len

-- the bytes of messages that are written from a place on
abbrev pub bytes : ℕ → ℕ → List Message → List ℕ
bytes capacity place [] = []
bytes capacity place (m ∷ ms) = (pad_bytes (pad_len capacity place (record_len m)) ++ spelling m) ++ bytes capacity (place + need capacity place (record_len m)) ms

-- how many bytes are free once these messages were posted and the first of them, so many, were consumed
abbrev pub free_after : ℕ → List Message → ℕ → ℕ
free_after capacity posted consumed = capacity - (written capacity posted - written capacity (take consumed posted))
