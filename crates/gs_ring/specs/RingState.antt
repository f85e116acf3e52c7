-- What a ring is to its callers.
use Rattle.std.specs.Prelude.{ℕ, ◌+◌, ◌-◌, ◌<◌, List, [], length}
use Rattle.gs_layout.specs.declared.message.Message.{Message}
use Rattle.gs_ring.specs.Places.{need, place_behind, record_len}

-- how many bytes it has, how many messages were consumed from it, the place of the first byte that was not consumed, and the messages that wait
pub record RingState : Type 0 where
  pub capacity : ℕ
  pub consumed : ℕ
  pub read : ℕ
  pub unread : List Message

-- a ring to which nothing was posted
abbrev pub empty : ℕ → RingState
empty capacity = record { capacity = capacity; consumed = 0; read = 0; unread = [] }

-- how many messages were posted
abbrev pub posts : RingState → ℕ
posts r = r.consumed + length r.unread

-- the place at which the next message is written
abbrev pub end : RingState → ℕ
end r = place_behind r.capacity r.read r.unread

-- how many bytes are free
abbrev pub free : RingState → ℕ
free r = r.capacity - (end r - r.read)

-- how many bytes a message takes up that is posted next
abbrev pub need_of : RingState → Message → ℕ
need_of r m = need r.capacity (end r) (record_len m)

-- a message does not fit
abbrev pub IsTight : RingState → Message → Type 0
IsTight r m = free r < need_of r m
