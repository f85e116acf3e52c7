-- How a ring's block holds its messages.
use Rattle.std.specs.Prelude.{◌≡◌, ◌==◌, true, ℕ, zero, suc, ◌+◌, ◌-◌, ◌*◌, ◌%◌, ◌≤◌, List, [], ◌∷◌, ◌++◌, length, min, take, drop, slice_index, All, if◌then◌else◌}
use Rattle.gs_layout.specs.declared.message.Message.{Message}
use Rattle.gs_layout.specs.Reading.{message_in, number_at}
use Rattle.gs_layout.specs.Spelling.{IsSpellable, spelling}
use Rattle.gs_layout.specs.declared.wire.TheConstants.{ALIGNMENT, FRONT_LEN, KIND_AT, LEN_AT, MOST_MESSAGE_LEN, MOST_PAD_LEN, PAD}
use Rattle.gs_ring.specs.declared.ends.TheConstants.{MOST_POSTS}
use Rattle.gs_ring.specs.declared.memory.TheConstants.{STEP}
use Rattle.gs_ring.specs.declared.place.Place.{Place}
use Rattle.gs_ring.specs.Memory.{MemoryState}
use Rattle.gs_ring.specs.Places.{bytes, is_capacity, pad_bytes, place_behind, record_len}
use Rattle.gs_ring.specs.RingState.{RingState}

-- so many bytes of a block from a place on, round its end
abbrev pub seen : List ℕ → ℕ → ℕ → List ℕ
seen block place zero = []
seen block place (suc n) = slice_index block (place % length block) ∷ seen block (suc place) n

-- the bytes behind a PAD, if there is one
unfoldable pub behind_pad : List ℕ → List ℕ
behind_pad text = if number_at KIND_AT 2 text == PAD then drop (number_at LEN_AT 2 text) text else text

-- the message at the front
unfoldable pub front_message : List ℕ → Message
front_message text = message_in (behind_pad text)

-- the bytes behind it
unfoldable pub behind_front : List ℕ → List ℕ
behind_front text = drop (record_len (front_message text)) (behind_pad text)

-- the first messages, so many
abbrev pub messages_in : ℕ → List ℕ → List Message
messages_in zero text = []
messages_in (suc n) text = front_message text ∷ messages_in n (behind_front text)

-- these bytes over those at a place of the block
abbrev pub put_at : ℕ → List ℕ → List ℕ → List ℕ
put_at at more block = take at block ++ more ++ drop (at + length more) block

-- a block after a message was written at a place, behind a PAD of so many bytes
abbrev pub block_with : List ℕ → ℕ → ℕ → Message → List ℕ
block_with block place pad m = put_at ((place + pad) % length block) (spelling m) (put_at (place % length block) (pad_bytes pad) block)

-- where the record begins in the block that is read at a place: behind its PAD, if there is one
unfoldable pub record_index : List ℕ → ℕ → ℕ
record_index block place = if number_at KIND_AT 2 (drop (place % length block) block) == PAD then 0 else place % length block

-- the record of this message lies whole in the bytes of a block that were touched, and is read at this place
pub record Lies (block : MemoryState) (place : ℕ) (m : Message) : Type 0 where
  pub spellable : IsSpellable m
  pub room : place % length block.items + FRONT_LEN ≤ block.touched
  pub more : List ℕ
  pub front : drop (record_index block.items place) block.items ≡ spelling m ++ more
  pub fits : record_index block.items place + record_len m ≤ block.touched

-- the parts of a ring agree: each message that waits lies at its place
pub record IsRing (block : List ℕ) (read written consumed posts : ℕ) : Type 0 where
  pub size : is_capacity (length block) ≡ true
  pub order : consumed ≤ posts
  pub few : posts ≤ MOST_POSTS
  pub whole : read % ALIGNMENT ≡ 0
  pub low : written ≤ (MOST_MESSAGE_LEN + MOST_PAD_LEN) * posts
  pub forward : read ≤ written
  pub room : written ≤ read + length block
  pub spellable : All IsSpellable (messages_in (posts - consumed) (seen block read (written - read)))
  pub behind : place_behind (length block) read (messages_in (posts - consumed) (seen block read (written - read))) ≡ written
  pub holds : seen block read (written - read) ≡ bytes (length block) read (messages_in (posts - consumed) (seen block read (written - read)))

-- and where its places lie in the block is kept beside them. Of the block is touched what was written, which is all of it after the first lap, and little more
pub record IsHeld (block : MemoryState) (read written : Place) (consumed posts : ℕ) : Type 0 where
  pub ring : IsRing block.items read.count written.count consumed posts
  pub read_at : read.index ≡ read.count % length block.items
  pub written_at : written.index ≡ written.count % length block.items
  pub touched : min written.count (length block.items) ≤ block.touched
  pub few : block.touched ≤ written.count + STEP

-- what a ring of these parts is to its callers
abbrev pub ring_of : List ℕ → ℕ → ℕ → ℕ → ℕ → RingState
ring_of block read written consumed posts = record {
  capacity = length block;
  consumed = consumed;
  read = read;
  unread = messages_in (posts - consumed) (seen block read (written - read));
}
