-- Worked bytes, read by the definition.
use Rattle.std.proofs.Common.{◌≡◌, Ok, Err, List, ℕ, [], ◌∷◌, ◌++◌, take, refl}
use Rattle.gs_layout.specs.declared.message.Change.TheVariants.{Blocked}
use Rattle.gs_layout.specs.declared.message.Message.{Message}
use Rattle.gs_layout.specs.declared.message.Message.TheVariants.{Thread}
use Rattle.gs_reader.specs.declared.fault.ReadFault.TheVariants.{Short, BadKind, BadLength, BadField}
use Rattle.gs_reader.specs.declared.item.Item.TheVariants as items
use Rattle.gs_reader.specs.Reading.{read}
use Rattle.gs_reader.specs.Records.{items_of, segment, and_then}

-- thread 7 is blocked; it was on CPU 2
abbrev blocked : List ℕ
blocked = 0x10 ∷ 0x00 ∷ 0x02 ∷ 0x00 ∷ 0x07 ∷ 0x00 ∷ 0x00 ∷ 0x00 ∷ 0x03 ∷ 0x00 ∷ 0x00 ∷ 0x00 ∷ 0x02 ∷ 0x00 ∷ 0x00 ∷ 0x00 ∷ []

abbrev blocked_message : Message
blocked_message = Thread 7 3 (Blocked 2)

abbrev pad_8 : List ℕ
pad_8 = 0x08 ∷ 0x00 ∷ 0x09 ∷ 0x00 ∷ 0x00 ∷ 0x00 ∷ 0x00 ∷ 0x00 ∷ []

blocked_row : read blocked ≡ Ok (items.Message blocked_message, 16)
blocked_row = refl

pad_row : read (pad_8 ++ blocked) ≡ Ok (items.Pad, 8)
pad_row = refl

cut_row : read (take 15 blocked) ≡ Err Short
cut_row = refl

tiny_row : read (0x10 ∷ 0x00 ∷ 0x0a ∷ []) ≡ Err Short
tiny_row = refl

kind_row : read (0x10 ∷ 0x00 ∷ 0x0a ∷ 0x00 ∷ []) ≡ Err BadKind
kind_row = refl

length_row : read (0x18 ∷ 0x00 ∷ 0x02 ∷ 0x00 ∷ []) ≡ Err BadLength
length_row = refl

flags_row : read (0x10 ∷ 0x00 ∷ 0x02 ∷ 0x00 ∷ 0x07 ∷ 0x00 ∷ 0x00 ∷ 0x00 ∷ 0x03 ∷ 0x00 ∷ 0x00 ∷ 0x00 ∷ 0x02 ∷ 0x00 ∷ 0x02 ∷ 0x00 ∷ []) ≡ Err BadField
flags_row = refl

-- a PAD, then a message, then a message that is cut
segments_row : and_then (segment (pad_8 ++ blocked)) (segment (take 15 blocked)) ≡ Ok blocked_message ∷ Err Short ∷ []
unfolding items_of
segments_row = refl
