-- The messages of segments of bytes.
use Rattle.std.specs.Prelude.{ℕ, zero, suc, Result, Ok, Err, List, [], ◌∷◌, length, drop}
use Rattle.gs_layout.specs.declared.message.Message.{Message}
use Rattle.gs_reader.specs.declared.fault.ReadFault.{ReadFault}
use Rattle.gs_reader.specs.declared.item.Item.{Item}
use Rattle.gs_reader.specs.declared.item.Item.TheVariants as items
use Rattle.gs_reader.specs.Reading.{read}

-- what is read of a segment, one after another: messages, and a fault, which is the last
abbrev pub Found : Type 0
Found = List (Result Message ReadFault)

-- a PAD is passed over
abbrev pub item_then : Item → Found → Found
item_then (items.Message m) found = Ok m ∷ found
item_then items.Pad found = found

-- a fault ends what is read
abbrev pub step : Result (Item × ℕ) ReadFault → Found → Found
step (Ok r) found = item_then r.0 found
step (Err f) found = Err f ∷ []

-- how many bytes were read
abbrev pub taken : Result (Item × ℕ) ReadFault → ℕ
taken (Ok r) = r.1
taken (Err f) = 0

-- at most so many items of a segment
unfoldable pub items_of : ℕ → List ℕ → Found
items_of zero bytes = []
items_of (suc most) [] = []
items_of (suc most) (b ∷ bytes) = step (read (b ∷ bytes)) (items_of most (drop (taken (read (b ∷ bytes))) (b ∷ bytes)))

-- what is read of a segment, to its end. No item is without bytes
abbrev pub segment : List ℕ → Found
segment bytes = items_of (length bytes) bytes

-- one after another, unless the first ends in a fault
abbrev pub and_then : Found → Found → Found
and_then [] found = found
and_then (Ok m ∷ rest) found = Ok m ∷ and_then rest found
and_then (Err f ∷ rest) found = Err f ∷ []
