-- What bytes begin with.
use Rattle.std.specs.Prelude.{◌≡◌, Bool, true, not, ◌==◌, ◌&&◌, ◌||◌, nat_lt, nat_le, ℕ, ◌+◌, ◌≤◌, Option, None, Some, Result, Ok, Err, List, length, take, drop, slice_index, if◌then◌else◌}
use Rattle.gs_layout.specs.declared.wire.TheConstants.{CLASS_AT, CPU_AT, FLAGS_AT, FRONT_LEN, MASK_AT, MASK_LEN, NAME_AT, NAME_LEN_AT, TID_AT, TSEQ_AT}
use Rattle.gs_status.specs.declared.mask.TheConstants.{MOST_CPUS}
use Rattle.gs_layout.specs.declared.cpu.TheConstants.{NO_CPU}
use Rattle.gs_layout.specs.declared.kind.Kind.{Kind}
use Rattle.gs_layout.specs.declared.kind.Kind.TheVariants as kinds
use Rattle.gs_layout.specs.declared.name.TheConstants.{MOST_NAME_LEN}
use Rattle.gs_layout.specs.Name.{is_name}
use Rattle.gs_layout.specs.Pad.{IsPadSize, pad}
use Rattle.gs_layout.specs.Reading.{are_zeros, kind_numbered, message_in, name_in, number_at}
use Rattle.gs_layout.specs.Spelling.{IsSpellable, are_numbers, round_up, spelling}
use Rattle.gs_reader.specs.declared.fault.ReadFault.{ReadFault}
use Rattle.gs_reader.specs.declared.fault.ReadFault.TheVariants.{BadField}
use Rattle.gs_reader.specs.declared.item.Item.{Item}
use Rattle.gs_reader.specs.declared.item.Item.TheVariants.{Message, Pad}
use Rattle.gs_reader.specs.Fault.{front_fault, has_length, is_kind, kind_number_in, length_in}

-- all of these bytes are the spelling of a message, or a PAD
abbrev pub IsSpelled : Item → List ℕ → Type 0
IsSpelled (Message m) text = IsSpellable m × (text ≡ spelling m)
IsSpelled Pad text = IsPadSize (length text) × (text ≡ pad (length text))

-- the first bytes are the spelling of an item, and how many they are
abbrev pub IsRead : List ℕ → Item × ℕ → Type 0
IsRead bytes read = (read.1 ≤ length bytes) × IsSpelled read.0 (take read.1 bytes)

-- when each fault is returned: it is the first that applies. A field is bad if all else is right and yet the bytes begin with no spelling.
abbrev pub IsFault : List ℕ → ReadFault → Type 0
IsFault bytes BadField = (front_fault bytes ≡ None) × ((read : Item × ℕ) → IsRead bytes read → ⊥)
IsFault bytes f = front_fault bytes ≡ Some f

abbrev pub numbers_fit : Kind → ℕ → ℕ → Bool
numbers_fit kinds.TimerTick tid tseq = tid == 0 && tseq == 0
numbers_fit _ tid tseq = are_numbers tid tseq

abbrev pub cpu_fits : Kind → ℕ → Bool
cpu_fits kinds.Created cpu = cpu == NO_CPU
cpu_fits kinds.Wakeup cpu = cpu == NO_CPU
cpu_fits kinds.Dead cpu = nat_lt cpu MOST_CPUS || cpu == NO_CPU
cpu_fits kinds.Affinity cpu = nat_lt cpu MOST_CPUS || cpu == NO_CPU
cpu_fits _ cpu = nat_lt cpu MOST_CPUS

abbrev pub flags_fit : Kind → ℕ → ℕ → Bool
flags_fit kinds.Created cpu flags = nat_lt flags 2
flags_fit kinds.Affinity cpu flags = flags == 0 || (flags == 1 && not (cpu == NO_CPU))
flags_fit _ cpu flags = flags == 0

-- the mask, the class and the lengths of a creation
abbrev pub sizes_fit : List ℕ → Bool
sizes_fit text =
    not (number_at MASK_AT MASK_LEN text == 0) && nat_lt (slice_index text CLASS_AT) 2 && nat_le (slice_index text NAME_LEN_AT) MOST_NAME_LEN && round_up (NAME_AT + slice_index text NAME_LEN_AT) == length text

-- the name of a creation, and the zeros behind it
abbrev pub name_fits : List ℕ → Bool
name_fits text = is_name (name_in text) && are_zeros (drop (NAME_AT + slice_index text NAME_LEN_AT) text)

abbrev pub more_fits : Kind → List ℕ → Bool
more_fits kinds.Created text = sizes_fit text && name_fits text
more_fits kinds.Affinity text = not (number_at MASK_AT MASK_LEN text == 0)
more_fits _ text = true

-- whether each field of a message of this kind is in its range
abbrev pub fields_fit : Kind → List ℕ → Bool
fields_fit k text =
    numbers_fit k (number_at TID_AT 4 text) (number_at TSEQ_AT 4 text) && cpu_fits k (number_at CPU_AT 2 text) && flags_fit k (number_at CPU_AT 2 text) (number_at FLAGS_AT 2 text) && more_fits k text

-- the item that all of these bytes are, which have the length that they name: a message of this kind, or a PAD
abbrev pub item_in : Option Kind → List ℕ → Result Item ReadFault
item_in None text = if are_zeros (drop FRONT_LEN text) then Ok Pad else Err BadField
item_in (Some k) text = if fields_fit k text then Ok (Message (message_in text)) else Err BadField

-- these bytes have the length that they name, which is one of the kind's, and they name the kind, or a PAD
pub record IsWhole (o : Option Kind) (text : List ℕ) : Type 0 where
  pub kind : kind_numbered (kind_number_in text) ≡ o
  pub known : is_kind (kind_number_in text) ≡ true
  pub size : length_in text ≡ length text
  pub one : has_length o (length text) ≡ true

abbrev pub with_length : ℕ → Result Item ReadFault → Result (Item × ℕ) ReadFault
with_length len (Ok item) = Ok (item, len)
with_length len (Err f) = Err f

abbrev pub read_behind : Option ReadFault → List ℕ → Result (Item × ℕ) ReadFault
read_behind (Some f) bytes = Err f
read_behind None bytes = with_length (length_in bytes) (item_in (kind_numbered (kind_number_in bytes)) (take (length_in bytes) bytes))

-- what the bytes begin with and how many bytes that has, or the first fault. `read_one` says that this is the spelling backwards
abbrev pub read : List ℕ → Result (Item × ℕ) ReadFault
read bytes = read_behind (front_fault bytes) bytes
