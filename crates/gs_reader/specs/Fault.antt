-- What is wrong with the length and the kind of a message or a PAD, and with how many bytes there are.
use Rattle.std.specs.Prelude.{Bool, not, ◌==◌, ◌&&◌, nat_lt, nat_le, ℕ, ◌%◌, Option, None, Some, List, length, if◌then◌else◌}
use Rattle.gs_layout.specs.declared.kind.Kind.{Kind}
use Rattle.gs_layout.specs.declared.kind.Kind.TheVariants as kinds
use Rattle.gs_layout.specs.declared.wire.TheConstants.{AFFINITY_LEN, ALIGNMENT, FRONT_LEN, HEADER_LEN, KIND_AT, LEAST_CREATION_LEN, LEAST_PAD_LEN, LEN_AT, MOST_MESSAGE_LEN, MOST_PAD_LEN, PAD}
use Rattle.gs_layout.specs.Reading.{kind_numbered, number_at}
use Rattle.gs_reader.specs.declared.fault.ReadFault.{ReadFault}
use Rattle.gs_reader.specs.declared.fault.ReadFault.TheVariants.{Short, BadKind, BadLength}

-- the length that the bytes name
abbrev pub length_in : List ℕ → ℕ
length_in bytes = number_at LEN_AT 2 bytes

-- the number of the kind that the bytes name
abbrev pub kind_number_in : List ℕ → ℕ
kind_number_in bytes = number_at KIND_AT 2 bytes

-- the kinds of message are 1 to 8, and 9 is a PAD
abbrev pub is_kind : ℕ → Bool
is_kind k = nat_le 1 k && nat_le k PAD

-- a multiple of 8 from the least to the most
abbrev pub is_length : ℕ → ℕ → ℕ → Bool
is_length least most len = nat_le least len && nat_le len most && len % ALIGNMENT == 0

-- the lengths of a kind: a creation has 40, 48 or 56 bytes, a new mask 32, each other 16. What is of no kind is a PAD, which has 8 to 48
abbrev pub has_length : Option Kind → ℕ → Bool
has_length (Some kinds.Created) len = is_length LEAST_CREATION_LEN MOST_MESSAGE_LEN len
has_length (Some kinds.Affinity) len = len == AFFINITY_LEN
has_length (Some _) len = len == HEADER_LEN
has_length None len = is_length LEAST_PAD_LEN MOST_PAD_LEN len

-- the first fault, as long as no other field is looked at
abbrev pub front_fault : List ℕ → Option ReadFault
front_fault bytes =
    if nat_lt (length bytes) FRONT_LEN then Some Short else if not (is_kind (kind_number_in bytes)) then Some BadKind else if not (has_length (kind_numbered (kind_number_in bytes)) (length_in bytes)) then Some BadLength else if nat_lt (length bytes) (length_in bytes) then Some Short else None
