-- How messages stand in two segments of bytes.
use Rattle.std.specs.Prelude.{◌≡◌, ◌==◌, ◌||◌, Bool, ℕ, ◌%◌, ◌^◌, ◌<◌, List, [], ◌∷◌, ◌++◌, length, All}
use Rattle.gs_layout.specs.declared.message.Message.{Message}
use Rattle.gs_layout.specs.Reading.{number_at}
use Rattle.gs_layout.specs.Spelling.{IsSpellable, spelling}
use Rattle.gs_layout.specs.declared.wire.TheConstants.{ALIGNMENT, KIND_AT, PAD}
use Rattle.gs_ring.specs.Places.{pad_bytes}

-- the spellings of messages, one behind the other
abbrev pub spellings : List Message → List ℕ
spellings [] = []
spellings (m ∷ ms) = spelling m ++ spellings ms

-- these messages stand in two segments. The first of them stand in the first segment, before a PAD of so many bytes, if it has any. The others stand
-- in the second
pub record Stands (first second : List ℕ) (ms : List Message) : Type 0 where
  pub front : List Message
  pub back : List Message
  pub filler : ℕ
  pub all : ms ≡ front ++ back
  pub spellable : All IsSpellable ms
  pub whole : filler % ALIGNMENT ≡ 0
  pub short : filler < 2 ^ 16
  pub first_is : first ≡ spellings front ++ pad_bytes filler
  pub second_is : second ≡ spellings back

-- so many messages stand in two segments
abbrev pub AreSegments : List ℕ → List ℕ → ℕ → Type 0
AreSegments first second n = (ms : List Message) × Stands first second ms × (length ms ≡ n)

-- no message is left of a segment: at most a PAD is
unfoldable pub is_ended : List ℕ → Bool
is_ended text = length text == 0 || number_at KIND_AT 2 text == PAD
