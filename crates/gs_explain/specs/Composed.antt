-- Objects of events as they are put together.
use Rattle.std.specs.Prelude.{ℕ, Option, None, Some, List, [], ◌∷◌, ◌++◌, codes, decimal, drop, map}
use Rattle.std.specs.Str.Lines.{lines as lines_in}
use Rattle.json.specs.Print.{quoted}
use Rattle.serde_json.specs.Data.{Data, string}
use Rattle.serde_json.specs.Written.{compact_text}

-- values, with a comma before each
abbrev pub behind_commas : List Data → List ℕ
behind_commas [] = []
behind_commas (d ∷ ds) = (44 ∷ compact_text d) ++ behind_commas ds

-- the same as they stand in an array: the first comma is left out
abbrev pub between_commas : List Data → List ℕ
between_commas ds = drop 1 (behind_commas ds)

-- the comma behind values, if there are any
abbrev pub comma_behind : List Data → List ℕ
comma_behind [] = []
comma_behind (d ∷ ds) = 44 ∷ []

-- a number, or null for none
abbrev pub option_json : Option ℕ → List ℕ
option_json None = codes "null"
option_json (Some n) = decimal n

-- the word and the text of a reason, and its end: the word has no byte to escape
abbrev pub reason_pieces : List ℕ → List ℕ → List ℕ
reason_pieces word text = codes ",\"reason\":\"" ++ word ++ codes "\",\"text\":" ++ quoted text ++ codes "}"

-- a reason behind a comma, with such a word
abbrev pub why_pieces : Option ℕ → Option ℕ → List ℕ → List ℕ → List ℕ
why_pieces entry at word text = codes ",{\"entry\":" ++ option_json entry ++ codes ",\"line\":" ++ option_json at ++ codes ",\"reason\":\"" ++ word ++ codes "\",\"text\":" ++ quoted text ++ codes "}"

-- how many entries an event added, the place of the first, and its line's number
abbrev pub front_pieces : ℕ → ℕ → ℕ → List ℕ
front_pieces number first count = codes "{\"entries\":{\"count\":" ++ decimal count ++ codes ",\"first\":" ++ decimal first ++ codes "},\"line\":" ++ decimal number

-- the lines of its reply, as they stand in an array
abbrev pub replies_pieces : List ℕ → List ℕ
replies_pieces lines = between_commas (map string (lines_in lines))

-- its reasons, as they stand in an array
abbrev pub reasons_pieces : List ℕ → List ℕ
reasons_pieces reasons = codes ",\"why\":[" ++ reasons ++ codes "]}\n"

-- what an event has behind its line's number: the lines of its reply, its line, and its reasons, which stand behind commas
abbrev pub rest_pieces : List ℕ → List ℕ → List ℕ → List ℕ
rest_pieces line lines whys = codes ",\"replies\":[" ++ replies_pieces lines ++ codes "],\"text\":" ++ quoted line ++ reasons_pieces (drop 1 whys)

-- an event: by its line, its entries, the lines of its reply, and its reasons, which stand behind commas
abbrev pub object_pieces : ℕ × List ℕ → ℕ → ℕ → List ℕ → List ℕ → List ℕ
object_pieces said first count lines whys = front_pieces said.0 first count ++ codes ",\"replies\":[" ++ replies_pieces lines ++ codes "],\"text\":" ++ quoted said.1 ++ reasons_pieces (drop 1 whys)
