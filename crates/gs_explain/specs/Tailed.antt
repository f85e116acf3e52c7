-- What an object has of an event that was refused, by the numbers that its sentence tells of.
use Rattle.std.specs.Prelude.{◌∷◌, ◌++◌, [], ℕ, Option, None, Some, List, codes}
use Rattle.gs_layout.specs.declared.refusal.Refusal.{Refusal}
use Rattle.gs_lines.specs.Lines.{refusal_text, reply_lines}
use Rattle.gs_replies.specs.declared.reply.Reply.TheVariants as replies
use Rattle.gs_sentences.specs.Tails.{tail_refusal, tail_sentence}
use Rattle.gs_sentences.specs.Told.{Cause}
use Rattle.gs_sentences.specs.declared.tail.Tail.{Tail}
use Rattle.gs_explain.specs.Composed.{object_pieces, option_json, rest_pieces, why_pieces}
use Rattle.gs_explain.specs.Objects.{refusal_word}

-- an entry that is a reason, by its line and its place
abbrev pub at_of : Option Cause → Option (ℕ × ℕ)
at_of None = None
at_of (Some c) = Some (c.line, c.place)

abbrev pub line_in : Option (ℕ × ℕ) → Option ℕ
line_in None = None
line_in (Some p) = Some p.0

abbrev pub place_in : Option (ℕ × ℕ) → Option ℕ
place_in None = None
place_in (Some p) = Some p.1

-- its reason behind a comma, by where the entry stands that is the reason
abbrev pub tail_why : Option (ℕ × ℕ) → Tail → List ℕ
tail_why where_at t = why_pieces (place_in where_at) (line_in where_at) (refusal_word (tail_refusal t)) (tail_sentence t)

-- the object of an event that was refused, and that added no entry
abbrev pub refused_object : ℕ × List ℕ → ℕ → Option (ℕ × ℕ) → Tail → List ℕ
refused_object said first where_at t = object_pieces said first 0 (reply_lines (replies.Refused (tail_refusal t))) (tail_why where_at t)

-- the reply of a refusal, in quotation marks
abbrev pub quoted_reply : Refusal → List ℕ
quoted_reply f = (34 ∷ []) ++ ((codes "refused " ++ refusal_text f) ++ (34 ∷ []))

-- what such an object has behind the script's line: where the reason points, and the word of the refusal
abbrev pub reason_front : Option (ℕ × ℕ) → Refusal → List ℕ
reason_front where_at f = codes ",\"why\":[{\"entry\":" ++ option_json (place_in where_at) ++ codes ",\"line\":" ++ option_json (line_in where_at) ++ (codes ",\"reason\":\"" ++ refusal_word f ++ codes "\",\"text\":\"")

-- what it has behind its line's number
abbrev pub refused_rest : List ℕ → Option (ℕ × ℕ) → Tail → List ℕ
refused_rest line where_at t = rest_pieces line (reply_lines (replies.Refused (tail_refusal t))) (tail_why where_at t)
