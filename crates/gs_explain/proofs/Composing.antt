-- The pieces of an object, one after another, are the object as compact JSON.
use Rattle.std.proofs.Common.{◌≡◌, ◌∙◌, refl, sym, ap, ℕ, ◌-◌, true, false, Option, None, Some, List, [], ◌∷◌, ◌++◌, append_assoc, append-nil, codes, drop, length, map}
use Rattle.std.specs.Prelude.{decimal}
use Rattle.std.specs.Fmt.{digits}
use Rattle.std.specs.Str.Lines.{lines as lines_in}
use Rattle.json.specs.Print.{escape_byte, quoted}
use Rattle.json.specs.Written.{PlainBetween}
use Rattle.serde_json.specs.Data.{Data, string}
use Rattle.serde_json.specs.View.{items_of}
use Rattle.serde_json.specs.Written.{compact_text, items_text}
use Rattle.gs_layout.specs.declared.outcome.Outcome.{Outcome}
use Rattle.gs_layout.specs.declared.outcome.Outcome.TheVariants as outcomes
use Rattle.gs_layout.specs.declared.refusal.Refusal.{Refusal}
use Rattle.gs_layout.specs.declared.refusal.Refusal.TheVariants as refusals
use Rattle.gs_agent.specs.declared.drained.Stop.TheVariants as stops
use Rattle.gs_lines.specs.Lines.{line, outcome_text}
use Rattle.gs_sentences.specs.Reason.{Reason}
use Rattle.gs_sentences.specs.Reason as reasons
use Rattle.gs_sentences.specs.Reasons.{reason_text}
use Rattle.gs_explain.specs.Composed.{behind_commas, between_commas, comma_behind, front_pieces, object_pieces, option_json, reason_pieces, reasons_pieces, replies_pieces, why_pieces}
use Rattle.gs_explain.proofs.Quoting.{one_line, plain_quoted}
use Rattle.gs_explain.specs.Objects.{line_of_cause, place_of_cause, reason_cause, reason_data, reason_word, refusal_word, row_data, why_data}

-- more values behind commas
pub commas_more : (xs ys : List Data) → behind_commas (xs ++ ys) ≡ behind_commas xs ++ behind_commas ys
commas_more [] ys = refl
commas_more (x ∷ xs) ys = ap (λ (t : List ℕ). (44 ∷ compact_text x) ++ t) (commas_more xs ys) ∙ sym (append_assoc (44 ∷ compact_text x) (behind_commas xs) (behind_commas ys))

-- one more value in an array
pub between_more : (ds : List Data) (d : Data) → between_commas (ds ++ d ∷ []) ≡ between_commas ds ++ (comma_behind ds ++ compact_text d)
between_more [] d = append-nil (compact_text d)
between_more (x ∷ ds) d = ap (λ (t : List ℕ). compact_text x ++ t) (commas_more ds (d ∷ []) ∙ ap (λ (t : List ℕ). behind_commas ds ++ t) (append-nil (44 ∷ compact_text d))) ∙ sym (append_assoc (compact_text x) (behind_commas ds) (44 ∷ compact_text d))

pub some_behind : (ds : List Data) (d : Data) → comma_behind (ds ++ d ∷ []) ≡ 44 ∷ []
some_behind [] d = refl
some_behind (x ∷ ds) d = refl

-- the items of an array that goes on, and of a whole one
items_behind : (ds : List Data) → items_text true (items_of ds) ≡ behind_commas ds ++ 93 ∷ []
items_behind [] = refl
items_behind (d ∷ ds) = ap (λ (t : List ℕ). 44 ∷ (compact_text d ++ t)) (items_behind ds) ∙ sym (append_assoc (44 ∷ compact_text d) (behind_commas ds) (93 ∷ []))

items_between : (ds : List Data) → items_text false (items_of ds) ≡ between_commas ds ++ 93 ∷ []
items_between [] = refl
items_between (d ∷ ds) = ap (λ (t : List ℕ). compact_text d ++ t) (items_behind ds) ∙ sym (append_assoc (compact_text d) (behind_commas ds) (93 ∷ []))

-- no word of a reason has a byte that is escaped
plain_outcome : (o : Outcome) → quoted (outcome_text o) ≡ 34 ∷ (outcome_text o ++ 34 ∷ [])
unfolding escape_byte
plain_outcome outcomes.Placed = refl
plain_outcome outcomes.Gone = refl
plain_outcome outcomes.Displaced = refl
plain_outcome outcomes.NoThread = refl
plain_outcome outcomes.Stale = refl
plain_outcome outcomes.NotRunnable = refl
plain_outcome outcomes.AlreadyPlaced = refl
plain_outcome outcomes.NotAllowed = refl
plain_outcome outcomes.CpuIsAgent = refl
plain_outcome outcomes.CpuTaken = refl
plain_outcome outcomes.CpuBusy = refl
plain_outcome outcomes.SeqSpent = refl
plain_outcome outcomes.HistoryFull = refl
plain_outcome outcomes.Malformed = refl
plain_outcome outcomes.GroupFailed = refl

plain_refusal : (f : Refusal) → quoted (refusal_word f) ≡ 34 ∷ (refusal_word f ++ 34 ∷ [])
unfolding escape_byte refusal_word
plain_refusal refusals.NoThread = refl
plain_refusal refusals.NotRunning = refl
plain_refusal refusals.NotBlocked = refl
plain_refusal refusals.EmptyMask = refl
plain_refusal refusals.BadCpu = refl
plain_refusal refusals.AgentThere = refl
plain_refusal refusals.CpuTaken = refl
plain_refusal refusals.NotTaken = refl
plain_refusal refusals.NotActive = refl
plain_refusal refusals.StillAttached = refl
plain_refusal refusals.NotAttaching = refl
plain_refusal refusals.SeqSpent = refl
plain_refusal refusals.GenSpent = refl
plain_refusal refusals.TidsSpent = refl
plain_refusal refusals.HistoryFull = refl
plain_refusal refusals.SlotOpen = refl
plain_refusal refusals.NoSuchTransaction = refl
plain_refusal refusals.Gone = refl
plain_refusal refusals.OutOfMemory = refl

plain_word : (r : Reason) → quoted (reason_word r) ≡ 34 ∷ (reason_word r ++ 34 ∷ [])
unfolding escape_byte
plain_word (reasons.Landed x) = plain_outcome x.landing.outcome
plain_word (reasons.Refused x) = plain_refusal x.refusal
plain_word (reasons.Torn o) = refl
plain_word (reasons.Skipped n) = refl
plain_word (reasons.Orphans n) = refl
plain_word (reasons.Stopped stops.Gap) = refl
plain_word (reasons.Stopped stops.Memory) = refl

-- a reason with a word in quotation marks, one piece behind another
abbrev nested_why : Option ℕ → Option ℕ → List ℕ → List ℕ → List ℕ
nested_why entry at word text = codes ",{\"entry\":" ++ (option_json entry ++ (codes ",\"line\":" ++ (option_json at ++ (codes ",\"reason\":" ++ (word ++ (codes ",\"text\":" ++ (quoted text ++ codes "}")))))))

by_numbers : (entry at : Option ℕ) (word text : List ℕ) → nested_why entry at (quoted word) text ≡ 44 ∷ compact_text (why_data entry at word text)
unfolding escape_byte digits
by_numbers None None word text = refl
by_numbers None (Some n) word text = refl
by_numbers (Some m) None word text = refl
by_numbers (Some m) (Some n) word text = refl

regroup_why : (a e b l c q w d t f : List ℕ) → (((((((a ++ e) ++ b) ++ l) ++ (c ++ q)) ++ w) ++ (q ++ d)) ++ t) ++ f ≡ a ++ (e ++ (b ++ (l ++ (c ++ ((q ++ (w ++ q)) ++ (d ++ (t ++ f)))))))
regroup_why a e b l c q w d t f = simp append_assoc

whole_why : (entry at : Option ℕ) (word text : List ℕ) → quoted word ≡ 34 ∷ (word ++ 34 ∷ []) → why_pieces entry at word text ≡ behind_commas (why_data entry at word text ∷ [])
whole_why entry at word text plain =
    regroup_why (codes ",{\"entry\":") (option_json entry) (codes ",\"line\":") (option_json at) (codes ",\"reason\":") (codes "\"") word (codes ",\"text\":") (quoted text) (codes "}")
    ∙ (ap (λ (w : List ℕ). nested_why entry at w text) (sym plain) ∙ (by_numbers entry at word text ∙ sym (append-nil (44 ∷ compact_text (why_data entry at word text)))))

-- a reason
pub whole_reason : (r : Reason) → why_pieces (place_of_cause (reason_cause r)) (line_of_cause (reason_cause r)) (reason_word r) (reason_text r) ≡ behind_commas (reason_data r ∷ [])
whole_reason r = whole_why (place_of_cause (reason_cause r)) (line_of_cause (reason_cause r)) (reason_word r) (reason_text r) (plain_word r)

-- the word and the text of a reason, and what stands behind them, if no byte of the text is escaped
regroup_reason : (o c w d q t z : List ℕ) → ((((o ++ c) ++ w) ++ (d ++ q)) ++ t) ++ (q ++ z) ≡ o ++ ((((c ++ w) ++ d) ++ (q ++ (t ++ q))) ++ z)
regroup_reason o c w d q t z = simp append_assoc

pub plain_reason : (out word text : List ℕ) → PlainBetween text 0 (length text) → ((((out ++ codes ",\"reason\":\"") ++ word) ++ codes "\",\"text\":\"") ++ text) ++ codes "\"}" ≡ out ++ reason_pieces word text
plain_reason out word text plain =
    regroup_reason out (codes ",\"reason\":\"") word (codes "\",\"text\":") (34 ∷ []) text (codes "}")
    ∙ ap (λ (t : List ℕ). out ++ ((((codes ",\"reason\":\"" ++ word) ++ codes "\",\"text\":") ++ t) ++ codes "}")) (sym (plain_quoted text plain))

-- that no transaction landed
pub whole_nothing : why_pieces None None (codes "nothing") (codes "no slot of the mask is stamped") ≡ behind_commas (why_data None None (codes "nothing") (codes "no slot of the mask is stamped") ∷ [])
unfolding escape_byte
whole_nothing = whole_why None None (codes "nothing") (codes "no slot of the mask is stamped") refl

-- an object, one piece behind another
abbrev nested : ℕ × List ℕ → ℕ → ℕ → List ℕ → List ℕ → List ℕ
nested said first end replies why =
    (codes "{\"entries\":" ++ ((codes "{\"count\":" ++ (decimal (end - first) ++ (codes ",\"first\":" ++ (decimal first ++ codes "}")))) ++ (codes ",\"line\":" ++ (decimal said.0 ++ (codes ",\"replies\":[" ++ (replies ++ (
    codes ",\"text\":" ++ (quoted said.1 ++ (codes ",\"why\":[" ++ (why ++ codes "}")))))))))) ++ codes "\n"

by_parts : (said : ℕ × List ℕ) (first end : ℕ) (texts : List (List ℕ)) (why : List Data) → nested said first end (items_text false (items_of (map string texts))) (items_text false (items_of why)) ≡ line (compact_text (row_data said first end texts why))
unfolding escape_byte digits
by_parts said first end texts why = refl

regroup : (a b c d e f g n h r k t q w y z : List ℕ)
    → ((((((((((a ++ b) ++ c) ++ d) ++ e) ++ (f ++ g)) ++ n) ++ h) ++ r) ++ (k ++ t)) ++ q) ++ ((w ++ y) ++ (k ++ (f ++ z)))
    ≡ (a ++ ((b ++ (c ++ (d ++ (e ++ f)))) ++ (g ++ (n ++ (h ++ ((r ++ k) ++ (t ++ (q ++ (w ++ ((y ++ k) ++ f)))))))))) ++ z
regroup a b c d e f g n h r k t q w y z = simp append_assoc

pub whole_object : (said : ℕ × List ℕ) (first end : ℕ) (lines : List ℕ) (why : List Data) → object_pieces said first (end - first) lines (behind_commas why) ≡ line (compact_text (row_data said first end (lines_in lines) why))
whole_object said first end lines why =
    let texts : List Data = map string (lines_in lines) in
    regroup (codes "{\"entries\":") (codes "{\"count\":") (decimal (end - first)) (codes ",\"first\":") (decimal first) (codes "}") (codes ",\"line\":") (decimal said.0) (codes ",\"replies\":[") (between_commas texts) (codes "]")
    (codes ",\"text\":") (quoted said.1) (codes ",\"why\":[") (between_commas why) (codes "\n")
    ∙ ((λ i. nested said first end (sym (items_between texts) i) (sym (items_between why) i)) ∙ by_parts said first end (lines_in lines) why)

-- a reply of one line of which no byte is escaped
pub only_reply : (reply : List ℕ) → PlainBetween reply 0 (length reply) → replies_pieces (reply ++ 10 ∷ []) ≡ (34 ∷ []) ++ (reply ++ (34 ∷ []))
only_reply reply plain = ap (λ (ls : List (List ℕ)). between_commas (map string ls)) (one_line reply plain) ∙ (append-nil (quoted reply) ∙ plain_quoted reply plain)

-- an object of which no byte of its line and of the only line of its reply is escaped, in a row
regroup_short : (f d q r s t w y z : List ℕ) → (((((f ++ (d ++ q)) ++ r) ++ (q ++ (s ++ q))) ++ t) ++ (q ++ w) ++ y) ++ z ≡ ((((f ++ d) ++ (q ++ (r ++ q))) ++ s) ++ (q ++ (t ++ q))) ++ ((w ++ y) ++ z)
regroup_short f d q r s t w y z = simp append_assoc

pub short_object : (said : ℕ × List ℕ) (first count : ℕ) (reply whys : List ℕ) → PlainBetween said.1 0 (length said.1) → PlainBetween reply 0 (length reply)
    → front_pieces said.0 first count ++ codes ",\"replies\":[\"" ++ reply ++ codes "\"],\"text\":\"" ++ said.1 ++ codes "\",\"why\":[" ++ drop 1 whys ++ codes "]}\n" ≡ object_pieces said first count (reply ++ 10 ∷ []) whys
short_object said first count reply whys plain_line plain_reply =
    let front : List ℕ = front_pieces said.0 first count ++ codes ",\"replies\":[" in
    let replies : (34 ∷ []) ++ (reply ++ (34 ∷ [])) ≡ replies_pieces (reply ++ 10 ∷ []) = sym (only_reply reply plain_reply) in
    let text : (34 ∷ []) ++ (said.1 ++ (34 ∷ [])) ≡ quoted said.1 = sym (plain_quoted said.1 plain_line) in
    regroup_short (front_pieces said.0 first count) (codes ",\"replies\":[") (34 ∷ []) reply (codes "],\"text\":") said.1 (codes ",\"why\":[") (drop 1 whys) (codes "]}\n")
    ∙ (λ i. (((front ++ replies i) ++ codes "],\"text\":") ++ text i) ++ reasons_pieces (drop 1 whys))

-- the same, if the reply has no line
regroup_silent : (f d s q t w y z : List ℕ) → (((((f ++ d) ++ []) ++ (s ++ q)) ++ t) ++ (q ++ w) ++ y) ++ z ≡ ((((f ++ d) ++ []) ++ s) ++ (q ++ (t ++ q))) ++ ((w ++ y) ++ z)
regroup_silent f d s q t w y z = simp append_assoc

pub silent_object : (said : ℕ × List ℕ) (first count : ℕ) (whys : List ℕ) → PlainBetween said.1 0 (length said.1)
    → front_pieces said.0 first count ++ codes ",\"replies\":[" ++ [] ++ codes "],\"text\":\"" ++ said.1 ++ codes "\",\"why\":[" ++ drop 1 whys ++ codes "]}\n" ≡ object_pieces said first count [] whys
silent_object said first count whys plain =
    let front : List ℕ = front_pieces said.0 first count ++ codes ",\"replies\":[" in
    let text : (34 ∷ []) ++ (said.1 ++ (34 ∷ [])) ≡ quoted said.1 = sym (plain_quoted said.1 plain) in
    regroup_silent (front_pieces said.0 first count) (codes ",\"replies\":[") (codes "],\"text\":") (34 ∷ []) said.1 (codes ",\"why\":[") (drop 1 whys) (codes "]}\n")
    ∙ (λ i. (((front ++ []) ++ codes "],\"text\":") ++ text i) ++ reasons_pieces (drop 1 whys))
