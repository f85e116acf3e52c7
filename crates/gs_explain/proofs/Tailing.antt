-- What an object has of a refusal that is told by numbers.
use Rattle.std.proofs.Common.{◌≡◌, ◌∙◌, refl, sym, ap, true, false, ℕ, zero, suc, ◌+◌, ◌-◌, Option, None, Some, List, [], ◌∷◌, ◌++◌, append_assoc, append-nil, arith, codes, drop, length, take}
use Rattle.std.specs.Prelude.{decimal}
use Rattle.std.specs.List.{list_all}
use Rattle.std.proofs.lemmas.Bool.{and_parts, false≢true}
use Rattle.std.proofs.lemmas.List.{length-append, length-drop, length-take}
use Rattle.std.proofs.Math.Seq.{drop-append_seam, take-append_seam}
use Rattle.json.specs.Print.{quoted}
use Rattle.json.specs.Run.{is_plain}
use Rattle.json.specs.Written.{PlainBetween}
use Rattle.gs_layout.specs.declared.refusal.Refusal.{Refusal}
use Rattle.gs_layout.specs.declared.refusal.Refusal.TheVariants as refusals
use Rattle.gs_lines.specs.Lines.{refusal_text, reply_lines}
use Rattle.gs_replies.specs.declared.reply.Reply.TheVariants as replies
use Rattle.gs_sentences.specs.Parts.{part}
use Rattle.gs_sentences.specs.Reason as reasons
use Rattle.gs_sentences.specs.Refused.{refused_text}
use Rattle.gs_sentences.specs.Tails.{IsTail, is_part, tail_refusal, tail_sentence, tail_text, told}
use Rattle.gs_sentences.specs.Told.{Cause}
use Rattle.gs_sentences.specs.declared.tail.Tail.{Tail}
use Rattle.gs_sentences.specs.declared.tail.Tail.TheVariants as tails
use Rattle.gs_sentences.proofs.Spoken.{sentence_spoken}
use Rattle.gs_explain.specs.Composed.{front_pieces, object_pieces, option_json, reasons_pieces, replies_pieces, why_pieces}
use Rattle.gs_explain.specs.Moment.{Moment}
use Rattle.gs_explain.specs.Objects.{line_of_cause, object_row, place_of_cause, reason_data, refusal_word}
use Rattle.gs_explain.specs.Refusals.{why_refused}
use Rattle.gs_explain.specs.Tailed.{at_of, line_in, place_in, quoted_reply, reason_front, refused_object, refused_rest, tail_why}
use Rattle.gs_explain.proofs.Quoting.{plain_quoted}
use Rattle.gs_explain.proofs.Composing.{only_reply, whole_object, whole_reason}

-- what is told of a refusal is its reply and its sentence
tail_parts : (text : List ℕ) (t : Tail) → is_part t ≡ false → tail_text text t ≡ told (tail_refusal t) (tail_sentence t)
tail_parts text (tails.Part from to) e = absurd (false≢true (sym e))
tail_parts text (tails.NoThread t) e = refl
tail_parts text (tails.Dead t l p) e = refl
tail_parts text (tails.Unknown t) e = refl
tail_parts text (tails.NeverPlaced t) e = refl
tail_parts text (tails.Off t l p) e = refl
tail_parts text (tails.Runs t l p) e = refl
tail_parts text (tails.BadMask cpus m) e = refl
tail_parts text (tails.BadCpu k cpus) e = refl
tail_parts text (tails.Active f k g l p) e = refl
tail_parts text (tails.Attaches f g l p) e = refl
tail_parts text (tails.Left f l p) e = refl
tail_parts text (tails.NoPage g) e = refl
tail_parts text (tails.Page g l) e = refl
tail_parts text (tails.Held k l p) e = refl
tail_parts text (tails.NeverTaken k) e = refl
tail_parts text (tails.Given k l p) e = refl
tail_parts text (tails.Spent t l p) e = refl
tail_parts text (tails.Generations l p) e = refl
tail_parts text (tails.Tids l p) e = refl
tail_parts text (tails.Entries n limit) e = refl
tail_parts text (tails.Transactions n limit) e = refl
tail_parts text (tails.Waits k n l) e = refl
tail_parts text (tails.Numbered n) e = refl
tail_parts text (tails.Gone l p) e = refl

-- what is told of a refusal is no part of a text
pub not_part : (t : Tail) (f : Refusal) (why : List ℕ) → IsTail t f why → is_part t ≡ false
not_part (tails.NoThread t) f why tail = refl
not_part (tails.Dead t l p) f why tail = refl
not_part (tails.Unknown t) f why tail = refl
not_part (tails.NeverPlaced t) f why tail = refl
not_part (tails.Off t l p) f why tail = refl
not_part (tails.Runs t l p) f why tail = refl
not_part (tails.BadMask cpus m) f why tail = refl
not_part (tails.BadCpu k cpus) f why tail = refl
not_part (tails.Active h k g l p) f why tail = refl
not_part (tails.Attaches h g l p) f why tail = refl
not_part (tails.Left h l p) f why tail = refl
not_part (tails.NoPage g) f why tail = refl
not_part (tails.Page g l) f why tail = refl
not_part (tails.Held k l p) f why tail = refl
not_part (tails.NeverTaken k) f why tail = refl
not_part (tails.Given k l p) f why tail = refl
not_part (tails.Spent t l p) f why tail = refl
not_part (tails.Generations l p) f why tail = refl
not_part (tails.Tids l p) f why tail = refl
not_part (tails.Entries n limit) f why tail = refl
not_part (tails.Transactions n limit) f why tail = refl
not_part (tails.Waits k n l) f why tail = refl
not_part (tails.Numbered n) f why tail = refl
not_part (tails.Gone l p) f why tail = refl
not_part (tails.Part from to) f why tail =
    let none : length (part from to []) ≡ 0 = omega (arith, length-take {A = ℕ} (to - from) (drop from []), length-drop {A = ℕ} from []) in
    let some : length (told f why) ≡ length ((reply_lines (replies.Refused f) ++ codes "  ") ++ why) + 1 = length-append ((reply_lines (replies.Refused f) ++ codes "  ") ++ why) (10 ∷ []) in
    let same : length (part from to []) ≡ length (told f why) = ap length (tail []) in
    absurd (omega (arith, none, some, same))

same_place : (c : Option Cause) → place_in (at_of c) ≡ place_of_cause c
same_place None = refl
same_place (Some c) = refl

same_line : (c : Option Cause) → line_in (at_of c) ≡ line_of_cause c
same_line None = refl
same_line (Some c) = refl

-- the sentence, behind the line of a reply and two spaces
behind_reply : (reply reason : List ℕ) → part (length reply + 2) (length (((reply ++ codes "  ") ++ reason) ++ 10 ∷ []) - 1) (((reply ++ codes "  ") ++ reason) ++ 10 ∷ []) ≡ reason
behind_reply reply reason =
    let front : List ℕ = reply ++ codes "  " in
    let size : length front ≡ length reply + 2 = length-append reply (codes "  ") in
    let whole : (front ++ reason) ++ 10 ∷ [] ≡ front ++ (reason ++ 10 ∷ []) = append_assoc front reason (10 ∷ []) in
    let long : length ((front ++ reason) ++ 10 ∷ []) ≡ (length front + length reason) + 1 = length-append (front ++ reason) (10 ∷ []) ∙ ap (λ (n : ℕ). n + 1) (length-append front reason) in
    let many : length ((front ++ reason) ++ 10 ∷ []) - 1 - (length reply + 2) ≡ length reason = omega (arith, size, long) in
    let left : drop (length reply + 2) ((front ++ reason) ++ 10 ∷ []) ≡ reason ++ 10 ∷ [] = (λ i. drop (sym size i) (whole i)) ∙ drop-append_seam front (reason ++ 10 ∷ []) in
    (λ i. take (many i) (left i)) ∙ take-append_seam reason (10 ∷ [])

-- so it is told by what is told
same_reason : (f : Refusal) (one other : List ℕ) → told f one ≡ told f other → one ≡ other
same_reason f one other same =
    let reply : List ℕ = reply_lines (replies.Refused f) in
    sym (behind_reply reply one) ∙ (ap (λ (bytes : List ℕ). part (length reply + 2) (length bytes - 1) bytes) same ∙ behind_reply reply other)

-- what is told of a refusal has its sentence
told_reason : (t : Tail) (f : Refusal) (why : List ℕ) → tail_refusal t ≡ f → IsTail t f why → tail_sentence t ≡ why
told_reason t f why same tail = same_reason f (tail_sentence t) why (ap (λ (g : Refusal). told g (tail_sentence t)) (sym same) ∙ (sym (tail_parts [] t (not_part t f why tail)) ∙ tail []))

-- the object of an event that was refused, by its numbers
pub refused_row : (t : Tail) (where_at : Option (ℕ × ℕ)) (x : Moment) (f : Refusal) (said : ℕ × List ℕ) → tail_refusal t ≡ f → IsTail t f (refused_text (why_refused x f)) → where_at ≡ at_of (why_refused x f).cause
    → refused_object said (length x.history) where_at t ≡ object_row said x (length x.history) (replies.Refused f)
refused_row t where_at x f said same tail at =
    let cause : Option Cause = (why_refused x f).cause in
    let why : List ℕ = refused_text (why_refused x f) in
    let end : ℕ = length x.history in
    let place : place_in where_at ≡ place_of_cause cause = ap place_in at ∙ same_place cause in
    let where_line : line_in where_at ≡ line_of_cause cause = ap line_in at ∙ same_line cause in
    let sentence : tail_sentence t ≡ why = told_reason t f why same tail in
    let none : 0 ≡ end - end = omega arith in
    (λ i. object_pieces said end (none i) (reply_lines (replies.Refused (same i))) (why_pieces (place i) (where_line i) (refusal_word (same i)) (sentence i)))
    ∙ (ap (λ (w : List ℕ). object_pieces said end (end - end) (reply_lines (replies.Refused f)) w) (whole_reason (reasons.Refused (why_refused x f)))
    ∙ whole_object said end end (reply_lines (replies.Refused f)) (reason_data (reasons.Refused (why_refused x f)) ∷ []))

-- each of these bytes is plain
all_plain : (xs : List ℕ) → list_all is_plain xs ≡ true → PlainBetween xs 0 (length xs)
all_plain [] e k p q = absurd (omega arith)
all_plain (x ∷ xs) e zero p q = (and_parts (is_plain x) (list_all is_plain xs) e).0
all_plain (x ∷ xs) e (suc k) p q = all_plain xs (and_parts (is_plain x) (list_all is_plain xs) e).1 k (omega arith) (omega arith)

plain_reply : (f : Refusal) → list_all is_plain (codes "refused " ++ refusal_text f) ≡ true
plain_reply refusals.NoThread = refl
plain_reply refusals.NotRunning = refl
plain_reply refusals.NotBlocked = refl
plain_reply refusals.EmptyMask = refl
plain_reply refusals.BadCpu = refl
plain_reply refusals.AgentThere = refl
plain_reply refusals.CpuTaken = refl
plain_reply refusals.NotTaken = refl
plain_reply refusals.NotActive = refl
plain_reply refusals.StillAttached = refl
plain_reply refusals.NotAttaching = refl
plain_reply refusals.SeqSpent = refl
plain_reply refusals.GenSpent = refl
plain_reply refusals.TidsSpent = refl
plain_reply refusals.HistoryFull = refl
plain_reply refusals.SlotOpen = refl
plain_reply refusals.NoSuchTransaction = refl
plain_reply refusals.Gone = refl
plain_reply refusals.OutOfMemory = refl

-- the reply of a refusal, in quotation marks
pub reply_quoted : (f : Refusal) → quoted_reply f ≡ replies_pieces (reply_lines (replies.Refused f))
reply_quoted f =
    let reply : List ℕ = codes "refused " ++ refusal_text f in
    sym (only_reply reply (all_plain reply (plain_reply f)))

-- so it stands in quotation marks as it is
sentence_quoted : (t : Tail) → quoted (tail_sentence t) ≡ (34 ∷ []) ++ (tail_sentence t ++ (34 ∷ []))
sentence_quoted t = plain_quoted (tail_sentence t) (all_plain (tail_sentence t) (sentence_spoken t))

-- a reason behind where it points, as it ends an object
regroup_end : (v a e b l c w d q t z y : List ℕ) → ((((((v ++ a) ++ e) ++ b) ++ l) ++ ((c ++ w) ++ (d ++ q))) ++ t) ++ (q ++ (z ++ y)) ≡ (v ++ ((((((((a ++ e) ++ b) ++ l) ++ c) ++ w) ++ d) ++ (q ++ (t ++ q))) ++ z)) ++ y
regroup_end v a e b l c w d q t z y = simp append_assoc

refused_end : (where_at : Option (ℕ × ℕ)) (t : Tail) → (reason_front where_at (tail_refusal t) ++ tail_sentence t) ++ codes "\"}]}\n" ≡ reasons_pieces (drop 1 (tail_why where_at t))
refused_end where_at t =
    let word : List ℕ = refusal_word (tail_refusal t) in
    let front : List ℕ = ((((((codes "{\"entry\":" ++ option_json (place_in where_at)) ++ codes ",\"line\":") ++ option_json (line_in where_at)) ++ codes ",\"reason\":\"") ++ word) ++ codes "\",\"text\":") in
    regroup_end (codes ",\"why\":[") (codes "{\"entry\":") (option_json (place_in where_at)) (codes ",\"line\":") (option_json (line_in where_at)) (codes ",\"reason\":\"") word (codes "\",\"text\":") (34 ∷ []) (tail_sentence t) (codes "}") (codes "]}\n")
    ∙ ap (λ (q : List ℕ). (codes ",\"why\":[" ++ ((front ++ q) ++ codes "}")) ++ codes "]}\n") (sym (sentence_quoted t))

-- what such an object has behind its line's number
pub whole_rest : (said : List ℕ) (where_at : Option (ℕ × ℕ)) (t : Tail)
    → (((codes ",\"replies\":[" ++ quoted_reply (tail_refusal t)) ++ codes "],\"text\":") ++ quoted said) ++ ((reason_front where_at (tail_refusal t) ++ tail_sentence t) ++ codes "\"}]}\n") ≡ refused_rest said where_at t
whole_rest said where_at t = λ i. (((codes ",\"replies\":[" ++ reply_quoted (tail_refusal t) i) ++ codes "],\"text\":") ++ quoted said) ++ refused_end where_at t i

-- what it has up to the script's line, in a row
regroup_row : (f r s q t : List ℕ) → (((((f ++ r) ++ (s ++ q)) ++ t) ++ q) ++ []) ++ [] ≡ ((f ++ r) ++ s) ++ (q ++ (t ++ q))
regroup_row f r s q t = simp (append_assoc, append-nil)

pub row_refused : (first number : ℕ) (reply text : List ℕ) → PlainBetween text 0 (length text)
    → (((((((((((codes "{\"entries\":{\"count\":" ++ decimal 0) ++ codes ",\"first\":") ++ decimal first) ++ codes "},\"line\":") ++ decimal number) ++ codes ",\"replies\":[") ++ reply) ++ codes "],\"text\":\"") ++ text) ++ codes "\"") ++ []) ++ [] ≡ (((front_pieces number first 0 ++ codes ",\"replies\":[") ++ reply) ++ codes "],\"text\":") ++ quoted text
row_refused first number reply text plain =
    let front : List ℕ = front_pieces number first 0 ++ codes ",\"replies\":[" in
    regroup_row front reply (codes "],\"text\":") (34 ∷ []) text ∙ ap (λ (q : List ℕ). ((front ++ reply) ++ codes "],\"text\":") ++ q) (sym (plain_quoted text plain))

-- the whole object, by both parts
pub refused_whole : (said : ℕ × List ℕ) (first : ℕ) (where_at : Option (ℕ × ℕ)) (t : Tail)
    → ((((front_pieces said.0 first 0 ++ codes ",\"replies\":[") ++ quoted_reply (tail_refusal t)) ++ codes "],\"text\":") ++ quoted said.1) ++ ((reason_front where_at (tail_refusal t) ++ tail_sentence t) ++ codes "\"}]}\n") ≡ refused_object said first where_at t
refused_whole said first where_at t =
    λ i. ((((front_pieces said.0 first 0 ++ codes ",\"replies\":[") ++ reply_quoted (tail_refusal t) i) ++ codes "],\"text\":") ++ quoted said.1) ++ refused_end where_at t i
