-- A script, read line by line.
use denote.Ref.{Bor}
use Rattle.std.proofs.Common.{◌≡◌, refl, ap, sym, subst, ◌∙◌, ℕ, ◌+◌, ◌<◌, ◌≤◌, Bool, true, false, not, ◌&&◌, ◌==◌, cond, Option, None, Some, Result, Ok, Err, List, [], ◌∷◌, ◌++◌, append-nil, length, length-append, take, arith}
use Rattle.std.specs.List.{join_with_byte}
use Rattle.std.proofs.Math.Seq.{take-append_seam}
use Rattle.std.proofs.lemmas.List.Splits.{join_with_byte-slice_split, length-slice_split}
use Rattle.gs_core.specs.declared.event.Event.{Event}
use Rattle.gs_script.specs.declared.fault.Reason.{Reason}
use Rattle.gs_script.specs.declared.fault.Reason.TheVariants.{BadByte}
use Rattle.gs_script.specs.declared.fault.ScriptFault.{ScriptFault}
use Rattle.gs_script.specs.declared.reading.SaidLine.{SaidLine}
use Rattle.gs_script.specs.Words.{is_text, lines_of, words_of}
use Rattle.gs_script.specs.Naming.{Naming}
use Rattle.gs_script.specs.Rows.{event_of}
use Rattle.gs_script.specs.Plain.{FirstLine, lines_left}
use Rattle.gs_script.specs.Script.{before, events_of, is_passed_over, says, some_of, with_event}
use Rattle.gs_script.specs.Held.{Adds, and_one}
use Rattle.gs_script.specs.Said.{line_if, said, says_something}
use Rattle.gs_script.specs.Unread.{ReadsNext, Unread}
use Rattle.gs_script.specs.Unread.{with_front}
use Rattle.gs_script.proofs.Lines.{with_front_more}

pub says_one : {A : Type 0} (read : List (List ℕ) → Result A Reason) (n : ℕ) (line : List ℕ) (x : A) → says read line ≡ Ok (Some x) → (line_if (says_something line) n line ≡ (n, line) ∷ []) × (is_text line ≡ true)
says_one {A} read n line x h = by_tests (is_text line) (is_passed_over (words_of line)) (read (words_of line)) h
  where
    by_tests : (t p : Bool) (r : Result A Reason) → cond (not t) (Err BadByte) (cond p (Ok None) (some_of r)) ≡ Ok (Some x) → (line_if (t && not p) n line ≡ (n, line) ∷ []) × (t ≡ true)
    by_tests false p r h = absurd cc
    by_tests true true r h = absurd cc
    by_tests true false r h = (refl, refl)

-- a line, by what is left behind it
pub whole_text : (text line : List ℕ) → lines_of text ≡ line ∷ [] → text ≡ line
whole_text text line e = sym (join_with_byte-slice_split 10 text) ∙ ap (join_with_byte 10) e

behind_line : (line rest : List ℕ) (ls : List (List ℕ)) → lines_of rest ≡ ls → join_with_byte 10 (line ∷ ls) ≡ line ++ 10 ∷ rest
behind_line line rest [] e = absurd (omega (arith, ap length e, length-slice_split (λ b. b == 10) rest))
behind_line line rest (y ∷ ys) e = ap (λ t. line ++ 10 ∷ t) (ap (join_with_byte 10) (sym e) ∙ join_with_byte-slice_split 10 rest)

pub cut_text : (text line rest : List ℕ) → lines_of text ≡ line ∷ lines_of rest → text ≡ line ++ 10 ∷ rest
cut_text text line rest e = sym (join_with_byte-slice_split 10 text) ∙ ap (join_with_byte 10) e ∙ behind_line line rest (lines_of rest) refl

pub cut_length : (text line rest : List ℕ) → lines_of text ≡ line ∷ lines_of rest → length text ≡ length line + (length rest + 1)
cut_length text line rest e = ap length (cut_text text line rest e) ∙ length-append line (10 ∷ rest) ∙ omega arith

pub line_taken : (text line rest : List ℕ) (n : ℕ) → lines_of text ≡ line ∷ lines_of rest → n ≡ length line → lines_of text ≡ take n text ∷ lines_of rest
line_taken text line rest n e k =
    let is : take n text ≡ line = ap (λ m. take m text) k ∙ ap (take (length line)) (cut_text text line rest e) ∙ take-append_seam line (10 ∷ rest) in
    e ∙ ap (λ l. l ∷ lines_of rest) (sym is)

-- the first line was read, and says an event
first_of : (x y : List ℕ) (xs ys : List (List ℕ)) → x ∷ xs ≡ y ∷ ys → x ≡ y
first_of x y xs ys e = cc

pub one_read : {A : Type 0} (naming : Naming A) (n : ℕ) (text : List ℕ) (left : Option (Bor (List ℕ))) (old new : List (Event A)) (x : SaidLine) (start : Unread) → Adds naming text left old new → length old < length new → x.number ≡ n → lines_of text ≡ x.bytes.now ∷ lines_left left
    → events_of naming n (lines_of text) ≡ events_of naming start.number start.lines → said n (lines_of text) ≡ said start.number start.lines → length (lines_of text) ≤ length start.lines
    → ReadsNext naming start (record { number = n + 1; lines = lines_left left }) old new x
one_read {A} naming n text left old new x start a lt number cut events says few = by_said a.said a.first a.events
  where
    by_said : (o : Option (Event A)) → FirstLine (λ line. Rattle.gs_script.specs.Script.says (event_of naming) line ≡ Ok o) text left → new ≡ and_one old o → ReadsNext naming start (record { number = n + 1; lines = lines_left left }) old new x
    by_said None f e = absurd (omega (arith, lt, ap length e))
    by_said (Some v) f e =
        let same : f.line ≡ x.bytes.now = first_of f.line x.bytes.now (lines_left left) (lines_left left) (sym f.cut ∙ cut) in
        let one = says_one (event_of naming) n f.line v f.is in
        record {
          event = v;
          is = sym events ∙ ap (events_of naming n) f.cut ∙ ap (λ s. before n s (events_of naming (n + 1) (lines_left left))) f.is;
          says = sym says ∙ ap (said n) f.cut ∙ ap (λ xs. xs ++ said (n + 1) (lines_left left)) one.0 ∙ (λ i. (sym number i, same i) ∷ said (n + 1) (lines_left left));
          text = subst (λ (l : List ℕ). is_text l ≡ true) same one.1;
          fewer = omega (arith, few, ap length f.cut);
          added = e;
        }

-- the events that were read, and then those that were not
pub front_more : {A : Type 0} (front : List (Event A)) (e : Event A) (old new whole : Result (List (Event A)) ScriptFault) → whole ≡ with_front front old → old ≡ with_event e new → whole ≡ with_front (front ++ e ∷ []) new
front_more front e old new whole h is = h ∙ ap (with_front front) is ∙ with_front_more front e new

pub front_none : {A : Type 0} (front : List (Event A)) (left whole : Result (List (Event A)) ScriptFault) → whole ≡ with_front front left → left ≡ Ok [] → whole ≡ Ok front
front_none front left whole h is = h ∙ ap (with_front front) is ∙ ap Ok (append-nil front)
