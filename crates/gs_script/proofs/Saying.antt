-- The lines that say something, and the events that they say.
use Rattle.std.proofs.Common.{◌≡◌, refl, ap, subst, ◌∙◌, ℕ, ◌+◌, ◌==◌, nat_lt, Bool, true, false, not, ◌&&◌, cond, None, Result, Ok, Err, List, [], ◌∷◌, ◌++◌, filter, length, arith}
use Rattle.std.specs.List.{onto_first, slice_split}
use Rattle.std.proofs.lemmas.List.Splits.{slice_split-cons_no, slice_split-cons_yes}
use Rattle.std.proofs.lemmas.Bool.Decides.{nat_tests}
use Rattle.gs_replies.specs.declared.config.Config.{Config}
use Rattle.gs_core.specs.declared.event.Event.{Event}
use Rattle.gs_script.specs.declared.fault.Reason.{Reason}
use Rattle.gs_script.specs.declared.fault.Reason.TheVariants.{BadByte, TooLong}
use Rattle.gs_script.specs.declared.fault.ScriptFault.{ScriptFault}
use Rattle.gs_script.specs.declared.script.TheConstants.{MOST_BYTES}
use Rattle.gs_script.specs.Words.{is_text, is_word, lines_of, words_of}
use Rattle.gs_script.specs.Naming.{Naming}
use Rattle.gs_script.specs.Rows.{event_of}
use Rattle.gs_script.specs.Header.{header_of}
use Rattle.gs_script.specs.Script.{before, events_of, fault, headed, is_passed_over, script_from, script_of, some_of, with_config, with_event}
use Rattle.gs_script.specs.Said.{SayEach, SayScript, line_if, said, said_in}

-- a space in front changes no word
pub words_behind : (line : List ℕ) → words_of (32 ∷ line) ≡ words_of line
words_behind line = ap (filter is_word) (slice_split-cons_yes (λ b. b == 32) 32 line refl)

word_begun : (b : ℕ) (p : List ℕ) → is_word (b ∷ p) ≡ true
word_begun b p = let e : (length (b ∷ p) == 0) ≡ false = grind (arith, nat_tests) in ap not e

first_word : (b : ℕ) (parts : List (List ℕ)) → is_passed_over (filter is_word (onto_first b parts)) ≡ (b == 35)
first_word b [] = ap (λ t. is_passed_over (cond t ((b ∷ []) ∷ []) [])) (word_begun b [])
first_word b (p ∷ ps) = ap (λ t. is_passed_over (cond t ((b ∷ p) ∷ filter is_word ps) (filter is_word ps))) (word_begun b p)

-- a line that begins with another byte is passed over if that begins a comment
pub passed_by : (b : ℕ) (line : List ℕ) → (b == 32) ≡ false → is_passed_over (words_of (b ∷ line)) ≡ (b == 35)
passed_by b line other = ap (λ parts. is_passed_over (filter is_word parts)) (slice_split-cons_no (λ b. b == 32) b line other) ∙ first_word b (slice_split (λ b. b == 32) line)

-- the lines behind the header
each_said : {A : Type 0} (naming : Naming A) (n k : ℕ) (lines : List (List ℕ)) (es : List (Event A)) → events_of naming n lines ≡ Ok es → SayEach naming (said k lines) es
each_said {A} naming n k [] es e = let same : [] ≡ es = cc in subst (SayEach naming []) same tt
each_said {A} naming n k (l ∷ ls) es e = by_tests (each_said naming (n + 1) (k + 1) ls) (is_text l) (is_passed_over (words_of l)) (event_of naming (words_of l)) refl e
  where
    by_rest : ((xs : List (Event A)) → events_of naming (n + 1) ls ≡ Ok xs → SayEach naming (said (k + 1) ls) xs) → (x : Event A) → event_of naming (words_of l) ≡ Ok x
        → (o : Result (List (Event A)) ScriptFault) → events_of naming (n + 1) ls ≡ o → with_event x o ≡ Ok es → SayEach naming ((k, l) ∷ said (k + 1) ls) es
    by_rest others x q (Err f) r e = absurd cc
    by_rest others x q (Ok xs) r e = let same : x ∷ xs ≡ es = cc in subst (SayEach naming ((k, l) ∷ said (k + 1) ls)) same (q, others xs r)

    by_tests : ((xs : List (Event A)) → events_of naming (n + 1) ls ≡ Ok xs → SayEach naming (said (k + 1) ls) xs) → (t p : Bool) (r : Result (Event A) Reason) → event_of naming (words_of l) ≡ r
        → before n (cond (not t) (Err BadByte) (cond p (Ok None) (some_of r))) (events_of naming (n + 1) ls) ≡ Ok es → SayEach naming (line_if (t && not p) k l ++ said (k + 1) ls) es
    by_tests others false p r q e = absurd cc
    by_tests others true true r q e = others es e
    by_tests others true false (Err x) q e = absurd cc
    by_tests others true false (Ok x) q e = by_rest others x q (events_of naming (n + 1) ls) refl e

nothing_said : {A : Type 0} (naming : Naming A) (xs : List (ℕ × List ℕ)) (f : ScriptFault) → SayScript naming xs (Err f)
nothing_said naming [] f = tt
nothing_said naming (x ∷ xs) f = tt

-- with the header's
from_said : {A : Type 0} (naming : Naming A) (n k : ℕ) (lines : List (List ℕ)) → SayScript naming (said k lines) (script_from naming n lines)
from_said {A} naming n k [] = tt
from_said {A} naming n k (l ∷ ls) = by_tests (from_said naming (n + 1) (k + 1) ls) (is_text l) (is_passed_over (words_of l)) (header_of naming (words_of l))
  where
    by_rest : (c : Config A) (o : Result (List (Event A)) ScriptFault) → events_of naming (n + 1) ls ≡ o → SayScript naming ((k, l) ∷ said (k + 1) ls) (with_config c o)
    by_rest c (Err f) q = tt
    by_rest c (Ok es) q = each_said naming (n + 1) (k + 1) ls es q

    by_tests : SayScript naming (said (k + 1) ls) (script_from naming (n + 1) ls) → (t p : Bool) (r : Result (Config A) Reason)
        → SayScript naming (line_if (t && not p) k l ++ said (k + 1) ls) (headed n (cond (not t) (Err BadByte) (cond p (Ok None) (some_of r))) (script_from naming (n + 1) ls) (events_of naming (n + 1) ls))
    by_tests later false p r = nothing_said naming (said (k + 1) ls) (fault n BadByte)
    by_tests later true true r = later
    by_tests later true false (Err x) = tt
    by_tests later true false (Ok c) = by_rest c (events_of naming (n + 1) ls) refl

pub script_said : {A : Type 0} (naming : Naming A) (bytes : List ℕ) → SayScript naming (said_in bytes) (script_of naming bytes)
script_said naming bytes = by_len (nat_lt MOST_BYTES (length bytes))
  where
    by_len : (b : Bool) → SayScript naming (cond b [] (said 1 (lines_of bytes))) (cond b (Err (fault 0 TooLong)) (script_from naming 1 (lines_of bytes)))
    by_len true = tt
    by_len false = from_said naming 1 1 (lines_of bytes)
