-- A line that is read by itself, by what stands first in it.
use denote.Ref.{Bor}
use Rattle.std.proofs.Common.{◌≡◌, refl, ap, sym, subst, ◌∙◌, ℕ, Bool, true, false, not, ◌&&◌, cond, Option, None, Some, is_some, Result, Ok, Err, OnOk, IfErr, List, [], ◌∷◌, ◌++◌, nat_le}
use Rattle.gs_core.specs.declared.event.Event.{Event}
use Rattle.gs_script.specs.declared.fault.Reason.{Reason}
use Rattle.gs_script.specs.declared.fault.Reason.TheVariants.{BadByte}
use Rattle.gs_script.specs.declared.line.LineError.{LineError}
use Rattle.gs_script.specs.Words.{is_text, lines_of, words_of}
use Rattle.gs_script.specs.Naming.{Naming}
use Rattle.gs_script.specs.Rows.{event_of}
use Rattle.gs_script.specs.Plain.{lines_left}
use Rattle.gs_script.specs.Script.{is_passed_over, says, some_of}
use Rattle.gs_script.specs.Held.{Adds, AddsSaid, Fails, IsUnsaid, and_one}
use Rattle.gs_script.proofs.Unread.{cut_text, whole_text}

first_of : (x y : List ℕ) (xs ys : List (List ℕ)) → x ∷ xs ≡ y ∷ ys → x ≡ y
first_of x y xs ys e = cc

-- nothing is left behind the first line, so it is the whole
only_line : (line first other : List ℕ) (left : Option (Bor (List ℕ))) (ls : List (List ℕ)) → is_some left ≡ false → lines_of line ≡ first ∷ lines_left left → lines_of line ≡ other ∷ ls → line ≡ other
only_line line first other None ls none cut e = whole_text line first cut ∙ first_of first other [] ls (sym cut ∙ e)
only_line line first other (Some rest) ls none cut e = absurd (cc)

pub said_alone : {A B : Type 0} (naming : Naming A) (line first : List ℕ) (none left : Option (Bor (List ℕ))) (old reserved new : List (Event A)) (result : Result B LineError) → is_some none ≡ false → lines_of line ≡ first ∷ lines_left none → reserved ≡ old → OnOk result (Adds naming line left reserved new) → OnOk result (AddsSaid naming line old new)
said_alone naming line first none left old reserved new (Err e) ends cut same a = tt
said_alone naming line first none left old reserved new (Ok x) ends cut same a =
    record {
      said = a.said;
      is = ap (says (event_of naming)) (only_line line first a.first.line none (lines_left left) ends cut a.first.cut) ∙ a.first.is;
      events = a.events ∙ ap (λ es. and_one es a.said) same;
    }

pub unsaid_alone : {A B : Type 0} (naming : Naming A) (line first : List ℕ) (none : Option (Bor (List ℕ))) (result : Result B LineError) → is_some none ≡ false → lines_of line ≡ first ∷ lines_left none → IfErr result (λ e. Fails naming line e) → IfErr result (λ e. IsUnsaid naming e line)
unsaid_alone naming line first none (Ok x) ends cut f = tt
unsaid_alone naming line first none (Err error) ends cut f =
    subst (IsUnsaid naming error) (sym (only_line line first f.first.line none (lines_left f.left) ends cut f.first.cut)) f.first.is

-- a newline is no text
broken_text : (front rest : List ℕ) → is_text (front ++ 10 ∷ rest) ≡ false
broken_text [] rest = refl
broken_text (b ∷ front) rest = by_test (nat_le 32 b && nat_le b 126) (is_text (front ++ 10 ∷ rest)) (broken_text front rest)
  where
    by_test : (t u : Bool) → u ≡ false → (t && u) ≡ false
    by_test true u h = h
    by_test false u h = refl

no_text : {A : Type 0} (read : List (List ℕ) → Result A Reason) (line : List ℕ) → is_text line ≡ false → says read line ≡ Err BadByte
no_text read line h = ap (λ t. cond (not t) (Err BadByte) (cond (is_passed_over (words_of line)) (Ok None) (some_of (read (words_of line))))) h

-- something is left behind a newline, so the whole has a bad byte
pub cut_fault : {A : Type 0} (naming : Naming A) (line first : List ℕ) (left : Option (Bor (List ℕ))) → is_some left ≡ true → lines_of line ≡ first ∷ lines_left left → says (event_of naming) line ≡ Err BadByte
cut_fault naming line first None some cut = absurd (cc)
cut_fault naming line first (Some rest) some cut = no_text (event_of naming) line (ap is_text (cut_text line first rest.now cut) ∙ broken_text first rest.now)
