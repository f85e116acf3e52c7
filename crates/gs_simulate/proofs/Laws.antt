-- The text of a simulation is a script, and its run is what the session heard.
use Rattle.std.proofs.Common.{◌≡◌, refl, ap, sym, subst, ◌∙◌, ℕ, ◌+◌, ◌==◌, ◌&&◌, nat_eq, nat_le, nat_lt, not, Bool, true, false, cond, List, [], ◌∷◌, ◌++◌, length, if◌then◌else◌, Option, None, Some, Result, Ok, Err, arith}
use Rattle.std.specs.List.{onto_first}
use Rattle.std.proofs.lemmas.List.Splits.{slice_split-cons_no}
use Rattle.std.proofs.lemmas.Bool.Decides.{nat_tests}
use Rattle.gs_replies.specs.declared.config.Config.{Config}
use Rattle.gs_core.specs.declared.event.Event.{Event}
use Rattle.gs_core.specs.Machine.{Plan, StateOf}
use Rattle.gs_script.specs.declared.fault.Reason.{Reason}
use Rattle.gs_script.specs.declared.fault.Reason.TheVariants.{TooLong, BadByte}
use Rattle.gs_script.specs.declared.script.TheConstants.{MOST_BYTES}
use Rattle.gs_script.specs.Header.{header_of}
use Rattle.gs_script.specs.Naming.{Naming}
use Rattle.gs_script.specs.Rows.{event_of}
use Rattle.gs_script.specs.Script.{is_passed_over, script_from, script_of, some_of, fault}
use Rattle.gs_script.specs.Words.{is_text, lines_of, words_of}
use Rattle.gs_session.specs.declared.heard.Heard.{Heard}
use Rattle.gs_session.specs.declared.heard.Heard.TheVariants as heards
use Rattle.gs_session.specs.Lines.{HearsAll, IsRunIn, faultless, replies_in, reply_in, unless_fault}
use Rattle.gs_session.specs.Session.{Session, HearsAt, HearsEvent, HearsHeader, read_within, unheard}
use Rattle.gs_session.proofs.Laws.{all_run}
use Rattle.gs_simulate.specs.Heard.{AreWithoutFault, IsHeard, IsWithoutFault, fault_of, text_of}
use Rattle.gs_simulate.proofs.Heard.{hears_more, faultless_more}

-- a line of text has no newline
first_of : (a b : Bool) → (a && b) ≡ true → a ≡ true
first_of true b e = refl
first_of false b e = absurd (cc)

second_of : (a b : Bool) → (a && b) ≡ true → b ≡ true
second_of true b e = e
second_of false b e = absurd (cc)

not_newline : (b : ℕ) → nat_le 32 b ≡ true → nat_eq b 10 ≡ false
not_newline b h = grind (arith, nat_tests)

ended : (line more : List ℕ) → is_text line ≡ true → lines_of (line ++ 10 ∷ more) ≡ line ∷ lines_of more
ended [] more h = refl
ended (b ∷ line) more h =
    slice_split-cons_no (λ x. x == 10) b (line ++ 10 ∷ more) (not_newline b (first_of (nat_le 32 b) (nat_le b 126) (first_of (nat_le 32 b && nat_le b 126) (is_text line) h)))
    ∙ ap (onto_first b) (ended line more (second_of (nat_le 32 b && nat_le b 126) (is_text line) h))

read_is_text : {A : Type 0} (read : List (List ℕ) → Result A Reason) (line : List ℕ) (x : Option A) → read_within read line ≡ Ok x → is_text line ≡ true
read_is_text {A} read line x h = by_length (nat_lt MOST_BYTES (length line)) (is_text line) (if is_passed_over (words_of line) then Ok None else some_of (read (words_of line))) h
  where
    by_length : (b c : Bool) (r : Result (Option A) Reason) → cond b (Err TooLong) (cond (not c) (Err BadByte) r) ≡ Ok x → c ≡ true
    by_length true c r e = absurd (cc)
    by_length false true r e = refl
    by_length false false r e = absurd (cc)

told_none : (reason : Reason) (n : ℕ) (h : Heard) → h ≡ heards.Fault (fault n reason) → IsWithoutFault h → ⊥
told_none reason n h e w = let f : Some (fault n reason) ≡ None = subst (λ (x : Heard). fault_of x ≡ None) e w in cc

-- none of them has a fault
none_dropped : (line : List ℕ) (h : Heard) → IsWithoutFault h → unless_fault line h ≡ line ∷ []
none_dropped line heards.Nothing w = refl
none_dropped line heards.Opened w = refl
none_dropped line (heards.Stepped r) w = refl
none_dropped line (heards.Fault f) w = absurd (cc)

replies_more : (hs : List Heard) → replies_in (hs ++ heards.Nothing ∷ []) ≡ replies_in hs
replies_more [] = refl
replies_more (h ∷ hs) = ap (λ rs. reply_in h ++ rs) (replies_more hs)

-- one line more was heard
abbrev counted : {A : Type 0} → Session A → Session A
counted s = record s { count = s.count + 1 }

module _ {A : Type 0} (naming : Naming A) (plans : A → Plan) where
  header_is_text : (n : ℕ) (line : List ℕ) (r : Result (Option (Config A)) Reason) (h : Heard) (after : Option (StateOf A)) → read_within (header_of naming) line ≡ r → HearsHeader n r h after → IsWithoutFault h → is_text line ≡ true
  header_is_text n line (Err reason) h after e t w = absurd (told_none reason n h t.0 w)
  header_is_text n line (Ok x) h after e t w = read_is_text (header_of naming) line x e

  event_is_text : (n : ℕ) (m : StateOf A) (line : List ℕ) (r : Result (Option (Event A)) Reason) (h : Heard) (after : Option (StateOf A)) → read_within (event_of naming) line ≡ r → HearsEvent plans n m r h after → IsWithoutFault h → is_text line ≡ true
  event_is_text n m line (Err reason) h after e t w = absurd (told_none reason n h t.0 w)
  event_is_text n m line (Ok x) h after e t w = read_is_text (event_of naming) line x e

  line_is_text : (n : ℕ) (line : List ℕ) (before : Option (StateOf A)) (h : Heard) (after : Option (StateOf A)) → HearsAt naming plans n line before h after → IsWithoutFault h → is_text line ≡ true
  line_is_text n line None h after t w = header_is_text n line (read_within (header_of naming) line) h after refl t w
  line_is_text n line (Some m) h after t w = event_is_text n m line (read_within (event_of naming) line) h after refl t w

  -- the lines that were heard are those of the text, and behind the last newline stands an empty one
  lines_heard : (s : Session A) (lines : List (List ℕ)) (hs : List Heard) (after : Session A) → HearsAll naming plans s lines hs after → AreWithoutFault hs → lines_of (text_of lines) ≡ lines ++ [] ∷ []
  lines_heard s [] [] after t w = refl
  lines_heard s [] (h ∷ hs) after t w = absurd t
  lines_heard s (line ∷ lines) [] after t w = absurd t
  lines_heard s (line ∷ lines) (h ∷ hs) after (mid, first, rest) (one, others) =
      ended line (text_of lines) (line_is_text mid.count line s.opened h mid.opened first.does one)
      ∙ ap (λ ls. line ∷ ls) (lines_heard mid lines hs after rest others)

  all_faultless : (s : Session A) (lines : List (List ℕ)) (hs : List Heard) (after : Session A) → HearsAll naming plans s lines hs after → AreWithoutFault hs → faultless lines hs ≡ lines
  all_faultless s [] [] after t w = refl
  all_faultless s [] (h ∷ hs) after t w = absurd t
  all_faultless s (line ∷ lines) [] after t w = absurd t
  all_faultless s (line ∷ lines) (h ∷ hs) after (mid, first, rest) (one, others) =
      ap (λ ls. ls ++ faultless lines hs) (none_dropped line h one) ∙ ap (λ ls. line ∷ ls) (all_faultless mid lines hs after rest others)

  -- an empty line says nothing
  empty_heard : (n : ℕ) (o : Option (StateOf A)) → HearsAt naming plans n [] o heards.Nothing o
  empty_heard n None = (refl, refl)
  empty_heard n (Some m) = (refl, refl)

  pub simulated_run : (text : List ℕ) (session : Session A) (t : IsHeard naming plans text session) → nat_lt MOST_BYTES (length text) ≡ false → IsRunIn plans (script_of naming text) (replies_in t.heard) session.opened
  simulated_run text session t short =
      let lines = lines_heard unheard t.lines t.heard session t.hears t.faultless in
      let more : HearsAll naming plans unheard (t.lines ++ [] ∷ []) (t.heard ++ heards.Nothing ∷ []) (counted session) =
      hears_more naming plans unheard session (counted session) t.lines t.heard [] heards.Nothing t.hears (record { counted = refl; does = empty_heard (session.count + 1) session.opened }) in
      let whole = all_faultless unheard (t.lines ++ [] ∷ []) (t.heard ++ heards.Nothing ∷ []) (counted session) more (faultless_more t.heard heards.Nothing t.faultless refl) in
      let script : script_of naming text ≡ script_from naming 1 (faultless (t.lines ++ [] ∷ []) (t.heard ++ heards.Nothing ∷ [])) =
      ap (λ b. cond b (Err (fault 0 TooLong)) (script_from naming 1 (lines_of text))) short ∙ ap (λ xs. script_from naming 1 (lines_of xs)) t.written ∙ ap (script_from naming 1) lines ∙ sym (ap (script_from naming 1) whole) in
      let run = all_run naming plans (t.lines ++ [] ∷ []) (t.heard ++ heards.Nothing ∷ []) (counted session) more in
      subst (λ s. IsRunIn plans s (replies_in t.heard) session.opened) (sym script)
      (subst (λ rs. IsRunIn plans (script_from naming 1 (faultless (t.lines ++ [] ∷ []) (t.heard ++ heards.Nothing ∷ []))) rs session.opened) (replies_more t.heard) run)
