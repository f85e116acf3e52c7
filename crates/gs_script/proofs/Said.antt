-- What a line says by its words.
use Rattle.std.proofs.Common.{◌≡◌, ℕ, List, Bool, true, false, cond, not, refl, ap, sym, ◌∙◌, Option, None, Some, Result, Ok, Err}
use Rattle.gs_script.specs.declared.fault.Reason.{Reason}
use Rattle.gs_script.specs.declared.fault.Reason.TheVariants.{BadByte}
use Rattle.gs_script.specs.declared.line.LineError.{LineError}
use Rattle.gs_script.specs.declared.line.LineError.TheVariants as errors
use Rattle.gs_script.specs.Words.{is_text, words_of}
use Rattle.gs_script.specs.Held.{Gives}
use Rattle.gs_script.specs.Script.{is_passed_over, says, some_of}

-- a line whose words are these says what is read in them
some_said : {A : Type 0} (read : List (List ℕ) → Result A Reason) (line : List ℕ) (ws : List (List ℕ)) → says Ok line ≡ Ok (Some ws) → says read line ≡ some_of (read ws)
some_said {A} read line ws h = by_tests (not (is_text line)) (is_passed_over (words_of line)) h
  where
    by_tests : (b p : Bool) → cond b (Err BadByte) (cond p (Ok None) (Ok (Some (words_of line)))) ≡ Ok (Some ws) → cond b (Err BadByte) (cond p (Ok None) (some_of (read (words_of line)))) ≡ some_of (read ws)
    by_tests true p h = absurd (cc)
    by_tests false true h = absurd (cc)
    by_tests false false h = let same : words_of line ≡ ws = cc in ap (λ x. some_of (read x)) same

pub value_said : {A : Type 0} (read : List (List ℕ) → Result A Reason) (line : List ℕ) (ws : List (List ℕ)) (x : A) → says Ok line ≡ Ok (Some ws) → Ok x ≡ read ws → says read line ≡ Ok (Some x)
value_said read line ws x h k = some_said read line ws h ∙ ap some_of (sym k)

pub reason_said : {A : Type 0} (read : List (List ℕ) → Result A Reason) (line : List ℕ) (ws : List (List ℕ)) (reason : Reason) → says Ok line ≡ Ok (Some ws) → Err reason ≡ read ws → says read line ≡ Err reason
reason_said read line ws reason h k = some_said read line ws h ∙ ap some_of (sym k)

pub nothing_said : {A : Type 0} (read : List (List ℕ) → Result A Reason) (line : List ℕ) → says Ok line ≡ Ok None → says read line ≡ Ok None
nothing_said {A} read line h = by_tests (not (is_text line)) (is_passed_over (words_of line)) h
  where
    by_tests : (b p : Bool) → cond b (Err BadByte) (cond p (Ok None) (Ok (Some (words_of line)))) ≡ Ok None → cond b (Err BadByte) (cond p (Ok None) (some_of (read (words_of line)))) ≡ Ok None
    by_tests true p h = absurd (cc)
    by_tests false true h = refl
    by_tests false false h = absurd (cc)

said_fault : {A : Type 0} (read : List (List ℕ) → Result A Reason) (line : List ℕ) (reason : Reason) → says Ok line ≡ Err reason → says read line ≡ Err reason
said_fault {A} read line reason h = by_tests (not (is_text line)) (is_passed_over (words_of line)) h
  where
    by_tests : (b p : Bool) → cond b (Err BadByte) (cond p (Ok None) (Ok (Some (words_of line)))) ≡ Err reason → cond b (Err BadByte) (cond p (Ok None) (some_of (read (words_of line)))) ≡ Err reason
    by_tests true p h = let same : BadByte ≡ reason = cc in ap Err same
    by_tests false true h = absurd (cc)
    by_tests false false h = absurd (cc)

-- and its error is the same, whatever is read
pub error_said : {A : Type 0} (read : List (List ℕ) → Result A Reason) (line : List ℕ) (e : LineError) → Gives {A = Option (List (List ℕ))} (Err e) (says Ok line) → Gives {A = Option A} (Err e) (says read line)
error_said read line (errors.Fault reason) h = said_fault read line reason h
error_said read line errors.OutOfMemory h = tt
