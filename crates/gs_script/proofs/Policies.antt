-- Words that name a policy: in a header, and when an agent begins.
use Rattle.std.proofs.Common.{◌≡◌, ℕ, ◌==◌, ◌≤◌, Bool, true, false, cond, ◌||◌, List, [], ◌∷◌, refl, ap, sym, ◌∙◌, Option, Some, Ok, Err, codes, length, arith, Bor}
use Rattle.std.proofs.lemmas.Bool.Decides.{nat_tests}
use Rattle.std.proofs.lemmas.List.{length-map}
use Rattle.std.proofs.lemmas.Slice.Eq.{bytes_eq-Decides}
use Rattle.gs_kernel.specs.declared.command.Command.TheVariants as commands
use Rattle.gs_core.specs.declared.event.Event.TheVariants as events
use Rattle.gs_script.specs.declared.fault.Reason.{Reason}
use Rattle.gs_script.specs.declared.fault.Reason.TheVariants.{BadCount, BadNumber, BadWord}
use Rattle.gs_script.specs.Words.{number}
use Rattle.gs_script.specs.Grammar.{is_of_kind, Number, first_fault, has_count, is_empty, line_fault, literal, or_fault}
use Rattle.gs_script.specs.Naming.{Naming, policy_named}
use Rattle.gs_script.specs.Rows.{begin, begins, is, number_between, reads, shown}
use Rattle.gs_script.specs.Any.{any}
use Rattle.gs_script.specs.Header.{policy_in, policy_of}
use Rattle.gs_script.proofs.Parts.{is_literal, some_fault, some_step}
use Rattle.gs_script.proofs.Taken.{went}
use Rattle.gs_script.proofs.Sizes.{same_fault, same_value}

-- nothing may stand behind a slice
pub behind_slice : (v : List ℕ) (left : List (Bor (List ℕ))) (n : ℕ) → Ok n ≡ number_between 1 65535 v → 1 ≤ length left → Err BadCount ≡ policy_named any (codes "two" ∷ v ∷ shown left)
behind_slice v [] n h some = absurd (omega arith)
behind_slice v (w ∷ left) n h some = rw ((went (is_of_kind (Number 1 65535) v) n (number v) BadNumber h).0) refl

-- behind the other parts of a header a policy is named by the words behind `policy`
named_of : {A : Type 0} (naming : Naming A) (ws : List (List ℕ)) → policy_of naming (codes "policy" ∷ ws) ≡ naming.named ws
named_of naming [] = refl
named_of naming (w ∷ ws) = refl

pub in_named : {A : Type 0} (naming : Naming A) (w : List ℕ) (ws : List (List ℕ)) → is_empty naming.forms ≡ false → is w (codes "policy") ≡ true → policy_in naming (w ∷ ws) ≡ policy_named naming ws
in_named naming w ws some h =
    let policy : w ≡ codes "policy" = (bytes_eq-Decides w (codes "policy")).0 h in
    ap (λ (v : List ℕ). policy_in naming (v ∷ ws)) policy
    ∙ ap (λ (f : Option Reason). or_fault f (policy_of naming (codes "policy" ∷ ws))) (some_step (literal (codes "policy")) (codes "policy") ws naming.forms refl some)
    ∙ ap (or_fault (first_fault naming.forms ws)) (named_of naming ws)

unlike : (w v : List ℕ) → (w ≡ v → ⊥) → is w v ≡ false
unlike w v h = by_test (is w v) refl
  where
    by_test : (b : Bool) → is w v ≡ b → b ≡ false
    by_test true e = absurd (h ((bytes_eq-Decides w v).0 e))
    by_test false e = refl

pub in_other : {A : Type 0} (naming : Naming A) (w : List ℕ) (ws : List (List ℕ)) → is_empty naming.forms ≡ false → (w ≡ codes "policy" → ⊥) → Err BadWord ≡ policy_in naming (w ∷ ws)
in_other naming w ws some h =
    sym (ap (λ (f : Option Reason). or_fault f (policy_of naming (w ∷ ws))) (some_fault (literal (codes "policy")) w ws naming.forms (is_literal (codes "policy") w false (unlike w (codes "policy") h)) some))

-- when an agent begins, without a word the policy stays
pub begins_again : {A : Type 0} (naming : Naming A) (words : List (Bor (List ℕ))) → length words ≡ 0 → Ok (events.Kernel commands.Begin) ≡ reads (begin naming) (shown words)
begins_again naming [] none = refl
begins_again naming (w ∷ words) none = absurd (omega arith)

not_zero : (n : ℕ) → 1 ≤ n → (0 == n) ≡ false
not_zero n some = grind (arith, nat_tests)

-- with a word, what is read if some name of a policy has so many words, and if none has
module _ {A : Type 0} (naming : Naming A) (w : List ℕ) (ws : List (List ℕ)) where
  counted : (b : Bool) → has_count naming.forms (length (w ∷ ws)) ≡ b → line_fault ([] ∷ naming.forms) (w ∷ ws) ≡ cond b (first_fault naming.forms (w ∷ ws)) (Some BadCount)
  counted b h =
      ap (λ (c : Bool). cond (c || has_count naming.forms (length (w ∷ ws))) (first_fault naming.forms (w ∷ ws)) (Some BadCount)) (not_zero (length (w ∷ ws)) (omega arith))
      ∙ ap (λ (c : Bool). cond c (first_fault naming.forms (w ∷ ws)) (Some BadCount)) h

  read_long : has_count naming.forms (length (w ∷ ws)) ≡ false → Err BadCount ≡ reads (begin naming) (w ∷ ws)
  read_long h = sym (ap (λ (f : Option Reason). or_fault f (begins naming (w ∷ ws))) (counted false h))

  read_unnamed : (e : Reason) → has_count naming.forms (length (w ∷ ws)) ≡ true → Err e ≡ policy_named naming (w ∷ ws) → Err e ≡ reads (begin naming) (w ∷ ws)
  read_unnamed e h k =
      same_fault (first_fault naming.forms (w ∷ ws)) e (naming.named (w ∷ ws)) (begins naming (w ∷ ws)) k
      ∙ sym (ap (λ (f : Option Reason). or_fault f (begins naming (w ∷ ws))) (counted true h))

  read_named : (p : A) → has_count naming.forms (length (w ∷ ws)) ≡ true → Ok p ≡ policy_named naming (w ∷ ws) → Ok (events.Begin p) ≡ reads (begin naming) (w ∷ ws)
  read_named p h k =
      let same = same_value (first_fault naming.forms (w ∷ ws)) p (naming.named (w ∷ ws)) (begins naming (w ∷ ws)) k in
      ap (λ (x : A). Ok (events.Begin x)) same.1 ∙ same.0 ∙ sym (ap (λ (f : Option Reason). or_fault f (begins naming (w ∷ ws))) (counted true h))

-- the same of words as they are held
module _ {A : Type 0} (naming : Naming A) where
  shown_count : (words : List (Bor (List ℕ))) (b : Bool) → has_count naming.forms (length words) ≡ b → has_count naming.forms (length (shown words)) ≡ b
  shown_count words b h = ap (has_count naming.forms) (length-map words (λ (word : Bor (List ℕ)). word.now)) ∙ h

  -- a count that no name of a policy has is a fault before the words are
  pub begins_long : (words : List (Bor (List ℕ))) → 1 ≤ length words → has_count naming.forms (length words) ≡ false → Err BadCount ≡ reads (begin naming) (shown words)
  begins_long [] some h = absurd (omega arith)
  begins_long (w ∷ words) some h = read_long naming w.now (shown words) (shown_count (w ∷ words) false h)

  -- words of such a count name a policy as in a header
  pub begins_unnamed : (words : List (Bor (List ℕ))) (e : Reason) → 1 ≤ length words → has_count naming.forms (length words) ≡ true → Err e ≡ policy_named naming (shown words) → Err e ≡ reads (begin naming) (shown words)
  begins_unnamed [] e some h k = absurd (omega arith)
  begins_unnamed (w ∷ words) e some h k = read_unnamed naming w.now (shown words) e (shown_count (w ∷ words) true h) k

  pub begins_named : (words : List (Bor (List ℕ))) (p : A) → 1 ≤ length words → has_count naming.forms (length words) ≡ true → Ok p ≡ policy_named naming (shown words) → Ok (events.Begin p) ≡ reads (begin naming) (shown words)
  begins_named [] p some h k = absurd (omega arith)
  begins_named (w ∷ words) p some h k = read_named naming w.now (shown words) p (shown_count (w ∷ words) true h) k
