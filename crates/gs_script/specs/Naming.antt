-- How the words of a script name a policy.
use denote.Ref.{Bor}
use Rattle.std.specs.Prelude.{ℕ, List, map, Result}
use Rattle.gs_script.specs.declared.fault.Reason.{Reason}
use Rattle.gs_script.specs.declared.policy_word.PolicyWord.{PolicyWord}
use Rattle.gs_script.specs.declared.policy_word.PolicyWord.TheVariants as words
use Rattle.gs_script.specs.Grammar.{Form, Kind, Number, first_fault, literal, or_fault}

-- the forms of the words that name one of these policies, and which one they name. Without words it is that of a header that names none.
-- And the words that a policy is told by, with a space between two of them
pub record Naming (A : Type 0) : Type 0 where
  pub forms : List Form
  pub named : List (List ℕ) → A
  pub words : A → List ℕ

-- what words say that are to name a policy
abbrev pub policy_named : {A : Type 0} → Naming A → List (List ℕ) → Result A Reason
policy_named naming ws = or_fault (first_fault naming.forms ws) (naming.named ws)

-- the kind of word that is one of those that name a policy
abbrev pub policy_kind : PolicyWord → Kind
policy_kind (words.Word text) = literal text.now
policy_kind (words.Number letter what least most) = Number least most

-- the forms of words that are to be these
abbrev pub forms_named : List (Bor (List PolicyWord)) → List Form
forms_named forms = map (λ form. map policy_kind form.now) forms
