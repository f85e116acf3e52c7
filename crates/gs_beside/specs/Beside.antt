-- A policy of one's own, or one of others: what it plans, and how words name it.
use Rattle.std.specs.Prelude.{ℕ, List, [], ◌∷◌, ◌++◌, map, flat_map, decimal, Bool, true, false, if◌then◌else◌, Result, Ok, Err}
use Rattle.std.specs.List.{list_all}
use Rattle.gs_policy.specs.declared.choice.Choice.{Choice}
use Rattle.gs_policy.specs.Safe.{IsSafePlan}
use Rattle.gs_policy.specs.Shown.{Shown}
use Rattle.gs_runq.specs.Queue.{Apart}
use Rattle.gs_script.specs.declared.fault.Reason.{Reason}
use Rattle.gs_script.specs.Words.{number}
use Rattle.gs_script.specs.Grammar.{Form, Kind, Number, fault_of, first_fault, is_of_kind, or_fault}
use Rattle.gs_script.specs.Rows.{is}
use Rattle.gs_script.specs.Naming.{Naming}
use Rattle.gs_beside.specs.declared.beside.Beside.{Beside}
use Rattle.gs_beside.specs.declared.beside.Beside.TheVariants as either
use Rattle.gs_beside.specs.Own.{Own, number_form, own_form}

-- the plan: that of the other policy, or of one's own
abbrev pub chosen : {A B : Type 0} → (A → Shown → List Choice) → (B → Shown → List Choice) → Beside A B → Shown → List Choice
chosen own others (either.Other p) s = others p s
chosen own others (either.Own p) s = own p s

-- it is safe if both are
pub chosen-safe : {A B : Type 0} (own : A → Shown → List Choice) (others : B → Shown → List Choice)
    → ((p : A) (s : Shown) → Apart s.queue → IsSafePlan s (own p s)) → ((p : B) (s : Shown) → Apart s.queue → IsSafePlan s (others p s))
    → (p : Beside A B) (s : Shown) → Apart s.queue → IsSafePlan s (chosen own others p s)
chosen-safe own others safe others_safe (either.Other p) s apart = others_safe p s apart
chosen-safe own others safe others_safe (either.Own p) s apart = safe p s apart

-- the forms of the words that name either
abbrev pub beside_forms : {A B : Type 0} → Own A → Naming B → List Form
beside_forms own others = others.forms ++ own_form own ∷ []

-- the policy that words name: one's own if its word is the first, or if there is none
abbrev pub beside_named : {A B : Type 0} → Own A → Naming B → List (List ℕ) → Beside A B
beside_named own others [] = either.Own own.unnamed
beside_named own others (v ∷ ws) = if is v own.word then either.Own (own.of (map number ws)) else either.Other (others.named (v ∷ ws))

-- the decimal digits of each number, behind a space
abbrev pub spaced : List ℕ → List ℕ
spaced ns = flat_map (λ n. 32 ∷ decimal n) ns

-- the words of one's own policy
abbrev pub own_words : {A : Type 0} → Own A → A → List ℕ
own_words own p = own.word ++ spaced (own.numbers p)

-- the words of either
abbrev pub beside_words : {A B : Type 0} → Own A → Naming B → Beside A B → List ℕ
beside_words own others (either.Other p) = others.words p
beside_words own others (either.Own p) = own_words own p

abbrev pub beside : {A B : Type 0} → Own A → Naming B → Naming (Beside A B)
beside own others = record { forms = beside_forms own others; named = beside_named own others; words = beside_words own others }

-- what is to be a number
abbrev pub is_number_kind : Kind → Bool
is_number_kind (Number low high) = true
is_number_kind _ = false

abbrev pub are_numbers : Form → Bool
are_numbers form = list_all is_number_kind form

-- what a word says that is to be a number of such a kind
abbrev pub number_said : Kind → List ℕ → Result ℕ Reason
number_said kind word = if is_of_kind kind word then Ok (number word) else Err (fault_of kind)

-- the policy that the words behind one's own name
abbrev pub own_said : {A : Type 0} → Own A → List (List ℕ) → Result A Reason
own_said own ws = or_fault (first_fault (number_form own.ranges ∷ []) ws) (own.of (map number ws))
