-- The policies that options name.
use Rattle.std.specs.Prelude.{◌≡◌, ◌&&◌, ℕ, Bool, true, List, Ok, bytes_eq, map, is_err, string_bytes}
use Rattle.std.specs.List.{list_any}
use Rattle.clap.specs.Words.{Text}
use Rattle.gs_script.specs.Header.{policy_said}
use Rattle.gs_script.specs.Naming.{Naming, forms_named}
use Rattle.gs_script.specs.declared.policy_forms.PolicyForms.{PolicyForms}
use Rattle.gs_trace.specs.declared.run.TraceFault.TheVariants.{OutOfMemory}
use Rattle.gs_commands.specs.declared.failure.Failure.{Failure}
use Rattle.gs_commands.specs.declared.failure.Failure.TheVariants.{NoPolicy, Script}

-- each of these texts names the policy in its place
abbrev pub AreNamed : {A : Type 0} → Naming A → List Text → List A → Type 0
AreNamed naming texts policies = map (policy_said naming) texts ≡ map Ok policies

-- these are the forms of the words that name a policy
abbrev pub AreForms : {A : Type 0} → Naming A → PolicyForms → Type 0
AreForms naming told = forms_named told.forms.now ≡ naming.forms

-- an option names no policy: its text is told, and the forms that it may have
abbrev pub IsOfPolicy : {A : Type 0} → Naming A → Text → Failure → Type 0
IsOfPolicy naming text (NoPolicy named told) = (string_bytes named ≡ text) × AreForms naming told
IsOfPolicy naming text _ = ⊥

-- whether a text names no policy
abbrev pub names_none : {A : Type 0} → Naming A → Text → Bool
names_none naming text = is_err (policy_said naming text)

-- whether a text is this one, and names no policy
abbrev pub is_unnamed : {A : Type 0} → Naming A → List ℕ → Text → Bool
is_unnamed naming told text = names_none naming text && bytes_eq told text

-- why the policy of a text is not returned: it names none, and is told, with the forms that it may have; or out of memory
abbrev pub IsUnnamed : {A : Type 0} → Naming A → Text → Failure → Type 0
IsUnnamed naming text (NoPolicy named told) = (names_none naming text ≡ true) × (string_bytes named ≡ text) × AreForms naming told
IsUnnamed naming text (Script fault) = fault ≡ OutOfMemory
IsUnnamed naming text _ = ⊥

-- why those of texts are not: one of them names none, and that one is told; or out of memory
abbrev pub AreUnnamed : {A : Type 0} → Naming A → List Text → Failure → Type 0
AreUnnamed naming texts (NoPolicy named told) = (list_any (is_unnamed naming (string_bytes named)) texts ≡ true) × AreForms naming told
AreUnnamed naming texts (Script fault) = fault ≡ OutOfMemory
AreUnnamed naming texts _ = ⊥
