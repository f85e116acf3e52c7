-- The policies that texts name, one more.
use Rattle.std.proofs.Common.{◌≡◌, ◌∙◌, ◌<◌, ℕ, List, get_or, length, map, string_bytes, sym, true}
use Rattle.std.proofs.lemmas.Bool.{and_from}
use Rattle.std.proofs.lemmas.List.Folds.{list_any_at}
use Rattle.std.proofs.lemmas.Slice.Eq.{bytes_eq-Decides}
use Rattle.std.specs.List.{list_any}
use Rattle.clap.proofs.WalkLemmas.{list_any-map}
use Rattle.clap.specs.Words.{Text}
use Rattle.gs_script.specs.Naming.{Naming}
use Rattle.gs_commands.specs.Policies.{AreUnnamed, IsUnnamed, is_unnamed, names_none}
use Rattle.gs_commands.specs.declared.failure.Failure.{Failure}
use Rattle.gs_commands.specs.declared.failure.Failure.TheVariants as failures
use Rattle.gs_commands.specs.declared.failure.Failure.TheVariants.{NoPolicy}

told_itself : {B : Type 0} (naming : Naming B) (told text : Text) → names_none naming text ≡ true → told ≡ text → is_unnamed naming told text ≡ true
told_itself naming told text none same = and_from _ _ none ((bytes_eq-Decides told text).1 same)

pub one_unnamed : {A B : Type 0} (naming : Naming B) (f : A → Text) (told : List ℕ) (texts : List A) (i : ℕ) (d : A) → i < length texts → is_unnamed naming told (f (get_or texts i d)) ≡ true → list_any (is_unnamed naming told) (map f texts) ≡ true
one_unnamed naming f told texts i d lt none = sym (list_any-map (is_unnamed naming told) f texts) ∙ list_any_at (λ text. is_unnamed naming told (f text)) texts i d lt none

-- why one of texts names no policy is why not all do
pub unnamed_in : {A B : Type 0} (naming : Naming B) (f : A → Text) (texts : List A) (i : ℕ) (d : A) (failure : Failure) → i < length texts → IsUnnamed naming (f (get_or texts i d)) failure → AreUnnamed naming (map f texts) failure
unnamed_in naming f texts i d (NoPolicy named told) lt is = (one_unnamed naming f (string_bytes named) texts i d lt (told_itself naming (string_bytes named) (f (get_or texts i d)) is.0 is.1), is.2)
unnamed_in naming f texts i d (failures.Script fault) lt is = is
unnamed_in naming f texts i d (failures.Serve fault) lt is = is
unnamed_in naming f texts i d (failures.Workbench fault) lt is = is
unnamed_in naming f texts i d (failures.Work fault) lt is = is
unnamed_in naming f texts i d (failures.Arguments error) lt is = is
unnamed_in naming f texts i d failures.NotText lt is = is
unnamed_in naming f texts i d failures.UnknownWord lt is = is
unnamed_in naming f texts i d (failures.NearWord near) lt is = is
unnamed_in naming f texts i d (failures.Unopened file error) lt is = is
