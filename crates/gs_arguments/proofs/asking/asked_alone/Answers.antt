use Rattle.std.proofs.Common.{◌≡◌, ◌∙◌, [], ◌∷◌, ap, List, Option, Result, Ok, Err, Some, refl, subst, sym}
use Rattle.std.specs.Prelude.{IfOk, IfSome, drop, map, option_map, slice_get}
use Rattle.std.specs.Result.{result_ok}
use Rattle.clap.specs.Words.{Text, app_of, found_of, matches_of, rows_of}
use Rattle.clap.specs.Faults.{fault_of}
use Rattle.clap.specs.Kinds.{FailsBy, Kinds}
use Rattle.clap.specs.declared.error.Error.{Error}
use Rattle.gs_arguments.specs.Arguments.{IsAskedBy, alone_named}
use Rattle.gs_arguments.proofs.Alone.{asked_alone}
use Rattle.gs_arguments.proofs.asking.asked_alone.Goals as goal

-- what holds of a value if it is there holds of that which is taken out
ok_is : {A E : Type 0} (P : A → Type 0) (r : Result A E) (x : A) → Some x ≡ result_ok r → IfOk r P → P x
ok_is P (Ok y) x e h = let same : y ≡ x = cc in subst P same h
ok_is P (Err e) x bad h = absurd cc

not_failed : {A : Type 0} (kinds : Kinds) (r : Result A Error) (x : A) → Some x ≡ result_ok r → FailsBy kinds r → kinds ≡ []
not_failed kinds (Ok y) x e none = none
not_failed kinds (Err e) x bad h = absurd cc

each_ok : {A E : Type 0} (P : A → Type 0) (r : Result A E) (o : Option A) → o ≡ result_ok r → ((x : A) → Some x ≡ result_ok r → P x) → IfSome o P
each_ok P (Ok y) o e h = subst (λ o. IfSome o P) (sym e) (h y refl)
each_ok P (Err e) o is h = subst (λ o. IfSome o P) (sym is) tt

first_is : {A : Type 0} (xs : List A) (x : A) → Some x ≡ slice_get xs 0 → xs ≡ x ∷ drop 1 xs
first_is [] x e = absurd cc
first_is (y ∷ ys) x e = let same : x ≡ y = cc in ap (λ z. z ∷ ys) (sym same)

pub returns : goal.returns
returns g c =
    let word : Text = c.as_str-name.result.now in
    let rest = map g.S.AsStr.text (drop 1 c.in_ok-words.words.now) in
    let met : option_map (λ command. app_of command) c.in_ok-ok.field-0 ≡ alone_named word = ok_is _ c.command_named.result c.in_ok-ok.field-0 c.in_ok-ok.ensures.value c.command_named.ensures in
    let is : c.in_ok-ok.field-0 ≡ Some c.in_ok-command.command = c.in_ok-command.was in
    let named : alone_named word ≡ Some (app_of c.in_ok-command.command) = sym met ∙ ap (option_map (λ command. app_of command)) is in
    let begun : c.in_ok-words.words.now ≡ c.in_ok-first.field-0.now ∷ drop 1 c.in_ok-words.words.now = first_is c.in_ok-words.words.now c.in_ok-first.field-0.now c.in_ok-first.ensures.value in
    let named_by : word ≡ g.S.AsStr.text c.in_ok-first.field-0.now = c.as_str-name.ensures in
    let given : map g.S.AsStr.text c.in_ok-words.words.now ≡ word ∷ rest = ap (map g.S.AsStr.text) begun ∙ ap (λ w. w ∷ rest) (sym named_by) in
    let words_are : map g.S.AsStr.text c.args.words.now ≡ g.S.AsStr.text c.in_ok-words.field-0-0.now ∷ word ∷ rest = ap (map g.S.AsStr.text) c.in_ok-words.ensures.cases.0 ∙ ap (λ ws. g.S.AsStr.text c.in_ok-words.field-0-0.now ∷ ws) given in
    let parsed = ok_is _ c.try_get_matches_from_mut.result c.in_ok-matches.matches c.in_ok-matches.ensures.value c.try_get_matches_from_mut.ensures.ok in
    each_ok _ c.asked_of.result c.ok-3.result c.ok-3.ensures.value
    (λ asked made. subst (λ words. IsAskedBy words asked) (sym words_are)
    (asked_alone (g.S.AsStr.text c.in_ok-words.field-0-0.now) word rest (app_of c.in_ok-command.command) (rows_of (found_of c.in_ok-matches.matches)) c.in_ok-command_of.field-0 asked named
    (λ simple. (parsed.2 simple).0 ∙ ap (matches_of (app_of c.in_ok-command.command)) given)
    (λ free. sym (ap (fault_of (app_of c.in_ok-command.command)) given) ∙ not_failed _ c.try_get_matches_from_mut.result c.in_ok-matches.matches c.in_ok-matches.ensures.value (c.try_get_matches_from_mut.ensures.kinds free))
    (sym c.in_ok-command_of.ensures)
    (ok_is _ c.asked_of.result asked made c.asked_of.ensures.command)
    (ok_is _ c.asked_of.result asked made c.asked_of.ensures.file)
    (ok_is _ c.asked_of.result asked made c.asked_of.ensures.policies)
    (ok_is _ c.asked_of.result asked made c.asked_of.ensures.seeds)))
