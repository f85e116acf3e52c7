-- What is in the groups of classes, and lists side by side with one more at the end of each.
use Rattle.std.proofs.Common.{◌≡◌, refl, ap, subst, sym, ◌==◌, Bool, true, false, Option, None, Some, List, [], ◌∷◌, ◌++◌, get_or}
use Rattle.std.proofs.Math.Path.{fun_ext}
use Rattle.std.specs.List.{AllZip, filter}
use Rattle.gs_layout.specs.declared.facts.Class.{Class}
use Rattle.gs_layout.specs.declared.facts.Class.TheVariants.{Zero, One}
use Rattle.gs_kernel.specs.declared.landing.Landing.{Landing}
use Rattle.gs_turns.specs.declared.stance.Known.{Known}
use Rattle.gs_turns.specs.declared.turn.Turn.{Turn}
use Rattle.gs_tallies.specs.declared.account.Account.{Account}
use Rattle.gs_tallies.specs.declared.landings.LandingDraft.{LandingDraft}
use Rattle.gs_tallies.specs.declared.tally.TurnDraft.{TurnDraft}
use Rattle.gs_tallies.specs.Accounts.{IsAccount, IsAccountOfClass, class_known, class_place, is_landing_of_class}
use Rattle.gs_tallies.specs.Drafts.{IsAccountIn, IsLandingDraft, IsTurnDraft}
use Rattle.gs_tallies.specs.Groups.{one_more}
use Rattle.gs_tallies.specs.Tallies.{is_of_class, same_class}

-- two classes are the same just where their places are
in_place : (a k : Option Class) → (class_place a == class_place k) ≡ same_class a k
in_place None None = refl
in_place None (Some Zero) = refl
in_place None (Some One) = refl
in_place (Some Zero) None = refl
in_place (Some Zero) (Some Zero) = refl
in_place (Some Zero) (Some One) = refl
in_place (Some One) None = refl
in_place (Some One) (Some Zero) = refl
in_place (Some One) (Some One) = refl

kept_alike : {A : Type 0} (p q : A → Bool) → ((x : A) → p x ≡ q x) → (xs : List A) → filter p xs ≡ filter q xs
kept_alike p q same xs = ap (λ f. filter f xs) (fun_ext same)

-- what is in the groups of a class is what that class comes to
pub of_class : (threads : List Known) (turns : List Turn) (landings : List Landing) (by_turn : List TurnDraft) (by_landing : List LandingDraft) (k : Option Class) (a : Account)
    → ((d : TurnDraft) → IsTurnDraft (filter (λ (t : Turn). class_place t.class == class_place k) turns) (get_or by_turn (class_place k) d))
    → ((d : LandingDraft) → IsLandingDraft (filter (λ (l : Landing). class_place (class_known threads l.tid) == class_place k) landings) (get_or by_landing (class_place k) d))
    → IsAccountIn by_turn by_landing (class_place k) k None a
    → IsAccountOfClass threads turns landings k a
of_class threads turns landings by_turn by_landing k a ts ls is =
    subst (λ (own : List Turn). IsAccount k None own (filter (is_landing_of_class threads k) landings) a) (kept_alike _ (is_of_class k) (λ (t : Turn). in_place t.class k) turns) (
    subst (λ (own : List Landing). IsAccount k None (filter (λ (t : Turn). class_place t.class == class_place k) turns) own a) (kept_alike _ (is_landing_of_class threads k) (λ (l : Landing). in_place (class_known threads l.tid) k) landings) (
    is _ _ ts ls))

zip_push : {A B : Type 0} (R : A → B → Type 0) (xs : List A) (ys : List B) (x : A) (y : B) → AllZip R xs ys → R x y → AllZip R (xs ++ x ∷ []) (ys ++ y ∷ [])
zip_push R [] [] x y all r = (r, tt)
zip_push R [] (z ∷ ys) x y all r = elim all [ ]
zip_push R (z ∷ xs) [] x y all r = elim all [ ]
zip_push R (z ∷ xs) (w ∷ ys) x y all r = (all.0, zip_push R xs ys x y all.1 r)

-- one more beside it, if that is one of them
pub zip_one : {A B : Type 0} (R : A → B → Type 0) (is : Bool) (xs : List A) (ys : List B) (x : A) (y : B) → is ≡ true → AllZip R xs ys → R x y → AllZip R (one_more is x xs) (ys ++ y ∷ [])
zip_one R is xs ys x y this all r = subst (λ (b : Bool). AllZip R (one_more b x xs) (ys ++ y ∷ [])) (sym this) (zip_push R xs ys x y all r)

pub zip_none : {A B : Type 0} (R : A → B → Type 0) (is : Bool) (xs : List A) (ys : List B) (x : A) → is ≡ false → AllZip R xs ys → AllZip R (one_more is x xs) ys
zip_none R is xs ys x other all = subst (λ (b : Bool). AllZip R (one_more b x xs) ys) (sym other) all
