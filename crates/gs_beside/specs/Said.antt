-- What words say whose first one is one's own, and what others say.
use Rattle.std.proofs.Common.{◌≡◌, ℕ, Bool, true, false, cond, not, ◌&&◌, ◌||◌, List, [], ◌∷◌, ◌++◌, append-nil, zero, suc, map, flat_map, refl, ap, sym, ◌∙◌, Option, None, Some, Err, arith}
use Rattle.std.specs.Prelude.{nat_le}
use Rattle.std.specs.List.{All, list_all, list_any}
use Rattle.std.proofs.lemmas.Bool.{and_parts}
use Rattle.std.proofs.lemmas.Bool.Decides.{nat_tests}
use Rattle.std.proofs.lemmas.Grind.{flat_map-append}
use Rattle.std.proofs.lemmas.Slice.Eq.{bytes_eq-Decides}
use Rattle.gs_script.specs.declared.fault.Reason.{Reason}
use Rattle.gs_script.specs.declared.fault.Reason.TheVariants.{BadCount}
use Rattle.gs_script.specs.Words.{is_word, number}
use Rattle.gs_script.specs.Grammar.{Form, Kind, after_word, fault_at, fault_of, first_fault, is_empty, is_of_kind, or_fault}
use Rattle.gs_script.specs.Rows.{is}
use Rattle.gs_script.specs.Naming.{Naming, policy_named}
use Rattle.gs_script.specs.Decimal.{IsBlack}
use Rattle.gs_beside.specs.declared.beside.Beside.TheVariants as either
use Rattle.gs_beside.specs.Own.{Own, is_free, leaves, number_form, own_form}
use Rattle.gs_beside.specs.Beside.{beside, beside_forms, beside_named}

-- one word more against a form
pub step_taken : (kind : Kind) (form : Form) (w : List ℕ) (ws : List (List ℕ)) → is_of_kind kind w ≡ true → first_fault ((kind ∷ form) ∷ []) (w ∷ ws) ≡ first_fault (form ∷ []) ws
step_taken kind form w ws h = rw h refl

pub step_refused : (kind : Kind) (form : Form) (w : List ℕ) (ws : List (List ℕ)) → is_of_kind kind w ≡ false → first_fault ((kind ∷ form) ∷ []) (w ∷ ws) ≡ Some (fault_of kind)
step_refused kind form w ws h = rw h refl

-- what is known of a word of one's own
pub record IsFree (forms : List Form) (word : List ℕ) : Type 0 where
  pub some : is_word word ≡ true
  pub black : All IsBlack word
  pub left : list_all (leaves word) forms ≡ true

abbrev is_printed : ℕ → Bool
is_printed b = nat_le 33 b && nat_le b 126

all_black : (word : List ℕ) → list_all is_printed word ≡ true → All IsBlack word
all_black [] h i d k = absurd (omega arith)
all_black (b ∷ word) h zero d k = let p = (and_parts (nat_le 33 b) (nat_le b 126) (and_parts (is_printed b) (list_all is_printed word) h).0).0 in grind (arith, nat_tests)
all_black (b ∷ word) h (suc i) d k = all_black word (and_parts (is_printed b) (list_all is_printed word) h).1 i d (omega arith)

denied : (b : Bool) → not b ≡ true → b ≡ false
denied true h = absurd (cc)
denied false h = refl

pub of_free : (forms : List Form) (word : List ℕ) → is_free forms word ≡ true → IsFree forms word
of_free forms word h =
    let a = and_parts (is_word word && list_all is_printed word) (list_all (leaves word) forms) h in
    let b = and_parts (is_word word) (list_all is_printed word) a.0 in
    record { some = b.0; black = all_black word b.1; left = a.1 }

pub unlike : (v w : List ℕ) → is v w ≡ false → is w v ≡ false
unlike v w h = by_test (is w v) refl
  where
    by_test : (b : Bool) → is w v ≡ b → b ≡ false
    by_test true e = let same : w ≡ v = (bytes_eq-Decides w v).0 e in absurd (let yes : is v w ≡ true = (bytes_eq-Decides v w).1 (sym same) in cc)
    by_test false e = refl

same_word : (w : List ℕ) → is w w ≡ true
same_word w = (bytes_eq-Decides w w).1 refl

-- a form of one's own behind others: these take no word that they leave ..
none_takes : (w : List ℕ) (forms : List Form) → list_all (leaves w) forms ≡ true → flat_map (after_word w) forms ≡ []
none_takes w [] h = refl
none_takes w ([] ∷ forms) h = absurd (cc)
none_takes w ((kind ∷ form) ∷ forms) h =
    let p = and_parts (not (is_of_kind kind w)) (list_all (leaves w) forms) h in
    ap (λ (b : Bool). cond b (form ∷ []) [] ++ flat_map (after_word w) forms) (denied (is_of_kind kind w) p.0) ∙ none_takes w forms p.1

-- .. each of them wants one ..
none_done : (w : List ℕ) (forms more : List Form) → list_all (leaves w) forms ≡ true → list_any is_empty more ≡ false → list_any is_empty (forms ++ more) ≡ false
none_done w [] more h none = none
none_done w ([] ∷ forms) more h none = absurd (cc)
none_done w ((kind ∷ form) ∷ forms) more h none = none_done w forms more (and_parts (not (is_of_kind kind w)) (list_all (leaves w) forms) h).1 none

-- .. and the first of them says the fault
first_says : (w : List ℕ) (forms more : List Form) → is_empty forms ≡ false → list_all (leaves w) forms ≡ true → fault_at (forms ++ more) ≡ fault_at forms
first_says w [] more some h = absurd (cc)
first_says w ([] ∷ forms) more some h = absurd (cc)
first_says w ((kind ∷ form) ∷ forms) more some h = refl

pub some_form : {A B : Type 0} (own : Own A) (others : Naming B) → is_empty (beside_forms own others) ≡ false
some_form own others = by_forms others.forms
  where
    by_forms : (forms : List Form) → is_empty (forms ++ own_form own ∷ []) ≡ false
    by_forms [] = refl
    by_forms (form ∷ forms) = refl

-- what a first word leaves, by whether it is one's own
own_after : {A : Type 0} (own : Own A) (w : List ℕ) (b : Bool) → is w own.word ≡ b → flat_map (after_word w) (own_form own ∷ []) ≡ cond b (number_form own.ranges ∷ []) []
own_after own w b e = ap (λ (c : Bool). cond (c || false) (number_form own.ranges ∷ []) [] ++ []) e ∙ by_word b
  where
    by_word : (b : Bool) → cond (b || false) (number_form own.ranges ∷ []) [] ++ [] ≡ cond b (number_form own.ranges ∷ []) []
    by_word true = refl
    by_word false = refl

left_by : {A B : Type 0} (own : Own A) (others : Naming B) (w : List ℕ) (b : Bool) → is w own.word ≡ b
    → flat_map (after_word w) (beside_forms own others) ≡ flat_map (after_word w) others.forms ++ cond b (number_form own.ranges ∷ []) []
left_by own others w b e = flat_map-append (after_word w) others.forms (own_form own ∷ []) ∙ ap (λ (forms : List Form). flat_map (after_word w) others.forms ++ forms) (own_after own w b e)

-- the first fault, by the forms that are left, and by the one that no form takes
abbrev fault_by : Reason → List (List ℕ) → List Form → Option Reason
fault_by reason ws left = cond (is_empty left) (Some reason) (first_fault left ws)

own_fault : {A B : Type 0} (own : Own A) (others : Naming B) (ws : List (List ℕ)) → list_all (leaves own.word) others.forms ≡ true
    → first_fault (beside_forms own others) (own.word ∷ ws) ≡ first_fault (number_form own.ranges ∷ []) ws
own_fault own others ws left =
    ap (fault_by (fault_at (beside_forms own others)) ws)
    (left_by own others own.word true (same_word own.word) ∙ ap (λ (forms : List Form). forms ++ number_form own.ranges ∷ []) (none_takes own.word others.forms left))

other_fault : {A B : Type 0} (own : Own A) (others : Naming B) (v : List ℕ) (ws : List (List ℕ)) → is_empty others.forms ≡ false → list_all (leaves own.word) others.forms ≡ true → is v own.word ≡ false
    → first_fault (beside_forms own others) (v ∷ ws) ≡ first_fault others.forms (v ∷ ws)
other_fault own others v ws some left other =
    ap (fault_by (fault_at (beside_forms own others)) ws) (left_by own others v false other ∙ append-nil (flat_map (after_word v) others.forms))
    ∙ ap (λ (reason : Reason). fault_by reason ws (flat_map (after_word v) others.forms)) (first_says own.word others.forms (own_form own ∷ []) some left)

named_by : {A B : Type 0} (own : Own A) (others : Naming B) (v : List ℕ) (ws : List (List ℕ)) (b : Bool) → is v own.word ≡ b
    → beside_named own others (v ∷ ws) ≡ cond b (either.Own (own.of (map number ws))) (either.Other (others.named (v ∷ ws)))
named_by own others v ws b e = ap (λ (c : Bool). cond c (either.Own (own.of (map number ws))) (either.Other (others.named (v ∷ ws)))) e

-- no words name nothing
pub none_named : {A B : Type 0} (own : Own A) (others : Naming B) → is_free others.forms own.word ≡ true → policy_named (beside own others) [] ≡ Err BadCount
none_named own others free =
    ap (λ (b : Bool). or_fault (cond b None (Some BadCount)) (beside_named own others [])) (none_done own.word others.forms (own_form own ∷ []) (of_free others.forms own.word free).left refl)

-- behind one's own word stand the numbers
pub own_named : {A B : Type 0} (own : Own A) (others : Naming B) (ws : List (List ℕ)) → is_free others.forms own.word ≡ true
    → policy_named (beside own others) (own.word ∷ ws) ≡ or_fault (first_fault (number_form own.ranges ∷ []) ws) (either.Own (own.of (map number ws)))
own_named own others ws free =
    ap (λ o. or_fault o (beside_named own others (own.word ∷ ws))) (own_fault own others ws (of_free others.forms own.word free).left)
    ∙ ap (or_fault (first_fault (number_form own.ranges ∷ []) ws)) (named_by own others own.word ws true (same_word own.word))

-- and with another word in front they say what they say of the others
pub other_named : {A B : Type 0} (own : Own A) (others : Naming B) (v : List ℕ) (ws : List (List ℕ)) → is_free others.forms own.word ≡ true → is_empty others.forms ≡ false → is v own.word ≡ false
    → policy_named (beside own others) (v ∷ ws) ≡ or_fault (first_fault others.forms (v ∷ ws)) (either.Other (others.named (v ∷ ws)))
other_named own others v ws free some other =
    ap (λ o. or_fault o (beside_named own others (v ∷ ws))) (other_fault own others v ws some (of_free others.forms own.word free).left other)
    ∙ ap (or_fault (first_fault others.forms (v ∷ ws))) (named_by own others v ws false other)
