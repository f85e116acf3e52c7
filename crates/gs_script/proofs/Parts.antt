-- The optional parts of a header, one after another.
use Rattle.std.proofs.Common.{◌≡◌, ℕ, List, [], ◌∷◌, ◌++◌, append-nil, map, Bool, true, false, cond, refl, sym, ◌∙◌, ap, Option, Some, None, codes, drop, Result, Ok, Err}
use Rattle.std.specs.Prelude.{flat_map, unwrap_or}
use Rattle.std.specs.List.{list_any}
use Rattle.std.proofs.lemmas.Grind.{flat_map-append}
use Rattle.std.proofs.lemmas.Slice.Eq.{bytes_eq-Decides}
use Rattle.gs_script.specs.declared.fault.Reason.{Reason}
use Rattle.gs_script.specs.declared.fault.Reason.TheVariants.{BadCount, BadNumber}
use Rattle.gs_script.specs.Words.{number}
use Rattle.gs_script.specs.Grammar.{Kind, Number, Form, is_of_kind, fault_at, fault_of, after_word, first_fault, is_empty, literal, with_part}
use Rattle.gs_script.specs.Naming.{Naming}
use Rattle.gs_script.specs.Rows.{is}
use Rattle.gs_script.specs.Header.{numbered, policies, histories, generations, parts, behind, words_behind, part_in, number_first, with_rest}

-- a word in front of each form, and what is behind it
opened_by : (behind : Form → Form) (kind : Kind) (word : List ℕ) (forms : List Form) → is_of_kind kind word ≡ true → flat_map (after_word word) (map (λ form. kind ∷ behind form) forms) ≡ map behind forms
opened_by behind kind word [] h = refl
opened_by behind kind word (form ∷ forms) h = rw h (ap (λ fs. behind form ∷ fs) (opened_by behind kind word forms h))

closed_by : (behind : Form → Form) (kind : Kind) (word : List ℕ) (forms : List Form) → is_of_kind kind word ≡ false → flat_map (after_word word) (map (λ form. kind ∷ behind form) forms) ≡ []
closed_by behind kind word [] h = refl
closed_by behind kind word (form ∷ forms) h = rw h (closed_by behind kind word forms h)

opened : (kind : Kind) (word : List ℕ) (forms : List Form) → is_of_kind kind word ≡ true → flat_map (after_word word) (map (λ form. kind ∷ form) forms) ≡ forms
opened kind word [] h = refl
opened kind word (form ∷ forms) h = rw h (ap (λ fs. form ∷ fs) (opened kind word forms h))

pub closed : (kind : Kind) (word : List ℕ) (forms : List Form) → is_of_kind kind word ≡ false → flat_map (after_word word) (map (λ form. kind ∷ form) forms) ≡ []
closed kind word forms h = closed_by (λ form. form) kind word forms h

-- if a word is taken that stands in front of each form, the rest is read against the forms behind it
pub one_step : (kind : Kind) (word : List ℕ) (words : List (List ℕ)) (form : Form) (forms : List Form) → is_of_kind kind word ≡ true → first_fault (map (λ f. kind ∷ f) (form ∷ forms)) (word ∷ words) ≡ first_fault (form ∷ forms) words
one_step kind word words form forms h = rw (opened kind word (form ∷ forms) h) refl

pub one_fault : (kind : Kind) (word : List ℕ) (words : List (List ℕ)) (form : Form) (forms : List Form) → is_of_kind kind word ≡ false → first_fault (map (λ f. kind ∷ f) (form ∷ forms)) (word ∷ words) ≡ Some (fault_of kind)
one_fault kind word words form forms h = rw (closed kind word (form ∷ forms) h) refl

pub one_step_by : (behind : Form → Form) (kind : Kind) (word : List ℕ) (words : List (List ℕ)) (form : Form) (forms : List Form) → is_of_kind kind word ≡ true → first_fault (map (λ f. kind ∷ behind f) (form ∷ forms)) (word ∷ words) ≡ first_fault (map behind (form ∷ forms)) words
one_step_by behind kind word words form forms h = rw (opened_by behind kind word (form ∷ forms) h) refl

pub one_fault_by : (behind : Form → Form) (kind : Kind) (word : List ℕ) (words : List (List ℕ)) (form : Form) (forms : List Form) → is_of_kind kind word ≡ false → first_fault (map (λ f. kind ∷ behind f) (form ∷ forms)) (word ∷ words) ≡ Some (fault_of kind)
one_fault_by behind kind word words form forms h = rw (closed_by behind kind word (form ∷ forms) h) refl

none_empty : (kind : Kind) (forms : List Form) → list_any is_empty (map (λ f. kind ∷ f) forms) ≡ false
none_empty kind [] = refl
none_empty kind (form ∷ forms) = none_empty kind forms

-- a word that is the only one of its kind
pub is_literal : (word w : List ℕ) (b : Bool) → is w word ≡ b → is_of_kind (literal word) w ≡ b
is_literal word w true h = rw h refl
is_literal word w false h = rw h refl

-- the same where such forms stand behind one without a word
pub some_step : (kind : Kind) (word : List ℕ) (words : List (List ℕ)) (forms : List Form) → is_of_kind kind word ≡ true → is_empty forms ≡ false → first_fault ([] ∷ map (λ f. kind ∷ f) forms) (word ∷ words) ≡ first_fault forms words
some_step kind word words [] h some = absurd (cc)
some_step kind word words (form ∷ forms) h some = rw (opened kind word (form ∷ forms) h) refl

pub some_fault : (kind : Kind) (word : List ℕ) (words : List (List ℕ)) (forms : List Form) → is_of_kind kind word ≡ false → is_empty forms ≡ false → first_fault ([] ∷ map (λ f. kind ∷ f) forms) (word ∷ words) ≡ Some (fault_of kind)
some_fault kind word words [] h some = absurd (cc)
some_fault kind word words (form ∷ forms) h some = rw (closed kind word (form ∷ forms) h) refl

-- whether one of these forms wants a word
abbrev wants : List Form → Bool
wants [] = false
wants ([] ∷ forms) = wants forms
wants ((kind ∷ form) ∷ forms) = true

wants_first : (forms others : List Form) → wants forms ≡ true → wants (forms ++ others) ≡ true
wants_first [] others h = absurd (cc)
wants_first ([] ∷ forms) others h = wants_first forms others h
wants_first ((kind ∷ form) ∷ forms) others h = refl

fault_first : (forms others : List Form) → wants forms ≡ true → fault_at (forms ++ others) ≡ fault_at forms
fault_first [] others h = absurd (cc)
fault_first ([] ∷ forms) others h = fault_first forms others h
fault_first ((kind ∷ form) ∷ forms) others h = refl

-- forms that begin with another word change nothing
skip_part : (word : List ℕ) (low high : ℕ) (w : List ℕ) (ws : List (List ℕ)) (forms : List Form) → is w word ≡ false → wants forms ≡ true → first_fault (with_part (numbered word low high) forms) (w ∷ ws) ≡ first_fault forms (w ∷ ws)
skip_part word low high w ws forms h some =
    let others : List Form = map (λ form. literal word ∷ Number low high ∷ form) forms in
    let none : flat_map (after_word w) others ≡ [] = closed_by (λ form. Number low high ∷ form) (literal word) w forms (is_literal word w false h) in
    let left : flat_map (after_word w) (forms ++ others) ≡ flat_map (after_word w) forms =
    flat_map-append (after_word w) forms others ∙ ap (λ fs. flat_map (after_word w) forms ++ fs) none ∙ append-nil (flat_map (after_word w) forms) in
    λ i. cond (is_empty (left i)) (Some (fault_first forms others some i)) (first_fault (left i) ws)

-- if none of these forms takes a word, those that begin with it are left
step_part : (word : List ℕ) (low high : ℕ) (w : List ℕ) (ws : List (List ℕ)) (form : Form) (forms : List Form) → is w word ≡ true → flat_map (after_word w) (form ∷ forms) ≡ [] → first_fault (with_part (numbered word low high) (form ∷ forms)) (w ∷ ws) ≡ first_fault (map (λ f. Number low high ∷ f) (form ∷ forms)) ws
step_part word low high w ws form forms h none =
    let others : List Form = map (λ f. literal word ∷ Number low high ∷ f) (form ∷ forms) in
    let left : flat_map (after_word w) ((form ∷ forms) ++ others) ≡ map (λ f. Number low high ∷ f) (form ∷ forms) =
    flat_map-append (after_word w) (form ∷ forms) others ∙ ap (λ fs. fs ++ flat_map (after_word w) others) none ∙ opened_by (λ f. Number low high ∷ f) (literal word) w (form ∷ forms) (is_literal word w true h) in
    ap (λ fs. cond (is_empty fs) (Some (fault_at ((form ∷ forms) ++ others))) (first_fault fs ws)) left

-- none of the forms with a part takes a word that neither the part nor a form begins with
none_with : (word : List ℕ) (low high : ℕ) (w : List ℕ) (forms : List Form) → is w word ≡ false → flat_map (after_word w) forms ≡ [] → flat_map (after_word w) (with_part (numbered word low high) forms) ≡ []
none_with word low high w forms h none =
    flat_map-append (after_word w) forms (map (λ form. literal word ∷ Number low high ∷ form) forms)
    ∙ ap (λ fs. fs ++ flat_map (after_word w) (map (λ form. literal word ∷ Number low high ∷ form) forms)) none
    ∙ closed_by (λ form. Number low high ∷ form) (literal word) w forms (is_literal word w false h)

-- what a part says, and the words behind it
abbrev pub Read : Type 0
Read = Option ℕ × List (List ℕ)

abbrev pub ok : Option ℕ → List (List ℕ) → Result Read Reason
ok o ws = Ok (o, ws)

pub same_parts : (o p : Option ℕ) (ws vs : List (List ℕ)) → ok o ws ≡ ok p vs → (o ≡ p) × (ws ≡ vs)
same_parts o p ws vs h =
    let a : Read = (o, ws) in
    let b : Read = (p, vs) in
    let same : a ≡ b = cc in
    (ap (λ (r : Read). r.0) same, ap (λ (r : Read). r.1) same)

-- a number in front of each form
failed_by : (low high : ℕ) (v : List ℕ) (ws : List (List ℕ)) (form : Form) (forms : List Form) (e : Reason) (b : Bool) → is_of_kind (Number low high) v ≡ b → with_rest ws (cond b (Ok (number v)) (Err BadNumber)) ≡ Err e → first_fault (map (λ f. Number low high ∷ f) (form ∷ forms)) (v ∷ ws) ≡ Some e
failed_by low high v ws form forms e true h k = absurd (cc)
failed_by low high v ws form forms e false h k = let same : BadNumber ≡ e = cc in one_fault (Number low high) v ws form forms h ∙ ap Some same

pub number_failed : (low high : ℕ) (ws : List (List ℕ)) (form : Form) (forms : List Form) (e : Reason) → number_first low high ws ≡ Err e → first_fault (map (λ f. Number low high ∷ f) (form ∷ forms)) ws ≡ Some e
number_failed low high [] form forms e h = let same : BadCount ≡ e = cc in rw (none_empty (Number low high) forms) (ap Some same)
number_failed low high (v ∷ ws) form forms e h = failed_by low high v ws form forms e (is_of_kind (Number low high) v) refl h

pub read_by : (low high : ℕ) (v : List ℕ) (ws left : List (List ℕ)) (form : Form) (forms : List Form) (o : Option ℕ) (b : Bool) → is_of_kind (Number low high) v ≡ b → with_rest ws (cond b (Ok (number v)) (Err BadNumber)) ≡ Ok (o, left) → (first_fault (map (λ f. Number low high ∷ f) (form ∷ forms)) (v ∷ ws) ≡ first_fault (form ∷ forms) left) × (o ≡ Some (number v)) × (left ≡ ws)
read_by low high v ws left form forms o true h k =
    let same = same_parts (Some (number v)) o ws left k in
    (one_step (Number low high) v ws form forms h ∙ ap (first_fault (form ∷ forms)) same.1, sym same.0, sym same.1)
read_by low high v ws left form forms o false h k = absurd (cc)

pub number_read : (low high : ℕ) (ws left : List (List ℕ)) (form : Form) (forms : List Form) (o : Option ℕ) → number_first low high ws ≡ Ok (o, left) → first_fault (map (λ f. Number low high ∷ f) (form ∷ forms)) ws ≡ first_fault (form ∷ forms) left
number_read low high [] left form forms o h = absurd (cc)
number_read low high (v ∷ ws) left form forms o h = (read_by low high v ws left form forms o (is_of_kind (Number low high) v) refl h).0

-- the parts of a header, one after another
module _ {A : Type 0} (naming : Naming A) where
  none_policy : (w : List ℕ) → is w (codes "policy") ≡ false → flat_map (after_word w) (policies naming) ≡ []
  none_policy w h = closed (literal (codes "policy")) w naming.forms (is_literal (codes "policy") w false h)

  none_history : (w : List ℕ) → is w (codes "policy") ≡ false → is w (codes "history") ≡ false → flat_map (after_word w) (histories naming) ≡ []
  none_history w h k = none_with (codes "history") 2 16777216 w (policies naming) k (none_policy w h)

  none_generation : (w : List ℕ) → is w (codes "policy") ≡ false → is w (codes "history") ≡ false → is w (codes "first-gen") ≡ false → flat_map (after_word w) (generations naming) ≡ []
  none_generation w h k l = none_with (codes "first-gen") 1 4294967295 w (histories naming) l (none_history w h k)

  pub tseq_step : (w : List ℕ) (ws : List (List ℕ)) → is w (codes "first-tseq") ≡ true → first_fault (parts naming) (w ∷ ws) ≡ first_fault (map (λ f. Number 0 4294967294 ∷ f) (generations naming)) ws
  tseq_step w ws h =
      ap (λ (v : List ℕ). first_fault (parts naming) (v ∷ ws)) ((bytes_eq-Decides w (codes "first-tseq")).0 h) ∙ step_part (codes "first-tseq") 0 4294967294 (codes "first-tseq") ws [] (drop 1 (generations naming)) refl (none_generation (codes "first-tseq") refl refl refl)

  pub gen_step : (w : List ℕ) (ws : List (List ℕ)) → is w (codes "first-gen") ≡ true → first_fault (generations naming) (w ∷ ws) ≡ first_fault (map (λ f. Number 1 4294967295 ∷ f) (histories naming)) ws
  gen_step w ws h =
      ap (λ (v : List ℕ). first_fault (generations naming) (v ∷ ws)) ((bytes_eq-Decides w (codes "first-gen")).0 h) ∙ step_part (codes "first-gen") 1 4294967295 (codes "first-gen") ws [] (drop 1 (histories naming)) refl (none_history (codes "first-gen") refl refl)

  pub history_step : (w : List ℕ) (ws : List (List ℕ)) → is w (codes "history") ≡ true → first_fault (histories naming) (w ∷ ws) ≡ first_fault (map (λ f. Number 2 16777216 ∷ f) (policies naming)) ws
  history_step w ws h =
      ap (λ (v : List ℕ). first_fault (histories naming) (v ∷ ws)) ((bytes_eq-Decides w (codes "history")).0 h) ∙ step_part (codes "history") 2 16777216 (codes "history") ws [] (drop 1 (policies naming)) refl (none_policy (codes "history") refl)

-- if there is a form that names a policy
module _ {A : Type 0} (naming : Naming A) (some : is_empty naming.forms ≡ false) where
  wants_policy : wants (policies naming) ≡ true
  wants_policy = by_forms naming.forms some
    where
      by_forms : (forms : List Form) → is_empty forms ≡ false → wants (map (λ form. literal (codes "policy") ∷ form) forms) ≡ true
      by_forms [] h = absurd (cc)
      by_forms (form ∷ forms) h = refl

  wants_history : wants (histories naming) ≡ true
  wants_history = wants_first (policies naming) (map (λ form. numbered (codes "history") 2 16777216 ++ form) (policies naming)) wants_policy

  wants_generation : wants (generations naming) ≡ true
  wants_generation = wants_first (histories naming) (map (λ form. numbered (codes "first-gen") 1 4294967295 ++ form) (histories naming)) wants_history

  pub tseq_skip : (w : List ℕ) (ws : List (List ℕ)) → is w (codes "first-tseq") ≡ false → first_fault (parts naming) (w ∷ ws) ≡ first_fault (generations naming) (w ∷ ws)
  tseq_skip w ws h = skip_part (codes "first-tseq") 0 4294967294 w ws (generations naming) h wants_generation

  pub gen_skip : (w : List ℕ) (ws : List (List ℕ)) → is w (codes "first-gen") ≡ false → first_fault (generations naming) (w ∷ ws) ≡ first_fault (histories naming) (w ∷ ws)
  gen_skip w ws h = skip_part (codes "first-gen") 1 4294967295 w ws (histories naming) h wants_history

  pub history_skip : (w : List ℕ) (ws : List (List ℕ)) → is w (codes "history") ≡ false → first_fault (histories naming) (w ∷ ws) ≡ first_fault (policies naming) (w ∷ ws)
  history_skip w ws h = skip_part (codes "history") 2 16777216 w ws (policies naming) h wants_policy

-- what a part says, and what is left of the words
pub failed_part : (low high : ℕ) (w : List ℕ) (ws : List (List ℕ)) (e : Reason) (b : Bool) → cond b (number_first low high ws) (Ok (None, w ∷ ws)) ≡ Err e → (b ≡ true) × (number_first low high ws ≡ Err e)
failed_part low high w ws e true h = (refl, h)
failed_part low high w ws e false h = absurd (cc)

-- a part that says something, or nothing
pub data IsPart (n : List ℕ) (low high : ℕ) (w : List ℕ) (ws : List (List ℕ)) (o : Option ℕ) (left : List (List ℕ)) : Type 0 where
  given : is w n ≡ true → number_first low high ws ≡ Ok (o, left) → IsPart n low high w ws o left
  left_out : is w n ≡ false → o ≡ None → left ≡ w ∷ ws → IsPart n low high w ws o left

is_part_by : (n : List ℕ) (low high : ℕ) (w : List ℕ) (ws : List (List ℕ)) (o : Option ℕ) (left : List (List ℕ)) (b : Bool) → is w n ≡ b → cond b (number_first low high ws) (Ok (None, w ∷ ws)) ≡ Ok (o, left) → IsPart n low high w ws o left
is_part_by n low high w ws o left true e h = given e h
is_part_by n low high w ws o left false e h = let same = same_parts None o (w ∷ ws) left h in left_out e (sym same.0) (sym same.1)

pub is_part : (n : List ℕ) (low high : ℕ) (w : List ℕ) (ws : List (List ℕ)) (o : Option ℕ) (left : List (List ℕ)) → part_in n low high (w ∷ ws) ≡ Ok (o, left) → IsPart n low high w ws o left
is_part n low high w ws o left h = is_part_by n low high w ws o left (is w n) refl h

-- the number of a part, and of the parts behind it
pub behind_here : (d : ℕ) (n : List ℕ) (low high : ℕ) (ws left : List (List ℕ)) (o : Option ℕ) → part_in n low high ws ≡ Ok (o, left) → behind d n left ≡ d → behind d n ws ≡ unwrap_or o d
behind_here d n low high [] left o h k = ap (λ p. unwrap_or p d) (same_parts None o [] left h).0
behind_here d n low high (w ∷ []) left o h k = elim (is_part n low high w [] o left h) [
  | given e r ↦ absurd (cc)
  | left_out e none rest ↦ sym (ap (λ p. unwrap_or p d) none)
]
behind_here d n low high (w ∷ v ∷ ws) left o h k = elim (is_part n low high w (v ∷ ws) o left h) [
  | given e r ↦ rw e (sym (ap (λ p. unwrap_or p d) (read_by low high v ws left [] [] o (is_of_kind (Number low high) v) refl r).1))
  | left_out e none rest ↦ sym (ap (behind d n) rest) ∙ k ∙ sym (ap (λ p. unwrap_or p d) none)
]

pub behind_other : (n m : List ℕ) (low high : ℕ) (ws left : List (List ℕ)) (o : Option ℕ) → is n m ≡ false → is n (codes "policy") ≡ false → part_in n low high ws ≡ Ok (o, left) → words_behind m ws ≡ words_behind m left
behind_other n m low high [] left o ne np h = ap (words_behind m) (same_parts None o [] left h).1
behind_other n m low high (w ∷ []) left o ne np h = elim (is_part n low high w [] o left h) [
  | given e r ↦ absurd (cc)
  | left_out e none rest ↦ sym (ap (words_behind m) rest)
]
behind_other n m low high (w ∷ v ∷ ws) left o ne np h = elim (is_part n low high w (v ∷ ws) o left h) [
  | given e r ↦ rw ((bytes_eq-Decides w n).0 e, ne, np) (sym (ap (words_behind m) (read_by low high v ws left [] [] o (is_of_kind (Number low high) v) refl r).2))
  | left_out e none rest ↦ sym (ap (words_behind m) rest)
]
