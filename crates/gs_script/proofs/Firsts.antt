-- The four optional parts together.
use Rattle.std.proofs.Common.{◌≡◌, ℕ, List, [], ◌∷◌, Bool, true, false, refl, sym, ◌∙◌, ap, Option, Some, None, codes, Ok, Err, drop}
use Rattle.std.specs.Prelude.{unwrap_or}
use Rattle.std.proofs.lemmas.Slice.Eq.{bytes_eq-Decides}
use Rattle.gs_script.specs.declared.fault.Reason.{Reason}
use Rattle.gs_script.specs.declared.header.Firsts.{Firsts}
use Rattle.gs_script.specs.Grammar.{first_fault, is_empty, literal, or_fault}
use Rattle.gs_script.specs.Naming.{Naming}
use Rattle.gs_script.specs.Rows.{is}
use Rattle.gs_script.specs.Header.{policies, histories, generations, parts, number_or, words_behind, policy_of, policy_in, firsts_of, firsts_in, part_in}
use Rattle.gs_script.proofs.Parts.{is_literal, same_parts, some_fault, number_failed, number_read, failed_part, is_part, given, left_out, tseq_step, tseq_skip, gen_step, gen_skip, history_step, history_skip, behind_here, behind_other}

abbrev tseq : List ℕ
tseq = codes "first-tseq"

abbrev gen : List ℕ
gen = codes "first-gen"

abbrev limit : List ℕ
limit = codes "history"

abbrev last : List ℕ
last = codes "policy"

-- the parts before the policy, if they were read
pub record AreRead (ws vs us left : List (List ℕ)) (o p q : Option ℕ) : Type 0 where
  pub tseq : part_in (codes "first-tseq") 0 4294967294 ws ≡ Ok (o, vs)
  pub generation : part_in (codes "first-gen") 1 4294967295 vs ≡ Ok (p, us)
  pub history : part_in (codes "history") 2 16777216 us ≡ Ok (q, left)

-- what a fault, or none, makes of what was read
fault_of_result : {A : Type 0} (f : Option Reason) (x : A) (e : Reason) → Err e ≡ or_fault f x → f ≡ Some e
fault_of_result None x e h = absurd (cc)
fault_of_result (Some g) x e h = let same : g ≡ e = cc in ap Some same

no_fault : {A : Type 0} (f : Option Reason) (x y : A) → Ok y ≡ or_fault f x → (f ≡ None) × (y ≡ x)
no_fault None x y h = (refl, cc)
no_fault (Some g) x y h = absurd (cc)

-- the numbers of the parts
abbrev pub firsts : {A : Type 0} → Option ℕ → Option ℕ → Option ℕ → A → Firsts A
firsts o p q policy = record { tseq = unwrap_or o 0; generation = unwrap_or p 1; history = unwrap_or q 16777216; policy = policy }

module _ {A : Type 0} (naming : Naming A) (some : is_empty naming.forms ≡ false) where
  tseq_fault : (ws : List (List ℕ)) (e : Reason) → part_in tseq 0 4294967294 ws ≡ Err e → first_fault (parts naming) ws ≡ Some e
  tseq_fault [] e h = absurd (cc)
  tseq_fault (w ∷ ws) e h = let f = failed_part 0 4294967294 w ws e (is w tseq) h in tseq_step naming w ws f.0 ∙ number_failed 0 4294967294 ws [] (drop 1 (generations naming)) e f.1

  tseq_read : (ws left : List (List ℕ)) (o : Option ℕ) → part_in tseq 0 4294967294 ws ≡ Ok (o, left) → first_fault (parts naming) ws ≡ first_fault (generations naming) left
  tseq_read [] left o h = ap (first_fault (generations naming)) (same_parts None o [] left h).1
  tseq_read (w ∷ ws) left o h = elim (is_part tseq 0 4294967294 w ws o left h) [
    | given e r ↦ tseq_step naming w ws e ∙ number_read 0 4294967294 ws left _ _ o r
    | left_out e none rest ↦ tseq_skip naming some w ws e ∙ ap (first_fault (generations naming)) (sym rest)
  ]

  gen_fault : (ws : List (List ℕ)) (e : Reason) → part_in gen 1 4294967295 ws ≡ Err e → first_fault (generations naming) ws ≡ Some e
  gen_fault [] e h = absurd (cc)
  gen_fault (w ∷ ws) e h = let f = failed_part 1 4294967295 w ws e (is w gen) h in gen_step naming w ws f.0 ∙ number_failed 1 4294967295 ws [] (drop 1 (histories naming)) e f.1

  gen_read : (ws left : List (List ℕ)) (o : Option ℕ) → part_in gen 1 4294967295 ws ≡ Ok (o, left) → first_fault (generations naming) ws ≡ first_fault (histories naming) left
  gen_read [] left o h = ap (first_fault (histories naming)) (same_parts None o [] left h).1
  gen_read (w ∷ ws) left o h = elim (is_part gen 1 4294967295 w ws o left h) [
    | given e r ↦ gen_step naming w ws e ∙ number_read 1 4294967295 ws left _ _ o r
    | left_out e none rest ↦ gen_skip naming some w ws e ∙ ap (first_fault (histories naming)) (sym rest)
  ]

  history_fault : (ws : List (List ℕ)) (e : Reason) → part_in limit 2 16777216 ws ≡ Err e → first_fault (histories naming) ws ≡ Some e
  history_fault [] e h = absurd (cc)
  history_fault (w ∷ ws) e h = let f = failed_part 2 16777216 w ws e (is w limit) h in history_step naming w ws f.0 ∙ number_failed 2 16777216 ws [] (drop 1 (policies naming)) e f.1

  history_read : (ws left : List (List ℕ)) (o : Option ℕ) → part_in limit 2 16777216 ws ≡ Ok (o, left) → first_fault (histories naming) ws ≡ first_fault (policies naming) left
  history_read [] left o h = ap (first_fault (policies naming)) (same_parts None o [] left h).1
  history_read (w ∷ ws) left o h = elim (is_part limit 2 16777216 w ws o left h) [
    | given e r ↦ history_step naming w ws e ∙ number_read 2 16777216 ws left _ _ o r
    | left_out e none rest ↦ history_skip naming some w ws e ∙ ap (first_fault (policies naming)) (sym rest)
  ]

  -- the fault of the words, part by part
  pub tseq_failed : (ws : List (List ℕ)) (e : Reason) → part_in tseq 0 4294967294 ws ≡ Err e → Err e ≡ firsts_in naming ws
  tseq_failed ws e h = rw (tseq_fault ws e h) refl

  pub generation_failed : (ws vs : List (List ℕ)) (o : Option ℕ) (e : Reason) → part_in tseq 0 4294967294 ws ≡ Ok (o, vs) → part_in gen 1 4294967295 vs ≡ Err e → Err e ≡ firsts_in naming ws
  generation_failed ws vs o e h k = rw (tseq_read ws vs o h, gen_fault vs e k) refl

  pub history_failed : (ws vs us : List (List ℕ)) (o p : Option ℕ) (e : Reason) → part_in tseq 0 4294967294 ws ≡ Ok (o, vs) → part_in gen 1 4294967295 vs ≡ Ok (p, us) → part_in limit 2 16777216 us ≡ Err e → Err e ≡ firsts_in naming ws
  history_failed ws vs us o p e h k l = rw (tseq_read ws vs o h, gen_read vs us p k, history_fault us e l) refl

  fault_is : (ws vs us left : List (List ℕ)) (o p q : Option ℕ) → AreRead ws vs us left o p q → first_fault (parts naming) ws ≡ first_fault (policies naming) left
  fault_is ws vs us left o p q r = tseq_read ws vs o r.tseq ∙ gen_read vs us p r.generation ∙ history_read us left q r.history

  pub policy_failed : (ws vs us left : List (List ℕ)) (o p q : Option ℕ) (e : Reason) → AreRead ws vs us left o p q → Err e ≡ policy_in naming left → Err e ≡ firsts_in naming ws
  policy_failed ws vs us left o p q e r h = rw (fault_is ws vs us left o p q r, fault_of_result (first_fault (policies naming) left) (policy_of naming left) e h) refl

  -- no other part stands where the policy does
  none_here_by : (m w v : List ℕ) (ws : List (List ℕ)) (p : Bool) → is w (codes "policy") ≡ p → is (codes "policy") m ≡ false → first_fault (policies naming) (w ∷ v ∷ ws) ≡ None → words_behind m (w ∷ v ∷ ws) ≡ []
  none_here_by m w v ws true e ne h = let policy = (bytes_eq-Decides w (codes "policy")).0 e in rw (policy, ne) refl
  none_here_by m w v ws false e ne h = absurd (cc (sym h ∙ some_fault (literal (codes "policy")) w (v ∷ ws) naming.forms (is_literal (codes "policy") w false e) some))

  none_here : (m : List ℕ) (left : List (List ℕ)) → is (codes "policy") m ≡ false → first_fault (policies naming) left ≡ None → words_behind m left ≡ []
  none_here m [] ne h = refl
  none_here m (w ∷ []) ne h = refl
  none_here m (w ∷ v ∷ ws) ne h = none_here_by m w v ws (is w (codes "policy")) refl ne h

  firsts_are : (ws vs us left : List (List ℕ)) (o p q : Option ℕ) → AreRead ws vs us left o p q → first_fault (policies naming) left ≡ None → firsts o p q (policy_of naming left) ≡ firsts_of naming ws
  firsts_are ws vs us left o p q r none =
      let a = behind_here 0 tseq 0 4294967294 ws vs o r.tseq (ap (number_or 0) (behind_other gen tseq 1 4294967295 vs us p refl refl r.generation ∙ behind_other limit tseq 2 16777216 us left q refl refl r.history ∙ none_here tseq left refl none)) in
      let b = ap (number_or 1) (behind_other tseq gen 0 4294967294 ws vs o refl refl r.tseq) ∙ behind_here 1 gen 1 4294967295 vs us p r.generation (ap (number_or 1) (behind_other limit gen 2 16777216 us left q refl refl r.history ∙ none_here gen left refl none)) in
      let c = ap (number_or 16777216) (behind_other tseq limit 0 4294967294 ws vs o refl refl r.tseq ∙ behind_other gen limit 1 4294967295 vs us p refl refl r.generation) ∙ behind_here 16777216 limit 2 16777216 us left q r.history (ap (number_or 16777216) (none_here limit left refl none)) in
      let d = ap naming.named (behind_other tseq last 0 4294967294 ws vs o refl refl r.tseq ∙ behind_other gen last 1 4294967295 vs us p refl refl r.generation ∙ behind_other limit last 2 16777216 us left q refl refl r.history) in
      λ i. record { tseq = sym a i; generation = sym b i; history = sym c i; policy = sym d i }

  pub all_read : (ws vs us left : List (List ℕ)) (o p q : Option ℕ) (policy : A) → AreRead ws vs us left o p q → Ok policy ≡ policy_in naming left → Ok (firsts o p q policy) ≡ firsts_in naming ws
  all_read ws vs us left o p q policy r h =
      let none = no_fault (first_fault (policies naming) left) (policy_of naming left) policy h in
      rw (fault_is ws vs us left o p q r, none.0) (ap Ok (ap (firsts o p q) none.1 ∙ firsts_are ws vs us left o p q r none.0))
