-- Words that name one's own policy, as they are held.
use Rattle.std.proofs.Common.{◌≡◌, ℕ, true, List, [], ◌∷◌, length, map, Bor, ap, sym, ◌∙◌, Ok, Err}
use Rattle.gs_script.specs.declared.fault.Reason.{Reason}
use Rattle.gs_script.specs.declared.fault.Reason.TheVariants.{BadCount}
use Rattle.gs_script.specs.Words.{number}
use Rattle.gs_script.specs.Grammar.{first_fault, or_fault}
use Rattle.gs_script.specs.Naming.{Naming, policy_named}
use Rattle.gs_script.specs.Rows.{shown}
use Rattle.gs_beside.specs.declared.beside.Beside.TheVariants as either
use Rattle.gs_beside.specs.Own.{Own, is_free, number_form}
use Rattle.gs_beside.specs.Beside.{beside, own_said}
use Rattle.gs_beside.specs.Said.{none_named, own_named}
use Rattle.gs_beside.proofs.Reading.{said_fault, said_value}

module _ {A B : Type 0} (own : Own A) (others : Naming B) (free : is_free others.forms own.word ≡ true) (words : List (Bor (List ℕ))) where
  -- there is none
  pub none_read : length words ≡ 0 → Err BadCount ≡ policy_named (beside own others) (shown words)
  none_read none = by_words words none
    where
      by_words : (ws : List (Bor (List ℕ))) → length ws ≡ 0 → Err BadCount ≡ policy_named (beside own others) (shown ws)
      by_words [] none = sym (none_named own others free)
      by_words (w ∷ ws) none = absurd (cc)

  -- the first one is one's own
  module _ (name : Bor (List ℕ)) (rest : List (Bor (List ℕ))) (split : words ≡ name ∷ rest) (same : name.now ≡ own.word) where
    own_read : policy_named (beside own others) (shown words) ≡ or_fault (first_fault (number_form own.ranges ∷ []) (shown rest)) (either.Own (own.of (map number (shown rest))))
    own_read =
        ap (λ (ws : List (Bor (List ℕ))). policy_named (beside own others) (shown ws)) split
        ∙ ap (λ (w : List ℕ). policy_named (beside own others) (w ∷ shown rest)) same
        ∙ own_named own others (shown rest) free

    pub own_refused : (e : Reason) → Err e ≡ own_said own (shown rest) → Err e ≡ policy_named (beside own others) (shown words)
    own_refused e h = said_fault (first_fault (number_form own.ranges ∷ []) (shown rest)) e (own.of (map number (shown rest))) (either.Own (own.of (map number (shown rest)))) h ∙ sym own_read

    pub own_found : (p : A) → Ok p ≡ own_said own (shown rest) → Ok (either.Own p) ≡ policy_named (beside own others) (shown words)
    own_found p h = said_value (λ (q : A). either.Own q) (first_fault (number_form own.ranges ∷ []) (shown rest)) p (own.of (map number (shown rest))) h ∙ sym own_read
