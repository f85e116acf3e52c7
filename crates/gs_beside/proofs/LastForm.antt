-- The form of the words that name one's own policy is the last one.
use Rattle.std.proofs.Common.{◌≡◌, ℕ, ◌-◌, suc, ap, ◌∙◌, arith, List, [], ◌∷◌, ◌++◌, length, map, slice_index_or, Bor}
use Rattle.gs_script.specs.declared.policy_word.PolicyWord.{PolicyWord}
use Rattle.gs_script.specs.Grammar.{Form}
use Rattle.gs_script.specs.Naming.{forms_named, policy_kind}

pub last_form : (forms : List (Bor (List PolicyWord))) (others : List Form) (c : Form) (d : Bor (List PolicyWord)) → forms_named forms ≡ others ++ c ∷ [] → map policy_kind (slice_index_or forms (length forms - 1) d).now ≡ c
last_form [] [] c d h = absurd (cc)
last_form [] (a ∷ others) c d h = absurd (cc)
last_form (x ∷ []) [] c d h = cc
last_form (x ∷ []) (a ∷ []) c d h = absurd (cc)
last_form (x ∷ []) (a ∷ b ∷ others) c d h = absurd (cc)
last_form (x ∷ y ∷ forms) [] c d h = absurd (cc)
last_form (x ∷ y ∷ forms) (a ∷ others) c d h =
    let one : suc (suc (length forms)) - 1 ≡ suc (length forms) = omega arith in
    let other : length forms ≡ suc (length forms) - 1 = omega arith in
    ap (λ (k : ℕ). map policy_kind (slice_index_or (x ∷ y ∷ forms) k d).now) one ∙ ap (λ (k : ℕ). map policy_kind (slice_index_or (y ∷ forms) k d).now) other ∙ last_form (y ∷ forms) others c d (cc)
