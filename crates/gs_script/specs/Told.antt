-- The words of either of the two policies that there are name no other one.
use Rattle.std.proofs.Common.{◌≡◌, ℕ, Bool, true, false, cond, List, [], ◌∷◌, ◌++◌, codes, decimal, refl, ap, sym, ◌∙◌, Some, Result, Ok, Err, arith}
use Rattle.gs_policy.specs.declared.any.AnyPolicy.{AnyPolicy}
use Rattle.gs_policy.specs.declared.any.AnyPolicy.TheVariants.{FirstCome, TwoClass}
use Rattle.gs_script.specs.declared.fault.Reason.{Reason}
use Rattle.gs_script.specs.declared.fault.Reason.TheVariants.{BadByte, BadNumber}
use Rattle.gs_script.specs.Words.{is_text, number, words_of}
use Rattle.gs_script.specs.Grammar.{Form, first_fault, is_empty, is_number_in, or_fault}
use Rattle.gs_script.specs.Naming.{policy_named}
use Rattle.gs_script.specs.Any.{any, policy_words}
use Rattle.gs_script.specs.Header.{policy_said}
use Rattle.gs_script.specs.Decimal.{decimal_black, decimal_word, one_word, same_number}

same_ok : (p q : AnyPolicy) (r : Result AnyPolicy Reason) → r ≡ Ok p → r ≡ Ok q → q ≡ p
same_ok p q r e h = cc

-- a slice is taken if it is in its range
abbrev after_two : (b : Bool) → List Form
after_two b = cond b ([] ∷ []) [] ++ []

taken : (b : Bool) (p q : AnyPolicy) → or_fault (cond (is_empty (after_two b)) (Some BadNumber) (first_fault (after_two b) [])) p ≡ Ok q → (b ≡ true) × (q ≡ p)
taken true p q h = (refl, same_ok p q (Ok p) refl h)
taken false p q h = absurd (cc)

decimal_words : (n : ℕ) → words_of (codes "two " ++ decimal n) ≡ codes "two" ∷ decimal n ∷ []
decimal_words n = ap (λ (ws : List (List ℕ)). codes "two" ∷ ws) (one_word (decimal n) (decimal_black n) (decimal_word n))

apart_two : (n : ℕ) (q : AnyPolicy) → policy_said any (codes "two " ++ decimal n) ≡ Ok q → q ≡ TwoClass (record { slice = n })
apart_two n q h = by_text (is_text (codes "two " ++ decimal n)) h
  where
    by_text : (b : Bool) → cond b (policy_named any (words_of (codes "two " ++ decimal n))) (Err BadByte) ≡ Ok q → q ≡ TwoClass (record { slice = n })
    by_text true h =
        let both = taken (is_number_in 1 65535 (decimal n)) (TwoClass (record { slice = number (decimal n) })) q (sym (ap (policy_named any) (decimal_words n)) ∙ h) in
        both.1 ∙ ap (λ (m : ℕ). TwoClass (record { slice = m })) (same_number 1 65535 n (omega arith) both.0)
    by_text false h = absurd (cc)

pub told_apart : (p q : AnyPolicy) → policy_said any (policy_words p) ≡ Ok q → q ≡ p
told_apart (FirstCome p) q h = same_ok (FirstCome p) q (policy_said any (codes "first")) refl h
told_apart (TwoClass p) q h = apart_two p.slice q h
