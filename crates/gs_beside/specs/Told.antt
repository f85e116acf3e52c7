-- The words of a policy name no other one.
use Rattle.std.proofs.Common.{◌≡◌, ℕ, Bool, true, false, cond, List, [], ◌∷◌, map, decimal, refl, ap, sym, ◌∙◌, Option, None, Some, Ok, Err, arith}
use Rattle.std.specs.Prelude.{◌<◌, ◌^◌, nat_lt}
use Rattle.std.proofs.lemmas.Bool.{and_parts}
use Rattle.std.proofs.lemmas.Bool.Decides.{nat_tests}
use Rattle.gs_script.specs.declared.fault.Reason.{Reason}
use Rattle.gs_script.specs.declared.fault.Reason.TheVariants.{BadByte}
use Rattle.gs_script.specs.Words.{is_text, number, words_of}
use Rattle.gs_script.specs.Grammar.{first_fault, is_empty, is_of_kind, or_fault}
use Rattle.gs_script.specs.Naming.{Naming, policy_named}
use Rattle.gs_script.specs.Header.{policy_said}
use Rattle.gs_script.specs.Decimal.{same_number}
use Rattle.gs_beside.specs.declared.beside.Beside.{Beside}
use Rattle.gs_beside.specs.declared.beside.Beside.TheVariants as either
use Rattle.gs_beside.specs.Own.{BeginsOtherwise, Own, Range, are_short, in_range, is_free, number_form}
use Rattle.gs_beside.specs.Beside.{beside, beside_words, own_words}
use Rattle.gs_beside.specs.Otherwise.{spaced_words}
use Rattle.gs_beside.specs.Said.{of_free, other_named, own_named, step_refused, step_taken}

-- digits that name numbers in their ranges are those of the numbers that they were written for
numbers_again : (rs : List Range) (ns : List ℕ) → are_short rs ≡ true → first_fault (number_form rs ∷ []) (map decimal ns) ≡ None → map number (map decimal ns) ≡ ns
numbers_again [] [] short h = refl
numbers_again [] (n ∷ ns) short h = absurd (cc)
numbers_again (r ∷ rs) [] short h = absurd (cc)
numbers_again (r ∷ rs) (n ∷ ns) short h = by_test (is_of_kind (in_range r) (decimal n)) refl (numbers_again rs ns parts.1)
  where
    parts : (nat_lt r.most (2 ^ 64) ≡ true) × (are_short rs ≡ true)
    parts = and_parts (nat_lt r.most (2 ^ 64)) (are_short rs) short

    bits : r.most < 2 ^ 64
    bits = let e = parts.0 in grind (arith, nat_tests)

    said : first_fault (number_form (r ∷ rs) ∷ []) (map decimal (n ∷ ns)) ≡ None
    said = h

    by_test : (b : Bool) → is_of_kind (in_range r) (decimal n) ≡ b → (first_fault (number_form rs ∷ []) (map decimal ns) ≡ None → map number (map decimal ns) ≡ ns) → number (decimal n) ∷ map number (map decimal ns) ≡ n ∷ ns
    by_test true e more =
        ap (λ (m : ℕ). m ∷ map number (map decimal ns)) (same_number r.least r.most n bits e)
        ∙ ap (λ (ms : List ℕ). n ∷ ms) (more (sym (step_taken (in_range r) (number_form rs) (decimal n) (map decimal ns) e) ∙ said))
    by_test false e more = let refused = step_refused (in_range r) (number_form rs) (decimal n) (map decimal ns) e in absurd (cc)

said_value : {A : Type 0} (o : Option Reason) (x q : A) → or_fault o x ≡ Ok q → (o ≡ None) × (q ≡ x)
said_value None x q h = (refl, cc)
said_value (Some reason) x q h = absurd (cc)

module _ {A B : Type 0} (own : Own A) (others : Naming B) (free : is_free others.forms own.word ≡ true) where
  -- the words of one's own
  own_apart : (p : A) → are_short own.ranges ≡ true → own.of (own.numbers p) ≡ p → (q : Beside A B) → policy_said (beside own others) (own_words own p) ≡ Ok q → q ≡ either.Own p
  own_apart p short again q h = by_text (is_text (own_words own p)) h
    where
      by_text : (b : Bool) → cond b (policy_named (beside own others) (words_of (own_words own p))) (Err BadByte) ≡ Ok q → q ≡ either.Own p
      by_text true h =
          let f = of_free others.forms own.word free in
          let split : words_of (own_words own p) ≡ own.word ∷ map decimal (own.numbers p) = spaced_words own.word (own.numbers p) f.black f.some in
          let parts = said_value (first_fault (number_form own.ranges ∷ []) (map decimal (own.numbers p))) (either.Own (own.of (map number (map decimal (own.numbers p))))) q
          (sym (own_named own others (map decimal (own.numbers p)) free) ∙ sym (ap (policy_named (beside own others)) split) ∙ h) in
          parts.1 ∙ ap (λ ns. either.Own (own.of ns)) (numbers_again own.ranges (own.numbers p) short parts.0) ∙ ap either.Own again
      by_text false h = absurd (cc)

  -- and those of the others
  other_apart : (p : B) → is_empty others.forms ≡ false → BeginsOtherwise own.word (others.words p) → ((q : B) → policy_said others (others.words p) ≡ Ok q → q ≡ p)
      → (q : Beside A B) → policy_said (beside own others) (others.words p) ≡ Ok q → q ≡ either.Other p
  other_apart p some begins told q h = by_text (is_text (others.words p)) refl h
    where
      by_text : (b : Bool) → is_text (others.words p) ≡ b → cond b (policy_named (beside own others) (words_of (others.words p))) (Err BadByte) ≡ Ok q → q ≡ either.Other p
      by_text true e h =
          let ws = begins.first ∷ begins.more in
          let parts = said_value (first_fault others.forms ws) (either.Other (others.named ws)) q
          (sym (other_named own others begins.first begins.more free some begins.other) ∙ sym (ap (policy_named (beside own others)) begins.split) ∙ h) in
          let said : policy_said others (others.words p) ≡ Ok (others.named ws) =
          ap (λ (t : Bool). cond t (policy_named others (words_of (others.words p))) (Err BadByte)) e ∙ ap (policy_named others) begins.split ∙ ap (λ o. or_fault o (others.named ws)) parts.0 in
          parts.1 ∙ ap either.Other (told (others.named ws) said)
      by_text false e h = absurd (cc)

pub told_apart : {A B : Type 0} (own : Own A) (others : Naming B) → is_free others.forms own.word ≡ true → are_short own.ranges ≡ true → ((p : A) → own.of (own.numbers p) ≡ p)
    → is_empty others.forms ≡ false → ((p : B) → BeginsOtherwise own.word (others.words p)) → ((p q : B) → policy_said others (others.words p) ≡ Ok q → q ≡ p)
    → (p q : Beside A B) → policy_said (beside own others) (beside_words own others p) ≡ Ok q → q ≡ p
told_apart own others free short again some apart told (either.Other p) q h = other_apart own others free p some (apart p) (told p) q h
told_apart own others free short again some apart told (either.Own p) q h = own_apart own others free p short (again p) q h
