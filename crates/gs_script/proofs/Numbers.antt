-- What `parse` gives at a word is the number that the word writes.
use Rattle.std.proofs.Common.{◌≡◌, ◌≢◌, ℕ, ◌^◌, ◌<◌, ◌≤◌, length, Bool, true, false, cond, not, nat_eq, List, [], ◌∷◌, ◌==◌, get_or, arith, refl, sym, ap, subst, Result, Ok, Err, slice_index}
use Rattle.std.proofs.lemmas.Bool.{and_parts, and_from}
use Rattle.std.proofs.lemmas.Bool.Decides.{nat_tests}
use Rattle.std.proofs.lemmas.Str.Parse.{IsNumeralModel, parse_plain, numerals_by_value, tells_all_ascii_digits}
use Rattle.std.specs.Char.{is_ascii_digit}
use Rattle.std.specs.Str.{all_ascii_digits}
use Rattle.std.specs.Str.Parse.{ParsesUnsigned, digits_value}
use Rattle.gs_script.specs.declared.fault.Reason.TheVariants.{BadNumber}
use Rattle.gs_script.specs.Words.{number}
use Rattle.gs_script.specs.Held.{begins_plainly}
use Rattle.gs_script.specs.Grammar.{Number, is_of_kind}
use Rattle.gs_script.specs.Rows.{number_between}

own : IsNumeralModel (λ ds. all_ascii_digits ds ≡ true) (digits_value 10)
own = numerals_by_value _ tells_all_ascii_digits

no_sign : (word : List ℕ) → begins_plainly word ≡ true → get_or word 0 0 ≢ 43
no_sign word h = let p = (and_parts (not (nat_eq (slice_index word 0) 43)) _ h).0 in grind (arith, nat_tests)

untaken : {A : Type 0} (b : Bool) (x y : A) → (b ≡ true → ⊥) → cond b x y ≡ y
untaken true x y h = absurd (h refl)
untaken false x y h = refl

-- digits have no plus among them
no_plus : (word : List ℕ) → all_ascii_digits word ≡ true → not (slice_index word 0 == 43) ≡ true
no_plus [] h = refl
no_plus (c ∷ cs) h = let d = (and_parts (is_ascii_digit c) _ h).0 in grind (arith, nat_tests)

record Taken (least most : ℕ) (word : List ℕ) : Type 0 where
  some : 0 < length word
  digits : all_ascii_digits word ≡ true
  plain : begins_plainly word ≡ true
  low : least ≤ number word
  high : number word ≤ most

taken : (low high : ℕ) (word : List ℕ) → is_of_kind (Number low high) word ≡ true → Taken low high word
taken low high word h =
    let a = and_parts _ _ h in
    let b = and_parts _ _ a.0 in
    let c = and_parts _ _ b.0 in
    let d = and_parts _ _ c.0 in
    record {
      some = let e = d.0 in grind (arith, nat_tests);
      digits = d.1;
      plain = and_from _ _ (no_plus word d.1) c.1;
      low = let e = b.1 in grind (arith, nat_tests);
      high = let e = a.1 in grind (arith, nat_tests);
    }

takes_it : (low high : ℕ) (word : List ℕ) → Taken low high word → is_of_kind (Number low high) word ≡ true
takes_it low high word t =
    and_from _ _
    (and_from _ _
    (and_from _ _ (and_from _ _ (let e = t.some in grind (arith, nat_tests)) t.digits) (and_parts _ _ t.plain).1)
    (let e = t.low in grind (arith, nat_tests)))
    (let e = t.high in grind (arith, nat_tests))

-- what is known if a number was parsed
record Parsed (n : ℕ) (word : List ℕ) : Type 0 where
  digits : all_ascii_digits word ≡ true
  some : 0 < length word
  value : n ≡ number word

parsed_parts : {E : Type 0} (bits n : ℕ) (word : List ℕ) (r : Result ℕ E) → ParsesUnsigned bits 10 word r → r ≡ Ok n → begins_plainly word ≡ true → Parsed n word
parsed_parts bits n word r p is h = let k = rw is at (parse_plain own bits word r p (no_sign word h)) in record { digits = k.0.0; some = k.0.1; value = k.1 }

pub parsed : {E : Type 0} (bits low high n : ℕ) (word : List ℕ) (r : Result ℕ E) → ParsesUnsigned bits 10 word r → r ≡ Ok n → begins_plainly word ≡ true → low ≤ n → n ≤ high → number_between low high word ≡ Ok n
parsed bits low high n word r p is h l u =
    let k = parsed_parts bits n word r p is h in
    let t = takes_it low high word (record { some = k.some; digits = k.digits; plain = h; low = subst (λ m. low ≤ m) k.value l; high = subst (λ m. m ≤ high) k.value u }) in
    rw t (ap Ok (sym k.value))

pub unparsed : {E : Type 0} (bits low high : ℕ) (e : E) (word : List ℕ) (r : Result ℕ E) → ParsesUnsigned bits 10 word r → r ≡ Err e → begins_plainly word ≡ true → high < 2 ^ bits → number_between low high word ≡ Err BadNumber
unparsed bits low high e word r p is h l =
    let k = rw is at (parse_plain own bits word r p (no_sign word h)) in
    untaken _ _ _ (λ t. let all = taken low high word t in let high_is = all.high in k (all.digits, all.some, omega arith))
