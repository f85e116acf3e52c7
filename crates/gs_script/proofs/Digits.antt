-- The digits that a text begins with are read as the number that they write.
use Rattle.std.proofs.Common.{◌≡◌, refl, ap, sym, subst, ℕ, zero, suc, ◌+◌, ◌<◌, ◌≤◌, length, true, false, List, [], ◌∷◌, take, get_or, arith, nat_le, nat_eq, ◌&&◌, Ok}
use Rattle.std.proofs.lemmas.Bool.{and_parts, and_from}
use Rattle.std.proofs.Math.Bool.{or-true}
use Rattle.std.proofs.lemmas.Str.Parse.{IsNumeralModel, numerals_by_value, tells_all_ascii_digits, digits_value_short}
use Rattle.std.proofs.lemmas.Bool.Decides.{nat_tests}
use Rattle.std.proofs.lemmas.List.{length-take-le}
use Rattle.std.proofs.lemmas.Str.{digit_value_digit}
use Rattle.std.specs.Int.{IsInRange}
use Rattle.std.specs.Char.{is_ascii_digit, digit_value}
use Rattle.std.specs.Str.{all_ascii_digits}
use Rattle.std.specs.Str.Parse.{digits_value}
use Rattle.gs_script.specs.declared.fault.Reason.TheVariants.{BadNumber}
use Rattle.gs_script.specs.Words.{is_number, is_shortest, is_word, number}
use Rattle.gs_script.specs.Grammar.{is_of_kind, Number}
use Rattle.gs_script.specs.Rows.{number_between}
use Rattle.gs_script.specs.Plain.{StartsWith}
use Rattle.gs_script.proofs.Taken.{went}

own : IsNumeralModel (λ ds. all_ascii_digits ds ≡ true) (digits_value 10)
own = numerals_by_value _ tells_all_ascii_digits

-- 18 digits write less than this
pub short : (ds : List ℕ) (i : ℕ) → i ≤ length ds → i ≤ 18 → all_ascii_digits (take i ds) ≡ true → digits_value 10 (take i ds) < 1000000000000000000
short ds i within few all = digits_value_short own (take i ds) 18 all (omega (arith, length-take-le i ds within))

pub all_more : (ds : List ℕ) (i : ℕ) → i < length ds → all_ascii_digits (take i ds) ≡ true → is_ascii_digit (get_or ds i 0) ≡ true → all_ascii_digits (take (i + 1) ds) ≡ true
all_more [] i lt h d = absurd (omega arith)
all_more (c ∷ cs) zero lt h d = and_from _ _ d refl
all_more (c ∷ cs) (suc i) lt h d =
    let p = and_parts (is_ascii_digit c) _ h in
    let e : suc (i + 1) ≡ suc i + 1 = omega arith in
    subst (λ n. all_ascii_digits (take n (c ∷ cs)) ≡ true) e (and_from _ _ p.0 (all_more cs i (omega arith) p.1 d))

-- what a digit is worth
pub worth : (c : ℕ) → is_ascii_digit c ≡ true → (48 ≤ c) × (c ≤ 57) × (digit_value c + 48 ≡ c)
worth c h = let r : IsInRange 48 57 c = grind (arith, nat_tests) in (r.0, r.1, digit_value_digit c r)

-- no needless zero in front
shortest : (text : List ℕ) (i : ℕ) → 0 < i → i ≤ length text → (1 < i → get_or text 0 0 ≡ 48 → ⊥) → is_shortest (take i text) ≡ true
shortest [] i some within plain = absurd (omega arith)
shortest (c ∷ cs) zero some within plain = absurd (omega arith)
shortest (c ∷ cs) (suc zero) some within plain = refl
shortest (c ∷ cs) (suc (suc k)) some within plain =
    let other : c ≡ 48 → ⊥ = plain (omega arith) in
    let unlike : nat_eq c 48 ≡ false = grind (arith, nat_tests) in
    rw unlike (or-true _)

pub read_number : (top : ℕ) (text : List ℕ) (i n : ℕ) → i ≤ length text → n ≤ top → all_ascii_digits (take i text) ≡ true → n ≡ digits_value 10 (take i text) → 0 < i → (1 < i → get_or text 0 0 ≡ 48 → ⊥) → number_between 0 top (take i text) ≡ Ok n
read_number top text i n within fits all is some plain =
    let size : length (take i text) ≡ i = length-take-le i text within in
    let low : digits_value 10 (take i text) ≤ top = subst (λ m. m ≤ top) is fits in
    let word : is_word (take i text) ≡ true = grind (arith, nat_tests) in
    let t : is_of_kind (Number 0 top) (take i text) ≡ true =
    and_from (is_number (take i text) && nat_le 0 (number (take i text))) (nat_le (number (take i text)) top)
    (and_from (is_number (take i text)) (nat_le 0 (number (take i text)))
    (and_from (is_word (take i text) && all_ascii_digits (take i text)) (is_shortest (take i text)) (and_from (is_word (take i text)) (all_ascii_digits (take i text)) word all) (shortest text i some within plain))
    (grind (arith, nat_tests)))
    (grind (arith, nat_tests)) in
    rw t (ap Ok (sym is))

-- what is known of a word that is a number
pub record IsNumber (most n : ℕ) (word : List ℕ) : Type 0 where
  pub taken : is_of_kind (Number 0 most) word ≡ true
  pub in_range : nat_le (number word) most ≡ true
  pub shape : is_number word && nat_le 0 (number word) ≡ true
  pub some : is_word word ≡ true
  pub digits : all_ascii_digits word ≡ true
  pub value : n ≡ number word

pub number_is : (most n : ℕ) (word : List ℕ) → number_between 0 most word ≡ Ok n → IsNumber most n word
number_is most n word h =
    let g = went (is_of_kind (Number 0 most) word) n (number word) BadNumber (sym h) in
    let a = and_parts (is_number word && nat_le 0 (number word)) (nat_le (number word) most) g.0 in
    let b = and_parts (is_number word) (nat_le 0 (number word)) a.0 in
    let c = and_parts (is_word word && all_ascii_digits word) (is_shortest word) b.0 in
    let d = and_parts (is_word word) (all_ascii_digits word) c.0 in
    record { taken = g.0; in_range = a.1; shape = a.0; some = d.0; digits = d.1; value = g.1 }

narrower : (word : List ℕ) (n most : ℕ) → number_between 0 18446744073709551615 word ≡ Ok n → n ≤ most → number_between 0 most word ≡ Ok n
narrower word n most h l =
    let k = number_is 18446744073709551615 n word h in
    let le : number word ≤ most = subst (λ m. m ≤ most) k.value l in
    let t : is_of_kind (Number 0 most) word ≡ true = and_from (is_number word && nat_le 0 (number word)) (nat_le (number word) most) k.shape (grind (arith, nat_tests)) in
    rw t (ap Ok (sym k.value))

pub narrowed : (text rest : List ℕ) (n most : ℕ) → StartsWith (λ word. number_between 0 18446744073709551615 word ≡ Ok n) text rest → n ≤ most → StartsWith (λ word. number_between 0 most word ≡ Ok n) text rest
narrowed text rest n most s l = record { front = s.front; cut = s.cut; is = narrower s.front n most s.is l }

pub widened : (text rest : List ℕ) (n : ℕ) → StartsWith (λ word. number_between 0 18446744073709551615 word ≡ Ok n) text rest → StartsWith (λ word. number_between 0 340282366920938463463374607431768211455 word ≡ Ok n) text rest
widened text rest n s =
    let k = number_is 18446744073709551615 n s.front s.is in
    let high = k.in_range in
    let fits : number s.front ≤ 18446744073709551615 = grind (arith, nat_tests) in
    let value = k.value in
    narrowed text rest n 340282366920938463463374607431768211455 s (omega (arith, fits, value))
