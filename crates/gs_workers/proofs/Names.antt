-- The names of the threads that workers create.
use Rattle.std.proofs.Common.{◌≡◌, refl, ◌∙◌, ℕ, ◌<◌, ◌≤◌, ◌+◌, true, List, ◌++◌, codes, length, length-append, arith, nat_le}
use Rattle.std.proofs.lemmas.Bool.{and_from}
use Rattle.std.proofs.lemmas.Bool.Decides.{nat_tests}
use Rattle.std.proofs.lemmas.Fmt.{digits_decimal, length-decimal-le}
use Rattle.std.proofs.lemmas.List.Folds.{list_all-append}
use Rattle.std.proofs.lemmas.Str.Parse.{numerals_by_value, tells_all_ascii_digits}
use Rattle.std.specs.Prelude.{decimal}
use Rattle.std.specs.List.{list_all}
use Rattle.std.specs.Str.{all_ascii_digits}
use Rattle.gs_layout.specs.Name.{is_name, is_name_byte}
use Rattle.gs_script.proofs.PlainWords.{digits_printed}
use Rattle.gs_workers.specs.Work.{name_of}

-- the digits of a small number may stand in a name
printed : (n : ℕ) → n < 1000 → list_all is_name_byte (decimal n) ≡ true
printed n h = digits_printed (decimal n) (digits_decimal (numerals_by_value (λ ds. all_ascii_digits ds ≡ true) tells_all_ascii_digits) n (omega arith))

both : (xs ys : List ℕ) → list_all is_name_byte xs ≡ true → list_all is_name_byte ys ≡ true → list_all is_name_byte (xs ++ ys) ≡ true
both xs ys h k = list_all-append is_name_byte xs ys ∙ and_from (list_all is_name_byte xs) (list_all is_name_byte ys) h k

short : (n : ℕ) → n < 1000 → length (decimal n) ≤ 3
short n h = length-decimal-le 3 n (omega arith) h (omega arith)

-- so do all of a thread's, and they are not too many
pub named : (worker turn : ℕ) → worker < 1000 → turn < 1000 → is_name (name_of worker turn) ≡ true
named worker turn w t =
    let first : List ℕ = codes "w" ++ decimal worker in
    let middle : List ℕ = first ++ codes "." in
    let whole : List ℕ = middle ++ decimal turn in
    let all : list_all is_name_byte whole ≡ true = both middle (decimal turn) (both first (codes ".") (both (codes "w") (decimal worker) refl (printed worker w)) refl) (printed turn t) in
    let first_long : length first ≡ 1 + length (decimal worker) = length-append (codes "w") (decimal worker) in
    let middle_long : length middle ≡ length first + 1 = length-append first (codes ".") in
    let long : length whole ≡ length middle + length (decimal turn) = length-append middle (decimal turn) in
    let few : length whole ≤ 16 = omega (arith, first_long, middle_long, long, short worker w, short turn t) in
    and_from (nat_le (length whole) 16) (list_all is_name_byte whole) (grind (arith, nat_tests, few)) all
