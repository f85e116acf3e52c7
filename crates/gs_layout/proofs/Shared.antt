-- What messages, slots and records have in common: numbers, flags, classes, CPUs, masks, names and zeros, as their bytes tell them and as tests say.
use Rattle.std.proofs.Common.{◌≡◌, Bool, true, false, cond, ℕ, zero, suc, ◌^◌, ◌<◌, ◌≤◌, Option, None, Some, List, [], ◌∷◌, ◌++◌, length, replicate, refl, ap, sym, ◌∙◌, inl, inr, arith}
use Rattle.std.specs.Prelude.{◌==◌, not, nat_le, nat_lt, if◌then◌else◌}
use Rattle.std.specs.List.{list_all}
use Rattle.std.proofs.lemmas.Bool.{and_from, and_parts, cases_Bool, cond-false, cond-true, eqb-true, le-leb, leb-true, lt-ltb, ltb-true}
use Rattle.std.proofs.lemmas.Bool.Decides.{nat_tests}
use Rattle.byteorder.specs.Endian.{little_bytes, little_number}
use Rattle.byteorder.specs.Numbers.{little_number-reads_back}
use Rattle.gs_status.specs.declared.mask.TheConstants.{MOST_CPUS}
use Rattle.gs_layout.specs.declared.cpu.TheConstants.{NO_CPU}
use Rattle.gs_layout.specs.declared.facts.Class.{Class}
use Rattle.gs_layout.specs.declared.facts.Class.TheVariants.{Zero, One}
use Rattle.gs_layout.specs.declared.message.TheConstants.{MOST_TIDS}
use Rattle.gs_layout.specs.declared.name.TheConstants.{MOST_NAME_LEN}
use Rattle.gs_layout.specs.Class.{class_number}
use Rattle.gs_layout.specs.Name.{is_name, is_name_byte}
use Rattle.gs_layout.specs.Reading.{are_zeros, class_numbered, cpu_numbered}
use Rattle.gs_layout.specs.Spelling.{AreNumbers, IsCpuOrNone, are_numbers, cpu_number, is_cpu_or_none, is_tid}

-- ---- numbers

-- a number is read from its bytes
pub reads : (n x : ℕ) → x < 256 ^ n → little_number n (little_bytes n x ++ []) ≡ x
reads n x lt = little_number-reads_back n x [] lt

pub tid_passes : (t : ℕ) → 1 ≤ t → t ≤ MOST_TIDS → is_tid t ≡ true
tid_passes t low high = and_from (nat_le 1 t) (nat_le t MOST_TIDS) (le-leb 1 t low) (le-leb t MOST_TIDS high)

pub tid_from : (t : ℕ) → is_tid t ≡ true → (1 ≤ t) × (t ≤ MOST_TIDS)
tid_from t e =
    let p = and_parts (nat_le 1 t) (nat_le t MOST_TIDS) e in
    (leb-true 1 t p.0, leb-true t MOST_TIDS p.1)

pub numbers_pass : (t s : ℕ) → AreNumbers t s → are_numbers t s ≡ true
numbers_pass t s h = and_from (is_tid t) (nat_le 1 s) (tid_passes t h.tid_low h.tid_high) (le-leb 1 s h.tseq_low)

pub numbers_from : (t s : ℕ) → are_numbers t s ≡ true → s < 2 ^ 32 → AreNumbers t s
numbers_from t s e high =
    let a = and_parts (is_tid t) (nat_le 1 s) e in
    let b = tid_from t a.0 in
    record { tid_low = b.0; tid_high = b.1; tseq_low = leb-true 1 s a.1; tseq_high = high }

-- a mask that has a CPU
pub mask_passes : (w m : ℕ) (rest : List ℕ) → 0 < m → m < 256 ^ w → not (little_number w (little_bytes w m ++ rest) == 0) ≡ true
mask_passes w m rest low high =
    let is : not (m == 0) ≡ true = grind (arith, nat_tests) in
    ap (λ (n : ℕ). not (n == 0)) (little_number-reads_back w m rest high) ∙ is

-- ---- flags

pub flag_back : (b : Bool) → (little_number 2 (little_bytes 2 (if b then 1 else 0) ++ []) == 1) ≡ b
flag_back true = refl
flag_back false = refl

pub flag_passes : (b : Bool) → nat_lt (little_number 2 (little_bytes 2 (if b then 1 else 0) ++ [])) 2 ≡ true
flag_passes true = refl
flag_passes false = refl

pub flag_again : (f : ℕ) → f < 2 → (if f == 1 then 1 else 0) ≡ f
flag_again f lt = elim (cases_Bool (f == 1)) [
  | inl same ↦ cond-true (f == 1) 1 0 same ∙ sym (eqb-true f 1 same)
  | inr other ↦ cond-false (f == 1) 1 0 other ∙ grind (arith, nat_tests)
]

-- ---- classes

pub class_back : (k : Class) → class_numbered (class_number k) ≡ k
class_back Zero = refl
class_back One = refl

pub class_passes : (k : Class) → nat_lt (class_number k) 2 ≡ true
class_passes Zero = refl
class_passes One = refl

pub class_again : (b : ℕ) → b < 2 → class_number (class_numbered b) ≡ b
class_again zero lt = refl
class_again (suc zero) lt = refl
class_again (suc (suc b)) lt = absurd (omega arith)

-- ---- CPUs, and none

pub cpu_below : (c : ℕ) → c < MOST_CPUS → cpu_numbered c ≡ Some c
cpu_below c lt =
    let other : (c == NO_CPU) ≡ false = grind (arith, nat_tests) in
    ap (λ (b : Bool). cond b None (Some c)) other

pub cpu_back : (o : Option ℕ) → IsCpuOrNone o → cpu_numbered (little_number 2 (little_bytes 2 (cpu_number o) ++ [])) ≡ o
cpu_back None fits = refl
cpu_back (Some c) fits = ap cpu_numbered (reads 2 c (omega arith)) ∙ cpu_below c fits

pub cpu_again : (n : ℕ) → cpu_number (cpu_numbered n) ≡ n
cpu_again n = elim (cases_Bool (n == NO_CPU)) [
  | inl same ↦ ap cpu_number (cond-true (n == NO_CPU) None (Some n) same) ∙ sym (eqb-true n NO_CPU same)
  | inr other ↦ ap cpu_number (cond-false (n == NO_CPU) None (Some n) other)
]

pub cpu_passes : (o : Option ℕ) → IsCpuOrNone o → is_cpu_or_none o ≡ true
cpu_passes None h = refl
cpu_passes (Some c) h = lt-ltb c MOST_CPUS h

pub cpu_from : (o : Option ℕ) → is_cpu_or_none o ≡ true → IsCpuOrNone o
cpu_from None e = tt
cpu_from (Some c) e = ltb-true c MOST_CPUS e

-- ---- names and zeros

pub name_short : (name : List ℕ) → is_name name ≡ true → length name ≤ MOST_NAME_LEN
name_short name h = leb-true (length name) MOST_NAME_LEN (and_parts (nat_le (length name) MOST_NAME_LEN) (list_all is_name_byte name) h).0

pub zeros_are : (xs : List ℕ) → are_zeros xs ≡ true → xs ≡ replicate (length xs) 0
zeros_are [] e = refl
zeros_are (x ∷ xs) e =
    let p = and_parts (x == 0) (are_zeros xs) e in
    λ i. eqb-true x 0 p.0 i ∷ zeros_are xs p.1 i

pub zeros_pass : (n : ℕ) → are_zeros (replicate n 0) ≡ true
zeros_pass zero = refl
zeros_pass (suc n) = zeros_pass n
