-- What the tests of a message's fields say.
use Rattle.std.proofs.Common.{◌≡◌, true, false, cond, ℕ, ◌<◌, Option, None, Some, List, refl, ap, sym, subst, ◌∙◌, inl, inr, arith}
use Rattle.std.specs.Prelude.{◌==◌, ◌&&◌, ◌||◌, not, nat_lt, unwrap_or}
use Rattle.std.proofs.lemmas.Bool.{and_from, and_parts, cases_Bool, cond-false, cond-true, eqb-true, ltb-true, or_cases}
use Rattle.gs_layout.specs.declared.cpu.TheConstants.{NO_CPU}
use Rattle.gs_layout.specs.declared.wire.TheConstants.{CPU_AT, FLAGS_AT, TID_AT, TSEQ_AT}
use Rattle.gs_status.specs.declared.mask.TheConstants.{MOST_CPUS}
use Rattle.gs_layout.specs.declared.kind.Kind.{Kind}
use Rattle.gs_layout.specs.declared.kind.Kind.TheVariants as kinds
use Rattle.gs_layout.specs.declared.message.Change.TheVariants.{Affinity}
use Rattle.gs_layout.specs.Kind.{kind_number}
use Rattle.gs_layout.specs.Reading.{cpu_numbered, kind_numbered, number_at}
use Rattle.gs_layout.specs.Spelling.{IsCpuOrNone, IsMask, IsSpellableChange}
use Rattle.gs_reader.specs.Reading.{cpu_fits, fields_fit, flags_fit, more_fits, numbers_fit}

-- the four tests of a message
pub record Fit (k : Kind) (text : List ℕ) : Type 0 where
  pub numbers : numbers_fit k (number_at TID_AT 4 text) (number_at TSEQ_AT 4 text) ≡ true
  pub cpu : cpu_fits k (number_at CPU_AT 2 text) ≡ true
  pub flags : flags_fit k (number_at CPU_AT 2 text) (number_at FLAGS_AT 2 text) ≡ true
  pub more : more_fits k text ≡ true

pub fit_parts : (k : Kind) (text : List ℕ) → fields_fit k text ≡ true → Fit k text
fit_parts k text e =
    let n = numbers_fit k (number_at TID_AT 4 text) (number_at TSEQ_AT 4 text) in
    let c = cpu_fits k (number_at CPU_AT 2 text) in
    let f = flags_fit k (number_at CPU_AT 2 text) (number_at FLAGS_AT 2 text) in
    let a = and_parts (n && c && f) (more_fits k text) e in
    let b = and_parts (n && c) f a.0 in
    let d = and_parts n c b.0 in
    record { numbers = d.0; cpu = d.1; flags = b.1; more = a.1 }

pub fit_from : (k : Kind) (text : List ℕ) → Fit k text → fields_fit k text ≡ true
fit_from k text h =
    let n = numbers_fit k (number_at TID_AT 4 text) (number_at TSEQ_AT 4 text) in
    let c = cpu_fits k (number_at CPU_AT 2 text) in
    let f = flags_fit k (number_at CPU_AT 2 text) (number_at FLAGS_AT 2 text) in
    and_from (n && c && f) (more_fits k text) (and_from (n && c) f (and_from n c h.numbers h.cpu) h.flags) h.more

chain : (n c : ℕ) (x k : Kind) (rest : Option Kind) → kind_number x ≡ c → cond (n == c) (Some x) rest ≡ Some k → (rest ≡ Some k → n ≡ kind_number k) → n ≡ kind_number k
chain n c x k rest is e more = elim (cases_Bool (n == c)) [
  | inl same ↦ eqb-true n c same ∙ sym is ∙ ap (λ (o : Option Kind). kind_number (unwrap_or o kinds.TimerTick)) (sym (cond-true (n == c) (Some x) rest same) ∙ e)
  | inr other ↦ more (sym (cond-false (n == c) (Some x) rest other) ∙ e)
]

-- the number of a kind that a number stands for is that number
pub numbered_is : (n : ℕ) (k : Kind) → kind_numbered n ≡ Some k → n ≡ kind_number k
numbered_is n k e =
    chain n 1 kinds.Created k _ refl e (λ e. chain n 2 kinds.Blocked k _ refl e (λ e. chain n 3 kinds.Wakeup k _ refl e (λ e. chain n 4 kinds.Preempted k _ refl e (λ e. chain n 5 kinds.Yield k _ refl e (λ e. chain n 6 kinds.Dead k _ refl e (λ e. chain n 7 kinds.Affinity k _ refl e (λ e. chain n 8 kinds.TimerTick k _ refl e (λ e. absurd cc))))))))

below : (n : ℕ) → (nat_lt n MOST_CPUS || n == NO_CPU) ≡ true → (n == NO_CPU) ≡ false → n < MOST_CPUS
below n e other = elim (or_cases (nat_lt n MOST_CPUS) (n == NO_CPU) e) [
  | inl lt ↦ ltb-true n MOST_CPUS lt
  | inr same ↦ absurd cc
]

pub cpu_or_none : (n : ℕ) → (nat_lt n MOST_CPUS || n == NO_CPU) ≡ true → IsCpuOrNone (cpu_numbered n)
cpu_or_none n e = elim (cases_Bool (n == NO_CPU)) [
  | inl same ↦ subst IsCpuOrNone (sym (cond-true (n == NO_CPU) None (Some n) same)) tt
  | inr other ↦ subst IsCpuOrNone (sym (cond-false (n == NO_CPU) None (Some n) other)) (below n e other)
]

-- a flag is 0 or 1
-- the flag of a new mask
pub flag_low : (n f : ℕ) → (f == 0 || (f == 1 && not (n == NO_CPU))) ≡ true → f < 2
flag_low n f e = elim (or_cases (f == 0) (f == 1 && not (n == NO_CPU)) e) [
  | inl none ↦ let z = eqb-true f 0 none in omega (arith, z)
  | inr one ↦ let z = eqb-true f 1 (and_parts (f == 1) (not (n == NO_CPU)) one).0 in omega (arith, z)
]

flag_none : (n f : ℕ) → (f == 0 || (f == 1 && not (n == NO_CPU))) ≡ true → (n == NO_CPU) ≡ true → (f == 1) ≡ false
flag_none n f e same = elim (or_cases (f == 0) (f == 1 && not (n == NO_CPU)) e) [
  | inl none ↦ let z = eqb-true f 0 none in ap (λ (k : ℕ). k == 1) z
  | inr one ↦ let unset = (and_parts (f == 1) (not (n == NO_CPU)) one).1 in absurd (let g : not true ≡ true = sym (ap not same) ∙ unset in cc)
]

pub affinity_fits : (n f m : ℕ) → (nat_lt n MOST_CPUS || n == NO_CPU) ≡ true → (f == 0 || (f == 1 && not (n == NO_CPU))) ≡ true → IsMask m → IsSpellableChange (Affinity (cpu_numbered n) (f == 1) m)
affinity_fits n f m cpu flags mask = elim (cases_Bool (n == NO_CPU)) [
  | inl same ↦ subst (λ (c : Option ℕ). IsSpellableChange (Affinity c (f == 1) m)) (sym (cond-true (n == NO_CPU) None (Some n) same)) (mask, flag_none n f flags same)
  | inr other ↦ subst (λ (c : Option ℕ). IsSpellableChange (Affinity c (f == 1) m)) (sym (cond-false (n == NO_CPU) None (Some n) other)) (mask, below n cpu other)
]
