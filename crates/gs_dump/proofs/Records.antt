-- A record is read back from its spelling, and bytes whose fields fit are the spelling of the record that they name. Versions differ in how many bytes
-- a mask has, and so in where the name begins.
use Rattle.std.proofs.Common.{◌≡◌, Bool, true, false, ℕ, ◌+◌, ◌-◌, ◌^◌, ◌<◌, ◌≤◌, Option, None, Some, List, ◌∷◌, ◌++◌, length, take, drop, replicate, refl, ap, sym, subst, ◌∙◌, inl, inr, arith, length-append}
use Rattle.std.specs.Prelude.{◌==◌, ◌&&◌, ◌||◌, not, nat_le, nat_lt, slice_index, IfSome}
use Rattle.std.proofs.Math.Seq.{drop-cons}
use Rattle.std.proofs.lemmas.Bool.{and_from, and_parts, cond-true, eqb-true, le-leb, leb-true, lt-ltb, ltb-true, or_cases, not-false}
use Rattle.std.proofs.lemmas.Bool.Decides.{nat_tests}
use Rattle.std.proofs.lemmas.List.{drop-drop, drop_at, take_at, length-drop, length-take, length-replicate, take-append-drop}
use Rattle.byteorder.specs.Endian.{little_bytes}
use Rattle.byteorder.specs.Numbers.{little_from-lt, little_number-reads_back}
use Rattle.gs_status.specs.declared.mask.TheConstants.{MOST_CPUS}
use Rattle.gs_status.specs.Masks.{has}
use Rattle.gs_layout.specs.declared.cpu.TheConstants.{NO_CPU}
use Rattle.gs_layout.specs.declared.name.TheConstants.{MOST_NAME_LEN}
use Rattle.gs_layout.specs.Name.{is_name, name_field}
use Rattle.gs_layout.specs.Reading.{are_zeros, cpu_numbered}
use Rattle.gs_layout.specs.Spelling.{IsCpuOrNone, IsMask, are_numbers, cpu_number}
use Rattle.gs_layout.proofs.Laws.{IsBytes, IsBytes-drop, at_place, class_again, class_back, class_passes, cpu_again, cpu_back, cpu_below, flag_again, flag_back, flag_passes, mask_passes, name_short, numbers_from, numbers_pass, reads, zeros_are, zeros_pass}
use Rattle.gs_dump.specs.declared.record.DumpRecord.{DumpRecord}
use Rattle.gs_dump.specs.declared.version.Version.{Version}
use Rattle.gs_dump.specs.declared.version.Version.TheVariants as versions
use Rattle.gs_dump.specs.declared.wire.TheConstants.{CLASS_AT, CPU_AT, FLAGS_AT, MASK_AT, NAME_LEN_AT, TID_AT, TSEQ_AT, VERSION_AT}
use Rattle.gs_dump.specs.Version.{mask_len, name_at, record_len, version_number}
use Rattle.gs_dump.specs.Record.{FitsIn, IsLive, record_spelling}
use Rattle.gs_dump.specs.Reading.{cpu_fits, cpu_number_in, facts_fit, flags_in, is_bad, is_other_version, mask_in, name_fits, name_in, name_len_in, numbers_fit, record_fits, record_in, tid_in, tseq_in, version_in}

-- the bytes of a mask are as many as the version gives it
length-mask : (v : Version) (m : ℕ) → length (little_bytes (mask_len v) m) ≡ mask_len v
length-mask versions.One m = refl
length-mask versions.Two m = refl

-- behind the mask stands the name
name_stands : (v : Version) (r : DumpRecord) → drop (name_at v) (record_spelling v r) ≡ name_field r.known.facts.name
name_stands v r =
    sym (drop-drop (mask_len v) MASK_AT (record_spelling v r)) ∙ drop_at (little_bytes (mask_len v) r.known.facts.mask) (name_field r.known.facts.name) (mask_len v) (length-mask v r.known.facts.mask)

mask_back : (v : Version) (r : DumpRecord) → FitsIn v r → mask_in v (record_spelling v r) ≡ r.known.facts.mask
mask_back v r f = little_number-reads_back (mask_len v) r.known.facts.mask (name_field r.known.facts.name) f

name_back : (v : Version) (r : DumpRecord) → name_in v (record_spelling v r) ≡ r.known.facts.name
name_back v r =
    let name = r.known.facts.name in
    ap (take (length name)) (name_stands v r) ∙ take_at name (replicate (MOST_NAME_LEN - length name) 0) (length name) refl

-- a record is read back from its spelling
pub record_back : (v : Version) (r : DumpRecord) → IsLive r → FitsIn v r → record_in v (record_spelling v r) ≡ r
record_back v r h f = λ i. record {
  tid = reads 4 r.tid (omega (arith, h.numbers.tid_high)) i;
  known = record {
    facts = record {
      runnable = flag_back r.known.facts.runnable i;
      mask = mask_back v r f i;
      class = class_back r.known.facts.class i;
      name = name_back v r i;
    };
    tseq = reads 4 r.known.tseq h.numbers.tseq_high i;
  };
  cpu = cpu_back r.cpu h.cpu i;
}

pub length-record_spelling : (v : Version) (r : DumpRecord) → IsLive r → length (record_spelling v r) ≡ record_len v
length-record_spelling v r h =
    let name = r.known.facts.name in
    let short = name_short name h.name in
    let mask = length-mask v r.known.facts.mask in
    let behind = length-append (little_bytes (mask_len v) r.known.facts.mask) (name_field name) in
    omega (arith, mask, behind, length-append name (replicate (MOST_NAME_LEN - length name) 0), length-replicate {A = ℕ} (MOST_NAME_LEN - length name) 0, short)

-- ---- the fields of a spelling fit

numbers_again : (v : Version) (r : DumpRecord) → IsLive r → numbers_fit (record_spelling v r) ≡ true
numbers_again v r h =
    let a : tid_in (record_spelling v r) ≡ r.tid = reads 4 r.tid (omega (arith, h.numbers.tid_high)) in
    let b : tseq_in (record_spelling v r) ≡ r.known.tseq = reads 4 r.known.tseq h.numbers.tseq_high in
    (λ i. are_numbers (a i) (b i)) ∙ numbers_pass r.tid r.known.tseq h.numbers

facts_again : (v : Version) (r : DumpRecord) → IsLive r → FitsIn v r → facts_fit v (record_spelling v r) ≡ true
facts_again v r h f =
    let text = record_spelling v r in
    let a = nat_lt (slice_index text CLASS_AT) 2 in
    let b = nat_lt (flags_in text) 2 in
    and_from (a && b) (not (mask_in v text == 0)) (and_from a b (class_passes r.known.facts.class) (flag_passes r.known.facts.runnable))
    (mask_passes (mask_len v) r.known.facts.mask (name_field r.known.facts.name) h.mask.0 f)

name_again : (v : Version) (r : DumpRecord) → IsLive r → name_fits v (record_spelling v r) ≡ true
name_again v r h =
    let text = record_spelling v r in
    let name = r.known.facts.name in
    let n = length name in
    let a = nat_le (name_len_in text) MOST_NAME_LEN in
    let b = is_name (name_in v text) in
    let zeros : drop (name_at v + n) text ≡ replicate (MOST_NAME_LEN - n) 0 =
    sym (drop-drop n (name_at v) text) ∙ ap (drop n) (name_stands v r) ∙ drop_at name (replicate (MOST_NAME_LEN - n) 0) n refl in
    and_from (a && b) (are_zeros (drop (name_at v + n) text))
    (and_from a b (le-leb n MOST_NAME_LEN (name_short name h.name)) (ap is_name (name_back v r) ∙ h.name))
    (ap are_zeros zeros ∙ zeros_pass (MOST_NAME_LEN - n))

-- a CPU, a flag and a mask
abbrev cpu_test : ℕ → Bool → ℕ → Bool
cpu_test cpu runs mask = cpu == NO_CPU || (nat_lt cpu MOST_CPUS && runs && has mask cpu)

cpu_tested : (o : Option ℕ) (b : Bool) (m : ℕ) → IsCpuOrNone o → IfSome o (λ c. (b ≡ true) × (has m c ≡ true)) → cpu_test (cpu_number o) b m ≡ true
cpu_tested None b m fits runs = refl
cpu_tested (Some c) b m fits runs =
    let other : (c == NO_CPU) ≡ false = grind (arith, nat_tests) in
    λ i. other i || (lt-ltb c MOST_CPUS fits i && runs.0 i && runs.1 i)

cpu_low : (o : Option ℕ) → IsCpuOrNone o → cpu_number o < 256 ^ 2
cpu_low None fits = omega arith
cpu_low (Some c) fits = omega (arith, fits)

cpu_again_in : (v : Version) (r : DumpRecord) → IsLive r → FitsIn v r → cpu_fits v (record_spelling v r) ≡ true
cpu_again_in v r h f =
    (λ i. cpu_test (reads 2 (cpu_number r.cpu) (cpu_low r.cpu h.cpu) i) (flag_back r.known.facts.runnable i) (mask_back v r f i))
    ∙ cpu_tested r.cpu r.known.facts.runnable r.known.facts.mask h.cpu h.runs

pub record_again : (v : Version) (r : DumpRecord) → IsLive r → FitsIn v r → record_fits v (record_spelling v r) ≡ true
record_again v r h f =
    let text = record_spelling v r in
    let a = numbers_fit text in
    let b = facts_fit v text in
    let c = name_fits v text in
    and_from (a && b && c) (cpu_fits v text) (and_from (a && b) c (and_from a b (numbers_again v r h) (facts_again v r h f)) (name_again v r h)) (cpu_again_in v r h f)

-- ---- bytes whose fields fit are a spelling

-- the tests of a record
pub record Fits (v : Version) (t : List ℕ) : Type 0 where
  pub numbers : are_numbers (tid_in t) (tseq_in t) ≡ true
  pub class : slice_index t CLASS_AT < 2
  pub flags : flags_in t < 2
  pub mask : not (mask_in v t == 0) ≡ true
  pub len : name_len_in t ≤ MOST_NAME_LEN
  pub name : is_name (name_in v t) ≡ true
  pub zeros : are_zeros (drop (name_at v + name_len_in t) t) ≡ true
  pub cpu : cpu_fits v t ≡ true

pub fits_from : (v : Version) (t : List ℕ) → record_fits v t ≡ true → Fits v t
fits_from v t e =
    let w = and_parts (numbers_fit t && facts_fit v t && name_fits v t) (cpu_fits v t) e in
    let x = and_parts (numbers_fit t && facts_fit v t) (name_fits v t) w.0 in
    let y = and_parts (numbers_fit t) (facts_fit v t) x.0 in
    let f = and_parts (nat_lt (slice_index t CLASS_AT) 2 && nat_lt (flags_in t) 2) (not (mask_in v t == 0)) y.1 in
    let g = and_parts (nat_lt (slice_index t CLASS_AT) 2) (nat_lt (flags_in t) 2) f.0 in
    let k = and_parts (nat_le (name_len_in t) MOST_NAME_LEN && is_name (name_in v t)) (are_zeros (drop (name_at v + name_len_in t) t)) x.1 in
    let j = and_parts (nat_le (name_len_in t) MOST_NAME_LEN) (is_name (name_in v t)) k.0 in
    record {
      numbers = y.0;
      class = ltb-true (slice_index t CLASS_AT) 2 g.0;
      flags = ltb-true (flags_in t) 2 g.1;
      mask = f.1;
      len = leb-true (name_len_in t) MOST_NAME_LEN j.0;
      name = j.1;
      zeros = k.1;
      cpu = w.1;
    }

-- what stands behind the mask is the name, and zeros
name_behind : (p : ℕ) (t : List ℕ) → length t ≡ p + MOST_NAME_LEN → name_len_in t ≤ MOST_NAME_LEN → are_zeros (drop (p + name_len_in t) t) ≡ true
    → (length (take (name_len_in t) (drop p t)) ≡ name_len_in t) × (name_field (take (name_len_in t) (drop p t)) ≡ drop p t)
name_behind p t size short zeros =
    let n = name_len_in t in
    let name = take n (drop p t) in
    let len : length name ≡ n = omega (arith, length-take n (drop p t), length-drop p t, short, size) in
    let count : length (drop (p + n) t) ≡ MOST_NAME_LEN - n = omega (arith, length-drop (p + n) t, size, short) in
    let rest : drop (p + n) t ≡ drop n (drop p t) = sym (drop-drop n p t) in
    let padded : replicate (MOST_NAME_LEN - n) 0 ≡ drop n (drop p t) = sym (zeros_are (drop (p + n) t) zeros ∙ ap (λ (k : ℕ). replicate k 0) count) ∙ rest in
    (len, ap (λ (k : ℕ). name ++ replicate (MOST_NAME_LEN - k) 0) len ∙ ap (λ (ys : List ℕ). name ++ ys) padded ∙ take-append-drop n (drop p t))

-- so the name has its zeros
pub padded_from : (v : Version) (t : List ℕ) → length t ≡ record_len v → Fits v t → name_field (name_in v t) ≡ drop (name_at v) t
padded_from v t size f = (name_behind (name_at v) t size f.len f.zeros).1

spelled : (v : Version) (t : List ℕ) → IsBytes t → length t ≡ record_len v → version_in t ≡ version_number v → Fits v t → record_spelling v (record_in v t) ≡ t
spelled v t fits size version f =
    let name = name_behind (name_at v) t size f.len f.zeros in
    let ver = little_bytes 2 (version_in t) in
    let cl = slice_index t CLASS_AT in
    let n = slice_index t NAME_LEN_AT in
    let tid = little_bytes 4 (tid_in t) in
    let tseq = little_bytes 4 (tseq_in t) in
    let cpu = little_bytes 2 (cpu_number_in t) in
    let flags = little_bytes 2 (flags_in t) in
    let mask = little_bytes (mask_len v) (mask_in v t) in
    (λ i. little_bytes 2 (sym version i) ++ (class_again cl f.class i ∷ (name.0 i ∷ (tid ++ (tseq ++ (little_bytes 2 (cpu_again (cpu_number_in t) i) ++ (little_bytes 2 (flag_again (flags_in t) f.flags i) ++ (mask ++ name.1 i))))))))
    ∙ ap (λ (r : List ℕ). ver ++ (cl ∷ (n ∷ (tid ++ (tseq ++ (cpu ++ (flags ++ r))))))) (at_place (mask_len v) MASK_AT t (omega (arith, size)) fits)
    ∙ ap (λ (r : List ℕ). ver ++ (cl ∷ (n ∷ (tid ++ (tseq ++ (cpu ++ r)))))) (at_place 2 FLAGS_AT t (omega (arith, size)) fits)
    ∙ ap (λ (r : List ℕ). ver ++ (cl ∷ (n ∷ (tid ++ (tseq ++ r))))) (at_place 2 CPU_AT t (omega (arith, size)) fits)
    ∙ ap (λ (r : List ℕ). ver ++ (cl ∷ (n ∷ (tid ++ r)))) (at_place 4 TSEQ_AT t (omega (arith, size)) fits)
    ∙ ap (λ (r : List ℕ). ver ++ (cl ∷ (n ∷ r))) (at_place 4 TID_AT t (omega (arith, size)) fits)
    ∙ ap (λ (r : List ℕ). ver ++ (cl ∷ r)) (sym (drop-cons t NAME_LEN_AT 0 (omega (arith, size))))
    ∙ ap (λ (r : List ℕ). ver ++ r) (sym (drop-cons t CLASS_AT 0 (omega (arith, size))))
    ∙ at_place 2 VERSION_AT t (omega (arith, size)) fits

-- a CPU is below the greatest count and in the mask, of a runnable thread
runs_from : (n f m : ℕ) → (n == NO_CPU || (nat_lt n MOST_CPUS && f == 1 && has m n)) ≡ true → IsCpuOrNone (cpu_numbered n) × IfSome (cpu_numbered n) (λ c. ((f == 1) ≡ true) × (has m c ≡ true))
runs_from n f m e =
    let P : Option ℕ → Type 0 = λ o. IsCpuOrNone o × IfSome o (λ c. ((f == 1) ≡ true) × (has m c ≡ true)) in
    elim (or_cases (n == NO_CPU) (nat_lt n MOST_CPUS && f == 1 && has m n) e) [
      | inl none ↦ subst P (sym (cond-true (n == NO_CPU) None (Some n) none)) (tt, tt)
      | inr some ↦ let a = and_parts (nat_lt n MOST_CPUS && f == 1) (has m n) some in
          let b = and_parts (nat_lt n MOST_CPUS) (f == 1) a.0 in
          let below : n < MOST_CPUS = ltb-true n MOST_CPUS b.0 in
          subst P (sym (cpu_below n below)) (below, (b.1, a.1))
    ]

mask_low : (v : Version) (t : List ℕ) → IsBytes t → mask_in v t < 256 ^ mask_len v
mask_low v t fits = little_from-lt 0 (mask_len v) (drop MASK_AT t) (IsBytes-drop MASK_AT t fits)

mask_high : (v : Version) (m : ℕ) → m < 256 ^ mask_len v → m < 2 ^ MOST_CPUS
mask_high versions.One m lt = omega (arith, lt)
mask_high versions.Two m lt = lt

mask_is : (v : Version) (t : List ℕ) → IsBytes t → not (mask_in v t == 0) ≡ true → IsMask (mask_in v t)
mask_is v t fits e =
    let high = mask_high v (mask_in v t) (mask_low v t fits) in
    let low : 0 < mask_in v t = grind (arith, nat_tests) in
    (low, high)

live : (v : Version) (t : List ℕ) → IsBytes t → Fits v t → IsLive (record_in v t)
live v t fits f =
    let runs = runs_from (cpu_number_in t) (flags_in t) (mask_in v t) f.cpu in
    record {
      numbers = numbers_from (tid_in t) (tseq_in t) f.numbers (little_from-lt 0 4 (drop TSEQ_AT t) (IsBytes-drop TSEQ_AT t fits));
      mask = mask_is v t fits f.mask;
      name = f.name;
      cpu = runs.0;
      runs = runs.1;
    }

-- bytes of a version whose fields fit are the spelling of the record that they name, which is in its ranges
pub record_sound : (v : Version) (t : List ℕ) → IsBytes t → length t ≡ record_len v → is_other_version v t ≡ false → is_bad v t ≡ false → (record_spelling v (record_in v t) ≡ t) × IsLive (record_in v t) × FitsIn v (record_in v t)
record_sound v t fits size version good =
    let f = fits_from v t (not-false (record_fits v t) good) in
    (spelled v t fits size (eqb-true (version_in t) (version_number v) (not-false (version_in t == version_number v) version)) f, live v t fits f, mask_low v t fits)
