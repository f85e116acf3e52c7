-- How long records and PADs are.
use Rattle.std.proofs.Common.{◌≡◌, Bool, true, false, cond, ℕ, ◌+◌, ◌-◌, ◌%◌, ◌<◌, ◌≤◌, ◌⊎◌, inl, inr, ⊎_elim, [], length, refl, ap, sym, subst, ◌∙◌, arith}
use Rattle.std.specs.Prelude.{nat_le, ◌==◌}
use Rattle.std.proofs.lemmas.Bool.Decides.{nat_tests}
use Rattle.std.proofs.lemmas.Bool.{cases_lt}
use Rattle.std.proofs.lemmas.List.{length-replicate}
use Rattle.gs_ring.specs.declared.block.TheConstants.{LEAST_CAPACITY, MOST_CAPACITY}
use Rattle.gs_layout.specs.declared.wire.TheConstants.{ALIGNMENT, FRONT_LEN}
use Rattle.gs_layout.specs.declared.message.Message.{Message}
use Rattle.gs_layout.specs.Pad.{pad}
use Rattle.gs_layout.specs.Spelling.{IsSpellable}
use Rattle.gs_layout.proofs.Laws.{IsSize, size_message, spelled_length}
use Rattle.gs_ring.specs.Places.{is_capacity, need, pad_bytes, pad_len, record_len, rest}
use Rattle.gs_ring.proofs.Around.{mod_round, mod_whole}

-- a ring's capacity
pub record IsWide (c : ℕ) : Type 0 where
  pub least : LEAST_CAPACITY ≤ c
  pub most : c ≤ MOST_CAPACITY
  pub whole : c % ALIGNMENT ≡ 0

pub wide : (c : ℕ) → is_capacity c ≡ true → IsWide c
wide c h = record { least = grind (arith, nat_tests); most = grind (arith, nat_tests); whole = grind (arith, nat_tests) }

pub record_size : (m : Message) → IsSpellable m → IsSize (record_len m)
record_size m fits = subst IsSize (sym (spelled_length m)) (size_message m fits)

pad_by : (c w len : ℕ) (b : Bool) → nat_le len (rest c w) ≡ b
    → ((cond b 0 (rest c w) ≡ 0) × (len ≤ rest c w)) ⊎ ((cond b 0 (rest c w) ≡ rest c w) × (rest c w < len))
pad_by c w len true e = inl (refl, grind (arith, nat_tests))
pad_by c w len false e = inr (refl, grind (arith, nat_tests))

-- either there is room to the end of the block and no PAD, or the PAD fills it
pub pad_cases : (c w len : ℕ) → ((pad_len c w len ≡ 0) × (len ≤ rest c w)) ⊎ ((pad_len c w len ≡ rest c w) × (rest c w < len))
unfolding pad_len
pad_cases c w len = pad_by c w len (nat_le len (rest c w)) refl

-- the PAD ends where the block ends, or before
pub pad_fits : (c w len : ℕ) → 0 < c → w % c + pad_len c w len ≤ c
pad_fits c w len pos = ⊎_elim (λ h. omega (arith, h.0)) (λ h. omega (arith, h.0)) (pad_cases c w len)

-- a record behind its PAD does not pass the end of the block
pub record_fits : (c w len : ℕ) → 0 < c → len ≤ c → (w + pad_len c w len) % c + len ≤ c
record_fits c w len pos small =
    ⊎_elim
    (λ h. let e : (w + pad_len c w len) % c ≡ w % c = ap (λ k. (w + k) % c) h.0 ∙ ap (λ k. k % c) (omega arith) in omega (arith, e, h.1))
    (λ h. let e : (w + pad_len c w len) % c ≡ 0 = ap (λ k. (w + k) % c) h.0 ∙ mod_round c w pos in omega (arith, e))
    (pad_cases c w len)

pub pad_whole : (c w len : ℕ) → 0 < c → c % ALIGNMENT ≡ 0 → w % ALIGNMENT ≡ 0 → pad_len c w len % ALIGNMENT ≡ 0
pad_whole c w len pos eights whole =
    let m = mod_whole c w pos eights whole in
    ⊎_elim (λ h. omega (arith, h.0)) (λ h. omega (arith, h.0, m)) (pad_cases c w len)

-- a PAD is shorter than the record
pub pad_small : (c w len : ℕ) → 0 < len → pad_len c w len < len
pad_small c w len pos = ⊎_elim (λ h. omega (arith, h.0)) (λ h. omega (arith, h.0, h.1)) (pad_cases c w len)

pub need_is : (c w len : ℕ) → need c w len ≡ pad_len c w len + len
unfolding need
need_is c w len = refl

pub length-pad : (n : ℕ) → FRONT_LEN ≤ n → length (pad n) ≡ n
length-pad n h = omega (arith, length-replicate {A = ℕ} (n - FRONT_LEN) 0)

bytes_by : (n : ℕ) (b : Bool) → (n == 0) ≡ b → (n ≡ 0) ⊎ (FRONT_LEN ≤ n) → length (cond b [] (pad n)) ≡ n
bytes_by n true e h = grind (arith, nat_tests)
bytes_by n false e h = ⊎_elim (λ z. absurd (grind (arith, nat_tests))) (length-pad n) h

-- as many bytes as the PAD has
pub length-pad_bytes : (n : ℕ) → n % ALIGNMENT ≡ 0 → length (pad_bytes n) ≡ n
unfolding pad_bytes
length-pad_bytes n h = bytes_by n (n == 0) refl (⊎_elim (λ z. inl (omega arith)) (λ z. inr (omega arith)) (cases_lt n 1))

none_by : (n : ℕ) (b : Bool) → (n == 0) ≡ b → n ≡ 0 → cond b [] (pad n) ≡ []
none_by n true e z = refl
none_by n false e z = absurd (grind (arith, nat_tests))

pub pad_bytes_none : (n : ℕ) → n ≡ 0 → pad_bytes n ≡ []
unfolding pad_bytes
pad_bytes_none n z = none_by n (n == 0) refl z

some_by : (n : ℕ) (b : Bool) → (n == 0) ≡ b → 0 < n → cond b [] (pad n) ≡ pad n
some_by n true e z = absurd (grind (arith, nat_tests))
some_by n false e z = refl

pub pad_bytes_some : (n : ℕ) → 0 < n → pad_bytes n ≡ pad n
unfolding pad_bytes
pad_bytes_some n z = some_by n (n == 0) refl z
