-- Places in a block, by the remainder.
use Rattle.std.proofs.Common.{◌≡◌, ℕ, ◌+◌, ◌-◌, ◌*◌, ◌/◌, ◌%◌, ◌<◌, ◌≤◌, ◌⊎◌, inl, inr, ⊎_elim, ap, ◌∙◌, arith}
use Rattle.std.proofs.Math.Nat.{div-add-mod, mul-le-mul_left}
use Rattle.std.proofs.lemmas.Nat.{div-add-mod', mod-mul-add}
use Rattle.std.proofs.lemmas.Bool.{cases_lt}
use Rattle.gs_layout.specs.declared.wire.TheConstants.{ALIGNMENT}

-- a place further on, before the end of the block
pub mod_further : (c p j : ℕ) → p % c + j < c → (p + j) % c ≡ p % c + j
mod_further c p j lt =
    let e : p + j ≡ p / c * c + (p % c + j) = omega (arith, div-add-mod' p c) in
    ap (λ k. k % c) e ∙ mod-mul-add (p / c) c (p % c + j) lt

-- and one past its end
pub mod_past : (c p j : ℕ) → c ≤ p % c + j → j ≤ c → 0 < c → (p + j) % c ≡ p % c + j - c
mod_past c p j past most pos =
    let e : p + j ≡ (p / c + 1) * c + (p % c + j - c) = omega (arith, div-add-mod' p c, past) in
    ap (λ k. k % c) e ∙ mod-mul-add (p / c + 1) c (p % c + j - c) (omega (arith, past, most, pos))

-- so a place lies no further on in the block than as many bytes behind where the earlier one lies
pub mod_no_further : (c p j : ℕ) → 0 < c → p % c + j ≤ c → (p + j) % c ≤ p % c + j
mod_no_further c p j pos fits =
    ⊎_elim (λ (lt : p % c + j < c). omega (arith, mod_further c p j lt)) (λ (past : c ≤ p % c + j). omega (arith, mod_past c p j past (omega arith) pos)) (cases_lt (p % c + j) c)

-- behind the end of the block lies its start
pub mod_round : (c p : ℕ) → 0 < c → (p + (c - p % c)) % c ≡ 0
mod_round c p pos =
    let e : p + (c - p % c) ≡ (p / c + 1) * c + 0 = omega (arith, div-add-mod' p c) in
    ap (λ k. k % c) e ∙ mod-mul-add (p / c + 1) c 0 pos

-- the remainder of a multiple of 8
pub mod_whole : (c p : ℕ) → 0 < c → c % ALIGNMENT ≡ 0 → p % ALIGNMENT ≡ 0 → (p % c) % ALIGNMENT ≡ 0
mod_whole c p pos eights whole =
    let k : c ≡ ALIGNMENT * (c / ALIGNMENT) = omega arith in
    let e : (p / c) * c ≡ (p / c) * (ALIGNMENT * (c / ALIGNMENT)) = ap (λ n. (p / c) * n) k in
    omega (arith, div-add-mod' p c, e)

-- of two places at most a block apart, the bytes that are written at the later one lie beside the earlier one
pub apart : (c q u n : ℕ) → 0 < c → q < u → u + n ≤ q + c → u % c + n ≤ c → (q % c < u % c) ⊎ (u % c + n ≤ q % c)
apart c q u n pos before near fits =
    let eq = div-add-mod q c in
    let eu = div-add-mod u c in
    ⊎_elim inl
    (λ at. ⊎_elim
    (λ inside. ⊎_elim
    (λ later. let h : c * (q / c + 1) ≤ c * (u / c) = mul-le-mul_left c (omega arith) in absurd (omega (arith, eq, eu, h)))
    (λ (early : u / c ≤ q / c). let h : c * (u / c) ≤ c * (q / c) = mul-le-mul_left c early in absurd (omega (arith, eq, eu, h)))
    (cases_lt (q / c) (u / c)))
    inr
    (cases_lt (q % c) (u % c + n)))
    (cases_lt (q % c) (u % c))
