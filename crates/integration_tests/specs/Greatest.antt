-- The greatest number that passes a test.
use Rattle.std.proofs.Common.{◌≡◌, ℕ, zero, suc, Bool, true, false, Option, None, Some, ap, ◌∙◌, sym, refl}

-- the last number, if it passes, or else the one that was found before it
abbrev pub last_or : Bool → ℕ → Option ℕ → Option ℕ
last_or true c found = Some c
last_or false c found = found

-- the greatest number below n that passes
unfoldable pub greatest : (ℕ → Bool) → ℕ → Option ℕ
greatest test zero = None
greatest test (suc c) = last_or (test c) c (greatest test c)

-- the greatest passes
pub greatest_passes : (test : ℕ → Bool) (n c : ℕ) → greatest test n ≡ Some c → test c ≡ true
unfolding greatest
greatest_passes test zero c found = absurd cc
greatest_passes test (suc n) c found = by_last (greatest_passes test n c) (test n) refl found
  where
    by_last : (greatest test n ≡ Some c → test c ≡ true) → (b : Bool) → test n ≡ b → last_or b n (greatest test n) ≡ Some c → test c ≡ true
    by_last before true here e = let same : n ≡ c = cc in ap test (sym same) ∙ here
    by_last before false here e = before e
