-- Entries that share a pixel.
use Rattle.std.proofs.Common.{ℕ, ◌+◌, ◌-◌, ◌*◌, ◌/◌, ◌≤◌, arith}
use Rattle.std.proofs.Math.Nat.{div-le_of_le-mul, mul-le-mul}
use Rattle.gs_timeline.specs.declared.part.TheConstants.{MOST_SINGLE, WIDEST}

-- so many pixels are enough for all entries
pub places_fit : (before count sharing : ℕ) → before ≤ count → count ≤ sharing * MOST_SINGLE → before / sharing ≤ MOST_SINGLE
places_fit before count sharing le most = div-le_of_le-mul sharing (omega (arith, le, most))

pub units_fit : (n unit : ℕ) → n ≤ MOST_SINGLE → unit ≤ WIDEST → n * unit ≤ MOST_SINGLE * WIDEST
units_fit n unit few narrow = mul-le-mul few narrow

-- and as many share one as are needed for that
pub shared_by : (count : ℕ) → count ≤ ((count - 1) / MOST_SINGLE + 1) * MOST_SINGLE
shared_by count = omega arith
