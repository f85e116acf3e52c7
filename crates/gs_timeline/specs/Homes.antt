-- Which CPU a thread may be on.
use Rattle.std.specs.Prelude.{◌≡◌, ◌≢◌, ◌==◌, ℕ, ◌+◌, Some, false, List, [], ◌∷◌, slice_get}
use Rattle.gs_timeline.specs.Lanes.{LaneOf, seat}

-- each thread that is on a CPU, of CPUs from one on, has that CPU in a list by tid
abbrev pub AreHome : List ℕ → ℕ → List LaneOf → Type 0
AreHome homes c [] = Unit {0}
AreHome homes c (l ∷ ls) = ((t : ℕ) → seat l ≡ Some t → slice_get homes t ≡ Some c) × AreHome homes (c + 1) ls

-- a thread is on none of these CPUs, but for one that may have it
abbrev pub IsApart : ℕ → ℕ → ℕ → List LaneOf → Type 0
IsApart cpu t c [] = Unit {0}
IsApart cpu t c (l ∷ ls) = ((cpu == c) ≡ false → seat l ≢ Some t) × IsApart cpu t (c + 1) ls
