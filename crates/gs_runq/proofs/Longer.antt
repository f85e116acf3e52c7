-- A table that grows place by place.
use Rattle.std.proofs.Common.{◌≡◌, ℕ, ◌+◌, ◌-◌, ◌<◌, ◌≤◌, List, length}
use Rattle.std.specs.Prelude.{slice_index}

-- on the way to a thread's place: what was there stays, and each further place leads to itself
pub record GrowsLonger (xs ys : List ℕ) (t : ℕ) : Type 0 where
  pub least : length xs ≤ length ys
  pub most : length ys ≤ length xs + (t + 1 - length xs)
  pub kept : (i : ℕ) → i < length xs → slice_index ys i ≡ slice_index xs i
  pub own : (i : ℕ) → length xs ≤ i → i < length ys → slice_index ys i ≡ i
