-- What memory is to its callers that is touched only as far as it was written.
use Rattle.std.specs.Prelude.{ℕ, ◌-◌, List, ◌++◌, length, replicate}

-- all its bytes, and how many of them were touched, from the first one on
pub record MemoryState : Type 0 where
  pub items : List ℕ
  pub touched : ℕ

-- so many bytes: behind those that were touched there are zeros
abbrev pub filled_up : List ℕ → ℕ → List ℕ
filled_up front size = front ++ replicate (size - length front) 0

-- memory of so many bytes that were never written
abbrev pub untouched : ℕ → MemoryState
untouched size = record { items = replicate size 0; touched = 0 }
