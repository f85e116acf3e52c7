-- One class of the queue.
use Rattle.std.specs.Prelude.{ℕ, List}

-- threads in line, the first one first, and how many there can be
pub record LineState : Type 0 where
  pub threads : List ℕ
  pub room : ℕ
