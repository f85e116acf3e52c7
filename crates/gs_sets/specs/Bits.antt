-- A set of numbers as words of bits: the number WORD * w + b is in it if bit b of word w is set.
use Rattle.std.specs.Prelude.{Bool, true, false, not, ℕ, ◌≡◌, ◌*◌, ◌/◌, ◌%◌, ◌^◌, ◌<◌, ◌≤◌, List, length, slice_index}
use Rattle.gs_status.specs.Masks.{has, has_none}
use Rattle.gs_sets.specs.declared.bits.TheConstants.{WORD}

-- whether a number is in the set: its bit is set in its word
unfoldable pub is_in : List ℕ → ℕ → Bool
is_in words n = has (slice_index words (n / WORD)) (n % WORD)

-- what is left of a number's word from the number on: its bit first
unfoldable pub left_of_word : List ℕ → ℕ → ℕ
left_of_word words n = slice_index words (n / WORD) / 2 ^ (n % WORD)

-- no number from this one on passes
abbrev pub IsNone : (ℕ → Bool) → ℕ → Type 0
IsNone test from = (n : ℕ) → from ≤ n → test n ≡ false

-- the first number from this one on that passes
pub record IsFirst (test : ℕ → Bool) (from n : ℕ) : Type 0 where
  pub after : from ≤ n
  pub passes : test n ≡ true
  pub none_before : (k : ℕ) → from ≤ k → k < n → test k ≡ false

-- the second set has the places of those words of the first that are not empty. It has room for the places of all of them, which are no more than
-- numbers of 32 bits need
pub record IsSummed (words sums : List ℕ) : Type 0 where
  pub same : (w : ℕ) → is_in sums w ≡ not (has_none (slice_index words w))
  pub room : length words ≤ WORD * length sums
  pub within : WORD * length words ≤ 2 ^ 32
