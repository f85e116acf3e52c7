-- The words of a board, and which of them a seat knows.
use Rattle.std.specs.Prelude.{◌≡◌, ◌⊎◌, ℕ, ◌/◌, ◌%◌, ◌^◌, ◌≤◌, List, [], ◌∷◌, ◌++◌}
use Rattle.gs_status.specs.declared.bit_word.TheConstants.{WORD_BITS}
use Rattle.gs_board.specs.declared.words.Shown.{Shown}

-- what a word of generation and CPU says
abbrev pub role_in : ℕ → ℕ × ℕ
role_in word = (word / 65536, word % 65536)

-- the generation and the CPU that are shown
abbrev pub shown_role : Shown → ℕ × ℕ
shown_role s = (s.generation, s.cpu)

-- the first CPUs of a mask, as a word
abbrev pub low_word : ℕ → ℕ
low_word mask = mask % 2 ^ WORD_BITS

-- the other CPUs of a mask, as a word
abbrev pub high_word : ℕ → ℕ
high_word mask = mask / 2 ^ WORD_BITS

module _ {A : Type 0} where
  abbrev pub StartsWith : List A → List A → Type 0
  StartsWith xs front = (rest : List A) × (xs ≡ front ++ rest)

  abbrev pub EndsIn : List A → A → Type 0
  EndsIn xs x = (front : List A) × (xs ≡ front ++ x ∷ [])

  -- a word is published: it is appended unless it is the last one already
  abbrev pub Publishes : List A → A → List A → Type 0
  Publishes xs x ys = (EndsIn xs x × (ys ≡ xs)) ⊎ ((EndsIn xs x → ⊥) × (ys ≡ xs ++ x ∷ []))

-- generations never fall
abbrev pub NeverFalls : List (ℕ × ℕ) → Type 0
NeverFalls [] = Unit {0}
NeverFalls (x ∷ []) = Unit {0}
NeverFalls (x ∷ y ∷ ys) = (x.0 ≤ y.0) × NeverFalls (y ∷ ys)

-- the last generation is none above this
abbrev pub MayFollow : List (ℕ × ℕ) → ℕ → Type 0
MayFollow roles g = (last : ℕ × ℕ) × EndsIn roles last × (last.0 ≤ g)
