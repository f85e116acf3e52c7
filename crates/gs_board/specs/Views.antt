-- The rule of a board: what its words are, and what its seats know.
use Rattle.std.specs.Prelude.{◌≡◌, ℕ, ◌^◌, ◌<◌, Bool, true, false, List, [], ◌∷◌}
use mathlib.Core.Option.{some}
use lib.ListN.{get_elem?}
use Rattle.atomic_table.specs.Table.{State}
use Rattle.atomic_table.specs.Seated.{TableId}
use Rattle.gs_board.specs.declared.rule.View.{View}
use Rattle.gs_board.specs.declared.rule.Words.{Words}
use Rattle.gs_board.specs.Words.{EndsIn, NeverFalls, StartsWith, role_in}

-- the name of no board
abbrev pub no_board : TableId
no_board = record { words = 0; slots = 0; views_name = 0; atom = 0; block = 0; offset = 0; slot_names = [] }

abbrev pub words : List (ℕ × ℕ) → List ℕ → List ℕ → Words
words rs ls hs = record { roles = rs; lows = ls; highs = hs }

-- the words that a board begins with
abbrev pub opening_words : ℕ × ℕ → ℕ → ℕ → Words
opening_words r l h = words (r ∷ []) (l ∷ []) (h ∷ [])

abbrev pub view : Bool → Words → View
view may_write ws = record { writes = may_write; words = ws }

-- what a seat knows that has read nothing
abbrev pub nothing_read : Words
nothing_read = words [] [] []

abbrev pub newcomer : View
newcomer = view false nothing_read

-- each list begins with the other's
abbrev pub Begins : Words → Words → Type 0
Begins all front = StartsWith all.roles front.roles × StartsWith all.lows front.lows × StartsWith all.highs front.highs

-- the seat that publishes knows all that was published, and each other one a beginning of it
abbrev pub Fits : ℕ → Words → ℕ → View → Type 0
Fits writer published id v = (v.writes ≡ true → (id ≡ writer) × (v.words ≡ published)) × Begins published v.words

-- the three words are the last that were published
pub record AreLast (published : Words) (ws : List ℕ) : Type 0 where
  pub role : ℕ
  pub low : ℕ
  pub high : ℕ
  pub are : ws ≡ role ∷ low ∷ high ∷ []
  pub role_is : EndsIn published.roles (role_in role)
  pub low_is : EndsIn published.lows low
  pub high_is : EndsIn published.highs high
  pub narrow : role < 2 ^ 48

-- what is so between any two steps
pub record IsKept (s : State ℕ View) : Type 0 where
  pub writer : ℕ
  pub published : Words
  pub last : AreLast published s.words
  pub rises : NeverFalls published.roles
  pub fits : (id : ℕ) (v : View) → get_elem? s.views id ≡ some v → Fits writer published id v

abbrev pub Holds : ℕ × ℕ × ℕ → State ℕ View → Type 0
Holds k s = IsKept s

abbrev pub first_view : ℕ × ℕ × ℕ → View
first_view k = view true (opening_words (role_in k.0) k.1 k.2)
