-- What each step on a board tells the seat that takes it.
use Rattle.std.specs.Prelude.{◌≡◌, ℕ, ◌^◌, ◌<◌, List, [], ◌∷◌, ◌++◌}
use Rattle.atomic_table.specs.Table.{Step, Me}
use Rattle.gs_board.specs.declared.rule.View.{View}
use Rattle.gs_board.specs.declared.rule.Words.{Words}
use Rattle.gs_board.specs.Words.{EndsIn, NeverFalls, StartsWith, role_in}
use Rattle.gs_board.specs.Views.{view}

-- the seat knows these words then, and holds what it held
abbrev pub knowing : Me ℕ View → Words → Me ℕ View
knowing v ws = (view v.0.writes ws, v.1)

-- a list was read to this word, where it ends
abbrev pub ReadsTo : {A : Type 0} → List A → List A → A → Type 0
ReadsTo before after found = StartsWith after before × EndsIn after found

abbrev pub ReadsRole : Step ℕ → Me ℕ View → ℕ → Me ℕ View → Type 0
ReadsRole s v found w = (rs : List (ℕ × ℕ)) × (w ≡ knowing v (record v.0.words { roles = rs })) × ReadsTo v.0.words.roles rs (role_in found) × NeverFalls rs × (found < 2 ^ 48)

abbrev pub ReadsLow : Step ℕ → Me ℕ View → ℕ → Me ℕ View → Type 0
ReadsLow s v found w = (ls : List ℕ) × (w ≡ knowing v (record v.0.words { lows = ls })) × ReadsTo v.0.words.lows ls found

abbrev pub ReadsHigh : Step ℕ → Me ℕ View → ℕ → Me ℕ View → Type 0
ReadsHigh s v found w = (hs : List ℕ) × (w ≡ knowing v (record v.0.words { highs = hs })) × ReadsTo v.0.words.highs hs found

abbrev pub PublishesRole : Step ℕ → Me ℕ View → ℕ → Me ℕ View → Type 0
PublishesRole s v stored w = w ≡ knowing v (record v.0.words { roles = v.0.words.roles ++ role_in stored ∷ [] })

abbrev pub PublishesLow : Step ℕ → Me ℕ View → ℕ → Me ℕ View → Type 0
PublishesLow s v stored w = w ≡ knowing v (record v.0.words { lows = v.0.words.lows ++ stored ∷ [] })

abbrev pub PublishesHigh : Step ℕ → Me ℕ View → ℕ → Me ℕ View → Type 0
PublishesHigh s v stored w = w ≡ knowing v (record v.0.words { highs = v.0.words.highs ++ stored ∷ [] })
