-- Things that are linked to one another by ranks, which are counted from the last thing.
use Rattle.std.specs.Prelude.{◌≡◌, ◌==◌, ◌<◌, ◌≤◌, ◌-◌, ℕ, List, [], ◌∷◌, Some, get_or, length}
use Rattle.std.specs.List.{filter, slice_get}
use Rattle.gs_tallies.specs.declared.chains.Chains.{Chains}

-- from a rank on these things are linked: the first has that rank, and the others follow from the rank that is next to it. At 0 there are none
abbrev pub Follows : {A : Type 0} → List A → List ℕ → ℕ → List A → Type 0
Follows things nexts r [] = r ≡ 0
Follows things nexts r (x ∷ xs) = (0 < r) × (slice_get things (length things - r) ≡ Some x) × Follows things nexts (get_or nexts (r - 1) 0) xs

-- of so many things each has a next one of a lower rank, or none. Each group begins with one of them, or with none
pub record AreRanks (many : ℕ) (firsts nexts : List ℕ) : Type 0 where
  pub long : length nexts ≡ many
  pub within : (g : ℕ) → g < length firsts → get_or firsts g 0 ≤ many
  pub falls : (k : ℕ) → k < many → get_or nexts k 0 ≤ k

-- each of so many groups leads to its things, in order
pub record AreLinked {A : Type 0} (group : A → ℕ) (things : List A) (count : ℕ) (c : Chains) : Type 0 where
  pub groups : length c.firsts.items ≡ count
  pub ranks : AreRanks (length things) c.firsts.items c.nexts.items
  pub lead : (g : ℕ) → g < count → Follows things c.nexts.items (get_or c.firsts.items g 0) (filter (λ (x : A). group x == g) things)
