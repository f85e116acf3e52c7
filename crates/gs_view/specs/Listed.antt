-- What is known of threads, as a list.
use Rattle.std.specs.Prelude.{ℕ, zero, suc, ◌+◌, Option, None, Some, List, [], ◌∷◌}
use Rattle.gs_layout.specs.declared.known.Known.{Known}
use Rattle.gs_layout.specs.View.{Look}

-- a tid with what is known of it, if something is, and then the rest
abbrev pub listed_one : ℕ → Option Known → List (ℕ × Known) → List (ℕ × Known)
listed_one t None rest = rest
listed_one t (Some k) rest = (t, k) ∷ rest

-- of so many tids, from one on, those of which something is known, each with that, in increasing order of tid
unfoldable pub listed : Look → ℕ → ℕ → List (ℕ × Known)
listed v t zero = []
listed v t (suc n) = listed_one t (v t) (listed v (t + 1) n)
