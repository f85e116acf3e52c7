-- Who was on each CPU, and for how long.
use Rattle.std.specs.Prelude.{Bool, ℕ, zero, suc, ◌+◌, ◌==◌, ◌&&◌, Option, None, Some, List, [], ◌∷◌, ◌++◌, if◌then◌else◌, length, take}
use Rattle.gs_journal.specs.History.{History, on}
use Rattle.gs_timeline.specs.declared.stay.Stay.{Stay}

-- a thread on a CPU behind each entry from one on and before another
abbrev pub stay : ℕ → ℕ → ℕ → ℕ → Stay
stay c t from to = record { cpu = c; tid = t; from = from; to = to }

-- whether a stay goes on as the next one: it is of the same thread, and begins where the other ends
abbrev pub goes_on : Stay → Stay → Bool
goes_on s next = (s.tid == next.tid) && (s.to == next.from)

-- a stay in front of later ones: one with the first of them, if it goes on as that
abbrev pub joined : Stay → List Stay → List Stay
joined s [] = s ∷ []
joined s (next ∷ later) = if goes_on s next then record s { to = next.to } ∷ later else s ∷ next ∷ later

-- what stays become if a thread is on the CPU behind one entry more: the last one goes on, or one begins
abbrev pub grown : ℕ → ℕ → ℕ → List Stay → List Stay
grown c t n [] = stay c t n (n + 1) ∷ []
grown c t n (s ∷ []) = joined s (stay c t n (n + 1) ∷ [])
grown c t n (s ∷ next ∷ later) = s ∷ grown c t n (next ∷ later)

-- and with who is there, if somebody is
abbrev pub then_stay : ℕ → ℕ → Option ℕ → List Stay → List Stay
then_stay c n None all = all
then_stay c n (Some t) all = grown c t n all

-- who is on a CPU behind each of the first entries, in order
unfoldable pub seats : History → ℕ → ℕ → List (Option ℕ)
seats h c zero = []
seats h c (suc n) = seats h c n ++ on (take (suc n) h) c ∷ []

-- the maximal runs of one thread in such a list, whose first element stands behind entry n
unfoldable pub runs : ℕ → ℕ → List (Option ℕ) → List Stay
runs c n [] = []
runs c n (None ∷ later) = runs c (n + 1) later
runs c n (Some t ∷ later) = joined (stay c t n (n + 1)) (runs c (n + 1) later)

-- the stays on a CPU, in order: maximal intervals with one thread on it
abbrev pub stays : History → ℕ → List Stay
stays h c = runs c 0 (seats h c (length h))

-- the stays on so many CPUs, those of each CPU behind those of the one before
unfoldable pub all_stays : History → ℕ → List Stay
all_stays h zero = []
all_stays h (suc c) = all_stays h c ++ stays h c
