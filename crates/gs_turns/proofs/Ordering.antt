-- All stays, and where each stands.
use Rattle.std.proofs.Common.{◌≡◌, refl, ap, ◌∙◌, ℕ, zero, suc, ◌+◌, ◌<◌, ◌≤◌, Bool, true, false, cond, Option, None, Some, List, [], ◌∷◌, length, get_or, take, arith}
use Rattle.std.specs.List.{All}
use Rattle.std.proofs.lemmas.List.{length-append}
use Rattle.std.proofs.lemmas.List.Elements.{All-append, All-cons, All-tail}
use Rattle.gs_journal.specs.History.{History, on}
use Rattle.gs_timeline.specs.declared.stay.Stay.{Stay}
use Rattle.gs_timeline.specs.Stays.{all_stays, goes_on, joined, runs, seats, stay, stays}

-- a stay begins by one of the entries, on the CPU that it is of
abbrev IsWithin : ℕ → ℕ → Stay → Type 0
IsWithin m c s = (s.from ≤ m) × (s.cpu ≡ c)

joined_within : (m c : ℕ) (s : Stay) (later : List Stay) → IsWithin m c s → All (IsWithin m c) later → All (IsWithin m c) (joined s later)
joined_within m c s [] here all = All-cons (IsWithin m c) s [] here all
joined_within m c s (next ∷ later) here all = by_test (goes_on s next)
  where
    by_test : (b : Bool) → All (IsWithin m c) (cond b (record s { to = next.to } ∷ later) (s ∷ next ∷ later))
    by_test true = All-cons (IsWithin m c) (record s { to = next.to }) later here (All-tail (IsWithin m c) next later all)
    by_test false = All-cons (IsWithin m c) s (next ∷ later) here all

runs_within : (m c n : ℕ) (xs : List (Option ℕ)) → n + length xs ≤ m → All (IsWithin m c) (runs c n xs)
unfolding runs
runs_within m c n [] le = λ k d lt. absurd (omega arith)
runs_within m c n (None ∷ xs) le = runs_within m c (n + 1) xs (omega (arith, le))
runs_within m c n (Some t ∷ xs) le = joined_within m c (stay c t n (n + 1)) (runs c (n + 1) xs) (omega (arith, le), refl) (runs_within m c (n + 1) xs (omega (arith, le)))

length_seats : (h : History) (c n : ℕ) → length (seats h c n) ≡ n
unfolding seats
length_seats h c zero = refl
length_seats h c (suc n) = length-append (seats h c n) (on (take (suc n) h) c ∷ []) ∙ (ap (λ m. m + 1) (length_seats h c n) ∙ (let e : n + 1 ≡ suc n = omega arith in e))

abbrev pub IsIn : ℕ → ℕ → Stay → Type 0
IsIn m cpus s = (s.from ≤ m) × (s.cpu < cpus)

all_in_more : (m c : ℕ) (xs : List Stay) → All (IsWithin m c) xs → All (IsIn m (suc c)) xs
all_in_more m c xs all = λ k d lt. let both = all k d lt in let same : (get_or xs k d).cpu ≡ c = both.1 in (both.0, omega (arith, same))

all_in_wider : (m c : ℕ) (xs : List Stay) → All (IsIn m c) xs → All (IsIn m (suc c)) xs
all_in_wider m c xs all = λ k d lt. let both = all k d lt in let low : (get_or xs k d).cpu < c = both.1 in (both.0, omega (arith, low))

pub all_in : (h : History) (cpus : ℕ) → All (IsIn (length h) cpus) (all_stays h cpus)
unfolding all_stays
all_in h zero = λ k d lt. absurd (omega arith)
all_in h (suc c) =
    All-append (IsIn (length h) (suc c)) (all_stays h c) (stays h c) (all_in_wider (length h) c (all_stays h c) (all_in h c))
    (all_in_more (length h) c (stays h c) (runs_within (length h) c 0 (seats h c (length h)) (omega (arith, length_seats h c (length h)))))
