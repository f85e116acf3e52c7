-- How many slots came to each outcome, one slot more.
use Rattle.std.proofs.Common.{◌≡◌, ap, sym, ◌∙◌, ℕ, ◌+◌, ◌<◌, ◌==◌, ◌^◌, ◌-◌, ◌⊎◌, inl, inr, Bool, true, false, cond, List, [], ◌∷◌, ◌++◌, length, get_or, slice_set, min, arith}
use Rattle.std.specs.List.{count_by}
use Rattle.std.proofs.lemmas.Bool.{cases_eq}
use Rattle.std.proofs.lemmas.Bool.Decides.{nat_tests}
use Rattle.std.proofs.lemmas.List.{ext_get_or, get_or-set_other, get_or-set_same}
use Rattle.std.proofs.lemmas.List.FromFn.{get_or-map-range_with_len, length-map-range_with_len}
use Rattle.std.proofs.lemmas.List.Sums.{count_by-le-length, sum_by_push}
use Rattle.gs_kernel.specs.declared.landing.Landing.{Landing}
use Rattle.gs_layout.specs.Outcome.{outcome_number}
use Rattle.gs_layout.specs.declared.outcome.Outcome.{Outcome}
use Rattle.gs_layout.specs.declared.outcome.Outcome.TheVariants as outcomes
use Rattle.gs_tallies.specs.Accounts.{has_outcome, outcomes_of}

-- there are 15 outcomes
pub number_within : (x : Outcome) → outcome_number x < 15
number_within outcomes.Placed = omega arith
number_within outcomes.Gone = omega arith
number_within outcomes.Displaced = omega arith
number_within outcomes.NoThread = omega arith
number_within outcomes.Stale = omega arith
number_within outcomes.NotRunnable = omega arith
number_within outcomes.AlreadyPlaced = omega arith
number_within outcomes.NotAllowed = omega arith
number_within outcomes.CpuIsAgent = omega arith
number_within outcomes.CpuTaken = omega arith
number_within outcomes.CpuBusy = omega arith
number_within outcomes.SeqSpent = omega arith
number_within outcomes.HistoryFull = omega arith
number_within outcomes.Malformed = omega arith
number_within outcomes.GroupFailed = omega arith

pub landed_more : (xs : List Landing) (l : Landing) (cs : List ℕ) (o v k : ℕ) → length xs < 2 ^ 64 - 1 → length cs ≡ 15 → ((i : ℕ) → i < 15 → get_or cs i 0 ≡ count_by (has_outcome i) xs)
    → o ≡ outcome_number l.outcome → o < 15 → v ≡ min (get_or cs o 0 + 1) (2 ^ 64 - 1) → k < 15 → get_or (slice_set cs o v) k 0 ≡ count_by (has_outcome k) (xs ++ l ∷ [])
landed_more xs l cs o v k few long counts is within value lt = by_place (cases_eq k o)
  where
    more : count_by (has_outcome k) (xs ++ l ∷ []) ≡ count_by (has_outcome k) xs + cond (outcome_number l.outcome == k) 1 0
    more = sum_by_push (λ (x : Landing). cond (has_outcome k x) 1 0) xs l

    by_place : (k ≡ o) ⊎ (k ≡ o → ⊥) → get_or (slice_set cs o v) k 0 ≡ count_by (has_outcome k) (xs ++ l ∷ [])
    by_place (inl same) =
        let test : (outcome_number l.outcome == k) ≡ true = grind (arith, nat_tests, same, is) in
        let here : get_or (slice_set cs o v) k 0 ≡ v = ap (λ (i : ℕ). get_or (slice_set cs o v) i 0) same ∙ get_or-set_same cs o v 0 (omega (arith, long, within)) in
        let old : get_or cs o 0 ≡ count_by (has_outcome k) xs = ap (λ (i : ℕ). get_or cs i 0) (sym same) ∙ counts k lt in
        let less = count_by-le-length (has_outcome k) xs in
        let one : count_by (has_outcome k) (xs ++ l ∷ []) ≡ count_by (has_outcome k) xs + 1 = more ∙ ap (λ (b : Bool). count_by (has_outcome k) xs + cond b 1 0) test in
        omega (arith, here, value, old, less, few, one)
    by_place (inr ne) =
        let test : (outcome_number l.outcome == k) ≡ false = grind (arith, nat_tests, ne, is) in
        let one : count_by (has_outcome k) (xs ++ l ∷ []) ≡ count_by (has_outcome k) xs + 0 = more ∙ ap (λ (b : Bool). count_by (has_outcome k) xs + cond b 1 0) test in
        get_or-set_other cs o k v 0 ne ∙ (counts k lt ∙ (let same : count_by (has_outcome k) xs ≡ count_by (has_outcome k) xs + 0 = omega arith in same ∙ sym one))

-- counts that say so are those of the outcomes
pub landed : (ls : List Landing) (cs : List ℕ) → length cs ≡ 15 → ((o : ℕ) → o < 15 → get_or cs o 0 ≡ count_by (has_outcome o) ls) → cs ≡ outcomes_of ls
landed ls cs long counts =
    let f : ℕ → ℕ = λ (o : ℕ). count_by (has_outcome o) ls in
    ext_get_or 0 cs (outcomes_of ls) (long ∙ sym (length-map-range_with_len f 0 15))
    (λ i lt. counts i (omega (arith, lt, long)) ∙ sym (get_or-map-range_with_len f 0 15 i i 0 (omega (arith, lt, long)) (let same : 0 + i ≡ i = omega arith in same)))
