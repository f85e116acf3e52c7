-- The live rows that a walk shows.
use Rattle.std.proofs.Common.{◌≡◌, refl, ap, sym, ◌∙◌, ℕ, zero, suc, ◌+◌, ◌-◌, ◌<◌, ◌≤◌, ◌⊎◌, inl, inr, get_or, Bool, true, false, cond, Option, None, Some, slice_get, List, [], ◌∷◌, length, arith, ◌&&◌, nat_le}
use Rattle.std.specs.List.{filter, filter_map, cons_option, enumerate_from, range_with_len}
use Rattle.gs_threads.specs.Table.{row_of}
use Rattle.gs_threads.proofs.Lookups.{row_suc, row_there}
use Rattle.std.proofs.lemmas.Option.{slice_get_past}
use Rattle.std.proofs.lemmas.Bool.{cases_lt}
use Rattle.std.proofs.lemmas.Bool.Decides.{nat_tests}
use Rattle.gs_threads.specs.declared.row.ThreadRow.{ThreadRow}
use Rattle.gs_threads.specs.Rows.{is_live}
use Rattle.gs_threads.specs.Live.{live_one, is_live_row, live_from, lives, row_lives, IsLiveSet}
use Rattle.gs_sets.specs.Bits.{is_in, IsFirst, IsNone}

-- the live rows from a tid on, of rows whose first is of the thread n
abbrev rows_from : ℕ → ℕ → List ThreadRow → List (ℕ × ThreadRow)
rows_from t n rows = filter (λ p. nat_le t p.0 && is_live_row p) (enumerate_from n rows)

-- a list behind a row that is shown if a test holds
abbrev shown_if : Bool → ℕ × ThreadRow → List (ℕ × ThreadRow) → List (ℕ × ThreadRow)
shown_if b p w = cond b (p ∷ w) w

-- from a tid on that the first row has reached already
from_here : (n t : ℕ) (rows : List ThreadRow) → t ≤ n → rows_from t n rows ≡ filter is_live_row (enumerate_from n rows)
from_here n t [] le = refl
from_here n t (row ∷ rows) le =
    let reached : nat_le t n ≡ true = grind (arith, nat_tests) in
    ap (shown_if (nat_le t n && is_live row.record) (n, row)) (from_here (n + 1) t rows (omega arith))
    ∙ ap (λ b. shown_if (b && is_live row.record) (n, row) (filter is_live_row (enumerate_from (n + 1) rows))) reached

-- a row is not shown that is before the tid, or whose thread is dead
not_shown : (from n : ℕ) (row : ThreadRow) → (from ≤ n → is_live row.record ≡ false) → (nat_le from n && is_live row.record) ≡ false
not_shown from n row dead = by_place (cases_lt n from)
  where
    by_place : (n < from) ⊎ (from ≤ n) → (nat_le from n && is_live row.record) ≡ false
    by_place (inl lt) = let not_yet : nat_le from n ≡ false = grind (arith, nat_tests) in ap (λ b. b && is_live row.record) not_yet
    by_place (inr le) = let reached : nat_le from n ≡ true = grind (arith, nat_tests) in ap (λ b. b && is_live row.record) reached ∙ dead le

-- if none of the rows from a tid on lives, there is nothing to show
none_from : (g : ℕ → Option ThreadRow) (from n : ℕ) (rows : List ThreadRow) → ((k : ℕ) → slice_get rows k ≡ g (n + k))
    → ((t : ℕ) → from ≤ t → row_lives (g t) ≡ false) → rows_from from n rows ≡ []
none_from g from n [] same none = refl
none_from g from n (row ∷ rows) same none =
    let here : Some row ≡ g n = same 0 ∙ ap g (let e : n + 0 ≡ n = omega arith in e) in
    ap (λ b. shown_if b (n, row) (rows_from from (n + 1) rows)) (not_shown from n row (λ le. ap row_lives here ∙ none n le))
    ∙ none_from g from (n + 1) rows (λ k. same (suc k) ∙ ap g (let e : n + suc k ≡ n + 1 + k = omega arith in e)) none

-- the first live row from a tid on is shown first, and then those from the tid behind it on
first_from : (g : ℕ → Option ThreadRow) (from r : ℕ) (row : ThreadRow) (n : ℕ) (rows : List ThreadRow) → ((k : ℕ) → slice_get rows k ≡ g (n + k))
    → n ≤ r → from ≤ r → ((t : ℕ) → from ≤ t → t < r → row_lives (g t) ≡ false) → g r ≡ Some row → is_live row.record ≡ true
    → rows_from from n rows ≡ (r, row) ∷ rows_from (r + 1) n rows
first_from g from r row n [] same le after none there live =
    let past : slice_get [] (r - n) ≡ g r = same (r - n) ∙ ap g (let e : n + (r - n) ≡ r = omega arith in e) in
    absurd cc
first_from g from r row n (row' ∷ rows) same le after none there live =
    by_place (cases_lt n r)
    (λ lt.
    first_from g from r row (n + 1) rows (λ k. same (suc k) ∙ ap g (let e : n + suc k ≡ n + 1 + k = omega arith in e)) (omega arith) after none there live)
    (let here : Some row' ≡ g n = same 0 ∙ ap g (let e : n + 0 ≡ n = omega arith in e) in here)
  where
    -- behind the first, the row of thread n is not shown again
    passed : rows_from (r + 1) n (row' ∷ rows) ≡ rows_from (r + 1) (n + 1) rows
    passed = ap (λ b. shown_if b (n, row') (rows_from (r + 1) (n + 1) rows)) (not_shown (r + 1) n row' (λ le'. absurd (omega (arith, le', le))))

    by_place : (n < r) ⊎ (r ≤ n) → (n < r → rows_from from (n + 1) rows ≡ (r, row) ∷ rows_from (r + 1) (n + 1) rows) → Some row' ≡ g n
        → rows_from from n (row' ∷ rows) ≡ (r, row) ∷ rows_from (r + 1) n (row' ∷ rows)
    by_place (inl lt) more here =
        ap (λ b. shown_if b (n, row') (rows_from from (n + 1) rows)) (not_shown from n row' (λ le'. ap row_lives here ∙ none n le' lt))
        ∙ (more lt ∙ ap (λ w. (r, row) ∷ w) (sym passed))
    by_place (inr ge) more here =
        let e : n ≡ r = omega (arith, ge, le) in
        let is : row' ≡ row = let s : Some row' ≡ Some row = here ∙ (ap g e ∙ there) in cc in
        let shows : (nat_le from n && is_live row'.record) ≡ true =
        let at : nat_le from n ≡ true = let start = after in grind (arith, nat_tests) in
        ap (λ b. b && is_live row'.record) at ∙ (ap (λ (w : ThreadRow). is_live w.record) is ∙ live)
        in
        ap (λ b. shown_if b (n, row') (rows_from from (n + 1) rows)) shows
        ∙ (ap (λ m. (m, row') ∷ rows_from from (n + 1) rows) e
        ∙ (ap (λ w. (r, w) ∷ rows_from from (n + 1) rows) is
        ∙ (ap (λ w. (r, row) ∷ w) (from_here (n + 1) from rows (omega (arith, after, ge)) ∙ sym (from_here (n + 1) (r + 1) rows (omega (arith, ge))))
        ∙ ap (λ w. (r, row) ∷ w) (sym passed))))

-- there is no row for tid 0, nor past the end
pub lives_within : (rows : List ThreadRow) (t : ℕ) → lives rows t ≡ true → (0 < t) × (t ≤ length rows)
unfolding lives row_of
lives_within rows zero live = absurd cc
lives_within rows (suc n) live = by_place (cases_lt n (length rows))
  where
    by_place : (n < length rows) ⊎ (length rows ≤ n) → (0 < suc n) × (suc n ≤ length rows)
    by_place (inl lt) = (omega arith, omega (arith, lt))
    by_place (inr past) =
        let away : row_lives (slice_get rows n) ≡ false = ap row_lives (slice_get_past rows n past) in
        let here = live in
        absurd cc

-- a walk from a tid on shows nothing if no thread from there on lives
pub walk_none : (rows : List ThreadRow) (t : ℕ) → IsNone (lives rows) t → live_from rows t ≡ []
unfolding lives live_from
walk_none rows t none = none_from (row_of rows) t 1 rows (λ k. sym (row_suc rows k)) none

-- and else the first such thread first
pub walk_first : (rows : List ThreadRow) (t r : ℕ) (d : ThreadRow) → IsFirst (lives rows) t r
    → live_from rows t ≡ (r, get_or rows (r - 1) d) ∷ live_from rows (r + 1)
unfolding lives live_from
walk_first rows t r d first =
    let within = lives_within rows r first.passes in
    let there : row_of rows r ≡ Some (get_or rows (r - 1) d) = row_there rows r d within.0 within.1 in
    let alive = sym (ap row_lives there) ∙ first.passes in
    first_from (row_of rows) t r (get_or rows (r - 1) d) 1 rows (λ k. sym (row_suc rows k)) within.0 first.after first.none_before there alive

-- the live from a tid on are, of all tids in increasing order, those whose rows live
live_tids : (g : ℕ → Option ThreadRow) (from n : ℕ) (rows : List ThreadRow) → ((k : ℕ) → slice_get rows k ≡ g (n + k))
    → rows_from from n rows ≡ filter_map (λ t. live_one from t (g t)) (range_with_len n (length rows))
live_tids g from n [] same = refl
live_tids g from n (row ∷ rows) same =
    let here : g n ≡ Some row = sym (same 0 ∙ ap g (let e : n + 0 ≡ n = omega arith in e)) in
    let rest = live_tids g from (n + 1) rows (λ k. same (suc k) ∙ ap g (let e : n + suc k ≡ n + 1 + k = omega arith in e)) in
    keep (nat_le from n && is_live row.record)
    ∙ (ap (λ w. cons_option (cond (nat_le from n && is_live row.record) (Some (n, row)) None) w) rest
    ∙ ap (λ o. cons_option (live_one from n o) (filter_map (λ t. live_one from t (g t)) (range_with_len (n + 1) (length rows)))) (sym here))
  where
    keep : (b : Bool) → shown_if b (n, row) (rows_from from (n + 1) rows) ≡ cons_option (cond b (Some (n, row)) None) (rows_from from (n + 1) rows)
    keep true = refl
    keep false = refl

pub live_from-tids : (rows : List ThreadRow) (from : ℕ)
    → live_from rows from ≡ filter_map (λ t. live_one from t (row_of rows t)) (range_with_len 1 (length rows))
unfolding live_from
live_from-tids rows from = live_tids (row_of rows) from 1 rows (λ k. at_place k)
  where
    at_place : (k : ℕ) → slice_get rows k ≡ row_of rows (1 + k)
    at_place k = sym (row_suc rows k)

-- a tid in the set is one of the rows
pub in_within : (set : List ℕ) (rows : List ThreadRow) (t : ℕ) → IsLiveSet set rows → is_in set t ≡ true → (0 < t) × (t ≤ length rows)
in_within set rows t same there = lives_within rows t (sym (same t) ∙ there)

-- the same of a walk, if the set says who lives
pub walk_none_in : (set : List ℕ) (rows : List ThreadRow) (t : ℕ) → IsLiveSet set rows → IsNone (is_in set) t → live_from rows t ≡ []
walk_none_in set rows t same none = walk_none rows t (λ k ge. sym (same k) ∙ none k ge)

pub walk_first_in : (set : List ℕ) (rows : List ThreadRow) (t r : ℕ) (d : ThreadRow) → IsLiveSet set rows → IsFirst (is_in set) t r
    → live_from rows t ≡ (r, get_or rows (r - 1) d) ∷ live_from rows (r + 1)
walk_first_in set rows t r d same first =
    walk_first rows t r d (record {
      after = first.after;
      passes = sym (same r) ∙ first.passes;
      none_before = λ k ge lt. sym (same k) ∙ first.none_before k ge lt;
    })
