-- What a changed row leaves to be looked up.
use Rattle.std.proofs.Common.{◌≡◌, refl, ap, ◌∙◌, ℕ, zero, suc, ◌+◌, ◌-◌, ◌<◌, ◌≤◌, ◌⊎◌, inl, inr, Option, None, Some, List, [], ◌∷◌, length, get_or, set, arith, slice_get}
use Rattle.std.specs.Option.{option_map}
use Rattle.std.proofs.lemmas.Option.{slice_get-get_or, slice_get_past}
use Rattle.gs_layout.specs.declared.message.Change.{Change}
use Rattle.gs_layout.specs.declared.message.Message.TheVariants.{Thread, TimerTick}
use Rattle.gs_threads.specs.declared.row.ThreadRow.{ThreadRow}
use Rattle.gs_threads.specs.Rows.{row_after, row_placed}
use Rattle.gs_threads.specs.Table.{row_of, with_changed, change_row, rows_after, rows_placed}

-- the row of a thread stands at the place below its tid
pub row_suc : (rows : List ThreadRow) (k : ℕ) → row_of rows (1 + k) ≡ slice_get rows k
unfolding row_of
row_suc rows k = ap (row_of rows) (let e : 1 + k ≡ suc k = omega arith in e)

pub row_there : (rows : List ThreadRow) (t : ℕ) (d : ThreadRow) → 0 < t → t ≤ length rows → row_of rows t ≡ Some (get_or rows (t - 1) d)
unfolding row_of
row_there rows zero d pos le = absurd (omega arith)
row_there rows (suc n) d pos le = slice_get-get_or rows n d (omega arith) ∙ ap (λ k. Some (get_or rows k d)) (let e : n ≡ suc n - 1 = omega arith in e)

pub row_never : (rows : List ThreadRow) (t : ℕ) → (t ≡ 0) ⊎ (length rows < t) → row_of rows t ≡ None
unfolding row_of
row_never rows zero never = refl
row_never rows (suc n) (inl z) = absurd (omega arith)
row_never rows (suc n) (inr lt) = slice_get_past rows n (omega arith)

set_is : (rows : List ThreadRow) (n : ℕ) (f : ThreadRow → ThreadRow) (d : ThreadRow) → n < length rows → with_changed rows n f ≡ set rows n (f (get_or rows n d))
set_is [] n f d lt = absurd (omega arith)
set_is (row ∷ rows) zero f d lt = refl
set_is (row ∷ rows) (suc n) f d lt = ap (λ w. row ∷ w) (set_is rows n f d (omega arith))

-- a changed row, as a write to its place leaves it
pub change_is : (rows : List ThreadRow) (t : ℕ) (f : ThreadRow → ThreadRow) (d : ThreadRow) → 0 < t → t ≤ length rows → change_row rows t f ≡ set rows (t - 1) (f (get_or rows (t - 1) d))
unfolding change_row
change_is rows zero f d lt le = absurd (omega arith)
change_is rows (suc n) f d lt le = set_is rows n f d (omega arith) ∙ ap (λ k. set rows k (f (get_or rows k d))) (let e : n ≡ suc n - 1 = omega arith in e)

unchanged : (rows : List ThreadRow) (n : ℕ) (f : ThreadRow → ThreadRow) → length rows ≤ n → with_changed rows n f ≡ rows
unchanged [] n f le = refl
unchanged (row ∷ rows) zero f le = absurd (omega arith)
unchanged (row ∷ rows) (suc n) f le = ap (λ w. row ∷ w) (unchanged rows n f (omega arith))

-- there is nothing to change of a thread that never was
pub change_none : (rows : List ThreadRow) (t : ℕ) (f : ThreadRow → ThreadRow) → (t ≡ 0) ⊎ (length rows < t) → change_row rows t f ≡ rows
unfolding change_row
change_none rows zero f never = refl
change_none rows (suc n) f (inl z) = absurd (omega arith)
change_none rows (suc n) f (inr lt) = unchanged rows n f (omega arith)

-- after a message, as writes leave the rows
pub after_is : (rows : List ThreadRow) (t s : ℕ) (c : Change) (d : ThreadRow) → 0 < t → t ≤ length rows
    → rows_after rows (Thread t s c) ≡ set rows (t - 1) (row_after (get_or rows (t - 1) d) (Thread t s c))
unfolding rows_after
after_is rows t s c d lt le = change_is rows t (λ row. row_after row (Thread t s c)) d lt le

pub after_none : (rows : List ThreadRow) (t s : ℕ) (c : Change) → (t ≡ 0) ⊎ (length rows < t) → rows_after rows (Thread t s c) ≡ rows
unfolding rows_after
after_none rows t s c never = change_none rows t (λ row. row_after row (Thread t s c)) never

pub after_tick : (rows : List ThreadRow) (c : ℕ) → rows_after rows (TimerTick c) ≡ rows
unfolding rows_after
after_tick rows c = refl

-- after a place was given
pub placed_is : (rows : List ThreadRow) (t : ℕ) (cpu : Option ℕ) (d : ThreadRow) → 0 < t → t ≤ length rows
    → rows_placed rows t cpu ≡ set rows (t - 1) (row_placed (get_or rows (t - 1) d) cpu)
unfolding rows_placed
placed_is rows t cpu d lt le = change_is rows t (λ row. row_placed row cpu) d lt le

pub placed_none : (rows : List ThreadRow) (t : ℕ) (cpu : Option ℕ) → (t ≡ 0) ⊎ (length rows < t) → rows_placed rows t cpu ≡ rows
unfolding rows_placed
placed_none rows t cpu never = change_none rows t (λ row. row_placed row cpu) never

length_with : (rows : List ThreadRow) (n : ℕ) (f : ThreadRow → ThreadRow) → length (with_changed rows n f) ≡ length rows
length_with [] n f = refl
length_with (row ∷ rows) zero f = refl
length_with (row ∷ rows) (suc n) f = ap suc (length_with rows n f)

pub length-change_row : (rows : List ThreadRow) (t : ℕ) (f : ThreadRow → ThreadRow) → length (change_row rows t f) ≡ length rows
unfolding change_row
length-change_row rows zero f = refl
length-change_row rows (suc n) f = length_with rows n f

get_with : (rows : List ThreadRow) (n : ℕ) (f : ThreadRow → ThreadRow) → slice_get (with_changed rows n f) n ≡ option_map f (slice_get rows n)
get_with [] n f = refl
get_with (row ∷ rows) zero f = refl
get_with (row ∷ rows) (suc n) f = get_with rows n f

pub row_of-change : (rows : List ThreadRow) (t : ℕ) (f : ThreadRow → ThreadRow) → row_of (change_row rows t f) t ≡ option_map f (row_of rows t)
unfolding change_row row_of
row_of-change rows zero f = refl
row_of-change rows (suc n) f = get_with rows n f

get_with_other : (rows : List ThreadRow) (n m : ℕ) (f : ThreadRow → ThreadRow) → (n ≡ m → ⊥) → slice_get (with_changed rows n f) m ≡ slice_get rows m
get_with_other [] n m f other = refl
get_with_other (row ∷ rows) zero zero f other = absurd (other refl)
get_with_other (row ∷ rows) zero (suc m) f other = refl
get_with_other (row ∷ rows) (suc n) zero f other = refl
get_with_other (row ∷ rows) (suc n) (suc m) f other = get_with_other rows n m f (λ e. other (ap suc e))

pub row_of-change_other : (rows : List ThreadRow) (t u : ℕ) (f : ThreadRow → ThreadRow) → (t ≡ u → ⊥) → row_of (change_row rows t f) u ≡ row_of rows u
unfolding change_row row_of
row_of-change_other rows zero u f other = refl
row_of-change_other rows (suc n) zero f other = refl
row_of-change_other rows (suc n) (suc m) f other = get_with_other rows n m f (λ e. other (ap suc e))
