-- What one more message makes of a row.
use Rattle.std.proofs.Common.{◌≡◌, refl, ap, sym, ◌∙◌, subst, ℕ, ◌==◌, Bool, true, false, cond, Option, None, Some, List, length}
use Rattle.std.proofs.lemmas.Bool.{eqb-false}
use Rattle.std.specs.Option.{option_map, option_map_or}
use Rattle.gs_layout.specs.declared.message.Change.{Change}
use Rattle.gs_layout.specs.declared.message.Message.{Message}
use Rattle.gs_layout.specs.declared.message.Message.TheVariants.{Thread, TimerTick}
use Rattle.gs_layout.specs.declared.record.Record.TheVariants.{Absent}
use Rattle.gs_layout.specs.Message.{is_about, takes_off, takes_off_cpu}
use Rattle.gs_threads.specs.declared.row.ThreadRow.{ThreadRow}
use Rattle.gs_threads.specs.Rows.{row_after}
use Rattle.gs_threads.specs.Table.{row_of, change_row, rows_after, record_at, number_at, place_at, cpu_of}
use Rattle.gs_threads.proofs.Lookups.{length-change_row, row_of-change, row_of-change_other}
use Rattle.gs_threads.proofs.Entries.{eqb_same}

pub row_other : (rows : List ThreadRow) (m : Message) (u : ℕ) → is_about u m ≡ false → row_of (rows_after rows m) u ≡ row_of rows u
unfolding rows_after
row_other rows (TimerTick c) u other = refl
row_other rows (Thread t s c) u other = row_of-change_other rows t u (λ row. row_after row (Thread t s c)) (eqb-false t u other)

pub row_about : (rows : List ThreadRow) (m : Message) (u : ℕ) → is_about u m ≡ true → row_of (rows_after rows m) u ≡ option_map (λ row. row_after row m) (row_of rows u)
unfolding rows_after
row_about rows (TimerTick c) u about = absurd cc
row_about rows (Thread t s c) u about =
    let P : ℕ → Type 0 = λ k. row_of (change_row rows t (λ row. row_after row (Thread t s c))) k ≡ option_map (λ row. row_after row (Thread t s c)) (row_of rows k) in
    subst P (eqb_same t u about) (row_of-change rows t (λ row. row_after row (Thread t s c)))

pub length-rows_after : (rows : List ThreadRow) (m : Message) → length (rows_after rows m) ≡ length rows
unfolding rows_after
length-rows_after rows (TimerTick c) = refl
length-rows_after rows (Thread t s c) = length-change_row rows t (λ row. row_after row (Thread t s c))

pub record_by_row : (rows rows' : List ThreadRow) (t : ℕ) → row_of rows' t ≡ row_of rows t → record_at rows' t ≡ record_at rows t
unfolding record_at
record_by_row rows rows' t e = ap (λ o. option_map_or (λ (row : ThreadRow). row.record) o Absent) e

pub number_by_row : (rows rows' : List ThreadRow) (t : ℕ) → row_of rows' t ≡ row_of rows t → number_at rows' t ≡ number_at rows t
unfolding number_at
number_by_row rows rows' t e = ap (λ o. option_map_or (λ (row : ThreadRow). row.tseq) o 0) e

pub place_by_row : (rows rows' : List ThreadRow) (t : ℕ) → row_of rows' t ≡ row_of rows t → place_at rows' t ≡ place_at rows t
unfolding place_at
place_by_row rows rows' t e = ap cpu_of e

pub record_row : (rows : List ThreadRow) (t : ℕ) (row : ThreadRow) → row_of rows t ≡ Some row → record_at rows t ≡ row.record
unfolding record_at
record_row rows t row e = ap (λ o. option_map_or (λ (row : ThreadRow). row.record) o Absent) e

pub number_row : (rows : List ThreadRow) (t : ℕ) (row : ThreadRow) → row_of rows t ≡ Some row → number_at rows t ≡ row.tseq
unfolding number_at
number_row rows t row e = ap (λ o. option_map_or (λ (row : ThreadRow). row.tseq) o 0) e

pub place_row : (rows : List ThreadRow) (t : ℕ) (o : Option ThreadRow) → row_of rows t ≡ o → place_at rows t ≡ cpu_of o
unfolding place_at
place_row rows t o e = ap cpu_of e

pub number_none : (rows : List ThreadRow) (t : ℕ) → row_of rows t ≡ None → number_at rows t ≡ 0
unfolding number_at
number_none rows t e = ap (λ o. option_map_or (λ (row : ThreadRow). row.tseq) o 0) e

pub record_none : (rows : List ThreadRow) (t : ℕ) → row_of rows t ≡ None → record_at rows t ≡ Absent
unfolding record_at
record_none rows t e = ap (λ o. option_map_or (λ (row : ThreadRow). row.record) o Absent) e

-- a thread that a message takes off is nowhere, and each other thread is where it was
pub cond_none : (b : Bool) (o : Option ℕ) → o ≡ None → o ≡ cond b None o
cond_none true o e = e
cond_none false o e = refl

pub cond_other : (off q : Bool) (o : Option ℕ) → q ≡ false → o ≡ cond (cond off q false) None o
cond_other true q o e = ap (λ b. cond b None o) (sym e)
cond_other false q o e = refl

pub cond_about : (off q : Bool) (o : Option ℕ) → q ≡ true → cond off None o ≡ cond (cond off q false) None o
cond_about true q o e = ap (λ b. cond b None o) (sym e)
cond_about false q o e = refl

pub cpu_after : (o : Option ThreadRow) (t s : ℕ) (c : Change) → cpu_of (option_map (λ row. row_after row (Thread t s c)) o) ≡ cond (takes_off_cpu c) None (cpu_of o)
cpu_after None t s c = cond_none (takes_off_cpu c) None refl
cpu_after (Some row) t s c = refl

pub place_after : (rows : List ThreadRow) (m : Message) (u : ℕ) → place_at (rows_after rows m) u ≡ cond (takes_off u m) None (place_at rows u)
place_after rows (TimerTick c) u = place_by_row rows (rows_after rows (TimerTick c)) u (row_other rows (TimerTick c) u refl)
place_after rows (Thread t s c) u = by_about (t == u) refl
  where
    m : Message
    m = Thread t s c

    by_about : (b : Bool) → (t == u) ≡ b → place_at (rows_after rows m) u ≡ cond (cond (takes_off_cpu c) (t == u) false) None (place_at rows u)
    by_about false q =
        place_by_row rows (rows_after rows m) u (row_other rows m u q) ∙ cond_other (takes_off_cpu c) (t == u) (place_at rows u) q
    by_about true q =
        place_row (rows_after rows m) u (option_map (λ row. row_after row m) (row_of rows u)) (row_about rows m u q)
        ∙ (cpu_after (row_of rows u) t s c
        ∙ (ap (λ w. cond (takes_off_cpu c) None w) (sym (place_row rows u (row_of rows u) refl))
        ∙ cond_about (takes_off_cpu c) (t == u) (place_at rows u) q))
