-- Who lives after a row was added or changed, and the set of those.
use Rattle.std.proofs.Common.{◌≡◌, ◌≢◌, refl, ap, sym, ◌∙◌, ℕ, zero, suc, ◌+◌, ◌-◌, ◌*◌, ◌<◌, ◌≤◌, ◌⊎◌, inl, inr, true, false, Some, slice_get, List, [], ◌∷◌, ◌++◌, length, get_or, set, arith, length-append, length-set, get_or-set_same}
use Rattle.std.proofs.lemmas.Bool.{cases_eq}
use Rattle.gs_sets.specs.declared.bits.TheConstants.{WORD}
use Rattle.gs_sets.specs.Bits.{is_in}
use Rattle.gs_threads.specs.declared.row.ThreadRow.{ThreadRow}
use Rattle.gs_threads.specs.Live.{lives, row_lives, IsOfRows}
use Rattle.gs_threads.specs.Rows.{is_live}
use Rattle.gs_threads.specs.Table.{row_of}
use Rattle.gs_sets.proofs.Laws.{past_end}
use Rattle.gs_threads.proofs.Lookups.{row_there}

lives_at : (rows : List ThreadRow) (t : ℕ) (d : ThreadRow) → 0 < t → t ≤ length rows → lives rows t ≡ is_live (get_or rows (t - 1) d).record
unfolding lives
lives_at rows t d pos le = ap row_lives (row_there rows t d pos le)

set_other : (rows : List ThreadRow) (k n : ℕ) (row : ThreadRow) → n ≢ k → slice_get (set rows k row) n ≡ slice_get rows n
set_other [] k n row other = refl
set_other (r ∷ rows) zero zero row other = absurd (other refl)
set_other (r ∷ rows) zero (suc n) row other = refl
set_other (r ∷ rows) (suc k) zero row other = refl
set_other (r ∷ rows) (suc k) (suc n) row other = set_other rows k n row (λ e. other (ap suc e))

-- the row of another thread stays
row_other : (rows : List ThreadRow) (t u : ℕ) (row : ThreadRow) → 0 < t → u ≢ t → row_of (set rows (t - 1) row) u ≡ row_of rows u
unfolding row_of
row_other rows t zero row pos other = refl
row_other rows t (suc n) row pos other = set_other rows (t - 1) n row (λ e. other (omega (arith, e, pos)))

-- the set follows if a row was changed
pub changed : (words words' : List ℕ) (rows : List ThreadRow) (t : ℕ) (row : ThreadRow) → IsOfRows words rows → 0 < t → t ≤ length rows
    → is_in words' t ≡ is_live row.record → ((u : ℕ) → u ≢ t → is_in words' u ≡ is_in words u) → length words' ≡ length words
    → IsOfRows words' (set rows (t - 1) row)
unfolding lives
changed words words' rows t row kept pos le here others room =
    record {
      live = λ u. by_place u (cases_eq u t);
      room = omega (arith, kept.room, room, length-set rows (t - 1) row);
    }
  where
    by_place : (u : ℕ) → (u ≡ t) ⊎ (u ≢ t) → is_in words' u ≡ row_lives (row_of (set rows (t - 1) row) u)
    by_place u (inr other) = others u other ∙ (kept.live u ∙ ap row_lives (sym (row_other rows t u row pos other)))
    by_place u (inl e) =
        let is : get_or (set rows (t - 1) row) (t - 1) row ≡ row = get_or-set_same rows (t - 1) row row (omega (arith, pos, le)) in
        ap (is_in words') e
        ∙ (here ∙ (ap (λ (r : ThreadRow). is_live r.record) (sym is)
        ∙ (ap row_lives (sym (row_there (set rows (t - 1) row) t row pos (omega (arith, le, length-set rows (t - 1) row))))
        ∙ ap (λ v. row_lives (row_of (set rows (t - 1) row) v)) (sym e))))

-- the set stays if the thread of a row that was changed lives on, or is dead still
pub unchanged : (words : List ℕ) (rows : List ThreadRow) (t : ℕ) (row d : ThreadRow) → IsOfRows words rows → 0 < t → t ≤ length rows
    → is_live row.record ≡ is_live (get_or rows (t - 1) d).record → IsOfRows words (set rows (t - 1) row)
unchanged words rows t row d kept pos le same =
    changed words words rows t row kept pos le (kept.live t ∙ (lives_at rows t d pos le ∙ sym same)) (λ u other. refl) refl

-- a thread that was placed lives on
pub placed : (words : List ℕ) (rows : List ThreadRow) (t : ℕ) (row d : ThreadRow) → IsOfRows words rows → 0 < t → t ≤ length rows
    → row.record ≡ (get_or rows (t - 1) d).record → IsOfRows words (set rows (t - 1) row)
placed words rows t row d kept pos le same = unchanged words rows t row d kept pos le (ap is_live same)

row_before : (rows : List ThreadRow) (row : ThreadRow) (n : ℕ) → n ≢ length rows → slice_get (rows ++ row ∷ []) n ≡ slice_get rows n
row_before [] row zero other = absurd (other refl)
row_before [] row (suc n) other = refl
row_before (row' ∷ rows) row zero other = refl
row_before (row' ∷ rows) row (suc n) other = row_before rows row n (λ e. other (ap suc e))

row_last : (rows : List ThreadRow) (row : ThreadRow) → slice_get (rows ++ row ∷ []) (length rows) ≡ Some row
row_last [] row = refl
row_last (row' ∷ rows) row = row_last rows row

-- the set follows if a row of a live thread was added
pub created : (words words' : List ℕ) (rows : List ThreadRow) (row : ThreadRow) → IsOfRows words rows → is_live row.record ≡ true
    → length rows + 1 < WORD * length words → is_in words' (length rows + 1) ≡ true
    → ((u : ℕ) → u ≢ length rows + 1 → is_in words' u ≡ is_in words u) → length words' ≡ length words
    → IsOfRows words' (rows ++ row ∷ [])
unfolding lives row_of
created words words' rows row kept alive free here others room =
    record {
      live = by_tid;
      room = omega (arith, free, room, length-append rows (row ∷ []));
    }
  where
    by_place : (n : ℕ) → (n ≡ length rows) ⊎ (n ≢ length rows) → is_in words' (suc n) ≡ row_lives (slice_get (rows ++ row ∷ []) n)
    by_place n (inr other) = others (suc n) (λ e. other (omega (arith, e))) ∙ (kept.live (suc n) ∙ ap row_lives (sym (row_before rows row n other)))
    by_place n (inl e) =
        let e' : suc n ≡ length rows + 1 = omega (arith, e) in
        ap (is_in words') e' ∙ (here ∙ sym (ap (λ k. row_lives (slice_get (rows ++ row ∷ []) k)) e ∙ (ap row_lives (row_last rows row) ∙ alive)))

    by_tid : (u : ℕ) → is_in words' u ≡ row_lives (row_of (rows ++ row ∷ []) u)
    by_tid zero = others 0 (λ e. omega (arith, e)) ∙ kept.live 0
    by_tid (suc n) = by_place n (cases_eq n (length rows))

-- nobody lives if there are no rows
pub of_no_rows : (words : List ℕ) (rows : List ThreadRow) → words ≡ [] → rows ≡ [] → IsOfRows words rows
unfolding lives row_of
of_no_rows words rows no_words no_rows =
    record {
      live = λ t. ap (λ w. is_in w t) no_words ∙ (past_end [] t (omega arith) ∙ (sym (nobody t) ∙ ap (λ r. row_lives (row_of r t)) (sym no_rows)));
      room = omega (arith, ap length no_rows);
    }
  where
    nobody : (t : ℕ) → row_lives (row_of [] t) ≡ false
    nobody zero = refl
    nobody (suc n) = refl
