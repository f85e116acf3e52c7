-- A table that mirrors the history still does after a message, once the table took it in.
use Rattle.std.proofs.Common.{◌≡◌, refl, ap, sym, ◌∙◌, subst, ℕ, zero, suc, ◌+◌, ◌==◌, Bool, true, false, inr, ◌↔◌, cond, None, Some, List, [], ◌∷◌, ◌++◌, length, arith, slice_get, length-append}
use Rattle.std.proofs.lemmas.Bool.{eqb-false}
use Rattle.std.specs.Option.{option_map}
use Rattle.std.proofs.lemmas.List.{append-nil}
use Rattle.gs_layout.specs.declared.facts.Facts.{Facts}
use Rattle.gs_layout.specs.declared.message.Change.TheVariants.{Created}
use Rattle.gs_layout.specs.declared.message.Message.{Message}
use Rattle.gs_layout.specs.declared.message.Message.TheVariants.{Thread, TimerTick}
use Rattle.gs_layout.specs.Message.{is_about, is_creation, takes_off, tseq_of}
use Rattle.gs_layout.specs.Record.{after}
use Rattle.gs_journal.specs.declared.entry.Entry.TheVariants.{Posted}
use Rattle.gs_journal.specs.History.{History, messages, created, seq, record_in, on}
use Rattle.gs_journal.proofs.Laws.{created-push, on-push}
use Rattle.gs_threads.specs.declared.row.ThreadRow.{ThreadRow}
use Rattle.gs_threads.specs.Rows.{new_row, row_after}
use Rattle.gs_threads.specs.Table.{row_of, rows_after, record_at, number_at, place_at}
use Rattle.gs_threads.specs.Mirrors.{Mirrors, IsNext}
use Rattle.gs_threads.proofs.Lookups.{row_never}
use Rattle.gs_threads.proofs.Entries.{eqb_same, some_of, messages_about, messages_other, record_by, record_more, seq_by, seq_first, seq_next, push_some, on_kept, on_left}
use Rattle.gs_threads.proofs.Told.{row_other, row_about, length-rows_after, record_by_row, number_by_row, place_by_row, record_row, number_row, place_row, record_none, place_after}

pub mirrors_posted : (first : ℕ) (h : History) (rows : List ThreadRow) (m : Message) → Mirrors first h rows → IsNext first h rows m → Mirrors first (h ++ Posted m ∷ []) (rows_after rows m)
mirrors_posted first h rows m was next =
    record {
      count = length-rows_after rows m ∙ (was.count ∙ ap length (sym (same_creations m next)));
      absent = absent;
      same_record = same_record;
      same_number = same_number;
      same_place = same_place;
    }
  where
    later : History
    later = h ++ Posted m ∷ []

    same_creations : (m : Message) → IsNext first h rows m → created (h ++ Posted m ∷ []) ≡ created h
    same_creations m n = created-push h (Posted m) ∙ (ap (λ b. created h ++ cond b (m ∷ []) []) (no_creation m n) ∙ append-nil (created h))
      where
        no_creation : (m : Message) → IsNext first h rows m → is_creation m ≡ false
        no_creation (TimerTick c) n = refl
        no_creation (Thread t s c) n = n.1

    -- the thread that the message is about has a row, and the message the number after its
    of_row : (u : ℕ) → is_about u m ≡ true → ((row : ThreadRow) × (row_of rows u ≡ Some row)) × (tseq_of m ≡ seq first h u + 1)
    of_row u about = by_message m next about
      where
        by_message : (m : Message) → IsNext first h rows m → is_about u m ≡ true → ((row : ThreadRow) × (row_of rows u ≡ Some row)) × (tseq_of m ≡ seq first h u + 1)
        by_message (TimerTick c) n about = absurd cc
        by_message (Thread t s c) n about =
            let P : ℕ → Type 0 = λ k. ((row : ThreadRow) × (row_of rows k ≡ Some row)) × (s ≡ seq first h k + 1) in
            subst P (eqb_same t u about) (some_of (row_of rows t) n.0, n.2)

    told : (u : ℕ) → is_about u m ≡ true → messages h u ≡ [] → ⊥
    told u about none = let r = (of_row u about).0 in let gone : row_of rows u ≡ None = (was.absent u).1 none in let is : row_of rows u ≡ Some r.0 = r.1 in cc

    absent : (u : ℕ) → (row_of (rows_after rows m) u ≡ None) ↔ (messages later u ≡ [])
    absent u = by_about (is_about u m) refl
      where
        by_about : (b : Bool) → is_about u m ≡ b → (row_of (rows_after rows m) u ≡ None) ↔ (messages later u ≡ [])
        by_about false q = (
          λ e. messages_other h m u q ∙ (was.absent u).0 (sym (row_other rows m u q) ∙ e),
          λ e. row_other rows m u q ∙ (was.absent u).1 (sym (messages_other h m u q) ∙ e),
        )
        by_about true q =
            let r = (of_row u q).0 in
            let now : row_of (rows_after rows m) u ≡ Some (row_after r.0 m) = row_about rows m u q ∙ ap (option_map (λ row. row_after row m)) r.1 in (
              λ e. absurd (let x : Some (row_after r.0 m) ≡ None = sym now ∙ e in cc),
              λ e. absurd (push_some (messages h u) m (sym (messages_about h m u q) ∙ e)),
            )

    same_record : (u : ℕ) → record_at (rows_after rows m) u ≡ record_in later u
    same_record u = by_about (is_about u m) refl
      where
        record_then : (row : ThreadRow) (m : Message) → (row_after row m).record ≡ after row.record m
        record_then row (TimerTick c) = refl
        record_then row (Thread t s c) = refl

        by_about : (b : Bool) → is_about u m ≡ b → record_at (rows_after rows m) u ≡ record_in later u
        by_about false q =
            record_by_row rows (rows_after rows m) u (row_other rows m u q) ∙ (was.same_record u ∙ sym (record_by h later u (messages_other h m u q)))
        by_about true q =
            let r = (of_row u q).0 in
            record_row (rows_after rows m) u (row_after r.0 m) (row_about rows m u q ∙ ap (option_map (λ row. row_after row m)) r.1)
            ∙ (record_then r.0 m ∙ (ap (λ x. after x m) (sym (record_row rows u r.0 r.1) ∙ was.same_record u) ∙ sym (record_more h later m u (messages_about h m u q))))

    same_number : (u : ℕ) → number_at (rows_after rows m) u ≡ seq first later u
    same_number u = by_about (is_about u m) refl
      where
        number_then : (row : ThreadRow) (m : Message) → is_about u m ≡ true → (row_after row m).tseq ≡ tseq_of m
        number_then row (TimerTick c) about = absurd cc
        number_then row (Thread t s c) about = refl

        by_about : (b : Bool) → is_about u m ≡ b → number_at (rows_after rows m) u ≡ seq first later u
        by_about false q =
            number_by_row rows (rows_after rows m) u (row_other rows m u q) ∙ (was.same_number u ∙ sym (seq_by first h later u (messages_other h m u q)))
        by_about true q =
            let n = of_row u q in
            number_row (rows_after rows m) u (row_after n.0.0 m) (row_about rows m u q ∙ ap (option_map (λ row. row_after row m)) n.0.1)
            ∙ (number_then n.0.0 m q ∙ (n.1 ∙ sym (seq_next first h later m u (messages_about h m u q) (told u q))))

    same_place : (u d : ℕ) → (place_at (rows_after rows m) u ≡ Some d) ↔ (on later d ≡ Some u)
    same_place u d = by_off (takes_off u m) refl
      where
        by_off : (b : Bool) → takes_off u m ≡ b → (place_at (rows_after rows m) u ≡ Some d) ↔ (on later d ≡ Some u)
        by_off false q =
            let p : place_at (rows_after rows m) u ≡ place_at rows u = place_after rows m u ∙ ap (λ b. cond b None (place_at rows u)) q in
            let k = on_kept m u d (on h d) q in (
              λ e. on-push h (Posted m) d ∙ k.1 ((was.same_place u d).0 (sym p ∙ e)),
              λ e. p ∙ (was.same_place u d).1 (k.0 (sym (on-push h (Posted m) d) ∙ e)),
            )
        by_off true q =
            let p : place_at (rows_after rows m) u ≡ None = place_after rows m u ∙ ap (λ b. cond b None (place_at rows u)) q in (
              λ e. absurd (let x : None ≡ Some d = sym p ∙ e in cc),
              λ e. absurd (on_left m u (on h d) q (sym (on-push h (Posted m) d) ∙ e)),
            )

get_end : (rows : List ThreadRow) (row : ThreadRow) → slice_get (rows ++ row ∷ []) (length rows) ≡ Some row
get_end [] row = refl
get_end (x ∷ rows) row = get_end rows row

get_before : (rows : List ThreadRow) (row : ThreadRow) (n : ℕ) → (n ≡ length rows → ⊥) → slice_get (rows ++ row ∷ []) n ≡ slice_get rows n
get_before [] row zero other = absurd (other refl)
get_before [] row (suc n) other = refl
get_before (x ∷ rows) row zero other = refl
get_before (x ∷ rows) row (suc n) other = get_before rows row n (λ e. other (ap suc e))

row_new : (rows : List ThreadRow) (row : ThreadRow) (t : ℕ) → length rows + 1 ≡ t → row_of (rows ++ row ∷ []) t ≡ Some row
unfolding row_of
row_new rows row zero e = absurd (omega arith)
row_new rows row (suc n) e = ap (slice_get (rows ++ row ∷ [])) (let q : n ≡ length rows = omega arith in q) ∙ get_end rows row

row_old : (rows : List ThreadRow) (row : ThreadRow) (t : ℕ) → (length rows + 1 ≡ t → ⊥) → row_of (rows ++ row ∷ []) t ≡ row_of rows t
unfolding row_of
row_old rows row zero other = refl
row_old rows row (suc n) other = get_before rows row n (λ e. other (omega (arith, e)))

pub mirrors_created : (first : ℕ) (h : History) (rows : List ThreadRow) (f : Facts) → Mirrors first h rows
    → Mirrors first (h ++ Posted (Thread (length rows + 1) (first + 1) (Created f)) ∷ []) (rows ++ new_row first f ∷ [])
mirrors_created first h rows f was =
    record {
      count = length-append rows (new_row first f ∷ []) ∙ (ap (λ n. n + 1) was.count ∙ sym (ap length (created-push h (Posted m)) ∙ length-append (created h) (m ∷ [])));
      absent = absent;
      same_record = same_record;
      same_number = same_number;
      same_place = same_place;
    }
  where
    m : Message
    m = Thread (length rows + 1) (first + 1) (Created f)

    later : History
    later = h ++ Posted m ∷ []

    more : List ThreadRow
    more = rows ++ new_row first f ∷ []

    never : (u : ℕ) → (length rows + 1 == u) ≡ true → row_of rows u ≡ None
    never u q = row_never rows u (inr (let e : length rows + 1 ≡ u = eqb_same (length rows + 1) u q in omega (arith, e)))

    now : (u : ℕ) → (length rows + 1 == u) ≡ true → row_of more u ≡ Some (new_row first f)
    now u q = row_new rows (new_row first f) u (eqb_same (length rows + 1) u q)

    before : (u : ℕ) → (length rows + 1 == u) ≡ false → row_of more u ≡ row_of rows u
    before u q = row_old rows (new_row first f) u (eqb-false (length rows + 1) u q)

    absent : (u : ℕ) → (row_of more u ≡ None) ↔ (messages later u ≡ [])
    absent u = by_about (length rows + 1 == u) refl
      where
        by_about : (b : Bool) → (length rows + 1 == u) ≡ b → (row_of more u ≡ None) ↔ (messages later u ≡ [])
        by_about false q =
            (λ e. messages_other h m u q ∙ (was.absent u).0 (sym (before u q) ∙ e), λ e. before u q ∙ (was.absent u).1 (sym (messages_other h m u q) ∙ e))
        by_about true q =
            (λ e. absurd (let x : Some (new_row first f) ≡ None = sym (now u q) ∙ e in cc), λ e. absurd (push_some (messages h u) m (sym (messages_about h m u q) ∙ e)))

    same_record : (u : ℕ) → record_at more u ≡ record_in later u
    same_record u = by_about (length rows + 1 == u) refl
      where
        by_about : (b : Bool) → (length rows + 1 == u) ≡ b → record_at more u ≡ record_in later u
        by_about false q = record_by_row rows more u (before u q) ∙ (was.same_record u ∙ sym (record_by h later u (messages_other h m u q)))
        by_about true q =
            record_row more u (new_row first f) (now u q)
            ∙ sym (record_more h later m u (messages_about h m u q) ∙ ap (λ x. after x m) (sym (was.same_record u) ∙ record_none rows u (never u q)))

    same_number : (u : ℕ) → number_at more u ≡ seq first later u
    same_number u = by_about (length rows + 1 == u) refl
      where
        by_about : (b : Bool) → (length rows + 1 == u) ≡ b → number_at more u ≡ seq first later u
        by_about false q = number_by_row rows more u (before u q) ∙ (was.same_number u ∙ sym (seq_by first h later u (messages_other h m u q)))
        by_about true q =
            number_row more u (new_row first f) (now u q) ∙ sym (seq_first first h later m u (messages_about h m u q) ((was.absent u).0 (never u q)))

    place_before : (u : ℕ) → place_at more u ≡ place_at rows u
    place_before u = by_about (length rows + 1 == u) refl
      where
        by_about : (b : Bool) → (length rows + 1 == u) ≡ b → place_at more u ≡ place_at rows u
        by_about false q = place_by_row rows more u (before u q)
        by_about true q = place_row more u (Some (new_row first f)) (now u q) ∙ sym (place_row rows u None (never u q))

    same_place : (u d : ℕ) → (place_at more u ≡ Some d) ↔ (on later d ≡ Some u)
    same_place u d =
        let k = on_kept m u d (on h d) refl in (
          λ e. on-push h (Posted m) d ∙ k.1 ((was.same_place u d).0 (sym (place_before u) ∙ e)),
          λ e. place_before u ∙ (was.same_place u d).1 (k.0 (sym (on-push h (Posted m) d) ∙ e)),
        )
