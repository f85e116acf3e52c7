-- A table that mirrors the history still does after an entry that is no message, once the thread was placed.
use Rattle.std.proofs.Common.{◌≡◌, refl, ap, sym, ◌∙◌, subst, ℕ, ◌==◌, Bool, true, false, ◌⊎◌, inl, inr, ◌↔◌, cond, Option, None, Some, List, [], ◌∷◌, ◌++◌, length, IsSome}
use Rattle.std.proofs.lemmas.Bool.{eqb-false}
use Rattle.std.specs.Option.{option_map, option_map_or}
use Rattle.gs_layout.specs.declared.record.Record.TheVariants.{Absent}
use Rattle.std.specs.List.{filter}
use Rattle.gs_layout.specs.Message.{is_about, is_creation}
use Rattle.gs_journal.specs.declared.entry.Entry.{Entry}
use Rattle.gs_journal.specs.declared.entry.Entry.TheVariants.{Posted, Placed, Role, Begin, Left, Taken, Given, Torn}
use Rattle.gs_journal.specs.Standing.{then_stands}
use Rattle.gs_journal.specs.History.{History, posted_by, messages, created, on, placed_on, ends_run}
use Rattle.gs_journal.proofs.Laws.{on-push, same_created, same_messages}
use Rattle.gs_threads.specs.declared.row.ThreadRow.{ThreadRow}
use Rattle.gs_threads.specs.Rows.{row_placed}
use Rattle.gs_threads.specs.Table.{row_of, rows_placed, record_at, number_at, place_at}
use Rattle.gs_threads.specs.Cleared.{SameButPlaces}
use Rattle.gs_threads.specs.Mirrors.{Mirrors, is_quiet}
use Rattle.gs_threads.proofs.Lookups.{length-change_row, row_of-change, row_of-change_other}
use Rattle.gs_threads.proofs.Entries.{same_eqb, eqb_same, some_of, record_by, seq_by}
use Rattle.gs_threads.proofs.Told.{place_by_row, place_row}

pub row_placed_other : (rows : List ThreadRow) (t u : ℕ) (cpu : Option ℕ) → (t ≡ u → ⊥) → row_of (rows_placed rows t cpu) u ≡ row_of rows u
unfolding rows_placed
row_placed_other rows t u cpu other = row_of-change_other rows t u (λ row. row_placed row cpu) other

pub row_placed_same : (rows : List ThreadRow) (t : ℕ) (cpu : Option ℕ) → row_of (rows_placed rows t cpu) t ≡ option_map (λ row. row_placed row cpu) (row_of rows t)
unfolding rows_placed
row_placed_same rows t cpu = row_of-change rows t (λ row. row_placed row cpu)

pub length-rows_placed : (rows : List ThreadRow) (t : ℕ) (cpu : Option ℕ) → length (rows_placed rows t cpu) ≡ length rows
unfolding rows_placed
length-rows_placed rows t cpu = length-change_row rows t (λ row. row_placed row cpu)

pub same_facts : (first : ℕ) (h h' : History) (rows rows' : List ThreadRow) → Mirrors first h rows → SameButPlaces rows rows' → ((t : ℕ) → messages h' t ≡ messages h t) → created h' ≡ created h
    → ((t c : ℕ) → (place_at rows' t ≡ Some c) ↔ (on h' c ≡ Some t)) → Mirrors first h' rows'
unfolding record_at number_at
same_facts first h h' rows rows' was same told made places =
    record {
      count = same.count ∙ (was.count ∙ ap length (sym made));
      absent = λ u. (λ e. told u ∙ (was.absent u).0 (gone u e), λ e. still_gone u ((was.absent u).1 (sym (told u) ∙ e)));
      same_record = λ u. facts u ∙ (was.same_record u ∙ sym (record_by h h' u (told u)));
      same_number = λ u. number u ∙ (was.same_number u ∙ sym (seq_by first h h' u (told u)));
      same_place = places;
    }
  where
    map_none : (o : Option ThreadRow) (cpu : Option ℕ) → option_map (λ row. row_placed row cpu) o ≡ None → o ≡ None
    map_none None cpu e = refl
    map_none (Some row) cpu e = absurd cc

    gone : (u : ℕ) → row_of rows' u ≡ None → row_of rows u ≡ None
    gone u e = elim (same.kept u) [ inl k ↦ sym k ∙ e | inr k ↦ map_none (row_of rows u) k.0 (sym k.1 ∙ e) ]

    still_gone : (u : ℕ) → row_of rows u ≡ None → row_of rows' u ≡ None
    still_gone u e = elim (same.kept u) [ inl k ↦ k ∙ e | inr k ↦ k.1 ∙ ap (option_map (λ row. row_placed row k.0)) e ]

    map_record : (o : Option ThreadRow) (cpu : Option ℕ) → option_map_or (λ (row : ThreadRow). row.record) (option_map (λ row. row_placed row cpu) o) Absent ≡ option_map_or (λ (row : ThreadRow). row.record) o Absent
    map_record None cpu = refl
    map_record (Some row) cpu = refl

    map_number : (o : Option ThreadRow) (cpu : Option ℕ) → option_map_or (λ (row : ThreadRow). row.tseq) (option_map (λ row. row_placed row cpu) o) 0 ≡ option_map_or (λ (row : ThreadRow). row.tseq) o 0
    map_number None cpu = refl
    map_number (Some row) cpu = refl

    facts : (u : ℕ) → record_at rows' u ≡ record_at rows u
    facts u =
        elim (same.kept u) [
          | inl k ↦ ap (λ o. option_map_or (λ (row : ThreadRow). row.record) o Absent) k
          | inr k ↦ ap (λ o. option_map_or (λ (row : ThreadRow). row.record) o Absent) k.1 ∙ map_record (row_of rows u) k.0
        ]

    number : (u : ℕ) → number_at rows' u ≡ number_at rows u
    number u =
        elim (same.kept u) [
          | inl k ↦ ap (λ o. option_map_or (λ (row : ThreadRow). row.tseq) o 0) k
          | inr k ↦ ap (λ o. option_map_or (λ (row : ThreadRow). row.tseq) o 0) k.1 ∙ map_number (row_of rows u) k.0
        ]

pub placed_keeps : (rows : List ThreadRow) (t : ℕ) (cpu : Option ℕ) → SameButPlaces rows (rows_placed rows t cpu)
placed_keeps rows t cpu = record { count = length-rows_placed rows t cpu; kept = λ u. by_thread u (t == u) refl }
  where
    by_thread : (u : ℕ) (b : Bool) → (t == u) ≡ b
        → (row_of (rows_placed rows t cpu) u ≡ row_of rows u) ⊎ ((to : Option ℕ) × (row_of (rows_placed rows t cpu) u ≡ option_map (λ row. row_placed row to) (row_of rows u)))
    by_thread u false q = inl (row_placed_other rows t u cpu (eqb-false t u q))
    by_thread u true q =
        let P : ℕ → Type 0 = λ k. row_of (rows_placed rows t cpu) k ≡ option_map (λ row. row_placed row cpu) (row_of rows k) in
        inr (cpu, subst P (eqb_same t u q) (row_placed_same rows t cpu))

pub place_set : (rows : List ThreadRow) (t : ℕ) (cpu : Option ℕ) → IsSome (row_of rows t) → place_at (rows_placed rows t cpu) t ≡ cpu
place_set rows t cpu there =
    let r = some_of (row_of rows t) there in
    place_row (rows_placed rows t cpu) t (Some (row_placed r.0 cpu)) (row_placed_same rows t cpu ∙ ap (option_map (λ row. row_placed row cpu)) r.1)

pub place_other : (rows : List ThreadRow) (t u : ℕ) (cpu : Option ℕ) → (t ≡ u → ⊥) → place_at (rows_placed rows t cpu) u ≡ place_at rows u
place_other rows t u cpu other = place_by_row rows (rows_placed rows t cpu) u (row_placed_other rows t u cpu other)

-- who is on a CPU after a placing
pub on_here : (h : History) (t s c g d : ℕ) → c ≡ d → on (h ++ Placed t s c g ∷ []) d ≡ Some t
on_here h t s c g d e =
    on-push h (Placed t s c g) d ∙ ap (λ b. then_stands (cond b (Some t) None) ends_run (Placed t s c g) (on h d)) (ap (λ k. c == k) (sym e) ∙ same_eqb c)

pub stands_on : (e : Entry) (o : Option ℕ) → ((u : ℕ) → ends_run u e ≡ false) → then_stands None ends_run e o ≡ o
stands_on e None stays = refl
stands_on e (Some a) stays = ap (λ b. cond b None (Some a)) (stays a)

pub on_elsewhere : (h : History) (t s c g d : ℕ) → (c == d) ≡ false → on (h ++ Placed t s c g ∷ []) d ≡ on h d
on_elsewhere h t s c g d q =
    on-push h (Placed t s c g) d
    ∙ (ap (λ b. then_stands (cond b (Some t) None) ends_run (Placed t s c g) (on h d)) q ∙ stands_on (Placed t s c g) (on h d) (λ u. refl))

pub mirrors_placed : (first : ℕ) (h : History) (rows : List ThreadRow) (t s c g : ℕ) → Mirrors first h rows → IsSome (row_of rows t) → place_at rows t ≡ None → on h c ≡ None
    → Mirrors first (h ++ Placed t s c g ∷ []) (rows_placed rows t (Some c))
mirrors_placed first h rows t s c g was there nowhere nobody =
    same_facts first h later rows (rows_placed rows t (Some c)) was (placed_keeps rows t (Some c)) (λ u. same_messages h e u refl) (same_created h e refl) places
  where
    e : Entry
    e = Placed t s c g

    later : History
    later = h ++ e ∷ []

    places : (u d : ℕ) → (place_at (rows_placed rows t (Some c)) u ≡ Some d) ↔ (on later d ≡ Some u)
    places u d = by_both (t == u) refl (c == d) refl
      where
        by_both : (b : Bool) → (t == u) ≡ b → (k : Bool) → (c == d) ≡ k → (place_at (rows_placed rows t (Some c)) u ≡ Some d) ↔ (on later d ≡ Some u)
        by_both true q true k =
            let same : t ≡ u = eqb_same t u q in
            let here : c ≡ d = eqb_same c d k in (
              λ x. on_here h t s c g d here ∙ ap Some same,
              λ x. ap (place_at (rows_placed rows t (Some c))) (sym same) ∙ (place_set rows t (Some c) there ∙ ap Some here),
            )
        by_both true q false k =
            let same : t ≡ u = eqb_same t u q in
            let put : place_at (rows_placed rows t (Some c)) u ≡ Some c = ap (place_at (rows_placed rows t (Some c))) (sym same) ∙ place_set rows t (Some c) there in (
              λ x. absurd (eqb-false c d k (let y : Some c ≡ Some d = sym put ∙ x in cc)),
              λ x. absurd (let y : place_at rows u ≡ Some d = (was.same_place u d).1 (sym (on_elsewhere h t s c g d k) ∙ x) in let z : place_at rows u ≡ None = ap (place_at rows) (sym same) ∙ nowhere in cc),
            )
        by_both false q true k =
            let here : c ≡ d = eqb_same c d k in (
              λ x. absurd (let y : on h d ≡ Some u = (was.same_place u d).0 (sym (place_other rows t u (Some c) (eqb-false t u q)) ∙ x) in let z : on h d ≡ None = ap (on h) (sym here) ∙ nobody in cc),
              λ x. absurd (eqb-false t u q (let y : Some t ≡ Some u = sym (on_here h t s c g d here) ∙ x in cc)),
            )
        by_both false q false k = (
          λ x. on_elsewhere h t s c g d k ∙ (was.same_place u d).0 (sym (place_other rows t u (Some c) (eqb-false t u q)) ∙ x),
          λ x. place_other rows t u (Some c) (eqb-false t u q) ∙ (was.same_place u d).1 (sym (on_elsewhere h t s c g d k) ∙ x),
        )

pub posts_nothing : (e : Entry) → is_quiet e ≡ true → posted_by e ≡ []
posts_nothing (Posted m) quiet = absurd cc
posts_nothing (Placed t s c g) quiet = refl
posts_nothing (Role g c) quiet = refl
posts_nothing (Begin g) quiet = refl
posts_nothing Left quiet = refl
posts_nothing (Taken c) quiet = refl
posts_nothing (Given c) quiet = refl
posts_nothing Torn quiet = refl

pub quiet_on : (e : Entry) (d : ℕ) (o : Option ℕ) → is_quiet e ≡ true → then_stands (placed_on d e) ends_run e o ≡ o
quiet_on (Posted m) d o quiet = absurd cc
quiet_on (Placed t s c g) d o quiet = absurd cc
quiet_on (Role g c) d o quiet = stands_on (Role g c) o (λ u. refl)
quiet_on (Begin g) d o quiet = stands_on (Begin g) o (λ u. refl)
quiet_on Left d o quiet = stands_on Left o (λ u. refl)
quiet_on (Taken c) d o quiet = stands_on (Taken c) o (λ u. refl)
quiet_on (Given c) d o quiet = stands_on (Given c) o (λ u. refl)
quiet_on Torn d o quiet = absurd cc

pub same_rows : (rows : List ThreadRow) → SameButPlaces rows rows
same_rows rows = record { count = refl; kept = λ t. inl refl }

-- an entry that concerns no thread leaves everybody where they are
pub on_quiet : (h : History) (e : Entry) (d : ℕ) → is_quiet e ≡ true → on (h ++ e ∷ []) d ≡ on h d
on_quiet h e d quiet = on-push h e d ∙ quiet_on e d (on h d) quiet

pub mirrors_quiet : (first : ℕ) (h : History) (rows : List ThreadRow) (e : Entry) → Mirrors first h rows → is_quiet e ≡ true → Mirrors first (h ++ e ∷ []) rows
mirrors_quiet first h rows e was quiet =
    same_facts first h (h ++ e ∷ []) rows rows was (same_rows rows) (λ u. same_messages h e u (ap (filter (is_about u)) (posts_nothing e quiet))) (same_created h e (ap (filter is_creation) (posts_nothing e quiet))) (λ u d.
    let k = on_quiet h e d quiet in
    (λ x. k ∙ (was.same_place u d).0 x, λ x. (was.same_place u d).1 (sym k ∙ x)))
