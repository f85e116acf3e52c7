-- After a tear-down nobody is on a CPU.
use Rattle.std.proofs.Common.{◌≡◌, refl, ap, sym, ◌∙◌, ℕ, ◌+◌, ◌<◌, ◌≤◌, ◌==◌, Bool, true, false, ◌⊎◌, inl, inr, Option, None, Some, List, [], ◌∷◌, ◌++◌, zero, suc, map, arith}
use Rattle.std.proofs.lemmas.Bool.{eqb-false}
use Rattle.std.specs.Option.{option_map}
use Rattle.std.proofs.lemmas.Bool.Decides.{nat_tests}
use Rattle.std.proofs.lemmas.List.{length-map}
use Rattle.std.proofs.lemmas.Option.{slice_get-map}
use Rattle.gs_journal.specs.declared.entry.Entry.TheVariants.{Torn}
use Rattle.gs_journal.specs.Standing.{then_stands}
use Rattle.gs_journal.specs.History.{History, on, ends_run}
use Rattle.gs_journal.proofs.Laws.{on-push, same_created, same_messages}
use Rattle.gs_threads.specs.declared.row.ThreadRow.{ThreadRow}
use Rattle.gs_threads.specs.Rows.{row_placed}
use Rattle.gs_threads.specs.Table.{row_of, rows_placed, place_at, cpu_of}
use Rattle.gs_threads.specs.Cleared.{IsClearedBelow, SameButPlaces}
use Rattle.gs_threads.specs.Mirrors.{Mirrors}
use Rattle.gs_threads.proofs.Entries.{eqb_same}
use Rattle.gs_threads.proofs.Told.{place_row}
use Rattle.gs_threads.proofs.Placing.{row_placed_same, length-rows_placed, same_facts, placed_keeps, place_other}

-- nobody was on the next CPU
pub cleared_nobody : (n : ℕ) (rows rows' : List ThreadRow) → IsClearedBelow n rows rows' → ((t : ℕ) → place_at rows t ≡ Some n → ⊥) → IsClearedBelow (n + 1) rows rows'
cleared_nobody n rows rows' was nobody = record { same = was.same; left = left }
  where
    left : (t c : ℕ) → place_at rows' t ≡ Some c → (n + 1 ≤ c) × (place_at rows t ≡ Some c)
    left t c e = let l = was.left t c e in (above (n == c) refl, l.1)
      where
        above : (b : Bool) → (n == c) ≡ b → n + 1 ≤ c
        above true q = absurd (nobody t ((was.left t c e).1 ∙ ap Some (sym (eqb_same n c q))))
        above false q = let ne = eqb-false n c q in let le : n ≤ c = (was.left t c e).0 in grind (arith, nat_tests)

placed_twice : (rows rows' : List ThreadRow) (t : ℕ) (cpu : Option ℕ) → SameButPlaces rows rows' → SameButPlaces rows (rows_placed rows' t cpu)
placed_twice rows rows' t cpu was = record { count = length-rows_placed rows' t cpu ∙ was.count; kept = λ u. both u (was.kept u) ((placed_keeps rows' t cpu).kept u) }
  where
    again : (o : Option ThreadRow) (a b : Option ℕ) → option_map (λ row. row_placed row b) (option_map (λ row. row_placed row a) o) ≡ option_map (λ row. row_placed row b) o
    again None a b = refl
    again (Some row) a b = refl

    both : (u : ℕ) → (row_of rows' u ≡ row_of rows u) ⊎ ((to : Option ℕ) × (row_of rows' u ≡ option_map (λ row. row_placed row to) (row_of rows u)))
        → (row_of (rows_placed rows' t cpu) u ≡ row_of rows' u) ⊎ ((to : Option ℕ) × (row_of (rows_placed rows' t cpu) u ≡ option_map (λ row. row_placed row to) (row_of rows' u)))
        → (row_of (rows_placed rows' t cpu) u ≡ row_of rows u) ⊎ ((to : Option ℕ) × (row_of (rows_placed rows' t cpu) u ≡ option_map (λ row. row_placed row to) (row_of rows u)))
    both u (inl a) (inl b) = inl (b ∙ a)
    both u (inl a) (inr b) = inr (b.0, b.1 ∙ ap (option_map (λ row. row_placed row b.0)) a)
    both u (inr a) (inl b) = inr (a.0, b ∙ a.1)
    both u (inr a) (inr b) = inr (b.0, b.1 ∙ (ap (option_map (λ row. row_placed row b.0)) a.1 ∙ again (row_of rows u) a.0 b.0))

off : (o : Option ThreadRow) → cpu_of (option_map (λ row. row_placed row None) o) ≡ None
off None = refl
off (Some row) = refl

place_taken : (rows : List ThreadRow) (t : ℕ) → place_at (rows_placed rows t None) t ≡ None
place_taken rows t =
    place_row (rows_placed rows t None) t (option_map (λ row. row_placed row None) (row_of rows t)) (row_placed_same rows t None) ∙ off (row_of rows t)

-- the one thread on the next CPU is taken off
pub cleared_one : (n : ℕ) (rows rows' : List ThreadRow) (t : ℕ) → IsClearedBelow n rows rows' → ((u : ℕ) → place_at rows u ≡ Some n → u ≡ t) → IsClearedBelow (n + 1) rows (rows_placed rows' t None)
cleared_one n rows rows' t was alone = record { same = placed_twice rows rows' t None was.same; left = λ u c e. by_thread u c e (t == u) refl }
  where
    by_thread : (u c : ℕ) → place_at (rows_placed rows' t None) u ≡ Some c → (b : Bool) → (t == u) ≡ b → (n + 1 ≤ c) × (place_at rows u ≡ Some c)
    by_thread u c e true q =
        absurd (let x : place_at (rows_placed rows' t None) u ≡ None = ap (place_at (rows_placed rows' t None)) (sym (eqb_same t u q)) ∙ place_taken rows' t in cc)
    by_thread u c e false q =
        let before : place_at rows' u ≡ Some c = sym (place_other rows' t u None (eqb-false t u q)) ∙ e in
        (above (n == c) refl (was.left u c before), (was.left u c before).1)
      where
        above : (b : Bool) → (n == c) ≡ b → (n ≤ c) × (place_at rows u ≡ Some c) → n + 1 ≤ c
        above true k l = absurd (eqb-false t u q (sym (alone u (l.1 ∙ ap Some (sym (eqb_same n c k))))))
        above false k l = let ne = eqb-false n c k in let le : n ≤ c = l.0 in grind (arith, nat_tests)

torn_off : (h : History) (d : ℕ) → on (h ++ Torn ∷ []) d ≡ None
torn_off h d = on-push h Torn d ∙ ended (on h d)
  where
    ended : (o : Option ℕ) → then_stands None ends_run Torn o ≡ None
    ended None = refl
    ended (Some a) = refl

pub mirrors_torn : (first : ℕ) (h : History) (rows rows' : List ThreadRow) (cpus : ℕ) → Mirrors first h rows → IsClearedBelow cpus rows rows' → ((t c : ℕ) → on h c ≡ Some t → c < cpus)
    → Mirrors first (h ++ Torn ∷ []) rows'
mirrors_torn first h rows rows' cpus was cleared within =
    same_facts first h (h ++ Torn ∷ []) rows rows' was cleared.same (λ u. same_messages h Torn u refl) (same_created h Torn refl) (λ u d. (
      λ x. absurd (let l = cleared.left u d x in let lt = within u d ((was.same_place u d).0 l.1) in omega (arith, l.0, lt)),
      λ x. absurd (let y : None ≡ Some u = sym (torn_off h d) ∙ x in cc),
    ))

-- rows of which each was taken off
all_off : (rows : List ThreadRow) (u : ℕ) → row_of (map (λ row. row_placed row None) rows) u ≡ option_map (λ row. row_placed row None) (row_of rows u)
unfolding row_of
all_off rows zero = refl
all_off rows (suc n) = slice_get-map (λ row. row_placed row None) rows n

off_nowhere : (rows : List ThreadRow) (u : ℕ) → place_at (map (λ row. row_placed row None) rows) u ≡ None
off_nowhere rows u =
    place_row (map (λ row. row_placed row None) rows) u (option_map (λ row. row_placed row None) (row_of rows u)) (all_off rows u) ∙ off (row_of rows u)

pub mirrors_all_off : (first : ℕ) (h : History) (rows : List ThreadRow) → Mirrors first h rows → Mirrors first (h ++ Torn ∷ []) (map (λ row. row_placed row None) rows)
mirrors_all_off first h rows was =
    same_facts first h (h ++ Torn ∷ []) rows (map (λ row. row_placed row None) rows) was same (λ u. same_messages h Torn u refl) (same_created h Torn refl) (λ u d. (
      λ x. absurd (let y : None ≡ Some d = sym (off_nowhere rows u) ∙ x in cc),
      λ x. absurd (let y : None ≡ Some u = sym (torn_off h d) ∙ x in cc),
    ))
  where
    same : SameButPlaces rows (map (λ row. row_placed row None) rows)
    same = record { count = length-map rows (λ row. row_placed row None); kept = λ u. inr (None, all_off rows u) }
