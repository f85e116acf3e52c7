-- A board is kept if a seat reads, and if the one that publishes does.
use Rattle.std.proofs.Common.{◌≡◌, ◌≢◌, ℕ, List, ◌++◌, set, true, refl, sym, ap, ◌∙◌, subst, ⊎_elim, append_assoc}
use Rattle.std.specs.Prelude.{slice_index, slice_set}
use mathlib.Core.Option.{some}
use lib.ListN.{get_elem?}
use Rattle.atomic_table.specs.Table.{State}
use Rattle.atomic_table.proofs.Lists.{at_set}
use Rattle.gs_board.specs.declared.rule.View.{View}
use Rattle.gs_board.specs.declared.rule.Words.{Words}
use Rattle.gs_board.specs.Words.{NeverFalls, StartsWith}
use Rattle.gs_board.specs.Views.{AreLast, Begins, Fits, IsKept, view}
use Rattle.gs_board.proofs.Lists.{whole}

begins_more : {A : Type 0} (xs ys zs : List A) → StartsWith xs ys → StartsWith ys zs → StartsWith xs zs
begins_more xs ys zs s t = (t.0 ++ s.0, s.1 ∙ ap (λ l. l ++ s.0) t.1 ∙ append_assoc zs t.0 s.0)

begins_all : (p q r : Words) → Begins p q → Begins q r → Begins p r
begins_all p q r a b = (begins_more p.roles q.roles r.roles a.0 b.0, begins_more p.lows q.lows r.lows a.1 b.1, begins_more p.highs q.highs r.highs a.2 b.2)

pub begins_whole : (p : Words) → Begins p p
begins_whole p = (whole p.roles, whole p.lows, whole p.highs)

-- the views after one of them changed
pub fits_views : (writer : ℕ) (p : Words) (views : List View) (id : ℕ) (w : View) → ((j : ℕ) (u : View) → j ≢ id → get_elem? views j ≡ some u → Fits writer p j u) → Fits writer p id w
    → (j : ℕ) (u : View) → get_elem? (set views id w) j ≡ some u → Fits writer p j u
fits_views writer p views id w others here j u e = ⊎_elim
    (λ (t : (j ≡ id) × (w ≡ u)). subst (λ k. Fits writer p k u) (sym t.0) (subst (Fits writer p id) t.1 here))
    (λ (t : (j ≢ id) × (get_elem? views j ≡ some u)). others j u t.0 t.1)
    (at_set views id j w u e)

-- a seat reads a word
pub reading : (s : State ℕ View) (kept : IsKept s) (id i : ℕ) (w : View) → slice_set s.words i (slice_index s.words i) ≡ s.words → Fits kept.writer kept.published id w
    → IsKept record { words = slice_set s.words i (slice_index s.words i); homes = s.homes; views = slice_set s.views id w }
reading s kept id i w same fits = record {
  writer = kept.writer;
  published = kept.published;
  last = subst (AreLast kept.published) (sym same) kept.last;
  rises = kept.rises;
  fits = fits_views kept.writer kept.published s.views id w (λ j u _ e. kept.fits j u e) fits;
}

-- the seat that publishes knows the last words
pub last_known : (s : State ℕ View) (kept : IsKept s) (id : ℕ) (v : View) → get_elem? s.views id ≡ some v → v.writes ≡ true → AreLast v.words s.words
last_known s kept id v at able = subst (λ (p : Words). AreLast p s.words) (sym ((kept.fits id v at).0 able).1) kept.last

pub rises_known : (s : State ℕ View) (kept : IsKept s) (id : ℕ) (v : View) → get_elem? s.views id ≡ some v → v.writes ≡ true → NeverFalls v.words.roles
rises_known s kept id v at able = subst (λ (p : Words). NeverFalls p.roles) (sym ((kept.fits id v at).0 able).1) kept.rises

-- the seat that publishes does
pub publishing : (s : State ℕ View) (kept : IsKept s) (id i n : ℕ) (v : View) (p : Words) → get_elem? s.views id ≡ some v → v.writes ≡ true → Begins p v.words → AreLast p (slice_set s.words i n) → NeverFalls p.roles
    → IsKept record { words = slice_set s.words i n; homes = s.homes; views = slice_set s.views id (view v.writes p) }
publishing s kept id i n v p at able more last rises =
    let mine = (kept.fits id v at).0 able in
    let begins : Begins p kept.published = subst (Begins p) mine.1 more in
    record {
      writer = kept.writer;
      published = p;
      last = last;
      rises = rises;
      fits = fits_views kept.writer p s.views id (view v.writes p)
          (λ j u apart e. let f = kept.fits j u e in ((λ y. absurd (apart ((f.0 y).0 ∙ sym mine.0))), begins_all p kept.published u.words begins f.1))
          ((λ _. (mine.0, refl)), begins_whole p);
    }
