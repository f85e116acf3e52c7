-- Each step keeps the board, and tells what it says.
use Rattle.std.proofs.Common.{◌≡◌, ℕ, zero, suc, ◌<◌, ◌^◌, List, [], ◌∷◌, ◌++◌, set, true, refl, sym, ap, ◌∙◌, subst, ⊎_elim}
use Rattle.std.proofs.lemmas.Bool.{false≢true}
use Rattle.std.specs.Prelude.{slice_index, slice_set}
use mathlib.Core.Option.{Option, some, some-ne-none, some-injective}
use lib.ListN.{get_elem?}
use Rattle.atomic_table.specs.Table.{Step, Me, Allows, Splits, keeps}
use Rattle.atomic_table.proofs.Lists.{at_snoc, set_again}
use Rattle.gs_board.specs.declared.rule.View.{View}
use Rattle.gs_board.specs.declared.rule.Words.{Words}
use Rattle.gs_board.specs.Words.{MayFollow, role_in}
use Rattle.gs_board.specs.Views.{Fits, Holds, first_view, newcomer, opening_words, view}
use Rattle.gs_board.specs.Steps.{PublishesHigh, PublishesLow, PublishesRole, ReadsHigh, ReadsLow, ReadsRole}
use Rattle.gs_board.proofs.Lists.{longer, rises_on, whole}
use Rattle.gs_board.proofs.Keeping.{begins_whole, last_known, publishing, reading, rises_known}

abbrev Key : Type 0
Key = ℕ × ℕ × ℕ

pub reads_role : (k : Key) (slots id : ℕ) (me : Me ℕ View) (st : Step ℕ) → Allows (Holds k) slots id me 0 (λ n. n) (ReadsRole st me)
reads_role k slots id me st s kept counts at bound =
    let v = me.0 in
    let fit = kept.fits id v at in
    let last = kept.last in
    let found : slice_index s.words 0 ≡ last.role = ap (λ l. slice_index l 0) last.are in (
      view v.writes (record v.words { roles = kept.published.roles }),
      keeps,
      tt,
      reading s kept id 0 (view v.writes (record v.words { roles = kept.published.roles })) (ap (λ l. slice_set l 0 (slice_index l 0)) last.are ∙ sym last.are)
          ((λ able. ((fit.0 able).0, λ j. record ((fit.0 able).1 j) { roles = kept.published.roles })), (whole kept.published.roles, fit.1.1, fit.1.2)),
      (kept.published.roles, refl, (fit.1.0, subst (λ n. (front : List (ℕ × ℕ)) × (kept.published.roles ≡ front ++ role_in n ∷ [])) (sym found) last.role_is), kept.rises, subst (λ (n : ℕ). n < 2 ^ 48) (sym found) last.narrow),
    )

pub reads_low : (k : Key) (slots id : ℕ) (me : Me ℕ View) (st : Step ℕ) → Allows (Holds k) slots id me 1 (λ n. n) (ReadsLow st me)
reads_low k slots id me st s kept counts at bound =
    let v = me.0 in
    let fit = kept.fits id v at in
    let last = kept.last in
    let found : slice_index s.words 1 ≡ last.low = ap (λ l. slice_index l 1) last.are in (
      view v.writes (record v.words { lows = kept.published.lows }),
      keeps,
      tt,
      reading s kept id 1 (view v.writes (record v.words { lows = kept.published.lows })) (ap (λ l. slice_set l 1 (slice_index l 1)) last.are ∙ sym last.are)
          ((λ able. ((fit.0 able).0, λ j. record ((fit.0 able).1 j) { lows = kept.published.lows })), (fit.1.0, whole kept.published.lows, fit.1.2)),
      (kept.published.lows, refl, (fit.1.1, subst (λ n. (front : List ℕ) × (kept.published.lows ≡ front ++ n ∷ [])) (sym found) last.low_is)),
    )

pub reads_high : (k : Key) (slots id : ℕ) (me : Me ℕ View) (st : Step ℕ) → Allows (Holds k) slots id me 2 (λ n. n) (ReadsHigh st me)
reads_high k slots id me st s kept counts at bound =
    let v = me.0 in
    let fit = kept.fits id v at in
    let last = kept.last in
    let found : slice_index s.words 2 ≡ last.high = ap (λ l. slice_index l 2) last.are in (
      view v.writes (record v.words { highs = kept.published.highs }),
      keeps,
      tt,
      reading s kept id 2 (view v.writes (record v.words { highs = kept.published.highs })) (ap (λ l. slice_set l 2 (slice_index l 2)) last.are ∙ sym last.are)
          ((λ able. ((fit.0 able).0, λ j. record ((fit.0 able).1 j) { highs = kept.published.highs })), (fit.1.0, fit.1.1, whole kept.published.highs)),
      (kept.published.highs, refl, (fit.1.2, subst (λ n. (front : List ℕ) × (kept.published.highs ≡ front ++ n ∷ [])) (sym found) last.high_is)),
    )

pub publishes_role : (k : Key) (slots id : ℕ) (me : Me ℕ View) (st : Step ℕ) (n : ℕ) → me.0.writes ≡ true → MayFollow me.0.words.roles (role_in n).0 → n < 2 ^ 48
    → Allows (Holds k) slots id me 0 (λ _. n) (λ _. PublishesRole st me n)
publishes_role k slots id me st n able may narrow s kept counts at bound =
    let v = me.0 in
    let last = last_known s kept id v at able in
    let p : Words = record v.words { roles = v.words.roles ++ role_in n ∷ [] } in (
      view v.writes p,
      keeps,
      tt,
      publishing s kept id 0 n v p at able (longer v.words.roles v.words.roles (role_in n) (whole v.words.roles), whole v.words.lows, whole v.words.highs)
          record { role = n; low = last.low; high = last.high; are = ap (λ l. slice_set l 0 n) last.are; role_is = (v.words.roles, refl); low_is = last.low_is; high_is = last.high_is; narrow = narrow }
          (rises_on v.words.roles (role_in n) may (rises_known s kept id v at able)),
      refl,
    )

pub publishes_low : (k : Key) (slots id : ℕ) (me : Me ℕ View) (st : Step ℕ) (n : ℕ) → me.0.writes ≡ true → Allows (Holds k) slots id me 1 (λ _. n) (λ _. PublishesLow st me n)
publishes_low k slots id me st n able s kept counts at bound =
    let v = me.0 in
    let last = last_known s kept id v at able in
    let p : Words = record v.words { lows = v.words.lows ++ n ∷ [] } in (
      view v.writes p,
      keeps,
      tt,
      publishing s kept id 1 n v p at able (whole v.words.roles, longer v.words.lows v.words.lows n (whole v.words.lows), whole v.words.highs)
          record { role = last.role; low = n; high = last.high; are = ap (λ l. slice_set l 1 n) last.are; role_is = last.role_is; low_is = (v.words.lows, refl); high_is = last.high_is; narrow = last.narrow }
          (rises_known s kept id v at able),
      refl,
    )

pub publishes_high : (k : Key) (slots id : ℕ) (me : Me ℕ View) (st : Step ℕ) (n : ℕ) → me.0.writes ≡ true → Allows (Holds k) slots id me 2 (λ _. n) (λ _. PublishesHigh st me n)
publishes_high k slots id me st n able s kept counts at bound =
    let v = me.0 in
    let last = last_known s kept id v at able in
    let p : Words = record v.words { highs = v.words.highs ++ n ∷ [] } in (
      view v.writes p,
      keeps,
      tt,
      publishing s kept id 2 n v p at able (whole v.words.roles, whole v.words.lows, longer v.words.highs v.words.highs n (whole v.words.highs))
          record { role = last.role; low = last.low; high = n; are = ap (λ l. slice_set l 2 n) last.are; role_is = last.role_is; low_is = last.low_is; high_is = (v.words.highs, refl); narrow = last.narrow }
          (rises_known s kept id v at able),
      refl,
    )

pub splits : (k : Key) (id : ℕ) (v : View) → Splits (Holds k) id v v newcomer
splits k id v s kept at = record {
  writer = kept.writer;
  published = kept.published;
  last = kept.last;
  rises = kept.rises;
  fits = λ j u e. ⊎_elim
      (λ was. kept.fits j u (subst (λ l. get_elem? l j ≡ some u) (set_again s.views id v at) was))
      (λ (same : newcomer ≡ u). subst (Fits kept.writer kept.published j) same ((λ y. absurd (false≢true y)), ((kept.published.roles, refl), (kept.published.lows, refl), (kept.published.highs, refl))))
      (at_snoc (set s.views id v) newcomer u j e);
}

one_seat : (p : Words) (v : View) → Fits 0 p 0 v → (id : ℕ) (u : View) → get_elem? (v ∷ []) id ≡ some u → Fits 0 p id u
one_seat p v f zero u e = subst (Fits 0 p 0) (some-injective _ _ e) f
one_seat p v f (suc id) u e = absurd (some-ne-none u (sym e))

pub opens : (r l h : ℕ) (homes : List (Option ℕ)) → r < 2 ^ 48 → Holds (r, l, h) record { words = r ∷ l ∷ h ∷ []; homes = homes; views = first_view (r, l, h) ∷ [] }
opens r l h homes narrow =
    let p = opening_words (role_in r) l h in
    record {
      writer = 0;
      published = p;
      last = record { role = r; low = l; high = h; are = refl; role_is = ([], refl); low_is = ([], refl); high_is = ([], refl); narrow = narrow };
      rises = tt;
      fits = one_seat p (first_view (r, l, h)) ((λ _. (refl, refl)), begins_whole p);
    }
