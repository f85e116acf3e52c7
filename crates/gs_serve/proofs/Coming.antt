-- What came of a reader, by what was kept and consumed.
use Rattle.std.proofs.Common.{◌≡◌, ap, sym, subst, ◌∙◌, ℕ, ◌≤◌, Bool, true, false, List, [], ◌∷◌, ◌++◌, append_assoc, append-nil, length, length-take, take, arith, Option}
use Rattle.std.specs.Io.KnownBytes.{Consumes, IsAtEnd, prepend_known}
use Rattle.std.proofs.KnownBytes.{Consumes-trans}
use Rattle.gs_serve.specs.declared.source.TheConstants.{MOST_KEPT}
use Rattle.gs_serve.specs.declared.source.Came.TheVariants.{Line, Last, Nothing}
use Rattle.gs_serve.specs.Source.{Comes, GoesOn, IsLine, kept_of}
use Rattle.gs_serve.proofs.Feeding.{goes_on}
use Rattle.gs_serve.proofs.Kept.{front_taken, kept_more, none_kept}

-- a line has begun, which is kept so far
abbrev pub Begins : Option (List ℕ) → Option (List ℕ) → List ℕ → Type 0
Begins had left kept = (begun : List ℕ) × IsLine begun × (kept ≡ kept_of begun) × Consumes had left begun

consumed_on : (had mid left : Option (List ℕ)) (begun : List ℕ) → Consumes had mid begun → Consumes mid left [] → Consumes had left begun
consumed_on had mid left begun h k = subst (Consumes had left) (append-nil begun) (Consumes-trans had mid left begun [] h k)

pub none_comes : (had mid left : Option (List ℕ)) (kept : List ℕ) → Begins had mid kept → length kept ≡ 0 → Consumes mid left [] → IsAtEnd left → Comes Nothing had left kept
none_comes had mid left kept (begun, line, is, so_far) e more end =
    let empty : begun ≡ [] = none_kept MOST_KEPT begun (omega arith) (sym (ap length is) ∙ e) in
    (subst (Consumes had left) empty (consumed_on had mid left begun so_far more), end)

pub last_comes : (had mid left : Option (List ℕ)) (kept : List ℕ) → Begins had mid kept → (length kept ≡ 0 → ⊥) → Consumes mid left [] → IsAtEnd left → Comes Last had left kept
last_comes had mid left kept (begun, line, is, so_far) e more end =
    (begun, line, (λ empty. e (ap length is ∙ ap (λ xs. length (kept_of xs)) empty)), is, consumed_on had mid left begun so_far more, end)

-- the line goes on
joined : (had mid left : Option (List ℕ)) (begun more tail : List ℕ) → Consumes had mid begun → Consumes mid left (more ++ tail) → Consumes had left ((begun ++ more) ++ tail)
joined had mid left begun more tail h k = subst (Consumes had left) (sym (append_assoc begun more tail)) (Consumes-trans had mid left begun (more ++ tail) h k)

pub line_comes : (had mid : Option (List ℕ)) (before after there left : List ℕ) (known : Option (List ℕ)) → Begins had mid before → Consumes mid (prepend_known there known) [] → GoesOn before after true there left → Comes Line had (prepend_known left known) after
line_comes had mid before after there left known (begun, line, is, so_far) same t =
    let now : Consumes had (prepend_known there known) begun = consumed_on had mid (prepend_known there known) begun so_far same in
    let taken : Consumes (prepend_known there known) (prepend_known left known) (t.more ++ 10 ∷ []) =
    subst (λ (xs : List ℕ). Consumes (prepend_known xs known) (prepend_known left known) (t.more ++ 10 ∷ [])) (sym t.taken) (front_taken (t.more ++ 10 ∷ []) left known) in (
      begun ++ t.more,
      goes_on begun t.more t.more [] line t.is,
      t.kept ∙ ap (λ xs. kept_of (xs ++ t.more)) is ∙ kept_more MOST_KEPT begun t.more,
      joined had (prepend_known there known) (prepend_known left known) begun t.more (10 ∷ []) now taken,
    )

pub line_begins : (had mid : Option (List ℕ)) (before after there left : List ℕ) (known : Option (List ℕ)) → Begins had mid before → Consumes mid (prepend_known there known) [] → GoesOn before after false there left → Begins had (prepend_known left known) after
line_begins had mid before after there left known (begun, line, is, so_far) same t =
    let now : Consumes had (prepend_known there known) begun = consumed_on had mid (prepend_known there known) begun so_far same in
    let taken : Consumes (prepend_known there known) (prepend_known left known) t.more =
    subst (λ (xs : List ℕ). Consumes (prepend_known xs known) (prepend_known left known) t.more) (sym t.taken) (front_taken t.more left known) in (
      begun ++ t.more,
      goes_on begun t.more t.more [] line t.is,
      t.kept ∙ ap (λ xs. kept_of (xs ++ t.more)) is ∙ kept_more MOST_KEPT begun t.more,
      Consumes-trans had (prepend_known there known) (prepend_known left known) begun t.more now taken,
    )

-- no more is kept than may be
pub few_kept : (before after there left : List ℕ) (ended : Bool) → GoesOn before after ended there left → length after ≤ MOST_KEPT
few_kept before after there left ended t = subst (λ (xs : List ℕ). length xs ≤ MOST_KEPT) (sym t.kept) (few MOST_KEPT (before ++ t.more))
  where
    few : (n : ℕ) (xs : List ℕ) → length (take n xs) ≤ n
    few n xs = omega (arith, length-take n xs)
