-- A page is loaded a record at a time.
use Rattle.std.proofs.Common.{◌≡◌, refl, ap, sym, ◌∙◌, ℕ, zero, suc, ◌+◌, ◌<◌, ◌≤◌, ◌==◌, Bool, true, false, cond, Option, None, Some, List, [], ◌∷◌, ◌++◌, take, slice_get, subst, arith}
use Rattle.std.specs.Prelude.{nat_lt}
use Rattle.gs_dump.specs.Written.{last_from}
use Rattle.std.proofs.lemmas.Bool.{and_parts, ltb-true}
use Rattle.std.proofs.lemmas.Bool.Decides.{nat_tests}
use Rattle.gs_layout.specs.declared.known.Known.{Known}
use Rattle.gs_layout.specs.View.{Look}
use Rattle.gs_dump.specs.declared.record.DumpRecord.{DumpRecord}
use Rattle.gs_dump.specs.Page.{rises}
use Rattle.gs_view.specs.Loaded.{loaded, or_known, told_of, with_record}

-- each record's tid is above the number that the tids begin above
above_first : (last : ℕ) (rs : List DumpRecord) (next : Option ℕ) → rises last rs next ≡ true → (i : ℕ) (r : DumpRecord) → slice_get rs i ≡ Some r → last < r.tid
above_first last [] next up i r e = absurd cc
above_first last (x ∷ xs) next up zero r e =
    let both = and_parts (nat_lt last x.tid) (rises x.tid xs next) up in
    let below : last < x.tid = grind (arith, nat_tests, both.0) in
    let same : x ≡ r = cc in
    omega (arith, below, ap (λ (y : DumpRecord). y.tid) same)
above_first last (x ∷ xs) next up (suc i) r e =
    let both = and_parts (nat_lt last x.tid) (rises x.tid xs next) up in
    let below : last < x.tid = grind (arith, nat_tests, both.0) in
    omega (arith, below, above_first x.tid xs next both.1 i r e)

pub or_none : (o : Option Known) → or_known o None ≡ o
or_none None = refl
or_none (Some k) = refl

or_or : (a b c : Option Known) → or_known (or_known a b) c ≡ or_known a (or_known b c)
or_or None b c = refl
or_or (Some k) b c = refl

-- what one record says of a thread
abbrev own : DumpRecord → ℕ → Option Known
own r t = cond (r.tid == t) (Some r.known) None

told_push : (rs : List DumpRecord) (r : DumpRecord) (t : ℕ) → told_of (rs ++ r ∷ []) t ≡ or_known (own r t) (told_of rs t)
told_push [] r t = sym (or_none (own r t))
told_push (x ∷ xs) r t = ap (λ (o : Option Known). or_known o (own x t)) (told_push xs r t) ∙ or_or (own r t) (told_of xs t) (own x t)

-- a record that is set: of its thread what it says, of all others what was known
pub set_own : (r : DumpRecord) (v : Look) (t : ℕ) → with_record r v t ≡ or_known (own r t) (v t)
set_own r v t = by_test (r.tid == t)
  where
    by_test : (b : Bool) → cond b (Some r.known) (v t) ≡ or_known (cond b (Some r.known) None) (v t)
    by_test true = refl
    by_test false = refl

-- one record more
loaded_push : (rs : List DumpRecord) (r : DumpRecord) (v : Look) (t : ℕ) → loaded (rs ++ r ∷ []) v t ≡ with_record r (loaded rs v) t
loaded_push rs r v t =
    ap (λ (o : Option Known). or_known o (v t)) (told_push rs r t) ∙ (or_or (own r t) (told_of rs t) (v t) ∙ sym (set_own r (loaded rs v) t))

-- records are loaded one after another
pub loaded_first : (r : DumpRecord) (rs : List DumpRecord) (v : Look) → loaded rs (with_record r v) ≡ loaded (r ∷ rs) v
loaded_first r rs v = λ i. λ t. at t i
  where
    at : (t : ℕ) → loaded rs (with_record r v) t ≡ loaded (r ∷ rs) v t
    at t = ap (λ (o : Option Known). or_known (told_of rs t) o) (set_own r v t) ∙ sym (or_or (told_of rs t) (own r t) (v t))

-- a page's records are loaded up to one, and then that one
pub loaded_more : (rs : List DumpRecord) (i : ℕ) (r : DumpRecord) → take (i + 1) rs ≡ take i rs ++ r ∷ [] → (v v' v'' : Look)
    → v' ≡ loaded (take i rs) v → ((t : ℕ) → v'' t ≡ with_record r v' t) → v'' ≡ loaded (take (i + 1) rs) v
loaded_more rs i r more v v' v'' before here = λ j. λ t. at t j
  where
    at : (t : ℕ) → v'' t ≡ loaded (take (i + 1) rs) v t
    at t =
        here t ∙ (ap (λ (x : Look). with_record r x t) before
        ∙ (sym (loaded_push (take i rs) r v t) ∙ ap (λ (xs : List DumpRecord). loaded xs v t) (sym more)))

-- no record's tid is above that of a later one
pub upto_later : (last : ℕ) (rs : List DumpRecord) (next : Option ℕ) → rises last rs next ≡ true → (i j : ℕ) (r s : DumpRecord) → i ≤ j
    → slice_get rs i ≡ Some r → slice_get rs j ≡ Some s → r.tid ≤ s.tid
upto_later last [] next up i j r s le e f = absurd cc
upto_later last (x ∷ xs) next up zero zero r s le e f = let same : r ≡ s = cc in omega (arith, ap (λ (y : DumpRecord). y.tid) same)
upto_later last (x ∷ xs) next up zero (suc j) r s le e f =
    let both = and_parts (nat_lt last x.tid) (rises x.tid xs next) up in
    let later = above_first x.tid xs next both.1 j s f in
    let same : x ≡ r = cc in
    omega (arith, ap (λ (y : DumpRecord). y.tid) same, later)
upto_later last (x ∷ xs) next up (suc i) zero r s le e f = absurd (omega (arith, le))
upto_later last (x ∷ xs) next up (suc i) (suc j) r s le e f =
    let both = and_parts (nat_lt last x.tid) (rises x.tid xs next) up in
    upto_later x.tid xs next both.1 i j r s (omega (arith, le)) e f

-- the tids increase up to the last one
last_above : (t : ℕ) (rs : List DumpRecord) (next : Option ℕ) → rises t rs next ≡ true → t ≤ last_from t rs
last_above t [] next up = omega arith
last_above t (r ∷ rs) next up =
    let w = and_parts (nat_lt t r.tid) (rises r.tid rs next) up in
    omega (arith, ltb-true t r.tid w.0, last_above r.tid rs next w.1)

pub upto_last : (t : ℕ) (rs : List DumpRecord) (next : Option ℕ) → rises t rs next ≡ true → (i : ℕ) (r : DumpRecord) → slice_get rs i ≡ Some r → r.tid ≤ last_from t rs
upto_last t [] next up i r e = absurd cc
upto_last t (x ∷ xs) next up zero r e =
    let w = and_parts (nat_lt t x.tid) (rises x.tid xs next) up in
    let same : x ≡ r = cc in subst (λ (y : DumpRecord). y.tid ≤ last_from x.tid xs) same (last_above x.tid xs next w.1)
upto_last t (x ∷ xs) next up (suc i) r e =
    let w = and_parts (nat_lt t x.tid) (rises x.tid xs next) up in
    upto_last x.tid xs next w.1 i r e
