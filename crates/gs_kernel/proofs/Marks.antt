-- A walk over a group that marks the transactions whose threads were named before.
use Rattle.std.proofs.Common.{◌≡◌, ◌≢◌, ◌⊎◌, inl, inr, ℕ, zero, suc, ◌+◌, ◌%◌, ◌<◌, ◌≤◌, ◌∷◌, [], Bool, true, false, cond, length, Some, refl, ap, sym, subst, ◌∙◌, arith, slice_get, take}
use Rattle.std.specs.Prelude.{◌&&◌, ◌||◌, ◌==◌, nat_lt}
use Rattle.std.specs.List.{list_any}
use Rattle.std.proofs.lemmas.Bool.{cases_lt, eqb-true, false≢true, or_from}
use Rattle.std.proofs.lemmas.Bool.Decides.{nat_tests}
use Rattle.std.proofs.lemmas.Option.{slice_get_within}
use Rattle.gs_slots.specs.declared.state.Stamp.{Stamp}
use Rattle.gs_status.specs.Masks.{has}
use Rattle.gs_journal.specs.History.{History}
use Rattle.gs_kernel.specs.declared.settings.Settings.{Settings}
use Rattle.gs_layout.specs.declared.outcome.Outcome.TheVariants as outcomes
use Rattle.gs_kernel.specs.Group.{AreMarked, Group, are_marked_to_place, are_to_place, is_named_below, marked_verdict, own_verdict}
use Rattle.gs_kernel.specs.Lands.{is_to_place}
use Rattle.gs_kernel.specs.Landing.{verdict}
use Rattle.gs_kernel.specs.Ready.{Rises}

-- whether one of these names a thread
abbrev pub is_named : ℕ → Group → Bool
is_named t g = list_any (λ x. x.1.tid == t) g

-- those before a place were looked at: where their threads stand in a mask is noted, and they are marked. Of the others none is
pub record IsNoted (g : Group) (at named marks : ℕ) : Type 0 where
  pub seen : (i : ℕ) (x : ℕ × Stamp) → i < at → slice_get g i ≡ Some x → has named (x.1.tid % 128) ≡ true
  pub noted : (i : ℕ) (x : ℕ × Stamp) → i < at → slice_get g i ≡ Some x → has marks x.0 ≡ is_named_below x.0 x.1.tid g
  pub later : (i : ℕ) (x : ℕ × Stamp) → at ≤ i → slice_get g i ≡ Some x → has marks x.0 ≡ false

pub noted_none : (g : Group) (named marks : ℕ) → ((c : ℕ) → has marks c ≡ false) → IsNoted g 0 named marks
noted_none g named marks none = record { seen = λ i x lt e. absurd (omega (arith, lt)); noted = λ i x lt e. absurd (omega (arith, lt)); later = λ i x le e. none x.0 }

-- ---- CPUs rise with the place

at_least : (n m : ℕ) (g : Group) (i : ℕ) (x : ℕ × Stamp) → Rises n m g → slice_get g i ≡ Some x → n ≤ x.0
at_least n m [] i x r e = absurd cc
at_least n m (y ∷ g) zero x r e = let same : y ≡ x = cc in omega (arith, r.0, ap (λ (z : ℕ × Stamp). z.0) same)
at_least n m (y ∷ g) (suc i) x r e = omega (arith, r.0, at_least (suc y.0) m g i x r.2 e)

pub at_most : (n m : ℕ) (g : Group) (i : ℕ) (x : ℕ × Stamp) → Rises n m g → slice_get g i ≡ Some x → x.0 < m
at_most n m [] i x r e = absurd cc
at_most n m (y ∷ g) zero x r e = let same : y ≡ x = cc in omega (arith, r.1, ap (λ (z : ℕ × Stamp). z.0) same)
at_most n m (y ∷ g) (suc i) x r e = at_most (suc y.0) m g i x r.2 e

rising : (n m : ℕ) (g : Group) (i j : ℕ) (x y : ℕ × Stamp) → Rises n m g → i < j → slice_get g i ≡ Some x → slice_get g j ≡ Some y → x.0 < y.0
rising n m [] i j x y r lt e f = absurd cc
rising n m (z ∷ g) i zero x y r lt e f = absurd (omega (arith, lt))
rising n m (z ∷ g) zero (suc j) x y r lt e f = let same : z ≡ x = cc in omega (arith, at_least (suc z.0) m g j y r.2 f, ap (λ (q : ℕ × Stamp). q.0) same)
rising n m (z ∷ g) (suc i) (suc j) x y r lt e f = rising (suc z.0) m g i j x y r.2 (omega (arith, lt)) e f

not_lower : (a b : ℕ) → b ≤ a → nat_lt a b ≡ false
not_lower a b le = grind (arith, nat_tests, le)

is_lower : (a b : ℕ) → a < b → nat_lt a b ≡ true
is_lower a b lt = grind (arith, nat_tests, lt)

-- none from a CPU on is for a lower one
none_lower : (n m k t : ℕ) (g : Group) → k ≤ n → Rises n m g → is_named_below k t g ≡ false
none_lower n m k t [] le r = refl
none_lower n m k t (x ∷ g) le r = or_from (nat_lt x.0 k && x.1.tid == t) (is_named_below k t g) (ap (λ b. b && x.1.tid == t) (not_lower x.0 k (omega (arith, le, r.0)))) (none_lower (suc x.0) m k t g (omega (arith, le, r.0)) r.2)

-- the transactions for lower CPUs are those before
named_is : (n m t : ℕ) (g : Group) (at : ℕ) (y : ℕ × Stamp) → Rises n m g → slice_get g at ≡ Some y → is_named_below y.0 t g ≡ is_named t (take at g)
named_is n m t [] at y r e = absurd cc
named_is n m t (x ∷ g) zero y r e =
    let same : x ≡ y = cc in
    none_lower x.0 m y.0 t (x ∷ g) (omega (arith, ap (λ (q : ℕ × Stamp). q.0) same)) (omega arith, r.1, r.2)
named_is n m t (x ∷ g) (suc at) y r e =
    (λ i. (is_lower x.0 y.0 (omega (arith, at_least (suc x.0) m g at y r.2 e)) i && x.1.tid == t) || named_is (suc x.0) m t g at y r.2 e i)

-- a thread whose place is not noted was not named
unseen : (named t : ℕ) (at : ℕ) (g : Group) → ((i : ℕ) (x : ℕ × Stamp) → i < at → slice_get g i ≡ Some x → has named (x.1.tid % 128) ≡ true) → has named (t % 128) ≡ false → is_named t (take at g) ≡ false
unseen named t zero g seen none = refl
unseen named t (suc at) [] seen none = refl
unseen named t (suc at) (x ∷ g) seen none =
    or_from (x.1.tid == t) (is_named t (take at g)) (by_test (x.1.tid == t) refl) (unseen named t at g (λ i y lt e. seen (suc i) y (omega (arith, lt)) e) none)
  where
    here : has named (x.1.tid % 128) ≡ true
    here = seen 0 x (omega arith) refl

    away : has named (t % 128) ≡ false
    away = none

    by_test : (b : Bool) → (x.1.tid == t) ≡ b → (x.1.tid == t) ≡ false
    by_test true e = absurd (false≢true (sym away ∙ (ap (λ n. has named (n % 128)) (sym (eqb-true x.1.tid t e)) ∙ here)))
    by_test false e = e

-- one more is looked at
pub noted_push : (n m : ℕ) (g : Group) (at named named' marks marks' : ℕ) (y : ℕ × Stamp) (again : Bool) → Rises n m g → IsNoted g at named marks → slice_get g at ≡ Some y
    → again ≡ (has named (y.1.tid % 128) && is_named y.1.tid (take at g)) → has named' (y.1.tid % 128) ≡ true → ((c : ℕ) → c ≢ y.1.tid % 128 → has named' c ≡ has named c)
    → has marks' y.0 ≡ (has marks y.0 || again) → ((c : ℕ) → c ≢ y.0 → has marks' c ≡ has marks c) → IsNoted g (at + 1) named' marks'
noted_push n m g at named named' marks marks' y again r w found is here others marked rest =
    record {
      seen = λ i x lt e. by_place i x (cases_lt i at) lt e;
      noted = λ i x lt e. by_mark i x (cases_lt i at) lt e;
      later = λ i x le e. let past = rising n m g at i y x r (omega (arith, le)) found e in rest x.0 (λ q. absurd (omega (arith, q, past))) ∙ w.later i x (omega (arith, le)) e;
    }
  where
    w' : IsNoted g at named marks
    w' = w

    r' : Rises n m g
    r' = r

    found' : slice_get g at ≡ Some y
    found' = found

    here' : has named' (y.1.tid % 128) ≡ true
    here' = here

    others' : (c : ℕ) → c ≢ y.1.tid % 128 → has named' c ≡ has named c
    others' = others

    rest' : (c : ℕ) → c ≢ y.0 → has marks' c ≡ has marks c
    rest' = rest

    still : (c : ℕ) (b : Bool) → (c == y.1.tid % 128) ≡ b → has named c ≡ true → has named' c ≡ true
    still c true e there = ap (has named') (eqb-true c (y.1.tid % 128) e) ∙ here'
    still c false e there = others' c (λ q. absurd (grind (arith, nat_tests, e, q))) ∙ there

    again_is : again ≡ is_named_below y.0 y.1.tid g
    again_is = is ∙ (by_seen (has named (y.1.tid % 128)) refl ∙ sym (named_is n m y.1.tid g at y r' found'))
      where
        by_seen : (b : Bool) → has named (y.1.tid % 128) ≡ b → (has named (y.1.tid % 128) && is_named y.1.tid (take at g)) ≡ is_named y.1.tid (take at g)
        by_seen true e = ap (λ b. b && is_named y.1.tid (take at g)) e
        by_seen false e = ap (λ b. b && is_named y.1.tid (take at g)) e ∙ sym (unseen named y.1.tid at g w'.seen e)

    new_mark : has marks' y.0 ≡ is_named_below y.0 y.1.tid g
    new_mark = marked ∙ (ap (λ b. b || again) (w'.later at y (omega arith) found') ∙ again_is)

    at_here : (i : ℕ) (x : ℕ × Stamp) → at ≤ i → i < at + 1 → slice_get g i ≡ Some x → y ≡ x
    at_here i x ge lt e = let k : i ≡ at = omega (arith, ge, lt) in let f : slice_get g at ≡ Some x = sym (ap (slice_get g) k) ∙ e in cc

    by_place : (i : ℕ) (x : ℕ × Stamp) → (i < at) ⊎ (at ≤ i) → i < at + 1 → slice_get g i ≡ Some x → has named' (x.1.tid % 128) ≡ true
    by_place i x (inl below) lt e = still (x.1.tid % 128) (x.1.tid % 128 == y.1.tid % 128) refl (w'.seen i x below e)
    by_place i x (inr ge) lt e = subst (λ (q : ℕ × Stamp). has named' (q.1.tid % 128) ≡ true) (at_here i x ge lt e) here'

    by_mark : (i : ℕ) (x : ℕ × Stamp) → (i < at) ⊎ (at ≤ i) → i < at + 1 → slice_get g i ≡ Some x → has marks' x.0 ≡ is_named_below x.0 x.1.tid g
    by_mark i x (inl below) lt e = let less = rising n m g i at x y r' below e found' in rest' x.0 (λ q. absurd (omega (arith, q, less))) ∙ w'.noted i x below e
    by_mark i x (inr ge) lt e = subst (λ (q : ℕ × Stamp). has marks' q.0 ≡ is_named_below q.0 q.1.tid g) (at_here i x ge lt e) new_mark

-- if all were looked at, they are marked
marked_from : (marks : ℕ) (all g : Group) → ((i : ℕ) (x : ℕ × Stamp) → slice_get g i ≡ Some x → has marks x.0 ≡ is_named_below x.0 x.1.tid all) → AreMarked marks all g
marked_from marks all [] each = tt
marked_from marks all (x ∷ g) each = (each 0 x refl, marked_from marks all g (λ i y e. each (suc i) y e))

pub noted_end : (g : Group) (at named marks : ℕ) → length g ≤ at → IsNoted g at named marks → AreMarked marks g g
noted_end g at named marks le w = marked_from marks g g (λ i x e. w.noted i x (omega (arith, le, slice_get_within g i x e)) e)

-- ---- what is said by marks is said by the group

pub marked_own : (s : Settings) (h : History) (marks : ℕ) (all : Group) (k : ℕ) (b : Stamp) → has marks k ≡ is_named_below k b.tid all → marked_verdict s h marks k b ≡ own_verdict s h all k b
marked_own s h marks all k b e = ap (λ (q : Bool). cond (is_to_place (verdict s h k b) && q) outcomes.GroupFailed (verdict s h k b)) e

pub marked_place : (s : Settings) (h : History) (marks : ℕ) (all g : Group) → AreMarked marks all g → are_marked_to_place s h marks g ≡ are_to_place s h all g
marked_place s h marks all [] m = refl
marked_place s h marks all (x ∷ g) m = λ i. is_to_place (marked_own s h marks all x.0 x.1 m.0 i) && marked_place s h marks all g m.1 i
