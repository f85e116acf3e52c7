-- No plan has more choices than there may be CPUs, since it uses none twice.
use Rattle.std.proofs.Common.{◌≡◌, refl, ap, sym, ◌∙◌, subst, ℕ, zero, suc, ◌<◌, ◌≤◌, Bool, true, false, ◌||◌, Option, None, Some, List, [], ◌∷◌, ◌++◌, arith, length, append-nil}
use Rattle.std.specs.Prelude.{◌==◌}
use Rattle.std.specs.Cmp.{nat_eq_equiv}
use Rattle.std.specs.List.{IsDistinct, list_any}
use Rattle.std.proofs.Math.Bool.{or-false}
use Rattle.std.proofs.lemmas.Bool.{eqb-true}
use Rattle.std.proofs.lemmas.List.{length-map, map_push}
use Rattle.std.proofs.lemmas.List.Folds.{list_any-append}
use Rattle.std.proofs.lemmas.Map.Keys.{IsDistinct-push}
use Rattle.std.proofs.lemmas.Map.Steps.{length-le_from_distinct_below}
use Rattle.gs_layout.specs.declared.facts.Class.{Class}
use Rattle.gs_layout.specs.declared.known.Known.{Known}
use Rattle.gs_layout.specs.View.{Look}
use Rattle.gs_status.specs.Masks.{found_or, has, least}
use Rattle.gs_status.proofs.Laws.{least_passes}
use Rattle.gs_policy.specs.declared.candidates.Candidates.{Candidates}
use Rattle.gs_policy.specs.declared.choice.Choice.{Choice}
use Rattle.gs_policy.specs.Candidates.{is_busy_for, planned_of}
use Rattle.gs_policy.specs.Plan.{choice, is_open, placed, planned, uses}
use Rattle.gs_policy.specs.Safe.{cpus}
use Rattle.gs_policy.specs.Safety.{is_open_parts}

-- the least that passes is below the bound
least_below : (test : ℕ → Bool) (n c : ℕ) → least test n ≡ Some c → c < n
unfolding least
least_below test zero c found = absurd cc
least_below test (suc n) c found = by_place (least_below test n c) (least test n) refl (test n) found
  where
    by_place : (least test n ≡ Some c → c < n) → (o : Option ℕ) → least test n ≡ o → (b : Bool) → found_or o b n ≡ Some c → c < suc n
    by_place more (Some d) is b e = let below : c < n = more (is ∙ e) in omega (arith, below)
    by_place more None is true e = let same : n ≡ c = cc in omega (arith, same)
    by_place more None is false e = absurd cc

-- the CPUs of these choices are below the count, and none is used twice
record AreOnce (n : ℕ) (xs : List Choice) : Type 0 where
  once : IsDistinct (◌==◌) (cpus xs)
  below : (c : ℕ) → list_any (λ d. c == d) (cpus xs) ≡ true → c < n

used : (xs : List Choice) (c : ℕ) → list_any (λ d. c == d) (cpus xs) ≡ uses xs c
used [] c = refl
used (x ∷ xs) c = λ i. nat_eq_equiv.symm c x.cpu i || used xs c i

once_more : (n : ℕ) (xs : List Choice) (x : Choice) → AreOnce n xs → uses xs x.cpu ≡ false → x.cpu < n → AreOnce n (xs ++ x ∷ [])
once_more n xs x h unused within =
    let more : cpus (xs ++ x ∷ []) ≡ cpus xs ++ x.cpu ∷ [] = map_push (λ (y : Choice). y.cpu) xs x in
    record {
      once = subst (IsDistinct (◌==◌)) (sym more) (IsDistinct-push nat_eq_equiv (cpus xs) x.cpu h.once (used xs x.cpu ∙ unused));
      below = λ c e. by_place c (list_any (λ d. c == d) (cpus xs)) refl (sym (ap (list_any (λ d. c == d)) more ∙ list_any-append (λ d. c == d) (cpus xs) (x.cpu ∷ [])) ∙ e);
    }
  where
    within' : x.cpu < n
    within' = within

    h' : AreOnce n xs
    h' = h

    by_place : (c : ℕ) (b : Bool) → list_any (λ d. c == d) (cpus xs) ≡ b → (b || ((c == x.cpu) || false)) ≡ true → c < n
    by_place c true earlier e = h'.below c earlier
    by_place c false earlier e = let same : c ≡ x.cpu = eqb-true c x.cpu (sym (or-false (c == x.cpu)) ∙ e) in omega (arith, same, within')

once_placed : (n : ℕ) (f : ℕ → Bool) (p : Class → ℕ → Bool) (xs : List Choice) (t : ℕ) (o : Option Known) → AreOnce n xs → AreOnce n (xs ++ choice n f p xs t o)
once_placed n f p xs t None h = subst (AreOnce n) (sym (append-nil xs)) h
once_placed n f p xs t (Some k) h = by_least (least (is_open f k xs) n) refl (least (is_open (p k.facts.class) k xs) n) refl
  where
    h' : AreOnce n xs
    h' = h

    by_least : (free : Option ℕ) → least (is_open f k xs) n ≡ free → (busy : Option ℕ) → least (is_open (p k.facts.class) k xs) n ≡ busy → AreOnce n (xs ++ placed t free busy)
    by_least (Some c) e busy e' =
        once_more n xs (record { cpu = c; tid = t; preempt = false }) h' (is_open_parts f k xs c (least_passes (is_open f k xs) n c e)).2 (least_below (is_open f k xs) n c e)
    by_least None e (Some c) e' =
        once_more n xs (record { cpu = c; tid = t; preempt = true }) h' (is_open_parts (p k.facts.class) k xs c (least_passes (is_open (p k.facts.class) k xs) n c e')).2
        (least_below (is_open (p k.facts.class) k xs) n c e')
    by_least None e None e' = subst (AreOnce n) (sym (append-nil xs)) h'

once_planned : (n : ℕ) (f : ℕ → Bool) (p : Class → ℕ → Bool) (v : Look) (xs : List Choice) (ts : List ℕ) → AreOnce n xs → AreOnce n (planned n f p v xs ts)
once_planned n f p v xs [] h = h
once_planned n f p v xs (t ∷ ts) h = once_planned n f p v (xs ++ choice n f p xs t (v t)) ts (once_placed n f p xs t (v t) h)

-- so there are no more of them than there may be CPUs
pub planned_most : (l : Candidates) (v : Look) (ts : List ℕ) → length (planned_of l v [] ts) ≤ 128
unfolding IsDistinct
planned_most l v ts =
    let xs = planned_of l v [] ts in
    let all = once_planned 128 (has l.free) (is_busy_for l) v [] ts (record { once = tt; below = λ c e. absurd cc }) in
    let few : length (cpus xs) ≤ 128 = length-le_from_distinct_below (cpus xs) 128 all.once all.below in
    omega (arith, few, length-map xs (λ (x : Choice). x.cpu))
