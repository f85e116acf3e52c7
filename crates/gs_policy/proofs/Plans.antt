-- Laws of plans that go through the waiting threads in order.
use Rattle.std.proofs.Common.{◌≡◌, refl, ap, ◌∙◌, ℕ, ◌<◌, Bool, true, false, ◌&&◌, ◌||◌, Option, None, Some, List, [], ◌∷◌, ◌++◌, length}
use Rattle.std.specs.Prelude.{◌==◌, not, nat_lt}
use Rattle.std.proofs.lemmas.Bool.{and_parts, ltb-true, or_left, or_right, eqb-true, eq-eqb, both_ways}
use Rattle.std.proofs.lemmas.List.Folds.{list_any-append}
use Rattle.gs_layout.specs.declared.facts.Class.{Class}
use Rattle.gs_layout.specs.declared.known.Known.{Known}
use Rattle.gs_layout.specs.View.{Look}
use Rattle.gs_status.specs.Masks.{has, least}
use Rattle.gs_status.proofs.Laws.{least_is_all}
use Rattle.gs_runq.specs.Queue.{is_in}
use Rattle.gs_beliefs.specs.Cpus.{is_free}
use Rattle.gs_policy.specs.declared.choice.Choice.{Choice}
use Rattle.gs_policy.proofs.Left.{uses_append}
use Rattle.gs_policy.specs.Plan.{PlansInOrder, PlansLeaveNone, choice, chooses, is_of, is_open, placed, planned, uses}

chooses_append : (xs ys : List Choice) (t : ℕ) → chooses (xs ++ ys) t ≡ (chooses xs t || chooses ys t)
chooses_append xs ys t = list_any-append (is_of t) xs ys

-- what a plan has it keeps
uses_stays : (n : ℕ) (f : ℕ → Bool) (p : Class → ℕ → Bool) (v : Look) (xs : List Choice) (ts : List ℕ) (c : ℕ) → uses xs c ≡ true → uses (planned n f p v xs ts) c ≡ true
uses_stays n f p v xs [] c e = e
uses_stays n f p v xs (t ∷ ts) c e =
    let ys : List Choice = choice n f p xs t (v t) in uses_stays n f p v (xs ++ ys) ts c (uses_append xs ys c ∙ or_left (uses xs c) (uses ys c) e)

chosen_stays : (n : ℕ) (f : ℕ → Bool) (p : Class → ℕ → Bool) (v : Look) (xs : List Choice) (ts : List ℕ) (u : ℕ) → chooses xs u ≡ true → chooses (planned n f p v xs ts) u ≡ true
chosen_stays n f p v xs [] u e = e
chosen_stays n f p v xs (t ∷ ts) u e =
    let ys : List Choice = choice n f p xs t (v t) in chosen_stays n f p v (xs ++ ys) ts u (chooses_append xs ys u ∙ or_left (chooses xs u) (chooses ys u) e)

placed_chooses : (t d : ℕ) (o : Option ℕ) → chooses (placed t (Some d) o) t ≡ true
placed_chooses t d o = or_left (t == t) false (eq-eqb t t refl)

used_if : (a b c : Bool) → a ≡ true → b ≡ true → ((a && b) && not c) ≡ false → c ≡ true
used_if true true true e f g = refl
used_if true true false e f g = absurd cc
used_if true false c e f g = absurd cc
used_if false b c e f g = absurd cc

-- the thread whose turn it is has its choice, or no such CPU is left
turn_beside : (n : ℕ) (f : ℕ → Bool) (p : Class → ℕ → Bool) (v : Look) (xs : List Choice) (ts : List ℕ) (t c : ℕ) (k : Known) (ys : List Choice) → ys ≡ choice n f p xs t (Some k)
    → chooses (planned n f p v (xs ++ ys) ts) t ≡ false → c < n → f c ≡ true → has k.facts.mask c ≡ true → uses (planned n f p v (xs ++ ys) ts) c ≡ true
turn_beside n f p v xs ts t c k ys is unchosen within free mask = by_least (least (is_open f k xs) n) refl
  where
    by_least : (o : Option ℕ) → least (is_open f k xs) n ≡ o → uses (planned n f p v (xs ++ ys) ts) c ≡ true
    by_least (Some d) e =
        let ys_are : ys ≡ placed t (Some d) (least (is_open (p k.facts.class) k xs) n) = is ∙ ap (λ (z : Option ℕ). placed t z (least (is_open (p k.facts.class) k xs) n)) e in
        let here : chooses (xs ++ ys) t ≡ true =
        chooses_append xs ys t ∙ or_right (chooses xs t) (chooses ys t) (ap (λ (zs : List Choice). chooses zs t) ys_are ∙ placed_chooses t d (least (is_open (p k.facts.class) k xs) n)) in
        absurd (both_ways (chooses (planned n f p v (xs ++ ys) ts) t) unchosen (chosen_stays n f p v (xs ++ ys) ts t here))
    by_least None e =
        let used : uses xs c ≡ true = used_if (f c) (has k.facts.mask c) (uses xs c) free mask (least_is_all (is_open f k xs) n e c within) in
        uses_stays n f p v (xs ++ ys) ts c (uses_append xs ys c ∙ or_left (uses xs c) (uses ys c) used)

planned_beside : (n : ℕ) (f : ℕ → Bool) (p : Class → ℕ → Bool) (v : Look) (xs : List Choice) (ts : List ℕ) (t c : ℕ) (k : Known) → is_in t ts ≡ true → v t ≡ Some k
    → chooses (planned n f p v xs ts) t ≡ false → c < n → f c ≡ true → has k.facts.mask c ≡ true → uses (planned n f p v xs ts) c ≡ true
planned_beside n f p v xs [] t c k waits known unchosen within free mask = absurd cc
planned_beside n f p v xs (u ∷ ts) t c k waits known unchosen within free mask =
    by_turn (planned_beside n f p v (xs ++ choice n f p xs u (v u)) ts t c k) (u == t) refl waits
  where
    by_turn : (is_in t ts ≡ true → v t ≡ Some k → chooses (planned n f p v (xs ++ choice n f p xs u (v u)) ts) t ≡ false → c < n → f c ≡ true → has k.facts.mask c ≡ true → uses (planned n f p v (xs ++ choice n f p xs u (v u)) ts) c ≡ true)
        → (b : Bool) → (u == t) ≡ b → (b || is_in t ts) ≡ true → uses (planned n f p v (xs ++ choice n f p xs u (v u)) ts) c ≡ true
    by_turn more true e waits' =
        let same : u ≡ t = eqb-true u t e in
        let is : choice n f p xs u (v u) ≡ choice n f p xs t (Some k) = ap (λ (z : ℕ). choice n f p xs z (v z)) same ∙ ap (choice n f p xs t) known in
        turn_beside n f p v xs ts t c k (choice n f p xs u (v u)) is unchosen within free mask
    by_turn more false e waits' = more waits' known unchosen within free mask

below_count : (a b : Bool) (c n : ℕ) → ((nat_lt c n && a) && b) ≡ true → c < n
below_count a b c n e = ltb-true c n (and_parts (nat_lt c n) a (and_parts (nat_lt c n && a) b e).0).0

pub leave_none : PlansLeaveNone
leave_none = λ may_take s t c k waits known unchosen free mask.
    planned_beside (length s.cpus.believed) (is_free s.cpus s.taken) (may_take s) s.view [] s.queue t c k waits known unchosen (below_count _ _ c (length s.cpus.believed) free) free mask

planned_push : (n : ℕ) (f : ℕ → Bool) (p : Class → ℕ → Bool) (v : Look) (xs : List Choice) (ts : List ℕ) (t : ℕ)
    → planned n f p v xs (ts ++ t ∷ []) ≡ planned n f p v xs ts ++ choice n f p (planned n f p v xs ts) t (v t)
planned_push n f p v xs [] t = refl
planned_push n f p v xs (u ∷ ts) t = planned_push n f p v (xs ++ choice n f p xs u (v u)) ts t

pub in_order : PlansInOrder
in_order = λ may_take s ts t. planned_push (length s.cpus.believed) (is_free s.cpus s.taken) (may_take s) s.view [] ts t
