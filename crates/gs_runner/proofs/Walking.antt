-- A walk over the CPUs of a mask whose slots are not idle, which lists the slots that land.
use Rattle.std.proofs.Common.{◌≡◌, ◌≢◌, ◌⊎◌, inl, inr, ℕ, zero, suc, ◌+◌, ◌-◌, ◌<◌, ◌≤◌, ◌++◌, ◌∷◌, [], Bool, true, false, not, length, List, Option, None, Some, refl, ap, sym, ◌∙◌, append-nil, append_assoc, arith, slice_get, take}
use Rattle.std.specs.Prelude.{◌&&◌}
use Rattle.std.proofs.lemmas.Bool.{cases_lt, false≢true}
use Rattle.std.proofs.lemmas.List.{take_all}
use Rattle.std.proofs.lemmas.Option.{slice_get_within}
use Rattle.gs_slots.specs.Busy.{is_busy, is_busy_at, is_busy_if_any}
use Rattle.gs_slots.specs.Reading.{state_in}
use Rattle.gs_slots.proofs.Laws.{quiet_read}
use Rattle.gs_status.specs.Masks.{has}
use Rattle.gs_runner.specs.Calls.{is_settled, is_wanted, landed_if, landed_slots}

abbrev pub Slots : Type 0
Slots = List (ℕ × List ℕ)

-- the slot of CPU k, if there is one and it lands
abbrev pub landed_at : ℕ → ℕ → Option (List ℕ) → Slots
landed_at mask k None = []
landed_at mask k (Some b) = landed_if (is_wanted mask k b) k b

-- the slots that land among the first, and among one more
slots_next : (mask k i : ℕ) (bs : List (List ℕ)) → landed_slots mask k (take (i + 1) bs) ≡ landed_slots mask k (take i bs) ++ landed_at mask (k + i) (slice_get bs i)
slots_next mask k i [] = ap (landed_slots mask k) (take_all (i + 1) [] (omega arith) ∙ sym (take_all i [] (omega arith))) ∙ sym (append-nil (landed_slots mask k (take i [])))
slots_next mask k zero (b ∷ bs) =
    let n : k ≡ k + 0 = omega arith in
    append-nil (landed_at mask k (Some b)) ∙ ap (λ (m : ℕ). landed_at mask m (Some b)) n
slots_next mask k (suc i) (b ∷ bs) =
    let n : suc k + i ≡ k + suc i = omega arith in
    let m : suc i + 1 ≡ suc (i + 1) = omega arith in
    ap (λ (q : ℕ). landed_slots mask k (take q (b ∷ bs))) m
    ∙ (ap (λ (xs : Slots). landed_at mask k (Some b) ++ xs) (slots_next mask (suc k) i bs ∙ ap (λ (q : ℕ). landed_slots mask (suc k) (take i bs) ++ landed_at mask q (slice_get bs i)) n)
    ∙ sym (append_assoc (landed_at mask k (Some b)) (landed_slots mask (suc k) (take i bs)) (landed_at mask (k + suc i) (slice_get bs i))))

one_next : (mask i : ℕ) (bs : List (List ℕ)) → landed_slots mask 0 (take (i + 1) bs) ≡ landed_slots mask 0 (take i bs) ++ landed_at mask i (slice_get bs i)
one_next mask i bs = let n : 0 + i ≡ i = omega arith in slots_next mask 0 i bs ∙ ap (λ (q : ℕ). landed_slots mask 0 (take i bs) ++ landed_at mask q (slice_get bs i)) n

-- what the walk passes over does not land
abbrev pub Skips : ℕ → ℕ → List (List ℕ) → Type 0
Skips mask both region = (i : ℕ) → has both i ≡ false → landed_at mask i (slice_get region i) ≡ []

quiet_settled : (k : ℕ) (b : List ℕ) → is_busy b ≡ false → is_settled (state_in k b) ≡ true
quiet_settled k b e = ap is_settled (quiet_read k b e)

skips_one : (wanted : Bool) (k : ℕ) (b : List ℕ) → (wanted && is_busy b) ≡ false → landed_if (wanted && not (is_settled (state_in k b))) k b ≡ []
skips_one false k b e = refl
skips_one true k b e = ap (λ (q : Bool). landed_if (not q) k b) (quiet_settled k b e)

skips : (both own mask : ℕ) (region : List (List ℕ)) → length region ≤ 128 → ((c : ℕ) → has both c ≡ (has mask c && has own c)) → ((c : ℕ) → c < 128 → has own c ≡ is_busy_at region c) → Skips mask both region
skips both own mask region few of busy i none = by_place (slice_get region i) refl
  where
    within : length region ≤ 128
    within = few

    away : has both i ≡ false
    away = none

    is_both : has both i ≡ (has mask i && has own i)
    is_both = of i

    is_own : i < 128 → has own i ≡ is_busy_at region i
    is_own = busy i

    by_place : (o : Option (List ℕ)) → slice_get region i ≡ o → landed_at mask i o ≡ []
    by_place None e = refl
    by_place (Some b) e =
        let lt = slice_get_within region i b e in
        skips_one (has mask i) i b (sym (ap (λ (q : Bool). has mask i && q) (is_own (omega (arith, lt, within)) ∙ ap is_busy_if_any e)) ∙ (sym is_both ∙ away))

-- one that is not passed over is there
there_is : (both own mask : ℕ) (region : List (List ℕ)) (i : ℕ) → i < 128 → ((c : ℕ) → has both c ≡ (has mask c && has own c)) → ((c : ℕ) → c < 128 → has own c ≡ is_busy_at region c) → has both i ≡ true → (has mask i ≡ true) × (i < length region)
there_is both own mask region i lt of busy there = (and_first (has mask i) (has own i) (sym (of i) ∙ there), by_place (slice_get region i) refl)
  where
    and_first : (a b : Bool) → (a && b) ≡ true → a ≡ true
    and_first true b e = refl
    and_first false b e = absurd cc

    and_last : (a b : Bool) → (a && b) ≡ true → b ≡ true
    and_last true b e = e
    and_last false b e = absurd cc

    found : is_busy_at region i ≡ true
    found = sym (busy i lt) ∙ and_last (has mask i) (has own i) (sym (of i) ∙ there)

    by_place : (o : Option (List ℕ)) → slice_get region i ≡ o → i < length region
    by_place None e = absurd (false≢true (sym (ap is_busy_if_any e) ∙ found))
    by_place (Some b) e = slice_get_within region i b e

-- a mask of which a walk goes over those CPUs whose slots are not idle
pub record IsOver (mask both own : ℕ) (region : List (List ℕ)) : Type 0 where
  pub few : length region ≤ 128
  pub of : (c : ℕ) → has both c ≡ (has mask c && has own c)
  pub busy : (c : ℕ) → c < 128 → has own c ≡ is_busy_at region c

-- those below a place were looked at, and what is left is what is to come
pub record IsWalked (mask both left : ℕ) (region : List (List ℕ)) (xs : Slots) : Type 0 where
  pub from : ℕ
  pub passed : (c : ℕ) → c < from → has left c ≡ false
  pub to_come : (c : ℕ) → from ≤ c → has left c ≡ has both c
  pub so_far : xs ≡ landed_slots mask 0 (take from region)
  pub skip : Skips mask both region

walked_none : (mask both : ℕ) (region : List (List ℕ)) (xs : Slots) → Skips mask both region → xs ≡ [] → IsWalked mask both both region xs
walked_none mask both region xs skip e = record { from = 0; passed = λ c lt. absurd (omega (arith, lt)); to_come = λ c ge. refl; so_far = e; skip = skip }

-- so many are passed over
some_past : (mask both i d : ℕ) (region : List (List ℕ)) → Skips mask both region → ((c : ℕ) → i ≤ c → c < i + d → has both c ≡ false) → landed_slots mask 0 (take (i + d) region) ≡ landed_slots mask 0 (take i region)
some_past mask both i zero region skip none = ap (λ (n : ℕ). landed_slots mask 0 (take n region)) (let e : i + 0 ≡ i = omega arith in e)
some_past mask both i (suc d) region skip none =
    ap (λ (n : ℕ). landed_slots mask 0 (take n region)) (let e : i + suc d ≡ i + d + 1 = omega arith in e)
    ∙ (one_next mask (i + d) region
    ∙ (ap (λ (xs : Slots). landed_slots mask 0 (take (i + d) region) ++ xs) (skip (i + d) (none (i + d) (omega arith) (omega arith)))
    ∙ (append-nil (landed_slots mask 0 (take (i + d) region)) ∙ some_past mask both i d region skip (λ c ge lt. none c ge (omega (arith, lt))))))

not_behind : (left from k : ℕ) → ((c : ℕ) → c < from → has left c ≡ false) → has left k ≡ true → from ≤ k
not_behind left from k passed there = by_place (cases_lt k from)
  where
    by_place : (k < from) ⊎ (from ≤ k) → from ≤ k
    by_place (inl lt) = absurd (false≢true (sym (passed k lt) ∙ there))
    by_place (inr le) = le

-- what is left is of those that are not passed over
walked_busy : (mask both left k : ℕ) (region : List (List ℕ)) (xs : Slots) → IsWalked mask both left region xs → has left k ≡ true → has both k ≡ true
walked_busy mask both left k region xs w there = sym (w.to_come k (not_behind left w.from k w.passed there)) ∙ there

landed_one : (mask k : ℕ) (b : List ℕ) → has mask k ≡ true → landed_if (not (is_settled (state_in k b))) k b ≡ landed_if (is_wanted mask k b) k b
landed_one mask k b e = ap (λ (q : Bool). landed_if (q && not (is_settled (state_in k b))) k b) (sym e)

-- the least CPU that is left was looked at, which is left no more
walked_push : (mask both left left' k : ℕ) (region : List (List ℕ)) (b : List ℕ) (xs after : Slots) → IsWalked mask both left region xs → has left k ≡ true → ((c : ℕ) → c < k → has left c ≡ false)
    → has left' k ≡ false → ((c : ℕ) → c ≢ k → has left' c ≡ has left c) → has mask k ≡ true → slice_get region k ≡ Some b → after ≡ xs ++ landed_if (not (is_settled (state_in k b))) k b
    → IsWalked mask both left' region after
walked_push mask both left left' k region b xs after w there none gone others want found is =
    let ge : w.from ≤ k = not_behind left w.from k w.passed there in
    let to : w.from + (k - w.from) ≡ k = omega (arith, ge) in
    let upto : landed_slots mask 0 (take k region) ≡ landed_slots mask 0 (take w.from region) =
    ap (λ (n : ℕ). landed_slots mask 0 (take n region)) (sym to) ∙ some_past mask both w.from (k - w.from) region w.skip (λ c past lt. sym (w.to_come c past) ∙ none c (omega (arith, lt, to)))
    in
    record {
      from = k + 1;
      passed = λ c below. by_place c (cases_lt c k) below;
      to_come = λ c past. others c (λ e. absurd (omega (arith, e, past))) ∙ w.to_come c (omega (arith, ge, past));
      so_far = is
          ∙ (ap (λ (ys : Slots). ys ++ landed_if (not (is_settled (state_in k b))) k b) (w.so_far ∙ sym upto)
          ∙ (ap (λ (ys : Slots). landed_slots mask 0 (take k region) ++ ys) (landed_one mask k b want ∙ ap (landed_at mask k) (sym found)) ∙ sym (one_next mask k region)));
      skip = w.skip;
    }
  where
    is_gone : has left' k ≡ false
    is_gone = gone

    same : (c : ℕ) → c ≢ k → has left' c ≡ has left c
    same = others

    before_none : (c : ℕ) → c < k → has left c ≡ false
    before_none = none

    by_place : (c : ℕ) → (c < k) ⊎ (k ≤ c) → c < k + 1 → has left' c ≡ false
    by_place c (inl below) lt' = same c (λ e. absurd (omega (arith, e, below))) ∙ before_none c below
    by_place c (inr past) lt' = ap (has left') (let e : c ≡ k = omega (arith, past, lt') in e) ∙ is_gone

-- if none is left, all that land are listed
walked_end : (mask both left : ℕ) (region : List (List ℕ)) (xs : Slots) → IsWalked mask both left region xs → ((c : ℕ) → has left c ≡ false) → xs ≡ landed_slots mask 0 region
walked_end mask both left region xs w none =
    w.so_far
    ∙ (sym (some_past mask both w.from (length region) region w.skip (λ c past lt. sym (w.to_come c past) ∙ none c))
    ∙ ap (landed_slots mask 0) (take_all (w.from + length region) region (omega arith)))

-- ---- the walk, over whatever it goes

-- a walk that has come so far
pub record WalksOver (mask left : ℕ) (region : List (List ℕ)) (xs : Slots) : Type 0 where
  pub both : ℕ
  pub own : ℕ
  pub over : IsOver mask both own region
  pub walked : IsWalked mask both left region xs

pub over_none : (mask both own : ℕ) (region : List (List ℕ)) (xs : Slots) → length region ≤ 128 → ((c : ℕ) → has both c ≡ (has mask c && has own c)) → ((c : ℕ) → c < 128 → has own c ≡ is_busy_at region c) → xs ≡ [] → WalksOver mask both region xs
over_none mask both own region xs few of busy e = record { both = both; own = own; over = record { few = few; of = of; busy = busy }; walked = walked_none mask both region xs (skips both own mask region few of busy) e }

-- the next CPU has a slot, and is of the mask
pub over_there : (mask left k : ℕ) (region : List (List ℕ)) (xs : Slots) → WalksOver mask left region xs → k < 128 → has left k ≡ true → (has mask k ≡ true) × (k < length region)
over_there mask left k region xs w lt there = there_is w.both w.own mask region k lt w.over.of w.over.busy (walked_busy mask w.both left k region xs w.walked there)

pub over_push : (mask left left' k : ℕ) (region : List (List ℕ)) (b : List ℕ) (xs after : Slots) → WalksOver mask left region xs → k < 128 → has left k ≡ true → ((c : ℕ) → c < k → has left c ≡ false)
    → has left' k ≡ false → ((c : ℕ) → c ≢ k → has left' c ≡ has left c) → slice_get region k ≡ Some b → after ≡ xs ++ landed_if (not (is_settled (state_in k b))) k b → WalksOver mask left' region after
over_push mask left left' k region b xs after w lt there none gone others found is = record {
  both = w.both;
  own = w.own;
  over = w.over;
  walked = walked_push mask w.both left left' k region b xs after w.walked there none gone others (over_there mask left k region xs w lt there).0 found is;
}

pub over_end : (mask left : ℕ) (region : List (List ℕ)) (xs : Slots) → WalksOver mask left region xs → ((c : ℕ) → has left c ≡ false) → xs ≡ landed_slots mask 0 region
over_end mask left region xs w none = walked_end mask w.both left region xs w.walked none
