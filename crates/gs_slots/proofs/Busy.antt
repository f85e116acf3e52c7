-- Slots that are other than idle.
use Rattle.std.proofs.Common.{◌≡◌, ◌≢◌, Bool, true, false, not, ℕ, zero, suc, ◌+◌, ◌-◌, ◌<◌, ◌≤◌, ◌⊎◌, inl, inr, Option, None, Some, Ok, List, ◌++◌, length, replicate, take, drop, slice_get, refl, ap, sym, subst, ◌∙◌, arith, ⊎_elim}
use Rattle.std.specs.Prelude.{◌==◌, ◌||◌, nat_eq, unwrap_or}
use Rattle.std.specs.Cmp.Lexicographic.{bytes_decides, pointwise}
use Rattle.std.specs.Int.{bit_at, bit_not, w128}
use Rattle.std.proofs.lemmas.Bool.{cases_eq, cases_lt, eqb-true, or_parts, not-false, both_ways}
use Rattle.std.proofs.lemmas.List.{length-replicate}
use Rattle.std.proofs.lemmas.Nat.Bits.{bit_at-lt, bit_at_not, shr_and_one}
use Rattle.gs_slots.specs.declared.wire.TheConstants.{SLOT_LEN}
use Rattle.gs_status.specs.declared.mask.TheConstants.{MOST_CPUS}
use Rattle.gs_layout.proofs.Laws.{IsBytes}
use Rattle.gs_status.proofs.Laws.{least_before, least_passes, nobody}
use Rattle.gs_status.specs.Masks.{has, least}
use Rattle.gs_slots.specs.Busy.{CoversBusy, is_busy, is_busy_at, is_busy_if_any, is_flagged_at, is_flagged_if_any}
use Rattle.gs_slots.specs.declared.state.SlotState.TheVariants.{Idle}
use Rattle.gs_slots.specs.Reading.{is_flagged, state_in}
use Rattle.gs_slots.specs.Spelling.{idle_bytes}
use Rattle.gs_slots.specs.Tests.{is_idle}
use Rattle.gs_slots.proofs.Exact.{idle_sound, read_spelt, same_tests}
use Rattle.gs_slots.proofs.Filled.{all_left}
use Rattle.gs_slots.proofs.States.{idle_read}

-- the numbers of the bytes tell
pub busy_by_test : (xs : List ℕ) → IsBytes xs → length xs ≡ SLOT_LEN → not (is_idle xs) ≡ is_busy xs
unfolding is_busy
busy_by_test xs fits size =
    ap not (same_tests (is_idle xs) (pointwise nat_eq xs idle_bytes) (λ e. (bytes_decides xs idle_bytes).1 (sym (idle_sound xs fits size e))) (λ e. ap is_idle ((bytes_decides xs idle_bytes).0 e)))

-- a slot that is not busy is idle
pub quiet_bytes : (xs : List ℕ) → is_busy xs ≡ false → xs ≡ idle_bytes
unfolding is_busy
quiet_bytes xs e = (bytes_decides xs idle_bytes).0 (not-false (pointwise nat_eq xs idle_bytes) e)

pub quiet_read : (k : ℕ) (xs : List ℕ) → is_busy xs ≡ false → state_in k xs ≡ Ok Idle
quiet_read k xs e = ap (state_in k) (quiet_bytes xs e) ∙ idle_read k

pub idle_quiet : is_busy idle_bytes ≡ false
unfolding is_busy
idle_quiet = refl

-- a slot that is read as idle is not busy
pub read_quiet : (k : ℕ) (xs : List ℕ) → state_in k xs ≡ Ok Idle → is_busy xs ≡ false
read_quiet k xs e = ap is_busy (read_spelt k xs Idle e).0 ∙ idle_quiet

-- slots of a new region are not busy
pub none_busy : (n c : ℕ) → is_busy_at (replicate n idle_bytes) c ≡ false
none_busy zero zero = refl
none_busy zero (suc c) = refl
none_busy (suc n) zero = idle_quiet
none_busy (suc n) (suc c) = none_busy n c

-- of the mask of all ones, each CPU is in it
pub all_ones : (c : ℕ) → c < MOST_CPUS → has (bit_not w128 0) c ≡ true
all_ones c lt = ap (λ (k : ℕ). k == 1) (shr_and_one (bit_not w128 0) c) ∙ ap (λ (k : ℕ). k == 1) (bit_at_not w128 0 c (omega arith) lt ∙ flipped (bit_at 0 c) (bit_at-lt 0 c) none)
  where
    none : (bit_at 0 c == 1) ≡ false
    none = ap (λ (k : ℕ). k == 1) (sym (shr_and_one 0 c)) ∙ nobody c

    flipped : (x : ℕ) → x < 2 → (x == 1) ≡ false → 1 - x ≡ 1
    flipped zero lt e = refl
    flipped (suc zero) lt e = absurd cc
    flipped (suc (suc x)) lt e = absurd (omega arith)

-- a mask that has all is a region's, whatever is in its slots
pub all_covered : (xs : List (List ℕ)) → CoversBusy xs (bit_not w128 0)
all_covered xs c lt e = absurd (both_ways (has (bit_not w128 0) c) e (all_ones c lt))

-- ---- a walk through the CPUs that may be busy

-- how far a walk has to go that has come to the least CPU of these
abbrev pub ahead : ℕ → ℕ
ahead left = MOST_CPUS - unwrap_or (least (has left) MOST_CPUS) MOST_CPUS

-- the walk goes up, from the least CPU that is left to the next
pub goes_up : (left left' k : ℕ) → least (has left) MOST_CPUS ≡ Some k → k < MOST_CPUS → has left' k ≡ false → ((c : ℕ) → c ≢ k → has left' c ≡ has left c) → ahead left' < ahead left
goes_up left left' k found lt gone rest = subst (λ (o : Option ℕ). ahead left' < MOST_CPUS - unwrap_or o MOST_CPUS) (sym found) (by_next (least (has left') MOST_CPUS) refl)
  where
    later : (j : ℕ) → has left' j ≡ true → (j < k + 1) ⊎ (k + 1 ≤ j) → k + 1 ≤ j
    later j there (inr past) = past
    later j there (inl early) = absurd (⊎_elim
        (λ e. both_ways (has left' j) (ap (has left') e ∙ gone) there)
        (λ other. both_ways (has left' j) (rest j other ∙ least_before (has left) MOST_CPUS k found j (omega (arith, early, other))) there)
        (cases_eq j k))

    by_next : (o : Option ℕ) → least (has left') MOST_CPUS ≡ o → MOST_CPUS - unwrap_or o MOST_CPUS < MOST_CPUS - k
    by_next None e = omega (arith, lt)
    by_next (Some j) e = let past : k + 1 ≤ j = later j (least_passes (has left') MOST_CPUS j e) (cases_lt j (k + 1)) in omega (arith, lt, past)

-- those of the CPUs that the walk passed that are found are the busy ones; those that are left are all there
pub record IsFound (slots : List (List ℕ)) (busy left : ℕ) : Type 0 where
  pub right : (c : ℕ) → c < MOST_CPUS → has left c ≡ false → has busy c ≡ is_busy_at slots c
  pub kept : (c : ℕ) → has left c ≡ true → has busy c ≡ true

pub found_first : (slots : List (List ℕ)) (lent : ℕ) → CoversBusy slots lent → IsFound slots lent lent
found_first slots lent covers = record { right = λ c lt free. free ∙ sym (covers c lt free); kept = λ c there. there }

-- one CPU more was looked at
pub found_more : (slots : List (List ℕ)) (busy busy' left left' k : ℕ) → IsFound slots busy left
    → has busy' k ≡ is_busy_at slots k → ((c : ℕ) → c ≢ k → has busy' c ≡ has busy c) → has left' k ≡ false → ((c : ℕ) → c ≢ k → has left' c ≡ has left c) → IsFound slots busy' left'
found_more slots busy busy' left left' k i here others gone rest = record {
  right = λ c below passed. ⊎_elim (λ e. ap (has busy') e ∙ (here ∙ ap (is_busy_at slots) (sym e))) (λ other. others c other ∙ i.right c below (sym (rest c other) ∙ passed)) (cases_eq c k);
  kept = λ c there. ⊎_elim (λ e. absurd (both_ways (has left' c) (ap (has left') e ∙ gone) there)) (λ other. others c other ∙ i.kept c (sym (rest c other) ∙ there)) (cases_eq c k);
}

-- a slot that is not busy has no flag
quiet_flag : (slots : List (List ℕ)) (c : ℕ) → is_busy_at slots c ≡ false → is_flagged_at slots c ≡ false
quiet_flag slots c quiet = by_get (slice_get slots c) quiet
  where
    by_get : (o : Option (List ℕ)) → is_busy_if_any o ≡ false → is_flagged_if_any o ≡ false
    by_get None e = refl
    by_get (Some x) e = ap is_flagged (quiet_bytes x e)

pub none_flagged : (n c : ℕ) → is_flagged_at (replicate n idle_bytes) c ≡ false
none_flagged n c = quiet_flag (replicate n idle_bytes) c (none_busy n c)

-- and of those that the walk passed none has the flag, unless one was seen
pub record IsLooked (slots : List (List ℕ)) (busy : ℕ) (flagged : Bool) (left : ℕ) : Type 0 where
  pub found : IsFound slots busy left
  pub single : flagged ≡ false → (c : ℕ) → c < MOST_CPUS → has left c ≡ false → is_flagged_at slots c ≡ false

pub looked_first : (slots : List (List ℕ)) (lent : ℕ) → CoversBusy slots lent → IsLooked slots lent false lent
looked_first slots lent covers = record { found = found_first slots lent covers; single = λ e c lt free. quiet_flag slots c (covers c lt free) }

pub looked_more : (slots : List (List ℕ)) (busy busy' : ℕ) (flagged flagged' : Bool) (left left' k : ℕ) → IsLooked slots busy flagged left → IsFound slots busy' left' → flagged' ≡ (flagged || is_flagged_at slots k)
    → ((c : ℕ) → c ≢ k → has left' c ≡ has left c) → IsLooked slots busy' flagged' left'
looked_more slots busy busy' flagged flagged' left left' k i found is rest = record {
  found = found;
  single = λ e c lt passed.
      let parts = or_parts flagged (is_flagged_at slots k) (sym is ∙ e) in
      ⊎_elim (λ same. ap (is_flagged_at slots) same ∙ parts.1) (λ other. i.single parts.0 c lt (sym (rest c other) ∙ passed)) (cases_eq c k);
}

-- the mask of no CPU has none
pub none_left : (left : ℕ) → (left == 0) ≡ true → (c : ℕ) → has left c ≡ false
none_left left e c = ap (λ (m : ℕ). has m c) (eqb-true left 0 e) ∙ nobody c

-- slots that were all made idle
pub all_cleared : (xs ys : List (List ℕ)) (n : ℕ) → length xs ≡ n → ys ≡ replicate n idle_bytes → take n (ys ++ drop (length ys) xs) ≡ replicate n idle_bytes
all_cleared xs ys n size e =
    let same : length ys ≡ length xs = ap length e ∙ (length-replicate n idle_bytes ∙ sym size) in
    ap (λ (m : ℕ). take m (ys ++ drop (length ys) xs)) (sym size) ∙ (all_left xs ys same ∙ e)
