-- A region one of whose slots was written.
use Rattle.std.proofs.Common.{◌≡◌, ◌≢◌, ◌↔◌, Bool, true, false, ℕ, zero, suc, ◌+◌, ◌<◌, Option, Some, Ok, List, [], ◌∷◌, length, slice_get, slice_set, refl, ap, sym, ◌∙◌, arith, ⊎_elim}
use Rattle.std.specs.Prelude.{◌==◌, ◌||◌}
use Rattle.std.proofs.lemmas.Bool.{cases_eq, eq-eqb, or_parts}
use Rattle.std.proofs.lemmas.List.{length-set}
use Rattle.gs_status.specs.declared.mask.TheConstants.{MOST_CPUS}
use Rattle.gs_status.specs.Masks.{has}
use Rattle.gs_slots.specs.declared.state.SlotState.TheVariants.{Idle, Stamped}
use Rattle.gs_slots.specs.declared.state.Stamp.{Stamp}
use Rattle.gs_slots.specs.Busy.{IsRegion, is_busy, is_busy_if_any, is_flagged_if_any}
use Rattle.gs_slots.specs.Flags.{flags_byte, flags_in}
use Rattle.gs_slots.specs.Reading.{is_flagged, state_in, states_in}
use Rattle.gs_slots.specs.Spelling.{IsSpellableStamp, idle_bytes, slot_spelling}
use Rattle.gs_slots.specs.State.{Held}
use Rattle.gs_slots.proofs.Busy.{idle_quiet, quiet_read, read_quiet}
use Rattle.gs_slots.proofs.Exact.{spelt_read}
use Rattle.gs_slots.proofs.States.{state_at, states_set}

get_same : {A : Type 0} (xs : List A) (k : ℕ) (x : A) → k < length xs → slice_get (slice_set xs k x) k ≡ Some x
get_same [] k x lt = absurd (omega (arith, lt))
get_same (y ∷ ys) zero x lt = refl
get_same (y ∷ ys) (suc k) x lt = get_same ys k x (omega (arith, lt))

get_other : {A : Type 0} (xs : List A) (k c : ℕ) (x : A) → c ≢ k → slice_get (slice_set xs k x) c ≡ slice_get xs c
get_other [] k c x other = refl
get_other (y ∷ ys) zero zero x other = absurd (other refl)
get_other (y ∷ ys) zero (suc c) x other = refl
get_other (y ∷ ys) (suc k) zero x other = refl
get_other (y ∷ ys) (suc k) (suc c) x other = get_other ys k c x (λ e. other (ap suc e))

-- what a test says of the slots of a region, if it is false of the slot that was written, and was of all others
none_passes : (test : Option (List ℕ) → Bool) (xs : List (List ℕ)) (k c : ℕ) (x : List ℕ) → k < length xs → (c ≡ k → test (Some x) ≡ false) → (c ≢ k → test (slice_get xs c) ≡ false) → test (slice_get (slice_set xs k x) c) ≡ false
none_passes test xs k c x lt here others =
    ⊎_elim
    (λ same. ap (λ (n : ℕ). test (slice_get (slice_set xs k x) n)) same ∙ (ap test (get_same xs k x lt) ∙ here same))
    (λ other. ap test (get_other xs k c x other) ∙ others other)
    (cases_eq c k)

-- any bytes may be written if their CPU is noted, and their flag
pub noted : (xs : List (List ℕ)) (lent lent' : ℕ) (flagged flagged' : Bool) (k : ℕ) (x : List ℕ) → IsRegion xs lent flagged → k < length xs → ((c : ℕ) → c < MOST_CPUS → has lent' c ≡ (has lent c || (c == k)))
    → (flagged' ≡ false → (flagged ≡ false) × (is_flagged x ≡ false)) → IsRegion (slice_set xs k x) lent' flagged'
noted xs lent lent' flagged flagged' k x region lt notes flags = record {
  few = omega (arith, length-set xs k x, region.few);
  covered = λ c below free.
      let parts = or_parts (has lent c) (c == k) (sym (notes c below) ∙ free) in
      none_passes is_busy_if_any xs k c x lt (λ same. absurd (let one : (c == k) ≡ true = eq-eqb c k same in cc parts.1)) (λ other. region.covered c below parts.0);
  single = λ e c below. none_passes is_flagged_if_any xs k c x lt (λ same. (flags e).1) (λ other. region.single (flags e).0 c below);
}

-- a slot that is made idle need not be noted
pub unnoted : (xs : List (List ℕ)) (lent lent' : ℕ) (flagged : Bool) (k : ℕ) → IsRegion xs lent flagged → k < length xs → ((c : ℕ) → c < MOST_CPUS → c ≢ k → has lent' c ≡ has lent c) → IsRegion (slice_set xs k idle_bytes) lent' flagged
unnoted xs lent lent' flagged k region lt others = record {
  few = omega (arith, length-set xs k idle_bytes, region.few);
  covered = λ c below free. none_passes is_busy_if_any xs k c idle_bytes lt (λ same. idle_quiet) (λ other. region.covered c below (sym (others c below other) ∙ free));
  single = λ e c below. none_passes is_flagged_if_any xs k c idle_bytes lt (λ same. refl) (λ other. region.single e c below);
}

-- the bytes of a stamped slot have the flag of its transaction
pub stamp_flagged : (k : ℕ) (s : Stamp) → is_flagged (slot_spelling k (Stamped s)) ≡ s.flags.group
stamp_flagged k s = by_flag s.flags.preempt s.flags.group
  where
    by_flag : (p g : Bool) → (flags_in (flags_byte (record { preempt = p; group = g }))).group ≡ g
    by_flag true true = refl
    by_flag true false = refl
    by_flag false true = refl
    by_flag false false = refl

same_value : {A : Type 0} (x y : A) → Some x ≡ Some y → x ≡ y
same_value x y e = cc

-- a slot of a region is idle exactly if it is not busy
pub idle_at : (xs : List (List ℕ)) (k : ℕ) (x : List ℕ) → slice_get xs k ≡ Some x → (is_busy x ≡ false) ↔ (slice_get (states_in 0 xs) k ≡ Some (Ok Idle))
idle_at xs k x is = (
  λ quiet. state_at 0 k xs x is ∙ ap Some (quiet_read (0 + k) x quiet),
  λ idle. read_quiet (0 + k) x (same_value (state_in (0 + k) x) (Ok Idle) (sym (state_at 0 k xs x is) ∙ idle)),
)

-- what is read of a region into one of whose slots a transaction was stamped
pub read_stamped : (xs : List (List ℕ)) (k : ℕ) (x : List ℕ) (s : Stamp) → IsSpellableStamp s → x ≡ slot_spelling k (Stamped s) → states_in 0 (slice_set xs k x) ≡ slice_set (states_in 0 xs) k (Ok (Stamped s))
read_stamped xs k x s numbers is =
    let own : 0 + k ≡ k = omega arith in
    states_set 0 k xs x ∙ ap (λ (y : Held). slice_set (states_in 0 xs) k y) (ap (λ (n : ℕ). state_in n x) own ∙ spelt_read k x (Stamped s) (refl, numbers) is)
