-- The flag of a group in the bytes of a slot, and in what is read of them.
use Rattle.std.proofs.Common.{◌≡◌, Bool, true, false, ℕ, zero, suc, ◌+◌, ◌⊎◌, inl, inr, Some, Ok, Err, List, [], ◌∷◌, cond, slice_get, refl, ap, sym, ◌∙◌, arith, ⊎_elim}
use Rattle.std.specs.Prelude.{◌&&◌, ◌==◌, slice_index}
use Rattle.std.specs.Option.{option_map}
use Rattle.gs_slots.specs.declared.wire.TheConstants.{DONE, STAMPED, STATE_AT}
use Rattle.gs_slots.specs.declared.state.SlotState.{SlotState}
use Rattle.gs_slots.specs.declared.state.SlotState.TheVariants.{Idle, Stamped, Done}
use Rattle.gs_slots.specs.Reading.{by_cpu, collected_in, done_in, fields_in, idle_if_done, is_flagged, is_spelt, stamp_in, state_in, state_or_idle}
use Rattle.gs_slots.specs.Spelling.{can_hold, idle_bytes}
use Rattle.gs_slots.specs.State.{Held, is_grouped}

-- what is read of a slot is idle, or its transaction is one of a group as the flag says
pub flag_is : (k : ℕ) (b : List ℕ) → (state_or_idle (state_in k b) ≡ Idle) ⊎ (is_grouped (state_or_idle (state_in k b)) ≡ is_flagged b)
unfolding state_in
flag_is k b = by_test (is_spelt k b && can_hold (fields_in b)) (slice_index b STATE_AT == STAMPED) (slice_index b STATE_AT == DONE)
  where
    read : Bool → Bool → Bool → SlotState
    read t p q = state_or_idle (cond t (Ok (cond p (Stamped (stamp_in b)) (cond q (done_in b) Idle))) (Err (record {})))

    by_test : (t p q : Bool) → (read t p q ≡ Idle) ⊎ (is_grouped (read t p q) ≡ is_flagged b)
    by_test false p q = inl refl
    by_test true true q = inr refl
    by_test true false true = inr refl
    by_test true false false = inl refl

-- a slot that was collected is as it was, or idle
pub idle_or_same : (k : ℕ) (b : List ℕ) → (collected_in k b ≡ b) ⊎ (collected_in k b ≡ idle_bytes)
unfolding collected_in
idle_or_same k b = by_state (state_in k b)
  where
    by_state : (h : Held) → (idle_if_done h b ≡ b) ⊎ (idle_if_done h b ≡ idle_bytes)
    by_state (Ok Idle) = inl refl
    by_state (Ok (Stamped s)) = inl refl
    by_state (Ok (Done s outcome at seen)) = inr refl
    by_state (Err x) = inl refl

still_idle : (k : ℕ) → collected_in k idle_bytes ≡ idle_bytes
unfolding collected_in
still_idle k = by_state (state_in k idle_bytes)
  where
    by_state : (h : Held) → idle_if_done h idle_bytes ≡ idle_bytes
    by_state (Ok Idle) = refl
    by_state (Ok (Stamped s)) = refl
    by_state (Ok (Done s outcome at seen)) = refl
    by_state (Err x) = refl

-- and then there is nothing more to collect
pub clears_once : (k : ℕ) (b : List ℕ) → collected_in k (collected_in k b) ≡ collected_in k b
clears_once k b = ⊎_elim (λ same. ap (collected_in k) same) (λ idle. ap (collected_in k) idle ∙ (still_idle k ∙ sym idle)) (idle_or_same k b)

-- one of the slots that were changed, each as it is that of its CPU
pub by_cpu_at : {X Y : Type 0} (f : ℕ → X → Y) (first : ℕ) (xs : List X) (k : ℕ) → slice_get (by_cpu f first xs) k ≡ option_map (f (first + k)) (slice_get xs k)
by_cpu_at f first [] k = refl
by_cpu_at f first (x ∷ xs) zero = ap (λ (n : ℕ). Some (f n x)) (let e : first ≡ first + 0 = omega arith in e)
by_cpu_at f first (x ∷ xs) (suc k) = by_cpu_at f (suc first) xs k ∙ ap (λ (n : ℕ). option_map (f n) (slice_get xs k)) (let e : suc first + k ≡ first + suc k = omega arith in e)
