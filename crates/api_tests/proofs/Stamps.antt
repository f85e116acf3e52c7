-- Laws for those who stamp and collect slots.
use Rattle.std.proofs.Common.{◌≡◌, false, ℕ, suc, ◌+◌, None, Result, Ok, Err, IfOk, OnOk, slice_set, List, [], ◌∷◌, ◌++◌, length, refl, ap, sym, ◌∙◌, arith}
use Rattle.gs_layout.specs.declared.outcome.Outcome.TheVariants.{Stale}
use Rattle.gs_layout.specs.declared.refusal.Refusal.{Refusal}
use Rattle.gs_slots.specs.declared.state.SlotBusy.{SlotBusy}
use Rattle.gs_slots.specs.declared.state.SlotState.{SlotState}
use Rattle.gs_slots.specs.declared.state.SlotState.TheVariants.{Idle, Stamped, Done}
use Rattle.gs_slots.specs.declared.state.Stamp.{Stamp}
use Rattle.api_tests.specs.Stale.{stale_if_stamped, stale_in}
use Rattle.gs_slots.specs.Lending.{left_as}
use Rattle.gs_slots.specs.Reading.{all_collected, by_cpu, collected_in, state_in, states_in}
use Rattle.gs_slots.specs.Spelling.{slot_spelling}
use Rattle.gs_slots.specs.State.{Held, has_stamp}
use Rattle.gs_slots.proofs.Laws.{all_left, by_cpu_count, read_spelt}

-- a state that is read of bytes is spelt by them
pub read_bytes : (k : ℕ) (x : List ℕ) (z : SlotState) → state_in k x ≡ Ok z → x ≡ slot_spelling k z
read_bytes k x z e = (read_spelt k x z e).0

-- what is read of two slots and the rest
pub two_read : (a b : List ℕ) (rest : List (List ℕ)) (x y : Held) → state_in 0 a ≡ x → state_in 1 b ≡ y → states_in 0 (a ∷ b ∷ rest) ≡ x ∷ y ∷ states_in 2 rest
two_read a b rest x y e f = λ i. e i ∷ f i ∷ states_in 2 rest

-- a slot and those behind it
pub next_collected : (k : ℕ) (x : List ℕ) (xs : List (List ℕ)) → collected_in k x ∷ all_collected (k + 1) xs ≡ all_collected k (x ∷ xs)
next_collected k x xs = ap (λ (n : ℕ). collected_in k x ∷ all_collected n xs) (let e : k + 1 ≡ suc k = omega arith in e)

by_cpu_append : (f : ℕ → List ℕ → List ℕ) (k : ℕ) (xs ys : List (List ℕ)) → by_cpu f k (xs ++ ys) ≡ by_cpu f k xs ++ by_cpu f (k + length xs) ys
by_cpu_append f k [] ys = ap (λ (n : ℕ). by_cpu f n ys) (let e : k ≡ k + 0 = omega arith in e)
by_cpu_append f k (x ∷ xs) ys = ap (λ (zs : List (List ℕ)). f k x ∷ zs) (by_cpu_append f (suc k) xs ys ∙ ap (λ (n : ℕ). by_cpu f (suc k) xs ++ by_cpu f n ys) (let e : suc k + length xs ≡ k + suc (length xs) = omega arith in e))

-- both parts of slots
pub parts_collected : (slots low high low' high' : List (List ℕ)) (first at : ℕ) → slots ≡ low ++ high → first ≡ 0 → first + length low ≡ at → low' ≡ all_collected first low → high' ≡ all_collected at high → left_as slots (low' ++ high') ≡ all_collected 0 slots
parts_collected slots low high low' high' first at whole zero split l h =
    let both : low' ++ high' ≡ all_collected 0 slots =
    (λ i. (l ∙ ap (λ (n : ℕ). all_collected n low) zero) i ++ (h ∙ ap (λ (n : ℕ). all_collected n high) (let e : at ≡ 0 + length low = omega (arith, split, zero) in e)) i)
    ∙ sym (by_cpu_append collected_in 0 low high) ∙ ap (all_collected 0) (sym whole) in
    all_left slots (low' ++ high') (ap length both ∙ by_cpu_count collected_in 0 slots) ∙ both

-- a call that stamps into one slot of a region spells what it stamps
pub set_stamped : (r : Result (Unit {0}) SlotBusy) (xs : List (List ℕ)) (k n : ℕ) (x : List ℕ) (z : SlotState) → n ≡ k → OnOk r (state_in n x ≡ Ok z) → OnOk r (slice_set xs k x ≡ slice_set xs k (slot_spelling k z))
set_stamped (Ok u) xs k n x z is e = ap (slice_set xs k) (read_bytes k x z (ap (λ (m : ℕ). state_in m x) (sym is) ∙ e))
set_stamped (Err f) xs k n x z is e = tt

pub set_numbered : (r : Result ℕ Refusal) (xs : List (List ℕ)) (k n : ℕ) (x : List ℕ) (z : ℕ → SlotState) → n ≡ k → IfOk r (λ t. state_in n x ≡ Ok (z t)) → IfOk r (λ t. slice_set xs k x ≡ slice_set xs k (slot_spelling k (z t)))
set_numbered (Ok t) xs k n x z is e = ap (slice_set xs k) (read_bytes k x (z t) (ap (λ (m : ℕ). state_in m x) (sym is) ∙ e))
set_numbered (Err f) xs k n x z is e = tt

stale_by : (k : ℕ) (b x : List ℕ) (h : Held) → state_in k b ≡ h → ((s : Stamp) → state_in k b ≡ Ok (Stamped s) → state_in k x ≡ Ok (Done s Stale None 7)) → (has_stamp (state_in k b) ≡ false → x ≡ b) → x ≡ stale_if_stamped h k b
stale_by k b x (Ok (Stamped s)) e stale other = read_bytes k x (Done s Stale None 7) (stale s e)
stale_by k b x (Ok Idle) e stale other = other (ap has_stamp e)
stale_by k b x (Ok (Done s o a n)) e stale other = other (ap has_stamp e)
stale_by k b x (Err f) e stale other = other (ap has_stamp e)

-- a stamped slot that was refused as stale, and any other as it was
pub stale_left : (k : ℕ) (b x : List ℕ) → ((s : Stamp) → state_in k b ≡ Ok (Stamped s) → state_in k x ≡ Ok (Done s Stale None 7)) → (has_stamp (state_in k b) ≡ false → x ≡ b) → x ≡ stale_in k b
unfolding stale_in
stale_left k b x stale other = stale_by k b x (state_in k b) refl stale other
