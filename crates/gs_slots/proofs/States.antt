-- What is read of slots by their CPUs.
use Rattle.std.proofs.Common.{◌≡◌, ℕ, zero, suc, ◌+◌, Some, Ok, List, [], ◌∷◌, length, map, replicate, slice_get, slice_set, refl, ap, ◌∙◌, arith}
use Rattle.std.specs.List.{list_any}
use Rattle.std.specs.Prelude.{◌||◌}
use Rattle.gs_slots.specs.declared.state.SlotState.{SlotState}
use Rattle.gs_slots.specs.declared.state.SlotState.TheVariants.{Idle, Stamped, Done}
use Rattle.gs_slots.specs.Reading.{all_collected, collected_in, idle_if_done, state_in, state_or_idle, states_in, told_by}
use Rattle.gs_slots.specs.Spelling.{idle_bytes}
use Rattle.gs_slots.proofs.Exact.{spelt_read}
use Rattle.gs_slots.specs.State.{Held, collected, has_stamp, is_stamped}

same_bytes : (x y : List ℕ) → Some x ≡ Some y → x ≡ y
same_bytes x y e = cc

-- what is read of one of several slots
pub state_at : (first k : ℕ) (xs : List (List ℕ)) (x : List ℕ) → slice_get xs k ≡ Some x → slice_get (states_in first xs) k ≡ Some (state_in (first + k) x)
state_at first k [] x e = absurd cc
state_at first zero (y ∷ ys) x e = (λ i. Some (state_in (n i) (same_bytes y x e i)))
  where
    n : first ≡ first + 0
    n = omega arith
state_at first (suc k) (y ∷ ys) x e = state_at (suc first) k ys x e ∙ ap (λ (n : ℕ). Some (state_in n x)) (let m : suc first + k ≡ first + suc k = omega arith in m)

-- what is read of slots one of which was written
pub states_set : (first k : ℕ) (xs : List (List ℕ)) (x : List ℕ) → states_in first (slice_set xs k x) ≡ slice_set (states_in first xs) k (state_in (first + k) x)
states_set first k [] x = refl
states_set first zero (y ∷ ys) x = ap (λ (n : ℕ). state_in n x ∷ states_in (suc first) ys) (let n : first ≡ first + 0 = omega arith in n)
states_set first (suc k) (y ∷ ys) x =
    ap (λ (zs : List Held). state_in first y ∷ zs) (states_set (suc first) k ys x ∙ ap (λ (n : ℕ). slice_set (states_in (suc first) ys) k (state_in n x)) (let m : suc first + k ≡ first + suc k = omega arith in m))

pub states_count : (first : ℕ) (xs : List (List ℕ)) → length (states_in first xs) ≡ length xs
states_count first [] = refl
states_count first (x ∷ xs) = ap suc (states_count (suc first) xs)

-- ---- slots of which none is malformed

pub get_held : (zs : List SlotState) (k : ℕ) (h : Held) → slice_get (map Ok zs) k ≡ Some h → slice_get zs k ≡ Some (state_or_idle h)
get_held [] k h e = absurd cc
get_held (z ∷ zs) zero h e = let same : Ok z ≡ h = cc in ap (λ (x : Held). Some (state_or_idle x)) same
get_held (z ∷ zs) (suc k) h e = get_held zs k h e

pub held_get : (zs : List SlotState) (k : ℕ) (z : SlotState) (h : Held) → slice_get zs k ≡ Some z → slice_get (map Ok zs) k ≡ Some h → h ≡ Ok z
held_get [] k z h e is = absurd cc
held_get (y ∷ ys) zero z h e is = cc
held_get (y ∷ ys) (suc k) z h e is = held_get ys k z h e is

pub set_held : (zs : List SlotState) (k : ℕ) (z : SlotState) → slice_set {A = Held} (map Ok zs) k (Ok z) ≡ map Ok (slice_set zs k z)
set_held [] k z = refl
set_held (y ∷ ys) zero z = refl
set_held (y ∷ ys) (suc k) z = ap (λ (xs : List Held). Ok y ∷ xs) (set_held ys k z)

pub idle_read : (k : ℕ) → state_in k idle_bytes ≡ Ok Idle
idle_read k = spelt_read k idle_bytes Idle (refl, tt) refl

pub all_idle_read : (k n : ℕ) → states_in k (replicate n idle_bytes) ≡ map Ok (replicate n Idle)
all_idle_read k zero = refl
all_idle_read k (suc n) = λ i. idle_read k i ∷ all_idle_read (suc k) n i

pub told_is : (k : ℕ) (xs : List (List ℕ)) (zs : List SlotState) → states_in k xs ≡ map Ok zs → told_by k xs ≡ zs
told_is k xs zs e = ap (map state_or_idle) e ∙ all_told zs
  where
    all_told : (zs : List SlotState) → map state_or_idle (map Ok zs) ≡ zs
    all_told [] = refl
    all_told (z ∷ zs) = ap (λ ys. z ∷ ys) (all_told zs)

held_collected : (k : ℕ) (x : List ℕ) (z : SlotState) → state_in k x ≡ Ok z → state_in k (idle_if_done (Ok z) x) ≡ Ok (collected z)
held_collected k x Idle is = is
held_collected k x (Stamped s) is = is
held_collected k x (Done s o a n) is = idle_read k

one_collected : (k : ℕ) (x : List ℕ) (z : SlotState) → state_in k x ≡ Ok z → state_in k (collected_in k x) ≡ Ok (collected z)
unfolding collected_in
one_collected k x z e = ap (λ (h : Held). state_in k (idle_if_done h x)) e ∙ held_collected k x z e

first_of : (x y : Held) (xs ys : List Held) → x ∷ xs ≡ y ∷ ys → (x ≡ y) × (xs ≡ ys)
first_of x y xs ys e = (cc, cc)

pub collected_read : (k : ℕ) (xs : List (List ℕ)) (zs : List SlotState) → states_in k xs ≡ map Ok zs → states_in k (all_collected k xs) ≡ map Ok (map collected zs)
collected_read k [] [] e = refl
collected_read k [] (z ∷ zs) e = absurd cc
collected_read k (x ∷ xs) [] e = absurd cc
collected_read k (x ∷ xs) (z ∷ zs) e =
    let p = first_of (state_in k x) (Ok z) (states_in (suc k) xs) (map Ok zs) e in
    (λ i. one_collected k x z p.0 i ∷ collected_read (suc k) xs zs p.1 i)

pub stamps_read : (xs : List Held) (zs : List SlotState) → xs ≡ map Ok zs → list_any has_stamp xs ≡ list_any is_stamped zs
stamps_read xs zs e = ap (list_any has_stamp) e ∙ all_stamps zs
  where
    all_stamps : (zs : List SlotState) → list_any has_stamp (map Ok zs) ≡ list_any is_stamped zs
    all_stamps [] = refl
    all_stamps (z ∷ zs) = ap (λ b. is_stamped z || b) (all_stamps zs)
