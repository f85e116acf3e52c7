-- What landings leave of the slots, and what is left of those once they are collected.
use Rattle.std.proofs.Common.{◌≡◌, refl, ap, sym, subst, ◌∙◌, ℕ, zero, suc, ◌⊎◌, inl, inr, Bool, true, false, Some, List, [], ◌∷◌, ◌++◌, length, map, slice_get}
use Rattle.std.specs.List.{list_any}
use Rattle.std.proofs.lemmas.Bool.{false≢true}
use Rattle.gs_slots.specs.declared.state.Stamp.{Stamp}
use Rattle.gs_slots.specs.declared.state.SlotState.{SlotState}
use Rattle.gs_slots.specs.declared.state.SlotState.TheVariants.{Idle, Stamped, Done}
use Rattle.gs_slots.specs.State.{collected}
use Rattle.gs_status.specs.Masks.{has}
use Rattle.gs_journal.specs.History.{History}
use Rattle.gs_kernel.specs.declared.settings.Settings.{Settings}
use Rattle.gs_kernel.specs.Legal.{Room}
use Rattle.gs_kernel.specs.Lands.{Landings, LandsAll, LandsIf}
use Rattle.gs_kernel.proofs.Laws.{HasLanded, HasStayed, if_cases}
use Rattle.gs_core.specs.Trust.{NoneDone}

-- whether a slot landed and was not collected yet
abbrev pub is_done : SlotState → Bool
is_done Idle = false
is_done (Stamped b) = false
is_done (Done b o a n) = true

pub not_done : (slots : List SlotState) → NoneDone slots → list_any is_done slots ≡ false
not_done [] none = refl
not_done (Idle ∷ slots) none = not_done slots (λ i. none (suc i))
not_done ((Stamped b) ∷ slots) none = not_done slots (λ i. none (suc i))
not_done ((Done b o a n) ∷ slots) none = absurd (none 0 b o a n refl)

-- a slot is as it was, or landed
abbrev pub IsAfter : SlotState → SlotState → Type 0
IsAfter y x = (x ≡ y) ⊎ (is_done x ≡ true)

abbrev pub AreAfter : List SlotState → List SlotState → Type 0
AreAfter [] [] = Unit {0}
AreAfter (y ∷ ys) (x ∷ xs) = IsAfter y x × AreAfter ys xs
AreAfter [] (x ∷ xs) = ⊥
AreAfter (y ∷ ys) [] = ⊥

one_after : (room : Room) (s : Settings) (wanted : Bool) (k : ℕ) (z : SlotState) (h : History) (r : Landings) → LandsIf room s wanted k z h r → (x : SlotState) × (r.slots ≡ x ∷ []) × IsAfter z x
one_after room s wanted k z h r t = by_case (if_cases room s wanted k z h r t)
  where
    by_case : HasLanded room s h k z r ⊎ HasStayed h z r → (x : SlotState) × (r.slots ≡ x ∷ []) × IsAfter z x
    by_case (inl l) = (Done l.stamp l.landing.outcome l.landing.at l.landing.seen, l.slots, inr refl)
    by_case (inr q) = (z, q.slots, inl refl)

pub lands_after : (room : Room) (s : Settings) (mask k : ℕ) (slots : List SlotState) (h : History) (r : Landings) → LandsAll room s mask k slots h r → AreAfter slots r.slots
lands_after room s mask k [] h r t = subst (λ (q : Landings). AreAfter [] q.slots) (sym t) tt
lands_after room s mask k (z ∷ slots) h r t =
    let one = one_after room s (has mask k) k z h t.0 t.2 in
    subst (AreAfter (z ∷ slots)) (sym (ap (λ (q : Landings). q.slots) t.4 ∙ ap (λ (xs : List SlotState). xs ++ t.1.slots) one.1)) (one.2, lands_after room s mask (suc k) slots t.0.history t.1 t.3)

-- and so it is after more landings
one_then : (y x w : SlotState) → IsAfter y x → IsAfter x w → IsAfter y w
one_then y x w first (inr done) = inr done
one_then y x w (inl same) (inl still) = inl (still ∙ same)
one_then y x w (inr done) (inl still) = inr (ap is_done still ∙ done)

pub after_then : (ys xs ws : List SlotState) → AreAfter ys xs → AreAfter xs ws → AreAfter ys ws
after_then [] [] [] first then = tt
after_then [] [] (w ∷ ws) first then = absurd then
after_then [] (x ∷ xs) ws first then = absurd first
after_then (y ∷ ys) [] ws first then = absurd first
after_then (y ∷ ys) (x ∷ xs) [] first then = absurd then
after_then (y ∷ ys) (x ∷ xs) (w ∷ ws) first then = (one_then y x w first.0 then.0, after_then ys xs ws first.1 then.1)

-- what is stamped then was stamped before
one_stamped : (y x : SlotState) (b : Stamp) → IsAfter y x → x ≡ Stamped b → y ≡ Stamped b
one_stamped y x b (inl same) e = sym same ∙ e
one_stamped y x b (inr done) e = absurd (false≢true (ap is_done (sym e) ∙ done))

pub after_stamped : (ys xs : List SlotState) (i : ℕ) (b : Stamp) → AreAfter ys xs → slice_get xs i ≡ Some (Stamped b) → slice_get ys i ≡ Some (Stamped b)
after_stamped [] [] i b after e = e
after_stamped [] (x ∷ xs) i b after e = absurd after
after_stamped (y ∷ ys) [] i b after e = absurd after
after_stamped (y ∷ ys) (x ∷ xs) zero b after e = let q : x ≡ Stamped b = cc in ap Some (one_stamped y x b after.0 q)
after_stamped (y ∷ ys) (x ∷ xs) (suc i) b after e = after_stamped ys xs i b after.1 e

pub after_count : (ys xs : List SlotState) → AreAfter ys xs → length xs ≡ length ys
after_count [] [] after = refl
after_count [] (x ∷ xs) after = absurd after
after_count (y ∷ ys) [] after = absurd after
after_count (y ∷ ys) (x ∷ xs) after = ap suc (after_count ys xs after.1)

-- what is still stamped was so before
still_stamped : (z : SlotState) (b : Stamp) → collected z ≡ Stamped b → z ≡ Stamped b
still_stamped Idle b e = absurd cc
still_stamped (Done x o a n) b e = absurd cc
still_stamped (Stamped x) b e = e

stamped_after : (y x : SlotState) (b : Stamp) → IsAfter y x → collected x ≡ Stamped b → y ≡ Stamped b
stamped_after y x b (inl same) e = sym same ∙ still_stamped x b e
stamped_after y x b (inr done) e = absurd (false≢true (ap is_done (sym (still_stamped x b e)) ∙ done))

pub left_stamped : (ys xs : List SlotState) (i : ℕ) (b : Stamp) → AreAfter ys xs → slice_get (map collected xs) i ≡ Some (Stamped b) → slice_get ys i ≡ Some (Stamped b)
left_stamped [] [] i b after e = e
left_stamped [] (x ∷ xs) i b after e = absurd after
left_stamped (y ∷ ys) [] i b after e = absurd after
left_stamped (y ∷ ys) (x ∷ xs) zero b after e = let q : collected x ≡ Stamped b = cc in ap Some (stamped_after y x b after.0 q)
left_stamped (y ∷ ys) (x ∷ xs) (suc i) b after e = left_stamped ys xs i b after.1 e

-- nothing waits to be collected once all was
pub none_collected : (slots : List SlotState) → NoneDone (map collected slots)
none_collected [] i b o there q e = absurd cc
none_collected (z ∷ slots) zero b o there q e = by_slot z cc
  where
    by_slot : (z : SlotState) → collected z ≡ Done b o there q → ⊥
    by_slot Idle w = cc
    by_slot (Stamped x) w = cc
    by_slot (Done x y a n) w = cc
none_collected (z ∷ slots) (suc i) b o there q e = none_collected slots i b o there q e
