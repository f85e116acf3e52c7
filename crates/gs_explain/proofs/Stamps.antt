-- Which slots are stamped, one after another.
use Rattle.std.proofs.Common.{◌≡◌, sym, ◌∙◌, ap, ℕ, suc, ◌+◌, ◌≤◌, true, false, None, Some, List, ◌∷◌, add-one, arith, drop, drop-cons, length, slice_get, cond}
use Rattle.std.proofs.lemmas.List.{drop_all}
use Rattle.std.proofs.lemmas.Option.{get_or_from_slice_get, slice_get_within}
use Rattle.gs_slots.specs.Reading.{states_in}
use Rattle.gs_slots.specs.State.{Held, has_stamp}
use Rattle.gs_slots.proofs.Laws.{states_count}
use Rattle.gs_explain.specs.Refusals.{least_stamped}

here : (xs : List Held) (k : ℕ) (x : Held) → slice_get xs k ≡ Some x → drop k xs ≡ x ∷ drop (suc k) xs
here xs k x is = drop-cons xs k x (slice_get_within xs k x is) ∙ ap (λ y. y ∷ drop (suc k) xs) (get_or_from_slice_get xs k x x is)

pub stamped_here : (xs : List Held) (k : ℕ) (x : Held) → slice_get xs k ≡ Some x → has_stamp x ≡ true → least_stamped k (drop k xs) ≡ Some k
stamped_here xs k x is stamped = ap (least_stamped k) (here xs k x is) ∙ ap (λ b. cond b (Some k) (least_stamped (suc k) (drop (suc k) xs))) stamped

pub stamped_later : (xs : List Held) (k : ℕ) (x : Held) → slice_get xs k ≡ Some x → has_stamp x ≡ false → least_stamped (k + 1) (drop (k + 1) xs) ≡ least_stamped k (drop k xs)
stamped_later xs k x is not_so =
    ap (λ n. least_stamped n (drop n xs)) (add-one k) ∙ sym (ap (least_stamped k) (here xs k x is) ∙ ap (λ b. cond b (Some k) (least_stamped (suc k) (drop (suc k) xs))) not_so)

pub stamped_nowhere : (blocks : List (List ℕ)) (k : ℕ) → length blocks ≤ k → least_stamped k (drop k (states_in 0 blocks)) ≡ None
stamped_nowhere blocks k le = let count : length (states_in 0 blocks) ≤ k = omega (arith, le, states_count 0 blocks) in ap (least_stamped k) (drop_all k (states_in 0 blocks) count)
