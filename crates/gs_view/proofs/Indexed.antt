-- A key that is given or taken, and words and places that are added.
use Rattle.std.proofs.Common.{◌≡◌, ◌≢◌, refl, ap, sym, ◌∙◌, ℕ, ◌<◌, ◌≤◌, ◌⊎◌, inl, inr, Bool, true, false, cond, is_some, List, length, get_or, set, arith, None, Some, get_or-set_same, get_or-set_other, ⊎_elim}
use Rattle.std.proofs.lemmas.Bool.{cases_lt}
use Rattle.gs_sets.specs.Bits.{is_in}
use Rattle.gs_sets.proofs.Laws.{past_end}
use Rattle.gs_view.specs.Index.{IndexState, key_of, places}

-- the key that a tid was given
pub key_here : (live keys : List ℕ) (t key : ℕ) → t < length keys → is_in live t ≡ true
    → key_of (record { live = live; keys = set keys t key }) t ≡ Some key
unfolding key_of
key_here live keys t key place there = ap (λ b. cond b (Some (get_or (set keys t key) t 0)) None) there ∙ ap Some (get_or-set_same keys t key 0 place)

-- the other tids' keys
pub key_others : (live live' keys : List ℕ) (t key u : ℕ) → u ≢ t → is_in live' u ≡ is_in live u
    → key_of (record { live = live'; keys = set keys t key }) u ≡ key_of (record { live = live; keys = keys }) u
unfolding key_of
key_others live live' keys t key u other same =
    ap (λ b. cond b (Some (get_or (set keys t key) u 0)) None) same
    ∙ ap (λ k. cond (is_in live u) (Some k) None) (get_or-set_other keys t u key 0 other)

-- a tid has the key that it had, if it is in the set as it was
pub key_kept : (live live' keys : List ℕ) (u : ℕ) → is_in live' u ≡ is_in live u
    → key_of (record { live = live'; keys = keys }) u ≡ key_of (record { live = live; keys = keys }) u
unfolding key_of
key_kept live live' keys u same = ap (λ b. cond b (Some (get_or keys u 0)) None) same

-- a tid without a place has no key
pub key_past : (i : IndexState) (t : ℕ) → places i ≤ t → key_of i t ≡ None
unfolding key_of
key_past i t past = ap (λ b. cond b (Some (get_or i.keys t 0)) None) (past_end i.live t (omega (arith, past)))

-- so a tid with a key has a place
pub key_within : (i : IndexState) (t : ℕ) → is_some (key_of i t) ≡ true → t < places i
key_within i t some = ⊎_elim (λ lt. lt) (λ past. let none = ap is_some (key_past i t past) in let there = some in absurd cc) (cases_lt t (places i))

-- a tid has a key if it is in the set, and only then
pub key_there : (i : IndexState) (t : ℕ) → is_in i.live t ≡ is_some (key_of i t)
unfolding key_of
key_there i t = by_test (is_in i.live t)
  where
    by_test : (b : Bool) → b ≡ is_some (cond b (Some (get_or i.keys t 0)) None)
    by_test true = refl
    by_test false = refl

-- the key of a tid that is in the set
pub has_key : (live keys : List ℕ) (t : ℕ) → is_in live t ≡ true → key_of (record { live = live; keys = keys }) t ≡ Some (get_or keys t 0)
unfolding key_of
has_key live keys t there = ap (λ b. cond b (Some (get_or keys t 0)) None) there

-- a tid that is not has none
pub has_no_key : (i : IndexState) (t : ℕ) → is_in i.live t ≡ false → key_of i t ≡ None
unfolding key_of
has_no_key i t away = ap (λ b. cond b (Some (get_or i.keys t 0)) None) away

-- each tid has the key that it had, if the same tids are in the set, and the keys of those that had a place are as they were
pub keys_grown : (i : IndexState) (live keys : List ℕ) → ((t : ℕ) → is_in live t ≡ is_in i.live t)
    → ((k : ℕ) → k < places i → get_or keys k 0 ≡ get_or i.keys k 0) → (t : ℕ) → key_of (record { live = live; keys = keys }) t ≡ key_of i t
unfolding key_of
keys_grown i live keys in_set same t =
    ap (λ b. cond b (Some (get_or keys t 0)) None) (in_set t) ∙ by_place (cases_lt t (places i))
  where
    by_place : (t < places i) ⊎ (places i ≤ t)
        → cond (is_in i.live t) (Some (get_or keys t 0)) None ≡ cond (is_in i.live t) (Some (get_or i.keys t 0)) None
    by_place (inl lt) = ap (λ k. cond (is_in i.live t) (Some k) None) (same t lt)
    by_place (inr past) =
        let none = past_end i.live t (omega (arith, past)) in
        ap (λ b. cond b (Some (get_or keys t 0)) None) none ∙ sym (ap (λ b. cond b (Some (get_or i.keys t 0)) None) none)
