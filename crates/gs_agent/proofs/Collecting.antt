-- Slots are collected one after another, and those of a group before the others.
use Rattle.std.proofs.Common.{◌≡◌, ◌≢◌, refl, ap, sym, subst, ◌∙◌, ℕ, zero, suc, ◌+◌, ◌-◌, ◌<◌, ◌≤◌, ◌⊎◌, inl, inr, min, length, length-append, append-nil, Bool, true, false, cond, Option, None, Some, Ok, Err, List, [], ◌∷◌, ◌++◌, map, take, drop, get_or, slice_get, slice_set, arith}
use Rattle.std.specs.Prelude.{◌==◌}
use Rattle.std.specs.Option.{is_some, option_map}
use Rattle.std.proofs.lemmas.Bool.{cases_lt}
use Rattle.std.proofs.lemmas.List.{drop_all, take-append-drop, take_all}
use Rattle.std.proofs.lemmas.Option.{slice_get-get_or, slice_get_within}
use Rattle.gs_status.specs.Masks.{has, least}
use Rattle.gs_slots.specs.declared.state.SlotState.{SlotState}
use Rattle.gs_slots.specs.declared.state.SlotState.TheVariants.{Idle, Stamped, Done}
use Rattle.gs_slots.specs.Busy.{CoversBusy, HasNoFlag, is_busy, is_busy_at, is_busy_if_any, is_flagged_if_any}
use Rattle.gs_slots.specs.Reading.{all_collected, by_cpu, collected_in, idle_if_done, is_flagged, state_in, state_or_idle, told_by}
use Rattle.gs_slots.specs.Spelling.{idle_bytes}
use Rattle.gs_slots.specs.State.{Held, is_grouped, told_in}
use Rattle.gs_slots.proofs.Laws.{by_cpu_at, by_cpu_count, by_cpu_more, by_cpu_stays, clears_once, flag_is, none_before, none_left as none_is_left, quiet_read, set_as_it_was}
use Rattle.gs_agent.specs.Mind.{MindState, picture_of, thinks}
use Rattle.gs_agent.specs.Picture.{Picture, after_all, after_slot, after_slots, if_grouped, if_single}
use Rattle.gs_agent.specs.Collected.{IsCollected, is_wanted, left_if, told_if}

same_slot : (x y : SlotState) → Some x ≡ Some y → x ≡ y
same_slot x y e = cc

from_first : (c : ℕ) (xs : List SlotState) (k : ℕ) (x : SlotState) (p : Picture) → slice_get xs k ≡ Some x → after_slots c (take (k + 1) xs) p ≡ after_slot (c + k) x (after_slots c (take k xs) p)
from_first c [] k x p e = absurd cc
from_first c (y ∷ xs) zero x p e = ap (λ (z : SlotState). after_slot c z p) (same_slot y x e) ∙ ap (λ (n : ℕ). after_slot n x p) (let r : c ≡ c + 0 = omega arith in r)
from_first c (y ∷ xs) (suc k) x p e =
    ap (λ (n : ℕ). after_slots c (take n (y ∷ xs)) p) (let r : suc k + 1 ≡ suc (k + 1) = omega arith in r)
    ∙ (from_first (c + 1) xs k x (after_slot c y p) e ∙ ap (λ (n : ℕ). after_slot n x (after_slots (c + 1) (take k xs) (after_slot c y p))) (let r : c + 1 + k ≡ c + suc k = omega arith in r))

-- the first k slots were collected, and then the next too
one_slot_more : (xs : List SlotState) (k : ℕ) (x : SlotState) (p : Picture) → slice_get xs k ≡ Some x → after_slots 0 (take (k + 1) xs) p ≡ after_slot k x (after_slots 0 (take k xs) p)
one_slot_more xs k x p e = from_first 0 xs k x p e ∙ ap (λ (n : ℕ). after_slot n x (after_slots 0 (take k xs) p)) (let r : 0 + k ≡ k = omega arith in r)

-- what is collected changes nothing of what is known of threads
view_slot : (c : ℕ) (x : SlotState) (p : Picture) → (after_slot c x p).view ≡ p.view
view_slot c Idle p = refl
view_slot c (Stamped b) p = refl
view_slot c (Done b outcome at seen) p = refl

view_slots : (c : ℕ) (xs : List SlotState) (p : Picture) → (after_slots c xs p).view ≡ p.view
view_slots c [] p = refl
view_slots c (x ∷ xs) p = view_slots (c + 1) xs (after_slot c x p) ∙ view_slot c x p

-- a mind that thinks of the same records is the picture that it thinks of
thought : (s : MindState) (p : Picture) → p.view ≡ (picture_of s).view → picture_of (thinks s p) ≡ p
thought s p e = λ i. record { view = sym e i; cpus = p.cpus; queue = p.queue }

-- a mind that collected the first k slots, and then the next
pub collected_more : (s s' s'' : MindState) (xs : List SlotState) (k : ℕ) (x : SlotState) → slice_get xs k ≡ Some x → s' ≡ thinks s (after_slots 0 (take k xs) (picture_of s)) → s'' ≡ thinks s' (after_slot k x (picture_of s'))
    → s'' ≡ thinks s (after_slots 0 (take (k + 1) xs) (picture_of s))
collected_more s s' s'' xs k x found had next =
    let p : Picture = after_slots 0 (take k xs) (picture_of s) in
    next ∙ (ap (λ (z : MindState). thinks z (after_slot k x (picture_of z))) had
    ∙ (ap (λ (z : Picture). thinks s (after_slot k x z)) (thought s p (view_slots 0 (take k xs) (picture_of s)))
    ∙ ap (thinks s) (sym (one_slot_more xs k x (picture_of s) found))))

-- past the last slot, all were collected
all_told : (group : Bool) (k : ℕ) (xs : List (List ℕ)) → length xs ≤ k → take k (by_cpu (told_if group) 0 xs) ≡ by_cpu (told_if group) 0 xs
all_told group k xs le = take_all k (by_cpu (told_if group) 0 xs) (omega (arith, by_cpu_count (told_if group) 0 xs, le))

-- a slot that tells of no outcome stays as it is, and nothing is learnt of it
pub slot_stays : (k : ℕ) (bytes : List ℕ) → told_in (state_in k bytes) ≡ None → collected_in k bytes ≡ bytes
unfolding collected_in
slot_stays k bytes e = by_state (state_in k bytes) e
  where
    by_state : (h : Held) → told_in h ≡ None → idle_if_done h bytes ≡ bytes
    by_state (Ok Idle) f = refl
    by_state (Ok (Stamped s)) f = refl
    by_state (Ok (Done s outcome at seen)) f = absurd cc
    by_state (Err x) f = refl

pub nothing_learnt : (c : ℕ) (h : Held) (s : MindState) → told_in h ≡ None → thinks s (after_slot c (state_or_idle h) (picture_of s)) ≡ s
nothing_learnt c (Ok Idle) s f = refl
nothing_learnt c (Ok (Stamped b)) s f = refl
nothing_learnt c (Ok (Done b outcome at seen)) s f = absurd cc
nothing_learnt c (Err x) s f = refl

-- one that tells of an outcome is idle then
pub slot_cleared : (k : ℕ) (bytes : List ℕ) → is_some (told_in (state_in k bytes)) ≡ true → collected_in k bytes ≡ idle_bytes
unfolding collected_in
slot_cleared k bytes e = by_state (state_in k bytes) e
  where
    by_state : (h : Held) → is_some (told_in h) ≡ true → idle_if_done h bytes ≡ idle_bytes
    by_state (Ok Idle) f = absurd cc
    by_state (Ok (Stamped s)) f = absurd cc
    by_state (Ok (Done s outcome at seen)) f = refl
    by_state (Err x) f = absurd cc

-- ---- how far a region was collected

-- there are as many slots as before
pub collected_length : (group : Bool) (old : List (List ℕ)) (s : MindState) (k : ℕ) (region : List (List ℕ)) (m : MindState) → IsCollected group old s k region m → length region ≡ length old
collected_length group old s k region m i =
    ap length i.slots
    ∙ (length-append (by_cpu (left_if group) 0 (take k old)) (drop k old) ∙ ap (λ (n : ℕ). n + length (drop k old)) (by_cpu_count (left_if group) 0 (take k old)) ∙ sym (length-append (take k old) (drop k old)) ∙ ap length (take-append-drop k old))

collected_none : (group : Bool) (old : List (List ℕ)) (s : MindState) → IsCollected group old s 0 old s
collected_none group old s = record { slots = refl; thought = refl }

-- the slot of the next CPU is as it was
pub next_stays : (group : Bool) (old : List (List ℕ)) (s : MindState) (k : ℕ) (region : List (List ℕ)) (m : MindState) → IsCollected group old s k region m → slice_get region k ≡ slice_get old k
next_stays group old s k region m i = ap (λ (xs : List (List ℕ)). slice_get xs k) i.slots ∙ by_cpu_stays (left_if group) 0 old k

-- what it tells
told_at : (group : Bool) (old : List (List ℕ)) (k : ℕ) (bytes : List ℕ) → slice_get old k ≡ Some bytes → slice_get (by_cpu (told_if group) 0 old) k ≡ Some (told_if group k bytes)
told_at group old k bytes found =
    by_cpu_at (told_if group) 0 old k ∙ (ap (option_map (told_if group (0 + k))) found ∙ ap (λ (n : ℕ). Some (told_if group n bytes)) (let e : 0 + k ≡ k = omega arith in e))

-- one slot more was collected
pub collected_one : (group : Bool) (old : List (List ℕ)) (s : MindState) (k : ℕ) (region region' : List (List ℕ)) (m m' : MindState) → IsCollected group old s k region m → k < length old
    → ((bytes : List ℕ) → slice_get region k ≡ Some bytes → region' ≡ slice_set region k (left_if group k bytes)) → ((bytes : List ℕ) → slice_get region k ≡ Some bytes → m' ≡ thinks m (after_slot k (told_if group k bytes) (picture_of m)))
    → IsCollected group old s (k + 1) region' m'
collected_one group old s k region region' m m' i lt is learnt =
    let bytes : List ℕ = get_or old k [] in
    let was : slice_get old k ≡ Some bytes = slice_get-get_or old k [] lt in
    let found : slice_get region k ≡ Some bytes = next_stays group old s k region m i ∙ was in
    record {
      slots = is bytes found ∙ by_cpu_more (left_if group) old region k bytes (left_if group k bytes) i.slots found refl;
      thought = collected_more s m m' (by_cpu (told_if group) 0 old) k (told_if group k bytes) (told_at group old k bytes was) i.thought (learnt bytes found);
    }

-- a slot that is not busy stays, and tells nothing
quiet_stays : (group : Bool) (k : ℕ) (bytes : List ℕ) → is_busy bytes ≡ false → left_if group k bytes ≡ bytes
quiet_stays group k bytes quiet = by_flag (is_wanted group bytes)
  where
    same : collected_in k bytes ≡ bytes
    same = slot_stays k bytes (ap told_in (quiet_read k bytes quiet))

    by_flag : (b : Bool) → cond b (collected_in k bytes) bytes ≡ bytes
    by_flag true = same
    by_flag false = refl

quiet_tells : (group : Bool) (k : ℕ) (bytes : List ℕ) → is_busy bytes ≡ false → told_if group k bytes ≡ Idle
quiet_tells group k bytes quiet = by_flag (is_wanted group bytes)
  where
    idle : state_or_idle (state_in k bytes) ≡ Idle
    idle = ap state_or_idle (quiet_read k bytes quiet)

    by_flag : (b : Bool) → cond b (state_or_idle (state_in k bytes)) Idle ≡ Idle
    by_flag true = idle
    by_flag false = refl

-- so it counts as collected
quiet_one : (group : Bool) (old : List (List ℕ)) (s : MindState) (k : ℕ) (region : List (List ℕ)) (m : MindState) → IsCollected group old s k region m → k < length old → is_busy_at old k ≡ false → IsCollected group old s (k + 1) region m
quiet_one group old s k region m i lt quiet =
    let same : (bytes : List ℕ) → slice_get region k ≡ Some bytes → is_busy bytes ≡ false = λ bytes found. ap is_busy_if_any (sym found ∙ next_stays group old s k region m i) ∙ quiet in
    collected_one group old s k region region m m i lt
    (λ bytes found. sym (set_as_it_was region k bytes found) ∙ ap (slice_set region k) (sym (quiet_stays group k bytes (same bytes found))))
    (λ bytes found. ap (λ (z : SlotState). thinks m (after_slot k z (picture_of m))) (sym (quiet_tells group k bytes (same bytes found))))

-- and so do several
quiet_some : (group : Bool) (old : List (List ℕ)) (s : MindState) (at d : ℕ) (region : List (List ℕ)) (m : MindState) → IsCollected group old s at region m → at + d ≤ length old → ((c : ℕ) → at ≤ c → c < at + d → is_busy_at old c ≡ false)
    → IsCollected group old s (at + d) region m
quiet_some group old s at zero region m i within quiet = subst (λ (n : ℕ). IsCollected group old s n region m) (let e : at ≡ at + 0 = omega arith in e) i
quiet_some group old s at (suc d) region m i within quiet =
    subst (λ (n : ℕ). IsCollected group old s n region m) (let e : at + d + 1 ≡ at + suc d = omega arith in e)
    (quiet_one group old s (at + d) region m (quiet_some group old s at d region m i (omega arith) (λ c le lt. quiet c le (omega arith))) (omega arith) (quiet (at + d) (omega arith) (omega arith)))

quiet_until : (group : Bool) (old : List (List ℕ)) (s : MindState) (at k : ℕ) (region : List (List ℕ)) (m : MindState) → IsCollected group old s at region m → at ≤ k → k ≤ length old → ((c : ℕ) → at ≤ c → c < k → is_busy_at old c ≡ false)
    → IsCollected group old s k region m
quiet_until group old s at k region m i le within quiet =
    let e : at + (k - at) ≡ k = omega arith in
    subst (λ (n : ℕ). IsCollected group old s n region m) e (quiet_some group old s at (k - at) region m i (omega arith) (λ c from to. quiet c from (omega arith)))

-- ---- a walk through those that may be busy

-- the slots below a place were collected, and from there on all are left that are busy
pub record IsWalked (group : Bool) (old : List (List ℕ)) (s : MindState) (left : ℕ) (region : List (List ℕ)) (m : MindState) : Type 0 where
  pub at : ℕ
  pub done : IsCollected group old s at region m
  pub within : at ≤ length old
  pub few : at ≤ 128
  pub ahead : (c : ℕ) → has left c ≡ true → at ≤ c
  pub there : (c : ℕ) → c < 128 → has left c ≡ true → c < length old
  pub quiet : (c : ℕ) → at ≤ c → c < 128 → has left c ≡ false → is_busy_at old c ≡ false

pub walk_begins : (group : Bool) (old : List (List ℕ)) (s : MindState) (left : ℕ) → CoversBusy old left → ((c : ℕ) → c < 128 → has left c ≡ true → c < length old) → IsWalked group old s left old s
walk_begins group old s left covers within = record {
  at = 0;
  done = collected_none group old s;
  within = omega arith;
  few = omega arith;
  ahead = λ c there. omega arith;
  there = within;
  quiet = λ c from lt none. covers c lt none;
}

-- the least CPU that is left: all before it count as collected
pub walk_comes : (group : Bool) (old : List (List ℕ)) (s : MindState) (left : ℕ) (region : List (List ℕ)) (m : MindState) (k : ℕ) → IsWalked group old s left region m → k < 128 → has left k ≡ true → least (has left) 128 ≡ Some k
    → IsCollected group old s k region m × (k < length old)
walk_comes group old s left region m k i lt there least_is =
    let at : ℕ = i.at in
    let from : at ≤ k = i.ahead k there in
    let within : k < length old = i.there k lt there in
    let below : k ≤ length old = omega arith in
    let before = none_before (has left) 128 k least_is in
    (quiet_until group old s at k region m i.done from below (λ c le before_k. i.quiet c le (omega arith) (before c before_k)), within)

-- and then it was collected
pub walk_more : (group : Bool) (old : List (List ℕ)) (s : MindState) (left left' k : ℕ) (region : List (List ℕ)) (m : MindState) (region' : List (List ℕ)) (m' : MindState) → IsWalked group old s left region m → k < 128 → k < length old → has left k ≡ true
    → least (has left) 128 ≡ Some k → has left' k ≡ false → ((c : ℕ) → c ≢ k → has left' c ≡ has left c) → IsCollected group old s (k + 1) region' m' → IsWalked group old s left' region' m'
walk_more group old s left left' k region m region' m' i lt within there least_is gone rest done = record {
  at = k + 1;
  done = done;
  within = omega arith;
  few = omega arith;
  ahead = ahead';
  there = there';
  quiet = λ c from below none. let other : c ≢ k = omega arith in i.quiet c (later c from) below (sym (rest c other) ∙ none);
}
  where
    start : i.at ≤ k
    start = i.ahead k there

    later : (c : ℕ) → k + 1 ≤ c → i.at ≤ c
    later c from = omega (arith, start)

    never : (c : ℕ) → has left' c ≡ true → has left' c ≡ false → ⊥
    never c p q = cc

    before : (c : ℕ) → c < k → has left c ≡ false
    before = none_before (has left) 128 k least_is

    not_it : (c : ℕ) → has left' c ≡ true → c ≢ k
    not_it c is e = never c is (ap (has left') e ∙ gone)

    there' : (c : ℕ) → c < 128 → has left' c ≡ true → c < length old
    there' c below is = i.there c below (sym (rest c (not_it c is)) ∙ is)

    ahead' : (c : ℕ) → has left' c ≡ true → k + 1 ≤ c
    ahead' c is = at_least (cases_lt c (k + 1))
      where
        at_least : (c < k + 1) ⊎ (k + 1 ≤ c) → k + 1 ≤ c
        at_least (inr le) = le
        at_least (inl early) = let other : c ≢ k = not_it c is in absurd (never c is (rest c other ∙ before c (omega arith)))

-- if none is left, all below 128 count as collected
pub walk_ends : (group : Bool) (old : List (List ℕ)) (s : MindState) (left : ℕ) (region : List (List ℕ)) (m : MindState) → IsWalked group old s left region m → (left == 0) ≡ true → IsCollected group old s (min (length old) 128) region m
walk_ends group old s left region m i e =
    let none : (c : ℕ) → has left c ≡ false = none_is_left left e in
    let at : ℕ = i.at in
    let w : at ≤ length old = i.within in
    let f : at ≤ 128 = i.few in
    quiet_until group old s at (min (length old) 128) region m i.done (omega arith) (omega arith) (λ c from lt. let below : c < 128 = omega arith in i.quiet c from below (none c))

pub next_within : (k n : ℕ) → k < n → k + 1 ≤ n
next_within k n lt = omega arith

-- past the last slot, all were collected
pub all_collected_is : (group : Bool) (old : List (List ℕ)) (s : MindState) (k : ℕ) (region : List (List ℕ)) (m : MindState) → IsCollected group old s k region m → length old ≤ k
    → (region ≡ by_cpu (left_if group) 0 old) × (m ≡ thinks s (after_slots 0 (by_cpu (told_if group) 0 old) (picture_of s)))
all_collected_is group old s k region m i past = (
  i.slots
      ∙ (ap (λ (xs : List (List ℕ)). by_cpu (left_if group) 0 (take k old) ++ xs) (drop_all k old past) ∙ (append-nil (by_cpu (left_if group) 0 (take k old)) ∙ ap (by_cpu (left_if group) 0) (take_all k old past))),
  i.thought ∙ ap (λ (zs : List SlotState). thinks s (after_slots 0 zs (picture_of s))) (all_told group k old past),
)

-- ---- first those of a group, and then the others

-- a busy slot is there
busy_there : (old : List (List ℕ)) (k : ℕ) → is_busy_at old k ≡ true → k < length old
busy_there old k busy = by_get (slice_get old k) refl busy
  where
    by_get : (o : Option (List ℕ)) → slice_get old k ≡ o → is_busy_if_any o ≡ true → k < length old
    by_get None is e = absurd cc
    by_get (Some x) is e = slice_get_within old k x is

pub busy_covers : (old : List (List ℕ)) (busy : ℕ) → ((c : ℕ) → c < 128 → has busy c ≡ is_busy_at old c) → CoversBusy old busy
busy_covers old busy is c lt none = sym (is c lt) ∙ none

pub busy_within : (old : List (List ℕ)) (busy : ℕ) → ((c : ℕ) → c < 128 → has busy c ≡ is_busy_at old c) → (c : ℕ) → c < 128 → has busy c ≡ true → c < length old
busy_within old busy is c below there = busy_there old c (sym (is c below) ∙ there)

-- slots that were quiet still are
still_quiet : (old : List (List ℕ)) (c : ℕ) → is_busy_at old c ≡ false → is_busy_at (by_cpu (left_if true) 0 old) c ≡ false
still_quiet old c quiet = ap is_busy_if_any (by_cpu_at (left_if true) 0 old c) ∙ by_get (slice_get old c) quiet
  where
    by_get : (o : Option (List ℕ)) → is_busy_if_any o ≡ false → is_busy_if_any (option_map (left_if true (0 + c)) o) ≡ false
    by_get None e = refl
    by_get (Some x) e = ap is_busy (quiet_stays true (0 + c) x e) ∙ e

pub still_covers : (old region : List (List ℕ)) (busy : ℕ) → region ≡ by_cpu (left_if true) 0 old → CoversBusy old busy → CoversBusy region busy
still_covers old region busy is covers c lt none = ap (λ (xs : List (List ℕ)). is_busy_at xs c) is ∙ still_quiet old c (covers c lt none)

pub still_within : (old region : List (List ℕ)) (busy : ℕ) → region ≡ by_cpu (left_if true) 0 old → ((c : ℕ) → c < 128 → has busy c ≡ true → c < length old) → (c : ℕ) → c < 128 → has busy c ≡ true → c < length region
still_within old region busy is within c below there = let lt = within c below there in omega (arith, lt, ap length is ∙ by_cpu_count (left_if true) 0 old)

-- if none has the flag, nothing is collected first
abbrev NoneHas : List (List ℕ) → Type 0
NoneHas old = (i : ℕ) (x : List ℕ) → slice_get old i ≡ Some x → is_flagged x ≡ false

none_has : (old : List (List ℕ)) → length old ≤ 128 → HasNoFlag old → NoneHas old
none_has old few none i x found = ap is_flagged_if_any (sym found) ∙ none i (let lt = slice_get_within old i x found in omega (arith, lt, few))

none_left : (k : ℕ) (old : List (List ℕ)) → NoneHas old → by_cpu (left_if true) k old ≡ old
none_left k [] none = refl
none_left k (x ∷ old) none = λ i. cond (none 0 x refl i) (collected_in k x) x ∷ none_left (suc k) old (λ j. none (suc j)) i

none_told : (k : ℕ) (old : List (List ℕ)) (p : Picture) → NoneHas old → after_slots k (by_cpu (told_if true) k old) p ≡ p
none_told k [] p none = refl
none_told k (x ∷ old) p none =
    let one : told_if true k x ≡ Idle = ap (λ (b : Bool). cond b (state_or_idle (state_in k x)) Idle) (none 0 x refl) in
    let n : k + 1 ≡ suc k = omega arith in
    ap (λ (z : SlotState). after_slots (k + 1) (by_cpu (told_if true) (suc k) old) (after_slot k z p)) one
    ∙ (ap (λ (m : ℕ). after_slots m (by_cpu (told_if true) (suc k) old) p) n ∙ none_told (suc k) old p (λ j. none (suc j)))

pub none_left_first : (old : List (List ℕ)) → length old ≤ 128 → HasNoFlag old → old ≡ by_cpu (left_if true) 0 old
none_left_first old few none = sym (none_left 0 old (none_has old few none))

pub none_told_first : (old : List (List ℕ)) (s : MindState) → length old ≤ 128 → HasNoFlag old → s ≡ thinks s (after_slots 0 (by_cpu (told_if true) 0 old) (picture_of s))
none_told_first old s few none = ap (thinks s) (sym (none_told 0 old (picture_of s) (none_has old few none)))

-- all were collected then
left_twice : (k : ℕ) (bytes : List ℕ) → left_if false k (left_if true k bytes) ≡ collected_in k bytes
left_twice k bytes = by_flag (is_flagged bytes)
  where
    again : collected_in k (collected_in k bytes) ≡ collected_in k bytes
    again = clears_once k bytes

    by_flag : (b : Bool) → collected_in k (cond b (collected_in k bytes) bytes) ≡ collected_in k bytes
    by_flag true = again
    by_flag false = refl

left_all : (k : ℕ) (old : List (List ℕ)) → by_cpu (left_if false) k (by_cpu (left_if true) k old) ≡ all_collected k old
left_all k [] = refl
left_all k (x ∷ old) = λ i. left_twice k x i ∷ left_all (suc k) old i

idle_either_way : (b : Bool) → cond b Idle Idle ≡ Idle
idle_either_way true = refl
idle_either_way false = refl

-- what the slots of a group tell
told_first : (k : ℕ) (bytes : List ℕ) → told_if true k bytes ≡ if_grouped (state_or_idle (state_in k bytes))
told_first k bytes = by_case (flag_is k bytes)
  where
    told : SlotState
    told = state_or_idle (state_in k bytes)

    by_case : (told ≡ Idle) ⊎ (is_grouped told ≡ is_flagged bytes) → cond (is_flagged bytes) told Idle ≡ cond (is_grouped told) told Idle
    by_case (inl idle) = ap (λ (z : SlotState). cond (is_flagged bytes) z Idle) idle ∙ (idle_either_way (is_flagged bytes) ∙ (sym (idle_either_way (is_grouped told)) ∙ ap (λ (z : SlotState). cond (is_grouped told) z Idle) (sym idle)))
    by_case (inr same) = ap (λ (b : Bool). cond b told Idle) (sym same)

all_first : (k : ℕ) (old : List (List ℕ)) → by_cpu (told_if true) k old ≡ map if_grouped (told_by k old)
all_first k [] = refl
all_first k (x ∷ old) = λ i. told_first k x i ∷ all_first (suc k) old i

-- and what all tell then: one of a group that is still stamped says nothing
idle_quiet : is_busy idle_bytes ≡ false
unfolding is_busy
idle_quiet = refl

untold : (c : ℕ) (h : Held) (p : Picture) → told_in h ≡ None → after_slot c (state_or_idle h) p ≡ p
untold c (Ok Idle) p e = refl
untold c (Ok (Stamped b)) p e = refl
untold c (Ok (Done b outcome at seen)) p e = absurd cc
untold c (Err x) p e = refl

single_untold : (c : ℕ) (h : Held) (p : Picture) → told_in h ≡ None → after_slot c (if_single (state_or_idle h)) p ≡ p
single_untold c (Ok Idle) p e = refl
single_untold c (Ok (Stamped b)) p e = by_flag b.flags.group
  where
    by_flag : (f : Bool) → after_slot c (cond f Idle (Stamped b)) p ≡ p
    by_flag true = refl
    by_flag false = refl
single_untold c (Ok (Done b outcome at seen)) p e = absurd cc
single_untold c (Err x) p e = refl

-- a slot tells nothing, or is idle once it was collected
done_or_not : (k : ℕ) (bytes : List ℕ) → (told_in (state_in k bytes) ≡ None) ⊎ (collected_in k bytes ≡ idle_bytes)
unfolding collected_in
done_or_not k bytes = by_state (state_in k bytes)
  where
    by_state : (h : Held) → (told_in h ≡ None) ⊎ (idle_if_done h bytes ≡ idle_bytes)
    by_state (Ok Idle) = inl refl
    by_state (Ok (Stamped b)) = inl refl
    by_state (Ok (Done b outcome at seen)) = inr refl
    by_state (Err x) = inl refl

told_then : (k : ℕ) (bytes : List ℕ) (p : Picture) → after_slot k (told_if false k (left_if true k bytes)) p ≡ after_slot k (if_single (state_or_idle (state_in k bytes))) p
told_then k bytes p = by_flag (is_flagged bytes) refl (flag_is k bytes)
  where
    told : SlotState
    told = state_or_idle (state_in k bytes)

    single_idle : told ≡ Idle → if_single told ≡ Idle
    single_idle idle = ap (λ (z : SlotState). cond (is_grouped told) Idle z) idle ∙ idle_either_way (is_grouped told)

    cleared : collected_in k bytes ≡ idle_bytes → state_or_idle (state_in k (collected_in k bytes)) ≡ Idle
    cleared e = ap (λ (x : List ℕ). state_or_idle (state_in k x)) e ∙ ap state_or_idle (quiet_read k idle_bytes idle_quiet)

    by_done : (told_in (state_in k bytes) ≡ None) ⊎ (collected_in k bytes ≡ idle_bytes) → if_single told ≡ Idle → after_slot k (state_or_idle (state_in k (collected_in k bytes))) p ≡ after_slot k (if_single told) p
    by_done (inl none) single =
        ap (λ (x : List ℕ). after_slot k (state_or_idle (state_in k x)) p) (slot_stays k bytes none) ∙ (untold k (state_in k bytes) p none ∙ sym (single_untold k (state_in k bytes) p none))
    by_done (inr idle) single = ap (λ (z : SlotState). after_slot k z p) (cleared idle ∙ sym single)

    by_flag : (b : Bool) → is_flagged bytes ≡ b → (told ≡ Idle) ⊎ (is_grouped told ≡ is_flagged bytes) → after_slot k (state_or_idle (state_in k (cond b (collected_in k bytes) bytes))) p ≡ after_slot k (if_single told) p
    by_flag true e (inl idle) = by_done (done_or_not k bytes) (single_idle idle)
    by_flag true e (inr same) = by_done (done_or_not k bytes) (ap (λ (b : Bool). cond b Idle told) (same ∙ e))
    by_flag false e (inl idle) = ap (λ (z : SlotState). after_slot k z p) (idle ∙ sym (single_idle idle))
    by_flag false e (inr same) = ap (λ (b : Bool). after_slot k (cond b Idle told) p) (sym (same ∙ e))

all_then : (k : ℕ) (old : List (List ℕ)) (p : Picture) → after_slots k (by_cpu (told_if false) k (by_cpu (left_if true) k old)) p ≡ after_slots k (map if_single (told_by k old)) p
all_then k [] p = refl
all_then k (x ∷ old) p =
    let n : k + 1 ≡ suc k = omega arith in
    let after : Picture = after_slot k (if_single (state_or_idle (state_in k x))) p in
    ap (after_slots (k + 1) (by_cpu (told_if false) (suc k) (by_cpu (left_if true) (suc k) old))) (told_then k x p)
    ∙ (ap (λ (m : ℕ). after_slots m (by_cpu (told_if false) (suc k) (by_cpu (left_if true) (suc k) old)) after) n
    ∙ (all_then (suc k) old after ∙ ap (λ (m : ℕ). after_slots m (map if_single (told_by (suc k) old)) after) (sym n)))

pub both_left : (old mid region : List (List ℕ)) → mid ≡ by_cpu (left_if true) 0 old → region ≡ by_cpu (left_if false) 0 mid → region ≡ all_collected 0 old
both_left old mid region first then = then ∙ (ap (by_cpu (left_if false) 0) first ∙ left_all 0 old)

pub both_told : (old mid : List (List ℕ)) (s m m' : MindState) → mid ≡ by_cpu (left_if true) 0 old → m ≡ thinks s (after_slots 0 (by_cpu (told_if true) 0 old) (picture_of s))
    → m' ≡ thinks m (after_slots 0 (by_cpu (told_if false) 0 mid) (picture_of m)) → m' ≡ thinks s (after_all (told_by 0 old) (picture_of s))
both_told old mid s m m' left first then =
    let group : List SlotState = map if_grouped (told_by 0 old) in
    let p : Picture = after_slots 0 group (picture_of s) in
    let had : m ≡ thinks s p = first ∙ ap (λ (zs : List SlotState). thinks s (after_slots 0 zs (picture_of s))) (all_first 0 old) in
    then
    ∙ (ap (λ (xs : List (List ℕ)). thinks m (after_slots 0 (by_cpu (told_if false) 0 xs) (picture_of m))) left
    ∙ (ap (λ (z : MindState). thinks z (after_slots 0 (by_cpu (told_if false) 0 (by_cpu (left_if true) 0 old)) (picture_of z))) had
    ∙ (ap (λ (z : Picture). thinks s (after_slots 0 (by_cpu (told_if false) 0 (by_cpu (left_if true) 0 old)) z)) (thought s p (view_slots 0 group (picture_of s)))
    ∙ ap (thinks s) (all_then 0 old p))))
