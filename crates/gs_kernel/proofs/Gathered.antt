-- A walk over the busy CPUs of a mask, which collects its group.
use Rattle.std.proofs.Common.{List, ◌≡◌, ◌≢◌, ◌⊎◌, inl, inr, ℕ, zero, suc, ◌+◌, ◌-◌, ◌<◌, ◌≤◌, ◌++◌, ◌∷◌, [], Bool, true, false, cond, length, Option, None, Some, Ok, Err, refl, ap, sym, subst, ◌∙◌, append-nil, arith, get_or, slice_get, take}
use Rattle.std.proofs.lemmas.Bool.{cases_lt, false≢true}
use Rattle.std.specs.Prelude.{◌&&◌}
use Rattle.std.proofs.lemmas.List.{take_all}
use Rattle.std.proofs.lemmas.Option.{slice_get-get_or, slice_get_within}
use Rattle.gs_slots.specs.declared.state.SlotState.{SlotState}
use Rattle.gs_slots.specs.declared.state.SlotState.TheVariants.{Idle, Stamped, Done}
use Rattle.gs_slots.specs.Reading.{is_flagged, state_in, state_or_idle, states_in, told_by}
use Rattle.gs_slots.specs.Busy.{HasNoFlag, is_busy_at, is_flagged_if_any}
use Rattle.gs_slots.specs.State.{Held, is_grouped}
use Rattle.gs_slots.proofs.Laws.{flag_is, state_at}
use Rattle.gs_status.specs.Masks.{has}
use Rattle.gs_kernel.specs.Group.{Group, group_in, grouped}
use Rattle.gs_kernel.specs.Lands.{is_to_land}
use Rattle.gs_kernel.proofs.Groups.{get_told, grouped_first}
use Rattle.gs_kernel.proofs.Idle.{Alike, AllAlike, are_alike}

-- those below a place were looked at, and what is left is what is to come
pub record IsGathered (busy left : ℕ) (zs : List SlotState) (g : Group) : Type 0 where
  pub from : ℕ
  pub passed : (c : ℕ) → c < from → has left c ≡ false
  pub to_come : (c : ℕ) → from ≤ c → has left c ≡ has busy c
  pub so_far : g ≡ group_in busy 0 (take from zs)

pub gathered_none : (busy : ℕ) (zs : List SlotState) (g : Group) → g ≡ [] → IsGathered busy busy zs g
gathered_none busy zs g e = record { from = 0; passed = λ c lt. absurd (omega (arith, lt)); to_come = λ c ge. refl; so_far = e }

-- nothing is there beyond the last
beyond : {A : Type 0} (zs : List A) (i : ℕ) → slice_get zs i ≡ None → take (i + 1) zs ≡ take i zs
beyond [] i e = take_all (i + 1) [] (omega arith) ∙ sym (take_all i [] (omega arith))
beyond (z ∷ zs) zero e = absurd cc
beyond (z ∷ zs) (suc i) e = let m : suc i + 1 ≡ suc (i + 1) = omega arith in ap (λ q. take q (z ∷ zs)) m ∙ ap (λ r. z ∷ r) (beyond zs i e)

one_past : (busy i : ℕ) (zs : List SlotState) → has busy i ≡ false → group_in busy 0 (take (i + 1) zs) ≡ group_in busy 0 (take i zs)
one_past busy i zs none = by_place (slice_get zs i) refl
  where
    away : has busy i ≡ false
    away = none

    by_place : (o : Option SlotState) → slice_get zs i ≡ o → group_in busy 0 (take (i + 1) zs) ≡ group_in busy 0 (take i zs)
    by_place None e = ap (group_in busy 0) (beyond zs i e)
    by_place (Some z) e =
        let n : 0 + i ≡ i = omega arith in
        grouped_first busy 0 i zs z e ∙ (ap (λ b. group_in busy 0 (take i zs) ++ grouped b (0 + i) z) (ap (has busy) n ∙ away) ∙ append-nil (group_in busy 0 (take i zs)))

some_past : (busy i d : ℕ) (zs : List SlotState) → ((c : ℕ) → i ≤ c → c < i + d → has busy c ≡ false) → group_in busy 0 (take (i + d) zs) ≡ group_in busy 0 (take i zs)
some_past busy i zero zs none = ap (λ n. group_in busy 0 (take n zs)) (let e : i + 0 ≡ i = omega arith in e)
some_past busy i (suc d) zs none =
    ap (λ n. group_in busy 0 (take n zs)) (let e : i + suc d ≡ i + d + 1 = omega arith in e)
    ∙ (one_past busy (i + d) zs (none (i + d) (omega arith) (omega arith)) ∙ some_past busy i d zs (λ c ge lt. none c ge (omega (arith, lt))))

not_behind : (left from k : ℕ) → ((c : ℕ) → c < from → has left c ≡ false) → has left k ≡ true → from ≤ k
not_behind left from k passed there = by_place (cases_lt k from)
  where
    by_place : (k < from) ⊎ (from ≤ k) → from ≤ k
    by_place (inl lt) = absurd (false≢true (sym (passed k lt) ∙ there))
    by_place (inr le) = le

-- what is in a slot without the flag is of no group
none_of : (k : ℕ) (z : SlotState) → is_grouped z ≡ false → grouped true k z ≡ []
none_of k Idle e = refl
none_of k (Done b o a n) e = refl
none_of k (Stamped b) e = ap (λ (f : Bool). cond f ((k, b) ∷ []) []) e

pub not_flagged : (k : ℕ) (bytes : List ℕ) → is_flagged bytes ≡ false → grouped true k (state_or_idle (state_in k bytes)) ≡ []
not_flagged k bytes e = by_case (flag_is k bytes)
  where
    by_case : (state_or_idle (state_in k bytes) ≡ Idle) ⊎ (is_grouped (state_or_idle (state_in k bytes)) ≡ is_flagged bytes) → grouped true k (state_or_idle (state_in k bytes)) ≡ []
    by_case (inl idle) = ap (grouped true k) idle
    by_case (inr same) = none_of k (state_or_idle (state_in k bytes)) (same ∙ e)

same_held : (x y : Held) → Some x ≡ Some y → x ≡ y
same_held x y e = cc

-- so nothing is added for one
pub none_added : (g : Group) (region : List (List ℕ)) (k : ℕ) (flag : Bool) (x : Held) → k < length region → ((bytes : List ℕ) → slice_get region k ≡ Some bytes → flag ≡ is_flagged bytes) → flag ≡ false
    → slice_get (states_in 0 region) k ≡ Some x → g ≡ g ++ grouped true k (state_or_idle x)
none_added g region k flag x within is none found =
    let bytes : List ℕ = get_or region k [] in
    let there : slice_get region k ≡ Some bytes = slice_get-get_or region k [] within in
    let n : 0 + k ≡ k = omega arith in
    let read : x ≡ state_in k bytes = same_held x (state_in k bytes) (sym found ∙ (state_at 0 k region bytes there ∙ ap (λ (m : ℕ). Some (state_in m bytes)) n)) in
    let unset : is_flagged bytes ≡ false = sym (is bytes there) ∙ none in
    sym (ap (λ (h : Held). g ++ grouped true k (state_or_idle h)) read ∙ (ap (λ (m : Group). g ++ m) (not_flagged k bytes unset) ∙ append-nil g))

-- it is a busy one
pub gathered_busy : (busy left k : ℕ) (zs : List SlotState) (g : Group) → IsGathered busy left zs g → has left k ≡ true → has busy k ≡ true
gathered_busy busy left k zs g w there = sym (w.to_come k (not_behind left w.from k w.passed there)) ∙ there

-- the lowest CPU that is left was looked at, which is left no more
pub gathered_push : (busy left left' k : ℕ) (region : List (List ℕ)) (g after : Group) → IsGathered busy left (told_by 0 region) g → has left k ≡ true → ((c : ℕ) → c < k → has left c ≡ false)
    → has left' k ≡ false → ((c : ℕ) → c ≢ k → has left' c ≡ has left c) → k < length region → ((x : Held) → slice_get (states_in 0 region) k ≡ Some x → after ≡ g ++ grouped true k (state_or_idle x))
    → IsGathered busy left' (told_by 0 region) after
gathered_push busy left left' k region g after w there none gone others within adds =
    let bytes : List ℕ = get_or region k [] in
    let x : Held = state_in (0 + k) bytes in
    let found : slice_get (states_in 0 region) k ≡ Some x = state_at 0 k region bytes (slice_get-get_or region k [] within) in
    let is : after ≡ g ++ grouped true k (state_or_idle x) = adds x found in
    let zs : List SlotState = told_by 0 region in
    let ge : w.from ≤ k = not_behind left w.from k w.passed there in
    let to : w.from + (k - w.from) ≡ k = omega (arith, ge) in
    let upto : group_in busy 0 (take k zs) ≡ group_in busy 0 (take w.from zs) =
    ap (λ n. group_in busy 0 (take n zs)) (sym to) ∙ some_past busy w.from (k - w.from) zs (λ c past lt. sym (w.to_come c past) ∙ none c (omega (arith, lt, to)))
    in
    let n : 0 + k ≡ k = omega arith in
    let busy_here : has busy (0 + k) ≡ true = ap (has busy) n ∙ gathered_busy busy left k zs g w there in
    let more = grouped_first busy 0 k zs (state_or_idle x) (get_told (states_in 0 region) k x found) in
    record {
      from = k + 1;
      passed = λ c below. by_place c (cases_lt c k) below;
      to_come = λ c past. others c (λ e. absurd (omega (arith, e, past))) ∙ w.to_come c (omega (arith, ge, past));
      so_far = is ∙ (ap (λ q. q ++ grouped true k (state_or_idle x)) (w.so_far ∙ sym upto)
          ∙ sym (more ∙ (ap (λ b. group_in busy 0 (take k zs) ++ grouped b (0 + k) (state_or_idle x)) busy_here ∙ ap (λ m. group_in busy 0 (take k zs) ++ grouped true m (state_or_idle x)) n)));
    }
  where
    is_gone : has left' k ≡ false
    is_gone = gone

    same : (c : ℕ) → c ≢ k → has left' c ≡ has left c
    same = others

    before_none : (c : ℕ) → c < k → has left c ≡ false
    before_none = none

    by_place : (c : ℕ) → (c < k) ⊎ (k ≤ c) → c < k + 1 → has left' c ≡ false
    by_place c (inl below) lt' = same c (λ e. absurd (omega (arith, e, below))) ∙ before_none c below
    by_place c (inr past) lt' = ap (has left') (let e : c ≡ k = omega (arith, past, lt') in e) ∙ is_gone

-- if none is left, all were looked at
pub gathered_end : (busy left : ℕ) (zs : List SlotState) (g : Group) → IsGathered busy left zs g → ((c : ℕ) → has left c ≡ false) → g ≡ group_in busy 0 zs
gathered_end busy left zs g w none =
    w.so_far
    ∙ (sym (some_past busy w.from (length zs) zs (λ c past lt. sym (w.to_come c past) ∙ none c))
    ∙ ap (group_in busy 0) (take_all (w.from + length zs) zs (omega arith)))

-- ---- the group of the busy ones of a mask is that of the mask

none_there : (b : Bool) (k : ℕ) (x : Held) → is_to_land x ≡ false → grouped b k (state_or_idle x) ≡ []
none_there true k (Ok Idle) e = refl
none_there true k (Ok (Done b o a n)) e = refl
none_there true k (Ok (Stamped b)) e = absurd cc
none_there true k (Err x) e = absurd cc
none_there false k x e = refl

one_group : (busy mask k : ℕ) (z : List ℕ) → Alike busy mask k z → grouped (has busy k) k (state_or_idle (state_in k z)) ≡ grouped (has mask k) k (state_or_idle (state_in k z))
one_group busy mask k z (inl same) = ap (λ b. grouped b k (state_or_idle (state_in k z))) same
one_group busy mask k z (inr p) = none_there (has busy k) k (state_in k z) p.1 ∙ sym (none_there (has mask k) k (state_in k z) p.1)

same_from : (busy mask k : ℕ) (region : List (List ℕ)) → AllAlike busy mask k region → group_in busy k (told_by k region) ≡ group_in mask k (told_by k region)
same_from busy mask k [] alike = refl
same_from busy mask k (z ∷ zs) alike =
    let here : k + 0 ≡ k = omega arith in
    let one = one_group busy mask k z (subst (λ (n : ℕ). Alike busy mask n z) here (alike 0 z refl)) in
    let rest = same_from busy mask (suc k) zs (λ i y e. let n : k + suc i ≡ suc k + i = omega arith in subst (λ (m : ℕ). Alike busy mask m y) n (alike (suc i) y e)) in
    λ i. one i ++ rest i

-- what was collected is the group of the mask
pub group_is : (both own mask : ℕ) (old region : List (List ℕ)) (g : Group) → region ≡ old → length old ≤ 128 → ((c : ℕ) → has both c ≡ (has mask c && has own c)) → ((c : ℕ) → c < 128 → has own c ≡ is_busy_at old c)
    → g ≡ group_in both 0 (told_by 0 region) → g ≡ group_in mask 0 (told_by 0 region)
group_is both own mask old region g same few of busy is =
    is
    ∙ same_from both mask 0 region
    (are_alike both mask region (λ c lt. of c ∙ ap (λ b. has mask c && b) (busy c lt ∙ sym (ap (λ (z : List (List ℕ)). is_busy_at z c) same))) (λ i z e. let lt = slice_get_within region i z e in omega (arith, lt, few, ap length same)))

-- if no slot has the flag, there is none
nobody : (mask k : ℕ) (region : List (List ℕ)) → ((i : ℕ) (x : List ℕ) → slice_get region i ≡ Some x → is_flagged x ≡ false) → group_in mask k (told_by k region) ≡ []
nobody mask k [] none = refl
nobody mask k (x ∷ region) none = λ i. one_of (has mask k) k x (none 0 x refl) i ++ nobody mask (suc k) region (λ j. none (suc j)) i
  where
    one_of : (wanted : Bool) (k : ℕ) (x : List ℕ) → is_flagged x ≡ false → grouped wanted k (state_or_idle (state_in k x)) ≡ []
    one_of true k x e = not_flagged k x e
    one_of false k x e = refl

pub no_group : (mask : ℕ) (region : List (List ℕ)) (g : Group) → length region ≤ 128 → HasNoFlag region → g ≡ [] → g ≡ group_in mask 0 (told_by 0 region)
no_group mask region g few none e = e ∙ sym (nobody mask 0 region (λ i x found. ap is_flagged_if_any (sym found) ∙ none i (let lt = slice_get_within region i x found in omega (arith, lt, few))))
