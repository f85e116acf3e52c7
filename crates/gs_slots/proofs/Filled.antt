-- Transactions that are stamped into both parts of slots are stamped into all.
use Rattle.std.proofs.Common.{◌≡◌, ◌≢◌, Bool, true, false, cond, ℕ, suc, ◌+◌, ◌-◌, ◌<◌, ◌≤◌, ◌↔◌, Option, None, Some, Result, Ok, Err, IsOk, OnOk, OnErr, List, [], ◌∷◌, ◌++◌, length, take, drop, get_or, slice_set, refl, ap, sym, subst, ◌∙◌, arith}
use Rattle.std.specs.Prelude.{nat_lt}
use Rattle.std.specs.Option.{option_or}
use Rattle.std.proofs.lemmas.Bool.{ltb-true, ltb-false}
use Rattle.std.proofs.lemmas.List.{get_or-append_right, get_or_append_left, get_or-set_other, append-nil, drop_all, length-append, length-drop, length-set, set-append_left, set-append_right, take-append-drop, take_all}
use Rattle.std.specs.Bool.{then_some}
use Rattle.std.specs.Result.{is_err}
use Rattle.gs_slots.specs.declared.fill.Fill.{Fill}
use Rattle.gs_slots.specs.declared.state.SlotBusy.{SlotBusy}
use Rattle.gs_slots.specs.declared.state.SlotState.TheVariants.{Idle, Stamped, Done}
use Rattle.gs_slots.specs.Lending.{left_as}
use Rattle.gs_slots.specs.Reading.{state_in}
use Rattle.gs_slots.specs.State.{Held}
use Rattle.gs_slots.specs.SlotMut.{bytes_of, cpu_of, state_of}
use Rattle.gs_slots.specs.declared.slot.SlotMut.{SlotMut}
use Rattle.gs_slots.proofs.Exact.{read_spelt}
use Rattle.gs_slots.specs.Filling.{AreWithin, busy_if, busy_slot, count_below, filled, filled_slot, first_busy, slot_for, stamp_of, stamped_if_idle}

-- ---- the CPUs of a part

pub within_from : (low low' end : ℕ) (fs : List Fill) → low' ≤ low → AreWithin low end fs → AreWithin low' end fs
within_from low low' end [] le w = tt
within_from low low' end (f ∷ fs) le w = (omega (arith, le, w.0), w.1, w.2)

below_by : (b : Bool) (low end cpu : ℕ) (f : Fill) (fs : List Fill) → nat_lt f.cpu cpu ≡ b → AreWithin low end (f ∷ fs) → AreWithin (suc f.cpu) cpu (take (count_below cpu fs) fs) → AreWithin low cpu (take (cond b (suc (count_below cpu fs)) 0) (f ∷ fs))
below_by true low end cpu f fs e w rest = (w.0, ltb-true f.cpu cpu e, rest)
below_by false low end cpu f fs e w rest = tt

pub within_below : (low end cpu : ℕ) (fs : List Fill) → AreWithin low end fs → AreWithin low cpu (take (count_below cpu fs) fs)
within_below low end cpu [] w = tt
within_below low end cpu (f ∷ fs) w = below_by (nat_lt f.cpu cpu) low end cpu f fs refl w (within_below (suc f.cpu) end cpu fs w.2)

above_by : (b : Bool) (low end cpu : ℕ) (f : Fill) (fs : List Fill) → nat_lt f.cpu cpu ≡ b → AreWithin low end (f ∷ fs) → AreWithin cpu end (drop (count_below cpu fs) fs) → AreWithin cpu end (drop (cond b (suc (count_below cpu fs)) 0) (f ∷ fs))
above_by true low end cpu f fs e w rest = rest
above_by false low end cpu f fs e w rest = (ltb-false f.cpu cpu e, w.1, w.2)

pub within_above : (low end cpu : ℕ) (fs : List Fill) → AreWithin low end fs → AreWithin cpu end (drop (count_below cpu fs) fs)
within_above low end cpu [] w = tt
within_above low end cpu (f ∷ fs) w = above_by (nat_lt f.cpu cpu) low end cpu f fs refl w (within_above (suc f.cpu) end cpu fs w.2)

count_by : (b : Bool) (n m : ℕ) → n ≤ m → cond b (suc n) 0 ≤ suc m
count_by true n m le = omega (arith, le)
count_by false n m le = omega arith

pub count-le : (cpu : ℕ) (fs : List Fill) → count_below cpu fs ≤ length fs
count-le cpu [] = omega arith
count-le cpu (f ∷ fs) = count_by (nat_lt f.cpu cpu) (count_below cpu fs) (length fs) (count-le cpu fs)

-- ---- what is stamped into a part

pub filled_append : (first : ℕ) (fs gs : List Fill) (xs : List (List ℕ)) → filled first (fs ++ gs) xs ≡ filled first gs (filled first fs xs)
filled_append first [] gs xs = refl
filled_append first (f ∷ fs) gs xs = filled_append first fs gs (slice_set xs (f.cpu - first) (filled_slot f (slot_for first f xs)))

pub filled_below : (first low n : ℕ) (fs : List Fill) (xs ys : List (List ℕ)) → length xs ≡ n → first ≤ low → AreWithin low (first + n) fs → filled first fs (xs ++ ys) ≡ filled first fs xs ++ ys
filled_below first low n [] xs ys size le w = refl
filled_below first low n (f ∷ fs) xs ys size le w =
    let i : ℕ = f.cpu - first in
    let inside : i < length xs = omega (arith, size, w.0, w.1, le) in
    let here : slot_for first f (xs ++ ys) ≡ slot_for first f xs = get_or_append_left xs ys [] i inside in
    let v : List ℕ = filled_slot f (slot_for first f xs) in
    ap (λ (b : List ℕ). filled first fs (slice_set (xs ++ ys) i (filled_slot f b))) here
    ∙ ap (λ (zs : List (List ℕ)). filled first fs zs) (set-append_left xs ys i v inside)
    ∙ filled_below first (suc f.cpu) n fs (slice_set xs i v) ys (length-set xs i v ∙ size) (omega (arith, w.0, le)) w.2

pub filled_above : (first low n end : ℕ) (fs : List Fill) (xs ys : List (List ℕ)) → length xs ≡ n → first + n ≤ low → AreWithin low end fs → filled first fs (xs ++ ys) ≡ xs ++ filled (first + n) fs ys
filled_above first low n end [] xs ys size le w = refl
filled_above first low n end (f ∷ fs) xs ys size le w =
    let i : ℕ = f.cpu - first in
    let j : ℕ = f.cpu - (first + n) in
    let same : i - n ≡ j = omega arith in
    let above : n ≤ i = omega (arith, w.0, le) in
    let here : slot_for first f (xs ++ ys) ≡ slot_for (first + n) f ys = get_or-append_right xs ys n i [] size above ∙ ap (λ (m : ℕ). get_or ys m []) same in
    let v : List ℕ = filled_slot f (slot_for (first + n) f ys) in
    ap (λ (b : List ℕ). filled first fs (slice_set (xs ++ ys) i (filled_slot f b))) here
    ∙ ap (λ (zs : List (List ℕ)). filled first fs zs) (set-append_right xs ys n i v size above ∙ ap (λ (m : ℕ). xs ++ slice_set ys m v) same)
    ∙ filled_above first (suc f.cpu) n end fs xs (slice_set ys j v) size (omega (arith, w.0, le)) w.2

-- ---- which slot is busy

-- slots that are named later are as before
pub busy_later : (first low end i : ℕ) (fs : List Fill) (xs : List (List ℕ)) (v : List ℕ) → first + i < low → AreWithin low end fs → first_busy first fs (slice_set xs i v) ≡ first_busy first fs xs
busy_later first low end i [] xs v lt w = refl
busy_later first low end i (f ∷ fs) xs v lt w =
    let other : f.cpu - first ≢ i = λ e. omega (arith, e, w.0, lt) in
    (λ j. option_or (busy_slot f (get_or-set_other xs i (f.cpu - first) v [] other j)) (busy_later first (suc f.cpu) end i fs xs v (omega (arith, lt, w.0)) w.2 j))

option_or_assoc : (a b c : Option ℕ) → option_or (option_or a b) c ≡ option_or a (option_or b c)
option_or_assoc None b c = refl
option_or_assoc (Some x) b c = refl

pub busy_append : (first : ℕ) (fs gs : List Fill) (xs : List (List ℕ)) → first_busy first (fs ++ gs) xs ≡ option_or (first_busy first fs xs) (first_busy first gs xs)
busy_append first [] gs xs = refl
busy_append first (f ∷ fs) gs xs =
    let here : Option ℕ = busy_slot f (slot_for first f xs) in
    ap (option_or here) (busy_append first fs gs xs) ∙ sym (option_or_assoc here (first_busy first fs xs) (first_busy first gs xs))

pub busy_below : (first low n : ℕ) (fs : List Fill) (xs ys : List (List ℕ)) → length xs ≡ n → first ≤ low → AreWithin low (first + n) fs → first_busy first fs (xs ++ ys) ≡ first_busy first fs xs
busy_below first low n [] xs ys size le w = refl
busy_below first low n (f ∷ fs) xs ys size le w =
    let inside : f.cpu - first < length xs = omega (arith, size, w.0, w.1, le) in
    (λ j. option_or (busy_slot f (get_or_append_left xs ys [] (f.cpu - first) inside j)) (busy_below first (suc f.cpu) n fs xs ys size (omega (arith, w.0, le)) w.2 j))

pub busy_above : (first low n end : ℕ) (fs : List Fill) (xs ys : List (List ℕ)) → length xs ≡ n → first + n ≤ low → AreWithin low end fs → first_busy first fs (xs ++ ys) ≡ first_busy (first + n) fs ys
busy_above first low n end [] xs ys size le w = refl
busy_above first low n end (f ∷ fs) xs ys size le w =
    let i : ℕ = f.cpu - first in
    let same : i - n ≡ f.cpu - (first + n) = omega arith in
    let here : slot_for first f (xs ++ ys) ≡ slot_for (first + n) f ys = get_or-append_right xs ys n i [] size (omega (arith, w.0, le)) ∙ ap (λ (m : ℕ). get_or ys m []) same in
    (λ j. option_or (busy_slot f (here j)) (busy_above first (suc f.cpu) n end fs xs ys size (omega (arith, w.0, le)) w.2 j))

-- ---- both parts

pub filled_count : (first : ℕ) (fs : List Fill) (xs : List (List ℕ)) → length (filled first fs xs) ≡ length xs
filled_count first [] xs = refl
filled_count first (f ∷ fs) xs =
    let v : List ℕ = filled_slot f (slot_for first f xs) in
    filled_count first fs (slice_set xs (f.cpu - first) v) ∙ length-set xs (f.cpu - first) v

pub halves_filled : (n end : ℕ) (fs : List Fill) (xs ys : List (List ℕ)) → length xs ≡ n → AreWithin 0 end fs
    → filled 0 fs (xs ++ ys) ≡ filled 0 (take (count_below n fs) fs) xs ++ filled n (drop (count_below n fs) fs) ys
halves_filled n end fs xs ys size w =
    let k : ℕ = count_below n fs in
    let below : List Fill = take k fs in
    let above : List Fill = drop k fs in
    let zero_n : 0 + n ≡ n = omega arith in
    let low : AreWithin 0 (0 + n) below = subst (λ (m : ℕ). AreWithin 0 m below) (sym zero_n) (within_below 0 end n fs w) in
    let high : AreWithin n end above = within_above 0 end n fs w in
    ap (λ (gs : List Fill). filled 0 gs (xs ++ ys)) (sym (take-append-drop k fs))
    ∙ filled_append 0 below above (xs ++ ys)
    ∙ ap (λ (zs : List (List ℕ)). filled 0 above zs) (filled_below 0 0 n below xs ys size (omega arith) low)
    ∙ filled_above 0 n n end above (filled 0 below xs) ys (filled_count 0 below xs ∙ size) (omega arith) high
    ∙ ap (λ (m : ℕ). filled 0 below xs ++ filled m above ys) zero_n

pub halves_busy : (n end : ℕ) (fs : List Fill) (xs ys : List (List ℕ)) → length xs ≡ n → AreWithin 0 end fs
    → first_busy 0 fs (xs ++ ys) ≡ option_or (first_busy 0 (take (count_below n fs) fs) xs) (first_busy n (drop (count_below n fs) fs) ys)
halves_busy n end fs xs ys size w =
    let k : ℕ = count_below n fs in
    let below : List Fill = take k fs in
    let above : List Fill = drop k fs in
    let zero_n : 0 + n ≡ n = omega arith in
    let low : AreWithin 0 (0 + n) below = subst (λ (m : ℕ). AreWithin 0 m below) (sym zero_n) (within_below 0 end n fs w) in
    let high : AreWithin n end above = within_above 0 end n fs w in
    ap (λ (gs : List Fill). first_busy 0 gs (xs ++ ys)) (sym (take-append-drop k fs))
    ∙ busy_append 0 below above (xs ++ ys)
    ∙ (λ j. option_or (busy_below 0 0 n below xs ys size (omega arith) low j) ((busy_above 0 n n end above xs ys size (omega arith) high ∙ ap (λ (m : ℕ). first_busy m above ys) zero_n) j))

-- ---- one slot

not_ok : (r : Result (Unit {0}) SlotBusy) (e : SlotBusy) → r ≡ Err e → IsOk r → ⊥
not_ok (Ok u) e is ok = absurd cc
not_ok (Err x) e is ok = cc

left_alone : (f : Fill) (old : List ℕ) (h : Held) → (h ≡ Ok Idle → ⊥) → stamped_if_idle h f old ≡ old
left_alone f old (Ok Idle) not_idle = absurd (not_idle refl)
left_alone f old (Ok (Stamped s)) not_idle = refl
left_alone f old (Ok (Done s o a n)) not_idle = refl
left_alone f old (Err x) not_idle = refl

told_busy : (f : Fill) (h : Held) → (h ≡ Ok Idle → ⊥) → busy_if h f ≡ Some f.cpu
told_busy f (Ok Idle) not_idle = absurd (not_idle refl)
told_busy f (Ok (Stamped s)) not_idle = refl
told_busy f (Ok (Done s o a n)) not_idle = refl
told_busy f (Err x) not_idle = refl

-- a call that stamps an idle slot, and leaves any other
pub one_filled : (f : Fill) (old new : List ℕ) (slot : SlotMut) (r : Result (Unit {0}) SlotBusy) → bytes_of slot ≡ old → cpu_of slot ≡ f.cpu → (IsOk r ↔ (state_of slot ≡ Ok Idle)) → OnOk r (state_in (cpu_of slot) new ≡ Ok (Stamped (stamp_of f))) → OnErr r (new ≡ bytes_of slot) → new ≡ filled_slot f old
unfolding filled_slot
one_filled f old new slot (Ok u) bytes cpu exact stamped busy =
    (read_spelt f.cpu new (Stamped (stamp_of f)) (ap (λ (k : ℕ). state_in k new) (sym cpu) ∙ stamped)).0
    ∙ ap (λ (h : Held). stamped_if_idle h f old) (sym ((λ i. state_in (sym cpu i) (sym bytes i)) ∙ exact.0 refl))
one_filled f old new slot (Err e) bytes cpu exact stamped busy = busy ∙ bytes ∙ sym (left_alone f old (state_in f.cpu old) (λ h. not_ok (Err e) e refl (exact.1 ((λ i. state_in (cpu i) (bytes i)) ∙ h))))

pub one_busy : (f : Fill) (old : List ℕ) (slot : SlotMut) (r : Result (Unit {0}) SlotBusy) (b : Bool) → bytes_of slot ≡ old → cpu_of slot ≡ f.cpu → (IsOk r ↔ (state_of slot ≡ Ok Idle)) → b ≡ is_err r → then_some b f.cpu ≡ busy_slot f old
unfolding busy_slot
one_busy f old slot (Ok u) b bytes cpu exact is = ap (λ (q : Bool). then_some q f.cpu) is ∙ ap (λ (h : Held). busy_if h f) (sym ((λ i. state_in (sym cpu i) (sym bytes i)) ∙ exact.0 refl))
one_busy f old slot (Err e) b bytes cpu exact is =
    ap (λ (q : Bool). then_some q f.cpu) is ∙ sym (told_busy f (state_in f.cpu old) (λ h. not_ok (Err e) e refl (exact.1 ((λ i. state_in (cpu i) (bytes i)) ∙ h))))

-- ---- a part after its first transaction

pub rest_within : (first i : ℕ) (slots : List (List ℕ)) (v : List ℕ) (f : Fill) (fs : List Fill) → AreWithin first (first + length slots) (f ∷ fs) → AreWithin first (first + length (slice_set slots i v)) fs
rest_within first i slots v f fs w =
    subst (λ (n : ℕ). AreWithin first (first + n) fs) (sym (length-set slots i v)) (within_from (suc f.cpu) first (first + length slots) fs (omega (arith, w.0)) w.2)

pub rest_busy : (first i : ℕ) (slots : List (List ℕ)) (v : List ℕ) (f : Fill) (fs : List Fill) → i ≡ f.cpu - first → AreWithin first (first + length slots) (f ∷ fs) → first_busy first fs (slice_set slots i v) ≡ first_busy first fs slots
rest_busy first i slots v f fs is w = busy_later first (suc f.cpu) (first + length slots) i fs slots v (omega (arith, is, w.0)) w.2

-- ---- all slots

-- slots that are lent in two parts, and transactions for both
pub record Parted (region low high : List (List ℕ)) (first at : ℕ) (fs below above : List Fill) : Type 0 where
  pub within : AreWithin 0 (length region) fs
  pub whole : region ≡ low ++ high
  pub zero : first ≡ 0
  pub split : first + length low ≡ at
  pub below_is : below ≡ take (count_below at fs) fs
  pub above_is : above ≡ drop (count_below at fs) fs

-- how many there are before those from a CPU on
count_is : (cpu : ℕ) (fs : List Fill) → length fs - length (drop (count_below cpu fs) fs) ≡ count_below cpu fs
count_is cpu fs = omega (arith, length-drop (count_below cpu fs) fs, count-le cpu fs)

pub parted : (region low high : List (List ℕ)) (first at : ℕ) (fs below above : List Fill) → AreWithin 0 (length region) fs → region ≡ low ++ high → first ≡ 0 → first + length low ≡ at → above ≡ drop (count_below at fs) fs → below ≡ take (length fs - length above) fs
    → Parted region low high first at fs below above
parted region low high first at fs below above w whole none split a b =
    record { within = w; whole = whole; zero = none; split = split; below_is = b ∙ ap (λ (n : ℕ). take n fs) (ap (λ (gs : List Fill). length fs - length gs) a ∙ count_is at fs); above_is = a }

pub low_within : (region low high : List (List ℕ)) (first at : ℕ) (fs below above : List Fill) → Parted region low high first at fs below above → AreWithin first (first + length low) below
low_within region low high first at fs below above p =
    subst (λ (gs : List Fill). AreWithin first (first + length low) gs) (sym p.below_is)
    (subst (λ (n : ℕ). AreWithin first n (take (count_below at fs) fs)) (sym p.split) (within_from 0 first at (take (count_below at fs) fs) (omega (arith, p.zero)) (within_below 0 (length region) at fs p.within)))

pub high_within : (region low high : List (List ℕ)) (first at : ℕ) (fs below above : List Fill) → Parted region low high first at fs below above → AreWithin at (at + length high) above
high_within region low high first at fs below above p =
    let size : length region ≡ at + length high = ap length p.whole ∙ (length-append low high ∙ omega (arith, p.split, p.zero)) in
    subst (λ (gs : List Fill). AreWithin at (at + length high) gs) (sym p.above_is) (subst (λ (n : ℕ). AreWithin at n (drop (count_below at fs) fs)) size (within_above 0 (length region) at fs p.within))

pub all_left : (slots left : List (List ℕ)) → length left ≡ length slots → left_as slots left ≡ left
all_left slots left e =
    ap (λ (n : ℕ). take (length slots) (left ++ drop n slots)) e
    ∙ (ap (λ (zs : List (List ℕ)). take (length slots) (left ++ zs)) (drop_all (length slots) slots (omega arith)) ∙ (ap (take (length slots)) (append-nil left) ∙ take_all (length slots) left (omega (arith, e))))

pub whole_filled : (region low high low' high' : List (List ℕ)) (first at : ℕ) (fs below above : List Fill) → Parted region low high first at fs below above → low' ≡ filled first below low → high' ≡ filled at above high → left_as region (low' ++ high') ≡ filled 0 fs region
whole_filled region low high low' high' first at fs below above p l h =
    let size : length low ≡ at = omega (arith, p.split, p.zero) in
    let both : low' ++ high' ≡ filled 0 fs region =
    (λ i. (l ∙ (λ j. filled (p.zero j) (p.below_is j) low)) i ++ (h ∙ ap (λ (gs : List Fill). filled at gs high) p.above_is) i)
    ∙ sym (halves_filled at (length region) fs low high size p.within) ∙ ap (filled 0 fs) (sym p.whole) in
    all_left region (low' ++ high') (ap length both ∙ filled_count 0 fs region) ∙ both

pub whole_busy : (region low high : List (List ℕ)) (first at : ℕ) (fs below above : List Fill) (a b : Option ℕ) → Parted region low high first at fs below above → a ≡ first_busy first below low → b ≡ first_busy at above high → option_or a b ≡ first_busy 0 fs region
whole_busy region low high first at fs below above a b p l h =
    let size : length low ≡ at = omega (arith, p.split, p.zero) in
    (λ i. option_or ((l ∙ (λ j. first_busy (p.zero j) (p.below_is j) low)) i) ((h ∙ ap (λ (gs : List Fill). first_busy at gs high) p.above_is) i))
    ∙ sym (halves_busy at (length region) fs low high size p.within) ∙ ap (first_busy 0 fs) (sym p.whole)
