-- A walk over the CPUs of a mask, from the lowest to the highest: their slots land, and those between stay.
use Rattle.std.proofs.Common.{◌≡◌, ◌≢◌, ℕ, zero, suc, ◌+◌, ◌-◌, ◌<◌, ◌≤◌, ◌⊎◌, inl, inr, true, false, Some, List, [], ◌∷◌, ◌++◌, length, take, drop, slice_get, slice_set, refl, ap, sym, subst, ◌∙◌, length-append, length-drop, length-take, append-nil, arith}
use Rattle.std.proofs.lemmas.Bool.{cases_lt}
use Rattle.std.proofs.Math.Seq.{drop-length, take-length}
use Rattle.gs_journal.specs.History.{History}
use Rattle.gs_status.specs.Masks.{has}
use Rattle.gs_kernel.specs.declared.landing.Landing.{Landing}
use Rattle.gs_kernel.specs.Lands.{Adds, LandsAllBy, LandsIfBy, LandsOn}
use Rattle.gs_kernel.proofs.Landings.{SoFar, all_count, get_middle, set_middle, so_far_push, unasked_adds}

-- what stands at a place, and the rest behind it
first_of : {A : Type 0} (xs : List A) (i : ℕ) → i < length xs → (x : A) × (drop i xs ≡ x ∷ drop (suc i) xs)
first_of [] i lt = absurd (omega (arith, lt))
first_of (x ∷ xs) zero lt = (x, refl)
first_of (x ∷ xs) (suc i) lt = first_of xs i (omega (arith, lt))

-- a slot that is not wanted stays
past_one : {Z : Type 0} (L : LandsOn Z) (mask i : ℕ) (old region : List Z) (h now : History) (before mid : List Landing) → i < length old → has mask i ≡ false
    → SoFar (LandsAllBy L mask 0 (take i old) h) before mid region (drop i old) now
    → SoFar (LandsAllBy L mask 0 (take (i + 1) old) h) before mid region (drop (i + 1) old) now
past_one {Z} L mask i old region h now before mid lt not_wanted t =
    let p = first_of old i lt in
    let z : Z = p.0 in
    let rest : List Z = drop (i + 1) old in
    let n : length t.made.slots ≡ i = omega (arith, all_count L mask 0 (take i old) h t.made t.lands, length-take i old, lt) in
    let cut : drop i old ≡ z ∷ rest = p.1 ∙ ap (λ m. z ∷ drop m old) (let q : suc i ≡ i + 1 = omega arith in q) in
    let whole : region ≡ t.made.slots ++ z ∷ rest = t.slots ∙ ap (λ (w : List Z). t.made.slots ++ w) cut in
    let found : slice_get region i ≡ Some z = ap (λ (w : List Z). slice_get w i) whole ∙ (ap (slice_get (t.made.slots ++ z ∷ rest)) (sym n) ∙ get_middle t.made.slots rest z) in
    let same : slice_set region i z ≡ region = ap (λ (w : List Z). slice_set w i z) whole ∙ (ap (λ j. slice_set (t.made.slots ++ z ∷ rest) j z) (sym n) ∙ (set_middle t.made.slots rest z z ∙ sym whole)) in
    subst (λ (w : List Z). SoFar (LandsAllBy L mask 0 (take (i + 1) old) h) before mid w (drop (i + 1) old) now) same
    (so_far_push L mask i old region z z h now now before mid mid lt t found (unasked_adds L (has mask i) i z now mid not_wanted))

-- and so do several, one behind the other
past_some : {Z : Type 0} (L : LandsOn Z) (mask i d : ℕ) (old region : List Z) (h now : History) (before mid : List Landing) → i + d ≤ length old
    → ((c : ℕ) → i ≤ c → c < i + d → has mask c ≡ false)
    → SoFar (LandsAllBy L mask 0 (take i old) h) before mid region (drop i old) now
    → SoFar (LandsAllBy L mask 0 (take (i + d) old) h) before mid region (drop (i + d) old) now
past_some {Z} L mask i zero old region h now before mid le none t =
    subst (λ n. SoFar (LandsAllBy L mask 0 (take n old) h) before mid region (drop n old) now) (let e : i ≡ i + 0 = omega arith in e) t
past_some {Z} L mask i (suc d) old region h now before mid le none t =
    subst (λ n. SoFar (LandsAllBy L mask 0 (take n old) h) before mid region (drop n old) now) (let e : i + d + 1 ≡ i + suc d = omega arith in e)
    (past_one L mask (i + d) old region h now before mid (omega (arith, le)) (none (i + d) (omega arith) (omega arith))
    (past_some L mask i d old region h now before mid (omega (arith, le)) (λ c ge lt. none c ge (omega (arith, lt))) t))

-- The slots of the CPUs below a place landed if they are of the mask. What is left of the mask is what it has from there on.
pub record IsWalked {Z : Type 0} (L : LandsOn Z) (mask left : ℕ) (old : List Z) (h : History) (before mid : List Landing) (region : List Z) (now : History) : Type 0 where
  pub from : ℕ
  pub within : from ≤ length old
  pub passed : (c : ℕ) → c < from → has left c ≡ false
  pub to_come : (c : ℕ) → from ≤ c → has left c ≡ has mask c
  pub so_far : SoFar (LandsAllBy L mask 0 (take from old) h) before mid region (drop from old) now

pub walked_none : {Z : Type 0} (L : LandsOn Z) (mask : ℕ) (old : List Z) (h : History) (before : List Landing) → IsWalked L mask mask old h before before old h
walked_none L mask old h before =
    record {
      from = 0;
      within = omega arith;
      passed = λ c lt. absurd (omega (arith, lt));
      to_come = λ c ge. refl;
      so_far = record {
        made = record { answers = []; history = h; slots = [] };
        lands = refl;
        answers = sym (append-nil before);
        slots = refl;
        history = refl;
      };
    }

-- no slot comes or goes
pub walked_length : {Z : Type 0} (L : LandsOn Z) (mask left : ℕ) (old : List Z) (h : History) (before mid : List Landing) (region : List Z) (now : History)
    → IsWalked L mask left old h before mid region now → length region ≡ length old
walked_length L mask left old h before mid region now w =
    let t = w.so_far in
    omega (arith, w.within, ap length t.slots, length-append t.made.slots (drop w.from old), all_count L mask 0 (take w.from old) h t.made t.lands, length-take w.from old, length-drop w.from old)

-- the lowest CPU that is left is not behind
lowest_ahead : (left from k : ℕ) → ((c : ℕ) → c < from → has left c ≡ false) → has left k ≡ true → from ≤ k
lowest_ahead left from k passed there = by_place (cases_lt k from)
  where
    by_place : (k < from) ⊎ (from ≤ k) → from ≤ k
    by_place (inl lt) = let away = passed k lt in absurd cc
    by_place (inr le) = le

-- it is of the mask
pub lowest_wanted : {Z : Type 0} (L : LandsOn Z) (mask left k : ℕ) (old : List Z) (h : History) (before mid : List Landing) (region : List Z) (now : History)
    → IsWalked L mask left old h before mid region now → has left k ≡ true → has mask k ≡ true
lowest_wanted L mask left k old h before mid region now w there = sym (w.to_come k (lowest_ahead left w.from k w.passed there)) ∙ there

-- those before a place stay, if none of them is left
walked_to : {Z : Type 0} (L : LandsOn Z) (mask left k : ℕ) (old : List Z) (h : History) (before mid : List Landing) (region : List Z) (now : History)
    → (w : IsWalked L mask left old h before mid region now) → w.from ≤ k → k ≤ length old → ((c : ℕ) → c < k → has left c ≡ false)
    → SoFar (LandsAllBy L mask 0 (take k old) h) before mid region (drop k old) now
walked_to L mask left k old h before mid region now w ge le none =
    let e : w.from + (k - w.from) ≡ k = omega (arith, ge) in
    subst (λ n. SoFar (LandsAllBy L mask 0 (take n old) h) before mid region (drop n old) now) e
    (past_some L mask w.from (k - w.from) old region h now before mid (omega (arith, e, le)) (λ c after lt. sym (w.to_come c after) ∙ none c (omega (arith, lt, e))) w.so_far)

-- the slot of the lowest CPU that is left lands, which is left no more
pub walked_push : {Z : Type 0} (L : LandsOn Z) (mask left left' k : ℕ) (old : List Z) (x y : Z) (h : History) (before mid after : List Landing) (region : List Z) (now later : History)
    → IsWalked L mask left old h before mid region now → has left k ≡ true → ((c : ℕ) → c < k → has left c ≡ false) → k < length old
    → has left' k ≡ false → ((c : ℕ) → c ≢ k → has left' c ≡ has left c)
    → slice_get region k ≡ Some x → Adds (LandsIfBy L true k x now) mid after (y ∷ []) later
    → IsWalked L mask left' old h before after (slice_set region k y) later
walked_push {Z} L mask left left' k old x y h before mid after region now later w there none lt gone others found one =
    let ge : w.from ≤ k = lowest_ahead left w.from k w.passed there in
    let wanted : has mask k ≡ true = lowest_wanted L mask left k old h before mid region now w there in
    record {
      from = k + 1;
      within = omega (arith, lt);
      passed = λ c below. by_place c (cases_lt c k) below;
      to_come = λ c past. others c (λ e. absurd (omega (arith, e, past))) ∙ w.to_come c (omega (arith, ge, past));
      so_far = so_far_push L mask k old region x y h now later before mid after lt (walked_to L mask left k old h before mid region now w ge (omega (arith, lt)) none) found
          (subst (λ b. Adds (LandsIfBy L b k x now) mid after (y ∷ []) later) (sym wanted) one);
    }
  where
    is_gone : has left' k ≡ false
    is_gone = gone

    same : (c : ℕ) → c ≢ k → has left' c ≡ has left c
    same = others

    before_none : (c : ℕ) → c < k → has left c ≡ false
    before_none = none

    by_place : (c : ℕ) → (c < k) ⊎ (k ≤ c) → c < k + 1 → has left' c ≡ false
    by_place c (inl below) lt' = same c (λ e. absurd (omega (arith, e, below))) ∙ before_none c below
    by_place c (inr past) lt' = ap (has left') (let e : c ≡ k = omega (arith, past, lt') in e) ∙ is_gone

-- if none is left, all landed that are of the mask
pub walked_end : {Z : Type 0} (L : LandsOn Z) (mask left : ℕ) (old : List Z) (h : History) (before after : List Landing) (region : List Z) (now : History)
    → IsWalked L mask left old h before after region now → ((c : ℕ) → has left c ≡ false) → Adds (LandsAllBy L mask 0 old h) before after region now
walked_end {Z} L mask left old h before after region now w none =
    let t = walked_to L mask left (length old) old h before after region now w w.within (omega arith) (λ c lt. none c) in
    record {
      made = t.made;
      lands = subst (λ (zs : List Z). LandsAllBy L mask 0 zs h t.made) (take-length old) t.lands;
      answers = t.answers;
      slots = t.slots ∙ (ap (λ (zs : List Z). t.made.slots ++ zs) (drop-length old) ∙ append-nil t.made.slots);
      history = t.history;
    }
