-- A commit without a group, whose slots are collected one by one as they land.
use Rattle.std.proofs.Common.{◌≡◌, refl, ap, sym, subst, ◌∙◌, ℕ, zero, suc, ◌+◌, ◌<◌, ◌≤◌, ◌⊎◌, inl, inr, Bool, true, false, cond, None, Some, List, [], ◌∷◌, ◌++◌, length, map, drop, slice_get, slice_set, take, length-take, append-nil, get_or, arith, ◌≢◌, Option, Ok}
use Rattle.std.specs.Prelude.{◌&&◌}
use Rattle.std.proofs.lemmas.Option.{slice_get-get_or, slice_get_within}
use Rattle.std.proofs.Math.Bool.{and-false, and-true}
use Rattle.std.proofs.lemmas.Bool.{cases_lt}
use Rattle.std.proofs.lemmas.Slice.{drop-append-drop}
use Rattle.gs_status.specs.Masks.{has}
use Rattle.gs_slots.specs.declared.state.SlotState.{SlotState}
use Rattle.gs_slots.specs.declared.state.SlotState.TheVariants.{Idle, Stamped, Done}
use Rattle.gs_slots.specs.declared.state.Stamp.{Stamp}
use Rattle.gs_slots.specs.Busy.{CoversBusy, HasNoFlag, is_busy, is_busy_if_any, is_flagged_if_any}
use Rattle.gs_slots.specs.Reading.{is_flagged, state_in, state_or_idle}
use Rattle.gs_slots.specs.State.{Held, collected, is_grouped}
use Rattle.gs_slots.proofs.Laws.{flag_is, quiet_read, set_as_it_was}
use Rattle.gs_layout.specs.declared.outcome.Outcome.{Outcome}
use Rattle.gs_journal.specs.History.{History}
use Rattle.gs_agent.specs.Mind.{MindState, picture_of, thinks}
use Rattle.gs_agent.specs.Picture.{Picture, after_all, after_slot, after_slots, if_grouped, if_single}
use Rattle.gs_kernel.specs.declared.settings.Settings.{Settings}
use Rattle.gs_kernel.specs.declared.landing.Landing.{Landing}
use Rattle.gs_kernel.specs.Legal.{Room}
use Rattle.gs_kernel.specs.Lands.{Adds, Landings, Lands, LandsAll, LandsIf, LandsIn}
use Rattle.gs_kernel.specs.Group.{group_in, grouped}
use Rattle.gs_kernel.proofs.Laws.{Entails, IsWalked, all_count, asked_adds, commit_alone, if_map, in_map, lowest_wanted, walked_end, walked_length, walked_none, walked_push}
use Rattle.gs_core.specs.Trust.{NoneDone}
use Rattle.gs_core.proofs.Left.{none_collected}
use Rattle.gs_core.proofs.Regions.{AreRead, count_is, slot_read}
use Rattle.gs_core.specs.AtOnce.{CommitsAtOnce, LandsAtOnce, LandsOneAtOnce}

-- ---- slots none of which waits to be collected

later_open : (z : SlotState) (zs : List SlotState) → NoneDone (z ∷ zs) → NoneDone zs
later_open z zs none = λ i. none (suc i)

ahead_open : (k : ℕ) (zs : List SlotState) → NoneDone zs → NoneDone (drop k zs)
ahead_open zero zs none = none
ahead_open (suc k) [] none = none
ahead_open (suc k) (z ∷ zs) none = ahead_open k zs (later_open z zs none)

slot_open : (z : SlotState) (zs : List SlotState) → NoneDone (z ∷ zs) → collected z ≡ z
slot_open Idle zs none = refl
slot_open (Stamped b) zs none = refl
slot_open (Done b o a n) zs none = absurd (none 0 b o a n refl)

learns_nothing : (c : ℕ) (z : SlotState) (zs : List SlotState) (p : Picture) → NoneDone (z ∷ zs) → after_slot c z p ≡ p
learns_nothing c Idle zs p none = refl
learns_nothing c (Stamped b) zs p none = refl
learns_nothing c (Done b o a n) zs p none = absurd (none 0 b o a n refl)

-- they are as they are once collected, and a picture learns nothing of them
all_open : (zs : List SlotState) → NoneDone zs → zs ≡ map collected zs
all_open [] none = refl
all_open (z ∷ zs) none = λ i. sym (slot_open z zs none) i ∷ all_open zs (later_open z zs none) i

learn_nothing : (c : ℕ) (zs : List SlotState) (p : Picture) → NoneDone zs → after_slots c zs p ≡ p
learn_nothing c [] p none = refl
learn_nothing c (z ∷ zs) p none = learn_nothing (c + 1) zs (after_slot c z p) (later_open z zs none) ∙ learns_nothing c z zs p none

-- the slot at a place in front of such ones is the one that is there once all were collected
get_open : (k : ℕ) (zs : List SlotState) (z : SlotState) → NoneDone (drop k zs) → slice_get (map collected zs) k ≡ Some z → slice_get zs k ≡ Some z
get_open k [] z none e = e
get_open zero (x ∷ zs) z none e = ap Some (sym (slot_open x zs none)) ∙ e
get_open (suc k) (x ∷ zs) z none e = get_open k zs z none e

collected_set : (k : ℕ) (zs : List SlotState) (y : SlotState) → map collected (slice_set zs k y) ≡ slice_set (map collected zs) k (collected y)
collected_set k [] y = refl
collected_set zero (z ∷ zs) y = refl
collected_set (suc k) (z ∷ zs) y = ap (λ (xs : List SlotState). collected z ∷ xs) (collected_set k zs y)

-- a slot that lands in front of such ones is what a picture learns of last
learns_last : (c k : ℕ) (zs : List SlotState) (y : SlotState) (p : Picture) → k < length zs → NoneDone (drop k zs) → after_slots c (slice_set zs k y) p ≡ after_slot (c + k) y (after_slots c zs p)
learns_last c k [] y p lt none = absurd (omega (arith, lt))
learns_last c zero (z ∷ zs) y p lt none =
    learn_nothing (c + 1) zs (after_slot c y p) (later_open z zs none)
    ∙ (ap (λ (q : Picture). after_slot c y q) (sym (learn_nothing c (z ∷ zs) p none)) ∙ ap (λ (n : ℕ). after_slot n y (after_slots c (z ∷ zs) p)) (let e : c ≡ c + 0 = omega arith in e))
learns_last c (suc k) (z ∷ zs) y p lt none =
    learns_last (c + 1) k zs y (after_slot c z p) (omega (arith, lt)) none ∙ ap (λ (n : ℕ). after_slot n y (after_slots c (z ∷ zs) p)) (let e : c + 1 + k ≡ c + suc k = omega arith in e)

-- what is collected changes nothing of what is known of threads
view_slot : (c : ℕ) (z : SlotState) (p : Picture) → (after_slot c z p).view ≡ p.view
view_slot c Idle p = refl
view_slot c (Stamped b) p = refl
view_slot c (Done b o a n) p = refl

view_slots : (c : ℕ) (zs : List SlotState) (p : Picture) → (after_slots c zs p).view ≡ p.view
view_slots c [] p = refl
view_slots c (z ∷ zs) p = view_slots (c + 1) zs (after_slot c z p) ∙ view_slot c z p

thought_of : (v : MindState) (p : Picture) → p.view ≡ (picture_of v).view → picture_of (thinks v p) ≡ p
thought_of v p e = λ i. record { view = sym e i; cpus = p.cpus; queue = p.queue }

-- ---- the walk

-- the slots of a mask that are not left landed, and each was collected at once
pub record IsPassed (room : Room) (s : Settings) (some left : ℕ) (old : List SlotState) (h : History) (before mid : List Landing) (slots : List SlotState) (now : History) (v v' : MindState) : Type 0 where
  pub landed : List SlotState
  pub walked : IsWalked (LandsIn room s) some left old h before mid landed now
  pub slots_are : slots ≡ map collected landed
  pub thought : v' ≡ thinks v (after_slots 0 landed (picture_of v))

pub passed_none : (room : Room) (s : Settings) (some : ℕ) (old : List SlotState) (h : History) (before : List Landing) (v : MindState) → NoneDone old → IsPassed room s some some old h before before old h v v
passed_none room s some old h before v none =
    record { landed = old; walked = walked_none (LandsIn room s) some old h before; slots_are = all_open old none; thought = ap (thinks v) (sym (learn_nothing 0 old (picture_of v) none)) }

-- those from a CPU on that is left are as they were
still_ahead : (room : Room) (s : Settings) (some left k : ℕ) (old : List SlotState) (h : History) (before mid : List Landing) (landed : List SlotState) (now : History) → IsWalked (LandsIn room s) some left old h before mid landed now → has left k ≡ true
    → drop k landed ≡ drop k old
still_ahead room s some left k old h before mid landed now w there =
    let t = w.so_far in
    let count : length t.made.slots ≡ w.from = omega (arith, all_count (LandsIn room s) some 0 (take w.from old) h t.made t.lands, length-take w.from old, w.within) in
    ap (drop k) t.slots ∙ drop-append-drop w.from old t.made.slots k (ahead w.from w.passed) count
  where
    ahead : (from : ℕ) → ((c : ℕ) → c < from → has left c ≡ false) → from ≤ k
    ahead from passed = by_place (cases_lt k from)
      where
        by_place : (k < from) ⊎ (from ≤ k) → from ≤ k
        by_place (inl lt) = let away = passed k lt in absurd cc
        by_place (inr le) = le

pub passed_push : (room : Room) (s : Settings) (some left left' k : ℕ) (old : List SlotState) (z : SlotState) (h : History) (before mid after : List Landing) (slots slots' : List SlotState) (now later : History) (v v' v'' : MindState)
    → IsPassed room s some left old h before mid slots now v v' → NoneDone old → has left k ≡ true → ((c : ℕ) → c < k → has left c ≡ false) → k < length old → has left' k ≡ false → ((c : ℕ) → c ≢ k → has left' c ≡ has left c)
    → slice_get slots k ≡ Some z → LandsOneAtOnce room s k z now mid after slots slots' later v' v'' → IsPassed room s some left' old h before after slots' later v v''
passed_push room s some left left' k old z h before mid after slots slots' now later v v' v'' p none there first lt gone others found one =
    let open_now : NoneDone (drop k p.landed) = subst NoneDone (sym (still_ahead room s some left k old h before mid p.landed now p.walked there)) (ahead_open k old none) in
    let here : slice_get p.landed k ≡ Some z = get_open k p.landed z open_now (ap (λ (xs : List SlotState). slice_get xs k) (sym p.slots_are) ∙ found) in
    let q : Picture = after_slots 0 p.landed (picture_of v) in
    let within : k < length p.landed = omega (arith, walked_length (LandsIn room s) some left old h before mid p.landed now p.walked, lt) in
    record {
      landed = slice_set p.landed k one.left;
      walked = walked_push (LandsIn room s) some left left' k old z one.left h before mid after p.landed now later p.walked there first lt gone others here one.lands;
      slots_are = one.slots ∙ (ap (λ (xs : List SlotState). slice_set xs k (collected one.left)) p.slots_are ∙ sym (collected_set k p.landed one.left));
      thought = one.thought ∙ (ap (λ (w : MindState). thinks w (after_slot k one.left (picture_of w))) p.thought
          ∙ (ap (λ (w : Picture). thinks v (after_slot k one.left w)) (thought_of v q (view_slots 0 p.landed (picture_of v)))
          ∙ ap (thinks v) (sym (learns_last 0 k p.landed one.left (picture_of v) within open_now ∙ ap (λ (n : ℕ). after_slot n one.left q) (let e : 0 + k ≡ k = omega arith in e)))));
    }

-- no slot comes or goes, the next one is of the mask, and none waits to be collected
count_collected : (zs : List SlotState) → length (map collected zs) ≡ length zs
count_collected [] = refl
count_collected (z ∷ zs) = ap suc (count_collected zs)

pub passed_length : (room : Room) (s : Settings) (some left : ℕ) (old : List SlotState) (h : History) (before mid : List Landing) (slots : List SlotState) (now : History) (v v' : MindState) → IsPassed room s some left old h before mid slots now v v'
    → length slots ≡ length old
passed_length room s some left old h before mid slots now v v' p = ap length p.slots_are ∙ (count_collected p.landed ∙ walked_length (LandsIn room s) some left old h before mid p.landed now p.walked)

pub passed_wanted : (room : Room) (s : Settings) (some left k : ℕ) (old : List SlotState) (h : History) (before mid : List Landing) (slots : List SlotState) (now : History) (v v' : MindState) → IsPassed room s some left old h before mid slots now v v' → has left k ≡ true
    → has some k ≡ true
passed_wanted room s some left k old h before mid slots now v v' p there = lowest_wanted (LandsIn room s) some left k old h before mid p.landed now p.walked there

pub passed_open : (room : Room) (s : Settings) (some left : ℕ) (old : List SlotState) (h : History) (before mid : List Landing) (slots : List SlotState) (now : History) (v v' : MindState) → IsPassed room s some left old h before mid slots now v v' → NoneDone slots
passed_open room s some left old h before mid slots now v v' p = subst NoneDone (sym p.slots_are) (none_collected p.landed)

pub passed_end : (room : Room) (s : Settings) (some left : ℕ) (old : List SlotState) (h : History) (before after : List Landing) (slots : List SlotState) (now : History) (v v' : MindState)
    → IsPassed room s some left old h before after slots now v v' → ((c : ℕ) → has left c ≡ false) → LandsAtOnce room s some old h before after slots now v v'
passed_end room s some left old h before after slots now v v' p empty =
    record { left = p.landed; lands = walked_end (LandsIn room s) some left old h before after p.landed now p.walked empty; slots = p.slots_are; thought = p.thought }

-- ---- one slot

same_slot : (z : SlotState) (b : Stamp) → Some z ≡ Some (Stamped b) → z ≡ Stamped b
same_slot z b e = cc

-- a stamped one lands, and is collected
pub one_at_once : (room : Room) (s : Settings) (k : ℕ) (z : SlotState) (b : Stamp) (l : Landing) (h h' : History) (before after : List Landing) (zs zs' : List SlotState) (v v' : MindState) → slice_get zs k ≡ Some z → slice_get zs k ≡ Some (Stamped b) → Lands room s h k b l h'
    → after ≡ before ++ l ∷ [] → zs' ≡ slice_set zs k Idle → v' ≡ thinks v (after_slot k (Done b l.outcome l.at l.seen) (picture_of v)) → LandsOneAtOnce room s k z h before after zs zs' h' v v'
one_at_once room s k z b l h h' before after zs zs' v v' found stamped lands answers slots thought =
    let y : SlotState = Done b l.outcome l.at l.seen in
    record {
      left = y;
      lands = subst (λ (x : SlotState). Adds (LandsIf room s true k x h) before after (y ∷ []) h') (sym (same_slot z b (sym found ∙ stamped)))
          (asked_adds (LandsIn room s) true k (Stamped b) h (Some l) y h' before after refl (l, lands, refl, refl) answers);
      slots = slots;
      thought = thought;
    }

-- nothing comes of an idle one
pub none_at_once : (room : Room) (s : Settings) (k : ℕ) (z : SlotState) (h : History) (before : List Landing) (zs : List SlotState) (v : MindState) → NoneDone zs → slice_get zs k ≡ Some z → ((b : Stamp) → z ≡ Stamped b → ⊥) → LandsOneAtOnce room s k z h before before zs zs h v v
none_at_once room s k Idle h before zs v none found quiet =
    record {
      left = Idle;
      lands = asked_adds (LandsIn room s) true k Idle h None Idle h before before refl (refl, refl, refl) (sym (append-nil before));
      slots = sym (set_as_it_was zs k Idle found);
      thought = refl;
    }
none_at_once room s k (Stamped b) h before zs v none found quiet = absurd (quiet b refl)
none_at_once room s k (Done b o a n) h before zs v none found quiet = absurd (none k b o a n found)

-- by a ring later on, as by the one before
pub later_at_once : (a b : Room) (s s' : Settings) (k : ℕ) (z : SlotState) (h h' : History) (before after : List Landing) (zs zs' : List SlotState) (v v' : MindState) → Entails a b → s' ≡ s → LandsOneAtOnce a s' k z h before after zs zs' h' v v'
    → LandsOneAtOnce b s k z h before after zs zs' h' v v'
later_at_once a b s s' k z h h' before after zs zs' v v' later same t =
    let y = t.lands in
    record {
      left = t.left;
      lands = record {
        made = y.made;
        lands = if_map (LandsIn a s) (LandsIn b s) true k z h y.made (λ g n x o x' g' l. in_map a b s g n x o x' g' later l) (subst (λ (w : Settings). LandsIf a w true k z h y.made) same y.lands);
        answers = y.answers;
        slots = y.slots;
        history = y.history;
      };
      slots = t.slots;
      thought = t.thought;
    }

-- ---- a commit of which only some slots are looked at

-- a CPU is in both masks, or in neither, or its slot is idle and it is not in the first
abbrev pub IsAlike : ℕ → ℕ → ℕ → SlotState → Type 0
IsAlike some mask k z = (has some k ≡ has mask k) ⊎ ((has some k ≡ false) × (z ≡ Idle))

abbrev pub AreAlike : ℕ → ℕ → ℕ → List SlotState → Type 0
AreAlike some mask k zs = (i : ℕ) (z : SlotState) → slice_get zs i ≡ Some z → IsAlike some mask (k + i) z

one_lands : (room : Room) (s : Settings) (some mask k : ℕ) (z : SlotState) (h : History) (one : Landings) → IsAlike some mask k z → LandsIf room s (has some k) k z h one → LandsIf room s (has mask k) k z h one
one_lands room s some mask k z h one (inl same) t = subst (λ (b : Bool). LandsIf room s b k z h one) same t
one_lands room s some mask k z h one (inr p) t =
    subst (λ (x : SlotState). LandsIf room s (has mask k) k x h one) (sym p.1) (by_mask (has mask k) (subst (λ (x : SlotState). one ≡ record { answers = []; history = h; slots = x ∷ [] }) p.1 (subst (λ (b : Bool). LandsIf room s b k z h one) p.0 t)))
  where
    by_mask : (b : Bool) → one ≡ record { answers = []; history = h; slots = Idle ∷ [] } → LandsIf room s b k Idle h one
    by_mask true e = (None, Idle, (refl, refl, ap (λ (r : Landings). r.history) e), ap (λ (r : Landings). r.answers) e, ap (λ (r : Landings). r.slots) e)
    by_mask false e = e

all_land : (room : Room) (s : Settings) (some mask k : ℕ) (zs : List SlotState) (h : History) (r : Landings) → AreAlike some mask k zs → LandsAll room s some k zs h r → LandsAll room s mask k zs h r
all_land room s some mask k [] h r alike t = t
all_land room s some mask k (z ∷ zs) h r alike t =
    let here : k + 0 ≡ k = omega arith in (
      t.0,
      t.1,
      one_lands room s some mask k z h t.0 (subst (λ (n : ℕ). IsAlike some mask n z) here (alike 0 z refl)) t.2,
      all_land room s some mask (suc k) zs t.0.history t.1 (λ i y e. let n : k + suc i ≡ suc k + i = omega arith in subst (λ (m : ℕ). IsAlike some mask m y) n (alike (suc i) y e)) t.3,
      t.4,
    )

-- what is in both masks is in the first
pub of_mask : (mask both k : ℕ) (there : Bool) → has both k ≡ (has mask k && there) → has both k ≡ true → has mask k ≡ true
of_mask mask both k there e is = first (has mask k) there (sym e ∙ is)
  where
    first : (a b : Bool) → (a && b) ≡ true → a ≡ true
    first true b p = refl
    first false b p = p

-- the bytes of a slot that has a state
bytes_at : (bs : List (List ℕ)) (zs : List SlotState) (i : ℕ) (z : SlotState) → AreRead bs zs → slice_get zs i ≡ Some z → (b : List ℕ) × (slice_get bs i ≡ Some b) × (state_in i b ≡ Ok z)
bytes_at bs zs i z e found =
    let b : List ℕ = get_or bs i [] in
    let there : slice_get bs i ≡ Some b = slice_get-get_or bs i [] (omega (arith, slice_get_within zs i z found, count_is bs zs e)) in
    (b, there, slot_read bs zs i b z e there found)

-- so are those that may be busy, of the mask
pub alike_busy : (some mask busy : ℕ) (bs : List (List ℕ)) (zs : List SlotState) → AreRead bs zs → CoversBusy bs busy → ((c : ℕ) → has some c ≡ (has mask c && has busy c)) → length zs ≤ 128 → AreAlike some mask 0 zs
alike_busy some mask busy bs zs e covers both few i z found = subst (λ (n : ℕ). IsAlike some mask n z) (let n : i ≡ 0 + i = omega arith in n) (by_busy (has busy i) refl)
  where
    idle : has busy i ≡ false → z ≡ Idle
    idle away =
        let b = bytes_at bs zs i z e found in
        let quiet : is_busy b.0 ≡ false = ap is_busy_if_any (sym b.1) ∙ covers i (omega (arith, slice_get_within zs i z found, few)) away in
        let same : Ok z ≡ Ok Idle = sym b.2 ∙ quiet_read i b.0 quiet in
        cc

    by_busy : (b : Bool) → has busy i ≡ b → IsAlike some mask i z
    by_busy true there = inl (both i ∙ (ap (λ (b : Bool). has mask i && b) there ∙ and-true (has mask i)))
    by_busy false away = inr (both i ∙ (ap (λ (b : Bool). has mask i && b) away ∙ and-false (has mask i)), idle away)

-- ---- no transaction of the mask is of a group

abbrev pub NoneGrouped : ℕ → ℕ → List SlotState → Type 0
NoneGrouped mask k zs = (i : ℕ) (b : Stamp) → has mask (k + i) ≡ true → slice_get zs i ≡ Some (Stamped b) → b.flags.group ≡ false

-- so it is if no slot has the flag
pub no_flag : (mask : ℕ) (bs : List (List ℕ)) (zs : List SlotState) → AreRead bs zs → HasNoFlag bs → length zs ≤ 128 → NoneGrouped mask 0 zs
no_flag mask bs zs e none few i b wanted found = by_read (flag_is i bytes.0)
  where
    bytes : (b' : List ℕ) × (slice_get bs i ≡ Some b') × (state_in i b' ≡ Ok (Stamped b))
    bytes = bytes_at bs zs i (Stamped b) e found

    clear : is_flagged bytes.0 ≡ false
    clear = ap is_flagged_if_any (sym bytes.1) ∙ none i (omega (arith, slice_get_within zs i (Stamped b) found, few))

    by_read : (state_or_idle (state_in i bytes.0) ≡ Idle) ⊎ (is_grouped (state_or_idle (state_in i bytes.0)) ≡ is_flagged bytes.0) → b.flags.group ≡ false
    by_read (inl idle) = let same : Stamped b ≡ Idle = ap state_or_idle (sym bytes.2) ∙ idle in absurd cc
    by_read (inr flag) = ap (λ (h : Held). is_grouped (state_or_idle h)) (sym bytes.2) ∙ (flag ∙ clear)

later_single : (mask k : ℕ) (z : SlotState) (zs : List SlotState) → NoneGrouped mask k (z ∷ zs) → NoneGrouped mask (suc k) zs
later_single mask k z zs single i b wanted found = single (suc i) b (ap (has mask) (let n : k + suc i ≡ suc k + i = omega arith in n) ∙ wanted) found

first_single : (mask k : ℕ) (z : SlotState) (zs : List SlotState) → NoneGrouped mask k (z ∷ zs) → (b : Stamp) → has mask k ≡ true → z ≡ Stamped b → b.flags.group ≡ false
first_single mask k z zs single b wanted e = single 0 b (ap (has mask) (let n : k + 0 ≡ k = omega arith in n) ∙ wanted) (ap Some e)

no_group : (mask k : ℕ) (zs : List SlotState) → NoneGrouped mask k zs → group_in mask k zs ≡ []
no_group mask k [] single = refl
no_group mask k (z ∷ zs) single = ap (λ g. g ++ group_in mask (suc k) zs) (by_mask (has mask k) refl z refl) ∙ no_group mask (suc k) zs (later_single mask k z zs single)
  where
    by_mask : (m : Bool) → has mask k ≡ m → (x : SlotState) → z ≡ x → grouped m k x ≡ []
    by_mask false e x is = refl
    by_mask true e Idle is = refl
    by_mask true e (Done b o a n) is = refl
    by_mask true e (Stamped b) is = ap (λ (f : Bool). cond f ((k, b) ∷ []) []) (first_single mask k z zs single b e is)

-- of slots, those that landed are of no group
abbrev AreSingle : List SlotState → Type 0
AreSingle [] = Unit {0}
AreSingle (Idle ∷ zs) = AreSingle zs
AreSingle ((Stamped b) ∷ zs) = AreSingle zs
AreSingle ((Done b o a n) ∷ zs) = (b.flags.group ≡ false) × AreSingle zs

-- whether a slot landed with a group
abbrev landed_grouped : SlotState → Bool
landed_grouped Idle = false
landed_grouped (Stamped b) = false
landed_grouped (Done b o a n) = b.flags.group

single_first : (z : SlotState) (zs : List SlotState) → ((b : Stamp) (o : Outcome) (a : Option ℕ) (n : ℕ) → z ≡ Done b o a n → b.flags.group ≡ false) → AreSingle zs → AreSingle (z ∷ zs)
single_first Idle zs is later = later
single_first (Stamped b) zs is later = later
single_first (Done b o a n) zs is later = (is b o a n refl, later)

landed_single : (room : Room) (s : Settings) (mask k : ℕ) (zs : List SlotState) (h : History) (r : Landings) → NoneDone zs → NoneGrouped mask k zs → LandsAll room s mask k zs h r → AreSingle r.slots
landed_single room s mask k [] h r none single t = subst (λ (q : Landings). AreSingle q.slots) (sym t) tt
landed_single room s mask k (z ∷ zs) h r none single t =
    let later : AreSingle t.1.slots = landed_single room s mask (suc k) zs t.0.history t.1 (later_open z zs none) (later_single mask k z zs single) t.3 in
    let one = by_mask (has mask k) refl z refl t.0 t.2 in
    subst (λ (q : Landings). AreSingle q.slots) (sym t.4) (subst (λ (xs : List SlotState). AreSingle (xs ++ t.1.slots)) (sym one.1) (single_first one.0 t.1.slots one.2 later))
  where
    by_mask : (m : Bool) → has mask k ≡ m → (x : SlotState) → z ≡ x → (q : Landings) → LandsIf room s m k x h q
        → (y : SlotState) × (q.slots ≡ y ∷ []) × ((b : Stamp) (o : Outcome) (a : Option ℕ) (n : ℕ) → y ≡ Done b o a n → b.flags.group ≡ false)
    by_mask false e x is q l = (x, ap (λ (w : Landings). w.slots) l, λ b o a n d. absurd (none 0 b o a n (ap Some (is ∙ d))))
    by_mask true e Idle is q l = (Idle, l.4 ∙ ap (λ (y : SlotState). y ∷ []) l.2.1, λ b o a n d. absurd cc)
    by_mask true e (Done b o a n) is q l = absurd (none 0 b o a n (ap Some is))
    by_mask true e (Stamped x) is q l =
        (Done x l.2.0.outcome l.2.0.at l.2.0.seen, l.4 ∙ ap (λ (y : SlotState). y ∷ []) l.2.3, λ b o a n d. sym (ap landed_grouped d) ∙ first_single mask k z zs single x e is)

-- then they are collected as they stand
none_first : (c : ℕ) (zs : List SlotState) (p : Picture) → AreSingle zs → after_slots c (map if_grouped zs) p ≡ p
none_first c [] p single = refl
none_first c (Idle ∷ zs) p single = none_first (c + 1) zs p single
none_first c ((Stamped b) ∷ zs) p single = ap (after_slots (c + 1) (map if_grouped zs)) (by_flag b.flags.group) ∙ none_first (c + 1) zs p single
  where
    by_flag : (f : Bool) → after_slot c (cond f (Stamped b) Idle) p ≡ p
    by_flag true = refl
    by_flag false = refl
none_first c ((Done b o a n) ∷ zs) p single =
    ap (λ (f : Bool). after_slots (c + 1) (map if_grouped zs) (after_slot c (cond f (Done b o a n) Idle) p)) single.0 ∙ none_first (c + 1) zs p single.1

all_then : (c : ℕ) (zs : List SlotState) (p : Picture) → AreSingle zs → after_slots c (map if_single zs) p ≡ after_slots c zs p
all_then c [] p single = refl
all_then c (Idle ∷ zs) p single = all_then (c + 1) zs p single
all_then c ((Stamped b) ∷ zs) p single = ap (after_slots (c + 1) (map if_single zs)) (by_flag b.flags.group) ∙ all_then (c + 1) zs p single
  where
    by_flag : (f : Bool) → after_slot c (cond f Idle (Stamped b)) p ≡ p
    by_flag true = refl
    by_flag false = refl
all_then c ((Done b o a n) ∷ zs) p single =
    ap (λ (f : Bool). after_slots (c + 1) (map if_single zs) (after_slot c (cond f Idle (Done b o a n)) p)) single.0 ∙ all_then (c + 1) zs (after_slot c (Done b o a n) p) single.1

collected_as_they_stand : (zs : List SlotState) (p : Picture) → AreSingle zs → after_all zs p ≡ after_slots 0 zs p
collected_as_they_stand zs p single = ap (after_slots 0 (map if_single zs)) (none_first 0 zs p single) ∙ all_then 0 zs p single

-- so they land by a commit, and are collected
pub commits_at_once : (room : Room) (s : Settings) (some mask : ℕ) (zs : List SlotState) (h : History) (before after : List Landing) (zs' : List SlotState) (h' : History) (v v' : MindState) → NoneDone zs → NoneGrouped mask 0 zs → AreAlike some mask 0 zs
    → LandsAtOnce room s some zs h before after zs' h' v v' → CommitsAtOnce room s mask zs h before after zs' h' v v'
commits_at_once room s some mask zs h before after zs' h' v v' none single alike t =
    let all : LandsAll room s mask 0 zs h t.lands.made = all_land room s some mask 0 zs h t.lands.made alike t.lands.lands in
    let apart : AreSingle t.lands.made.slots = landed_single room s mask 0 zs h t.lands.made none single all in
    record {
      made = t.lands.made;
      lands = commit_alone room s mask zs h t.lands.made (no_group mask 0 zs single) all;
      answers = t.lands.answers;
      slots = t.slots ∙ ap (map collected) t.lands.slots;
      history = t.lands.history;
      thought = t.thought ∙ ap (thinks v) (ap (λ (xs : List SlotState). after_slots 0 xs (picture_of v)) t.lands.slots ∙ sym (collected_as_they_stand t.lands.made.slots (picture_of v) apart));
    }
