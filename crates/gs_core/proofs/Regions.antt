-- What is done to a region in which no slot is malformed is done to its states.
use Rattle.std.proofs.Common.{◌≡◌, ℕ, zero, suc, ◌+◌, Option, None, Some, Result, Ok, Err, IsOk, OnErr, OnOk, is_err, true, false, List, [], ◌∷◌, ◌++◌, length, map, replicate, slice_get, slice_set, refl, ap, sym, ◌∙◌, arith}
use Rattle.std.specs.Result.{result_unwrap_or}
use Rattle.gs_layout.specs.declared.known.Known.{Known}
use Rattle.gs_layout.specs.declared.refusal.Refusal.{Refusal}
use Rattle.gs_layout.specs.declared.refusal.Refusal.TheVariants as refusals
use Rattle.gs_agent.specs.Role.{number_of, stamp_refusal}
use Rattle.gs_slots.specs.declared.state.SlotBusy.{SlotBusy}
use Rattle.gs_slots.specs.declared.state.SlotState.TheVariants.{Done, Idle, Stamped}
use Rattle.gs_slots.specs.Spelling.{idle_bytes}
use Rattle.gs_slots.specs.declared.state.SlotState.{SlotState}
use Rattle.gs_slots.specs.declared.state.Stamp.{Stamp}
use Rattle.gs_slots.specs.Reading.{all_collected, state_in, state_or_idle, states_in, told_by}
use Rattle.gs_slots.specs.State.{Held, collected}
use Rattle.gs_slots.proofs.Laws.{all_idle_read, collected_read, get_held, held_get, idle_read, set_held, state_at, states_count, states_set, told_is}
use Rattle.gs_journal.specs.History.{History}
use Rattle.gs_kernel.specs.declared.settings.Settings.{Settings}
use Rattle.gs_kernel.specs.declared.landing.Landing.{Landing}
use Rattle.gs_kernel.specs.Legal.{Room}
use Rattle.gs_kernel.specs.Lands.{Adds}
use Rattle.gs_kernel.specs.Group.{CommitsRegion, LandsCommit}
use Rattle.gs_kernel.proofs.Laws.{commit_read}

-- each slot of a region has a state, in increasing order of CPU
abbrev pub AreRead : List (List ℕ) → List SlotState → Type 0
AreRead bs zs = states_in 0 bs ≡ map Ok zs

pub read_told : (bs : List (List ℕ)) (zs : List SlotState) → AreRead bs zs → AreRead bs (told_by 0 bs)
read_told bs zs e = e ∙ ap (map Ok) (sym (told_is 0 bs zs e))

length-held : (zs : List SlotState) → length {A = Held} (map Ok zs) ≡ length zs
length-held [] = refl
length-held (z ∷ zs) = ap suc (length-held zs)

pub count_is : (bs : List (List ℕ)) (zs : List SlotState) → AreRead bs zs → length bs ≡ length zs
count_is bs zs e = sym (states_count 0 bs) ∙ (ap length e ∙ length-held zs)

-- one slot
own_state : (k : ℕ) (b : List ℕ) → state_in (0 + k) b ≡ state_in k b
own_state k b = ap (λ (n : ℕ). state_in n b) (let e : 0 + k ≡ k = omega arith in e)

pub slot_read : (bs : List (List ℕ)) (zs : List SlotState) (k : ℕ) (b : List ℕ) (z : SlotState) → AreRead bs zs → slice_get bs k ≡ Some b → slice_get zs k ≡ Some z → state_in k b ≡ Ok z
slot_read bs zs k b z e is found =
    held_get zs k z (state_in k b) found (ap (λ (xs : List Held). slice_get xs k) (sym e) ∙ (state_at 0 k bs b is ∙ ap Some (own_state k b)))

pub slot_set : (bs : List (List ℕ)) (zs : List SlotState) (k : ℕ) (b : List ℕ) (z : SlotState) → AreRead bs zs → state_in k b ≡ Ok z → AreRead (slice_set bs k b) (slice_set zs k z)
slot_set bs zs k b z e is = states_set 0 k bs b ∙ ((λ i. slice_set (e i) k ((own_state k b ∙ is) i)) ∙ set_held zs k z)

pub slot_state : (bs : List (List ℕ)) (zs : List SlotState) (k : ℕ) (h : Held) → AreRead bs zs → slice_get (states_in 0 bs) k ≡ Some h → slice_get zs k ≡ Some (state_or_idle h)
slot_state bs zs k h e is = get_held zs k h (ap (λ (xs : List Held). slice_get xs k) (sym e) ∙ is)

held_at : (zs : List SlotState) (k : ℕ) (z : SlotState) (h : Held) → h ≡ Ok z → slice_get zs k ≡ Some z → slice_get (map Ok zs) k ≡ Some h
held_at [] k z h is e = absurd cc
held_at (y ∷ zs) zero z h is e = let same : y ≡ z = cc in ap (λ (x : SlotState). Some (Ok x)) same ∙ ap Some (sym is)
held_at (y ∷ zs) (suc k) z h is e = held_at zs k z h is e

-- ---- commits

-- a commit of a region lands its states, and leaves states
commit_told : (room : Room) (s : Settings) (mask : ℕ) (bs left : List (List ℕ)) (zs : List SlotState) (h h' : History) (before after : List Landing) → AreRead bs zs → Adds (CommitsRegion room s mask bs h) before after left h'
    → Adds (LandsCommit room s mask zs h) before after (told_by 0 left) h' × AreRead left (told_by 0 left)
commit_told room s mask bs left zs h h' before after e a =
    let all = commit_read room s mask bs zs h a.made e a.lands in
    let read : AreRead left all.0.slots = ap (states_in 0) a.slots ∙ all.2.slots in
    (record { made = all.0; lands = all.1; answers = a.answers ∙ ap (λ (xs : List Landing). before ++ xs) all.2.answers; slots = told_is 0 left all.0.slots read; history = a.history ∙ all.2.history }, read_told left all.0.slots read)

pub commit_lands : (room : Room) (s : Settings) (mask : ℕ) (bs left : List (List ℕ)) (zs : List SlotState) (h h' : History) (r : Result (Unit {0}) Refusal) (before after : List Landing) → AreRead bs zs → OnOk r (Adds (CommitsRegion room s mask bs h) before after left h')
    → OnOk r (Adds (LandsCommit room s mask zs h) before after (told_by 0 left) h')
commit_lands room s mask bs left zs h h' (Ok k) before after e a = (commit_told room s mask bs left zs h h' before after e a).0
commit_lands room s mask bs left zs h h' (Err f) before after e a = tt

pub commit_left : (room : Room) (s : Settings) (mask : ℕ) (bs left : List (List ℕ)) (zs : List SlotState) (h h' : History) (r : Result (Unit {0}) Refusal) (before after : List Landing) (same : Type 0) → AreRead bs zs → OnOk r (Adds (CommitsRegion room s mask bs h) before after left h')
    → OnErr r (same × (left ≡ bs)) → AreRead left (told_by 0 left)
commit_left room s mask bs left zs h h' (Ok k) before after same e a u = (commit_told room s mask bs left zs h h' before after e a).1
commit_left room s mask bs left zs h h' (Err f) before after same e a u = read_told left zs (ap (states_in 0) u.1 ∙ e)

-- ---- idle, collected and stamped slots

pub idle_region : (bs : List (List ℕ)) (n m : ℕ) → bs ≡ replicate n idle_bytes → n ≡ m → AreRead bs (replicate m Idle)
idle_region bs n m e is = ap (states_in 0) e ∙ (all_idle_read 0 n ∙ ap (λ (i : ℕ). map Ok (replicate i Idle)) is)

pub cleared_read : (bs : List (List ℕ)) (zs : List SlotState) (c : ℕ) → AreRead bs zs → AreRead (slice_set bs c idle_bytes) (slice_set zs c Idle)
cleared_read bs zs c e = slot_set bs zs c idle_bytes Idle e (idle_read c)

pub collected_region : (bs left : List (List ℕ)) (zs : List SlotState) → AreRead bs zs → left ≡ all_collected 0 bs → AreRead left (map collected zs)
collected_region bs left zs e is = ap (states_in 0) is ∙ collected_read 0 bs zs e

-- ---- a stamp

stamped_read : (bs left : List (List ℕ)) (zs : List SlotState) (c : ℕ) (stamp : Stamp) → AreRead bs zs → states_in 0 left ≡ slice_set (states_in 0 bs) c (Ok (Stamped stamp)) → AreRead left (slice_set zs c (Stamped stamp))
stamped_read bs left zs c stamp e is = is ∙ (ap (λ (xs : List Held). slice_set xs c (Ok (Stamped stamp))) e ∙ set_held zs c (Stamped stamp))

-- a result that is no fault, and one that is
pub if_ok : {P : Type 0} (r : Result (Unit {0}) SlotBusy) → is_err r ≡ false → OnOk r P → P
if_ok (Ok k) e p = p
if_ok (Err f) e p = absurd cc

pub not_ok : (r : Result (Unit {0}) SlotBusy) → is_err r ≡ true → IsOk r → ⊥
not_ok (Ok k) e ok = cc
not_ok (Err f) e ok = cc

pub is_ok_if : (r : Result (Unit {0}) SlotBusy) → is_err r ≡ false → IsOk r
is_ok_if (Ok k) e = refl
is_ok_if (Err f) e = absurd cc

-- what a stamp leaves of the states
pub stamp_kept : (bs left : List (List ℕ)) (zs : List SlotState) (c : ℕ) (stamp : Stamp) → AreRead bs zs → states_in 0 left ≡ slice_set (states_in 0 bs) c (Ok (Stamped stamp)) → AreRead left (told_by 0 left)
stamp_kept bs left zs c stamp e is = read_told left (slice_set zs c (Stamped stamp)) (stamped_read bs left zs c stamp e is)

pub stamp_told : (bs left : List (List ℕ)) (zs : List SlotState) (c : ℕ) (stamp : Stamp) → AreRead bs zs → states_in 0 left ≡ slice_set (states_in 0 bs) c (Ok (Stamped stamp)) → told_by 0 left ≡ slice_set zs c (Stamped stamp)
stamp_told bs left zs c stamp e is = told_is 0 left (slice_set zs c (Stamped stamp)) (stamped_read bs left zs c stamp e is)

-- only an idle slot is stamped
pub idle_there : (bs : List (List ℕ)) (zs : List SlotState) (c : ℕ) → AreRead bs zs → slice_get (states_in 0 bs) c ≡ Some (Ok Idle) → slice_get zs c ≡ Some Idle
idle_there bs zs c e is = slot_state bs zs c (Ok Idle) e is

-- and any other is refused to whom the thread is known
pub why_refused : (o : Option Known) (n : ℕ) (bs : List (List ℕ)) (zs : List SlotState) (c : ℕ) (z : SlotState) → AreRead bs zs → number_of o ≡ Some n → (slice_get (states_in 0 bs) c ≡ Some (Ok Idle) → ⊥) → slice_get zs c ≡ Some z
    → stamp_refusal o (Ok z) ≡ Some refusals.SlotOpen
why_refused None n bs zs c z e known busy is = absurd cc
why_refused (Some k) n bs zs c Idle e known busy is = absurd (busy (ap (λ (xs : List Held). slice_get xs c) e ∙ held_at zs c Idle (Ok Idle) refl is))
why_refused (Some k) n bs zs c (Stamped t) e known busy is = refl
why_refused (Some k) n bs zs c (Done t outcome at seen) e known busy is = refl

pub or_idle : (h : Held) → state_or_idle h ≡ result_unwrap_or h Idle
or_idle (Ok z) = refl
or_idle (Err e) = refl
