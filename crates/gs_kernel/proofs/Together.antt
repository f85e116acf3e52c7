-- A group in the slots of a region.
use Rattle.std.proofs.Common.{List, ◌≡◌, ℕ, suc, zero, ◌+◌, ◌*◌, ◌<◌, ◌≤◌, ◌++◌, ◌∷◌, [], Bool, true, false, not, length, length-append, cond, Option, None, Some, Ok, Err, refl, ap, sym, subst, ◌∙◌, append_assoc, append-nil, arith, slice_get, slice_set, map}
use Rattle.std.proofs.lemmas.Option.{slice_get_within}
use Rattle.std.specs.Prelude.{◌&&◌, ◌||◌, ◌==◌}
use Rattle.std.proofs.lemmas.Bool.{and_parts, eqb-true, or_from, or_parts}
use Rattle.std.proofs.lemmas.Bool.Decides.{nat_tests}
use Rattle.gs_layout.specs.declared.outcome.Outcome.{Outcome}
use Rattle.gs_layout.specs.declared.outcome.Outcome.TheVariants as outcomes
use Rattle.gs_slots.specs.declared.state.Stamp.{Stamp}
use Rattle.gs_slots.specs.declared.state.SlotState.{SlotState}
use Rattle.gs_slots.specs.declared.state.SlotState.TheVariants.{Idle, Stamped, Done}
use Rattle.gs_slots.specs.Busy.{is_busy, is_busy_if_any, is_busy_at}
use Rattle.gs_slots.specs.Reading.{state_in, state_or_idle, told_by}
use Rattle.gs_slots.specs.State.{Held}
use Rattle.gs_slots.proofs.Laws.{quiet_read}
use Rattle.gs_status.specs.Masks.{has}
use Rattle.gs_journal.specs.History.{History, at, seq, on}
use Rattle.gs_kernel.specs.declared.landing.Landing.{Landing}
use Rattle.gs_kernel.specs.declared.settings.Settings.{Settings}
use Rattle.gs_kernel.specs.Kernel.{is_full, preemption}
use Rattle.gs_kernel.specs.Landing.{placing_entries, verdict}
use Rattle.gs_kernel.specs.Legal.{Room}
use Rattle.gs_kernel.specs.Lands.{Adds, LandsBytes, LandsRegion, is_to_land, is_to_place}
use Rattle.gs_kernel.specs.Group.{AreMarked, AreStamped, CommitsRegion, Finishes, GiveWay, Group, IfFits, LandsTogether, PutsIf, SettlesGroup, are_to_place, group_entries, group_in, group_landing, group_outcome, grouped, is_for, is_group_placed, is_named_below, marked_verdict, member_landing, or_failed, own_verdict, placings, together}
use Rattle.gs_kernel.specs.Ready.{Rises}
use Rattle.gs_kernel.proofs.Groups.{gave_few, none_put, own_placed}
use Rattle.gs_kernel.proofs.Landings.{Entails, all_map_by, bytes_map}
use Rattle.gs_kernel.proofs.Placings.{placing_when}
use Rattle.gs_kernel.proofs.Marks.{marked_own}

-- ---- the group of slots

pub rises_from : (s : Settings) (n m : ℕ) (g : Group) → n ≤ m → Rises m s.cpus g → Rises n s.cpus g
rises_from s n m [] le r = tt
rises_from s n m (x ∷ g) le r = (omega (arith, le, r.0), r.1, r.2)

pub rises_few : (s : Settings) (n : ℕ) (g : Group) → Rises n s.cpus g → n ≤ s.cpus → n + length g ≤ s.cpus
rises_few s n [] r le = omega (arith, le)
rises_few s n (x ∷ g) r le = let q = rises_few s (suc x.0) g r.2 (omega (arith, r.1)) in omega (arith, q, r.0)

one_rises : (s : Settings) (k : ℕ) (g : Group) (wanted : Bool) (z : SlotState) → k < s.cpus → Rises (suc k) s.cpus g → Rises k s.cpus (grouped wanted k z ++ g)
one_rises s k g false z lt r = rises_from s k (suc k) g (omega arith) r
one_rises s k g true Idle lt r = rises_from s k (suc k) g (omega arith) r
one_rises s k g true (Done b o a n) lt r = rises_from s k (suc k) g (omega arith) r
one_rises s k g true (Stamped b) lt r = by_flag b.flags.group
  where
    more : Rises (suc k) s.cpus g
    more = r

    low : k < s.cpus
    low = lt

    by_flag : (f : Bool) → Rises k s.cpus (cond f ((k, b) ∷ []) [] ++ g)
    by_flag true = (omega arith, low, more)
    by_flag false = rises_from s k (suc k) g (omega arith) more

pub group_rises : (s : Settings) (mask k : ℕ) (zs : List SlotState) → k + length zs ≤ s.cpus → Rises k s.cpus (group_in mask k zs)
group_rises s mask k [] le = tt
group_rises s mask k (z ∷ zs) le = one_rises s k (group_in mask (suc k) zs) (has mask k) z (omega (arith, le)) (group_rises s mask (suc k) zs (omega (arith, le)))

told_many : (k : ℕ) (region : List (List ℕ)) → length (told_by k region) ≡ length region
told_many k [] = refl
told_many k (z ∷ zs) = ap suc (told_many (suc k) zs)

pub region_rises : (s : Settings) (mask : ℕ) (region : List (List ℕ)) → length region ≡ s.cpus → Rises 0 s.cpus (group_in mask 0 (told_by 0 region))
region_rises s mask region e = group_rises s mask 0 (told_by 0 region) (omega (arith, e, told_many 0 region))

one_stamped : (whole : List (List ℕ)) (k : ℕ) (z : List ℕ) (g : Group) (wanted : Bool) (x : Held) → slice_get whole k ≡ Some z → state_in k z ≡ x → AreStamped whole g → AreStamped whole (grouped wanted k (state_or_idle x) ++ g)
one_stamped whole k z g false x here is t = t
one_stamped whole k z g true (Err e) here is t = t
one_stamped whole k z g true (Ok Idle) here is t = t
one_stamped whole k z g true (Ok (Done b o a n)) here is t = t
one_stamped whole k z g true (Ok (Stamped b)) here is t = by_flag b.flags.group
  where
    here' : slice_get whole k ≡ Some z
    here' = here

    is' : state_in k z ≡ Ok (Stamped b)
    is' = is

    more : AreStamped whole g
    more = t

    by_flag : (f : Bool) → AreStamped whole (cond f ((k, b) ∷ []) [] ++ g)
    by_flag true = (z, here', is', more)
    by_flag false = more

stamped_in : (mask k : ℕ) (whole zs : List (List ℕ)) → ((i : ℕ) (z : List ℕ) → slice_get zs i ≡ Some z → slice_get whole (k + i) ≡ Some z) → AreStamped whole (group_in mask k (told_by k zs))
stamped_in mask k whole [] there = tt
stamped_in mask k whole (z ∷ zs) there =
    let n : k + 0 ≡ k = omega arith in
    one_stamped whole k z (group_in mask (suc k) (told_by (suc k) zs)) (has mask k) (state_in k z) (subst (λ m. slice_get whole m ≡ Some z) n (there 0 z refl)) refl
    (stamped_in mask (suc k) whole zs (λ i y e. let m : k + suc i ≡ suc k + i = omega arith in subst (λ j. slice_get whole j ≡ Some y) m (there (suc i) y e)))

pub region_stamped : (mask : ℕ) (region : List (List ℕ)) → AreStamped region (group_in mask 0 (told_by 0 region))
region_stamped mask region = stamped_in mask 0 region region (λ i z e. let n : i ≡ 0 + i = omega arith in subst (λ j. slice_get region j ≡ Some z) n e)

-- ---- its slots are done

-- another place of a list stays, and what is put in its place is there
pub set_other : {A : Type 0} (xs : List A) (k c : ℕ) (x : A) → (k ≡ c → ⊥) → slice_get (slice_set xs k x) c ≡ slice_get xs c
set_other [] k c x differ = refl
set_other (y ∷ ys) zero zero x differ = absurd (differ refl)
set_other (y ∷ ys) zero (suc c) x differ = refl
set_other (y ∷ ys) (suc k) zero x differ = refl
set_other (y ∷ ys) (suc k) (suc c) x differ = set_other ys k c x (λ e. differ (ap suc e))

set_here : {A : Type 0} (xs : List A) (k : ℕ) (z x : A) → slice_get xs k ≡ Some z → slice_get (slice_set xs k x) k ≡ Some x
set_here [] k z x e = absurd cc
set_here (y ∷ ys) zero z x e = refl
set_here (y ∷ ys) (suc k) z x e = set_here ys k z x e

pub set_many : {A : Type 0} (xs : List A) (k : ℕ) (x : A) → length (slice_set xs k x) ≡ length xs
set_many [] k x = refl
set_many (y ∷ ys) zero x = refl
set_many (y ∷ ys) (suc k) x = ap suc (set_many ys k x)

-- those for higher CPUs are stamped still
pub stamped_still : (s : Settings) (n j : ℕ) (zs : List (List ℕ)) (y : List ℕ) (g : Group) → j < n → Rises n s.cpus g → AreStamped zs g → AreStamped (slice_set zs j y) g
stamped_still s n j zs y [] lt r t = tt
stamped_still s n j zs y (x ∷ g) lt r t =
    let low : j < x.0 = omega (arith, lt, r.0) in
    (t.0, set_other zs j x.0 y (λ e. absurd (omega (arith, e, low))) ∙ t.1, t.2, stamped_still s (suc x.0) j zs y g (omega (arith, low)) r.2 t.3)

-- none of these is for a lower CPU
none_below : (s : Settings) (n c : ℕ) (g : Group) → c < n → Rises n s.cpus g → is_for c g ≡ false
none_below s n c [] lt r = refl
none_below s n c (x ∷ g) lt r = or_from (x.0 == c) (is_for c g) (other x.0 c (omega (arith, lt, r.0))) (none_below s (suc x.0) c g (omega (arith, lt, r.0)) r.2)
  where
    other : (a b : ℕ) → b < a → (a == b) ≡ false
    other a b lt = grind (arith, nat_tests, lt)

differ : (a b : ℕ) → (a == b) ≡ false → a ≡ b → ⊥
differ a b e q = absurd (grind (arith, nat_tests, e, q))

second : (a b : Bool) → a ≡ false → (a || b) ≡ true → b ≡ true
second a b e t = ap (λ z. z || b) (sym e) ∙ t

one_slot : {A : Type 0} (x y : A) → Some x ≡ Some y → x ≡ y
one_slot x y e = cc

-- the slot of any other CPU stays
pub finished_others : (l : ℕ × Stamp → Landing) (g : Group) (zs zs' : List (List ℕ)) (c : ℕ) → Finishes l g zs zs' → is_for c g ≡ false → slice_get zs' c ≡ slice_get zs c
finished_others l [] zs zs' c f e = ap (λ q. slice_get q c) f
finished_others l (x ∷ g) zs zs' c f e =
    let p = or_parts (x.0 == c) (is_for c g) e in
    finished_others l g (slice_set zs x.0 f.0) zs' c f.2 p.1 ∙ set_other zs x.0 c f.0 (differ x.0 c p.0)

-- a slot of the group is done
pub finished_here : (s : Settings) (l : ℕ × Stamp → Landing) (n : ℕ) (g : Group) (zs zs' : List (List ℕ)) (c : ℕ) (y : List ℕ) → Rises n s.cpus g → AreStamped zs g → Finishes l g zs zs' → is_for c g ≡ true → slice_get zs' c ≡ Some y
    → is_to_land (state_in c y) ≡ false
finished_here s l n [] zs zs' c y r t f e there = absurd cc
finished_here s l n (x ∷ g) zs zs' c y r t f e there = by_test (x.0 == c) refl (λ w. finished_here s l (suc x.0) g (slice_set zs x.0 f.0) zs' c y r.2 (stamped_still s (suc x.0) x.0 zs f.0 g (omega arith) r.2 t.3) f.2 w there)
  where
    t' : AreStamped zs (x ∷ g)
    t' = t

    r' : Rises n s.cpus (x ∷ g)
    r' = r

    f' : Finishes l (x ∷ g) zs zs'
    f' = f

    e' : is_for c (x ∷ g) ≡ true
    e' = e

    there' : slice_get zs' c ≡ Some y
    there' = there

    by_test : (b : Bool) → (x.0 == c) ≡ b → (is_for c g ≡ true → is_to_land (state_in c y) ≡ false) → is_to_land (state_in c y) ≡ false
    by_test true q later =
        let k : x.0 ≡ c = eqb-true x.0 c q in
        let left : slice_get zs' x.0 ≡ Some f'.0 = finished_others l g (slice_set zs x.0 f'.0) zs' x.0 f'.2 (none_below s (suc x.0) x.0 g (omega arith) r'.2) ∙ set_here zs x.0 t'.0 f'.0 t'.1 in
        let same : f'.0 ≡ y = one_slot f'.0 y (sym left ∙ (ap (slice_get zs') k ∙ there')) in
        ap is_to_land (subst (λ m. state_in m y ≡ Ok (Done x.1 (l x).outcome (l x).at (l x).seen)) k (subst (λ w. state_in x.0 w ≡ Ok (Done x.1 (l x).outcome (l x).at (l x).seen)) same f'.1))
    by_test false q later = later (second (x.0 == c) (is_for c g) q e')

pub finished_many : (l : ℕ × Stamp → Landing) (g : Group) (zs zs' : List (List ℕ)) → Finishes l g zs zs' → length zs' ≡ length zs
finished_many l [] zs zs' f = ap length f
finished_many l (x ∷ g) zs zs' f = finished_many l g (slice_set zs x.0 f.0) zs' f.2 ∙ set_many zs x.0 f.0

-- what the slot of a transaction is read as, and as what it is left
pub read_here : (zs : List (List ℕ)) (k k' : ℕ) (z y : List ℕ) (b : Stamp) → slice_get zs k ≡ Some z → state_in k z ≡ Ok (Stamped b) → slice_get zs k ≡ Some y → k' ≡ k → state_in k' y ≡ Ok (Stamped b)
read_here zs k k' z y b there is here same =
    let e : y ≡ z = cc in
    ap (λ n. state_in n y) same ∙ (ap (state_in k) e ∙ is)

pub left_here : (k k' : ℕ) (y : List ℕ) (b : Stamp) (l m : Landing) → k' ≡ k → l ≡ m → state_in k' y ≡ Ok (Done b l.outcome l.at l.seen) → state_in k y ≡ Ok (Done b m.outcome m.at m.seen)
left_here k k' y b l m same is e = sym (ap (λ n. state_in n y) same) ∙ (e ∙ ap (λ (a : Landing). Ok (Done b a.outcome a.at a.seen)) is)

-- ---- its answers

abbrev AllSame : (ℕ × Stamp → Landing) → (ℕ × Stamp → Landing) → Group → Type 0
AllSame l m [] = Unit {0}
AllSame l m (x ∷ g) = (l x ≡ m x) × AllSame l m g

finishes_same : (l m : ℕ × Stamp → Landing) (g : Group) (zs zs' : List (List ℕ)) → AllSame l m g → Finishes l g zs zs' → Finishes m g zs zs'
finishes_same l m [] zs zs' e f = f
finishes_same l m (x ∷ g) zs zs' e f =
    (f.0, subst (λ (a : Landing). state_in x.0 f.0 ≡ Ok (Done x.1 a.outcome a.at a.seen)) e.0 f.1, finishes_same l m g (slice_set zs x.0 f.0) zs' e.1 f.2)

map_same : (l m : ℕ × Stamp → Landing) (g : Group) → AllSame l m g → map l g ≡ map m g
map_same l m [] e = refl
map_same l m (x ∷ g) e = λ i. e.0 i ∷ map_same l m g e.1 i

-- a transaction that would be placed knows its thread's number
current_is : (s : Settings) (h : History) (k : ℕ) (b : Stamp) → verdict s h k b ≡ outcomes.Placed → b.tseq ≡ seq s.first_tseq h b.tid
current_is s h k b e = eqb-true b.tseq (seq s.first_tseq h b.tid) (placing_when s h k b e).current

one_same : (s : Settings) (h h' : History) (marks : ℕ) (x : ℕ × Stamp) (o : Outcome) → x.1.tseq ≡ seq s.first_tseq h x.1.tid → member_landing s h' marks (Some o) x ≡ group_landing s h h' x.0 x.1 o
one_same s h h' marks x o e = λ i. record { cpu = x.0; tid = x.1.tid; outcome = o; seen = e i; at = at s.cpus h' x.1.tid }

placed_same : (s : Settings) (h h' : History) (marks : ℕ) (all g : Group) (o : Outcome) → are_to_place s h all g ≡ true → AllSame (member_landing s h' marks (Some o)) (λ x. group_landing s h h' x.0 x.1 o) g
placed_same s h h' marks all [] o e = tt
placed_same s h h' marks all (x ∷ g) o e =
    let p = and_parts (is_to_place (own_verdict s h all x.0 x.1)) (are_to_place s h all g) e in
    (one_same s h h' marks x o (current_is s h x.0 x.1 (own_placed s h all x.0 x.1 p.0).0), placed_same s h h' marks all g o p.1)

one_failed : (s : Settings) (h h' : History) (marks : ℕ) (all : Group) (x : ℕ × Stamp) → h' ≡ h → has marks x.0 ≡ is_named_below x.0 x.1.tid all
    → member_landing s h' marks None x ≡ group_landing s h h' x.0 x.1 (or_failed (own_verdict s h all x.0 x.1))
one_failed s h h' marks all x e m =
    (λ i. record { cpu = x.0; tid = x.1.tid; outcome = or_failed (marked_verdict s (e i) marks x.0 x.1); seen = seq s.first_tseq (e i) x.1.tid; at = at s.cpus h' x.1.tid })
    ∙ (λ i. record { cpu = x.0; tid = x.1.tid; outcome = or_failed (marked_own s h marks all x.0 x.1 m i); seen = seq s.first_tseq h x.1.tid; at = at s.cpus h' x.1.tid })

failed_same : (s : Settings) (h h' : History) (marks : ℕ) (all g : Group) → h' ≡ h → AreMarked marks all g → AllSame (member_landing s h' marks None) (λ x. group_landing s h h' x.0 x.1 (or_failed (own_verdict s h all x.0 x.1))) g
failed_same s h h' marks all [] e m = tt
failed_same s h h' marks all (x ∷ g) e m = (one_failed s h h' marks all x e m.0, failed_same s h h' marks all g e m.1)

all_same : (room : Room) (s : Settings) (h h' : History) (marks : ℕ) (g : Group) (o : Option Outcome) (fit : Bool) → PutsIf (is_group_placed s h g) room s h g fit h' → o ≡ together s h g fit → AreMarked marks g g
    → AllSame (member_landing s h' marks o) (λ x. group_landing s h h' x.0 x.1 (group_outcome s h g fit x.0 x.1)) g
all_same room s h h' marks g o fit puts is marked = by_all (are_to_place s h g g) refl puts is
  where
    one : Outcome
    one = cond (is_full s h (group_entries h g)) outcomes.HistoryFull (cond fit outcomes.Placed outcomes.Gone)

    marked' : AreMarked marks g g
    marked' = marked

    by_all : (b : Bool) → are_to_place s h g g ≡ b → PutsIf (b && not (is_full s h (group_entries h g))) room s h g fit h' → o ≡ cond b (Some one) None
        → AllSame (member_landing s h' marks o) (λ x. group_landing s h h' x.0 x.1 (cond b one (or_failed (own_verdict s h g x.0 x.1)))) g
    by_all true e p q = subst (λ (z : Option Outcome). AllSame (member_landing s h' marks z) (λ x. group_landing s h h' x.0 x.1 one) g) (sym q) (placed_same s h h' marks g g one e)
    by_all false e p q =
        subst (λ (z : Option Outcome). AllSame (member_landing s h' marks z) (λ x. group_landing s h h' x.0 x.1 (or_failed (own_verdict s h g x.0 x.1))) g) (sym q) (failed_same s h h' marks g g p.1 marked')

-- the slots and the answers are the group's
pub lands_together : (room : Room) (s : Settings) (marks : ℕ) (g : Group) (zs zs' : List (List ℕ)) (h h' : History) (o : Option Outcome) (before after : List Landing)
    → SettlesGroup room s h g o h' → AreMarked marks g g → Finishes (member_landing s h' marks o) g zs zs' → after ≡ before ++ map (member_landing s h' marks o) g
    → Adds (LandsTogether room s g zs h) before after zs' h'
lands_together room s marks g zs zs' h h' o before after t marked f a =
    let same = all_same room s h h' marks g o t.0 t.1 t.2 marked in
    record {
      made = record { answers = map (λ x. group_landing s h h' x.0 x.1 (group_outcome s h g t.0 x.0 x.1)) g; history = h'; slots = zs' };
      lands = record { fit = t.0; puts = t.1; answers = refl; slots = finishes_same _ _ g zs zs' same f };
      answers = a ∙ ap (λ (w : List Landing). before ++ w) (map_same _ _ g same);
      slots = refl;
      history = refl;
    }

-- no group lands as nothing
pub none_together : (room : Room) (s : Settings) (g : Group) (zs : List (List ℕ)) (h : History) (before : List Landing) → g ≡ [] → Adds (LandsTogether room s g zs h) before before zs h
none_together room s g zs h before e =
    subst (λ (x : Group). Adds (LandsTogether room s x zs h) before before zs h) (sym e)
    (record {
      made = record { answers = []; history = h; slots = zs };
      lands = record { fit = true; puts = none_put room s h (is_group_placed s h []); answers = refl; slots = refl };
      answers = sym (append-nil before);
      slots = refl;
      history = refl;
    })

-- ---- how much a group adds

entry_most : (o : Option ℕ) → placing_entries o ≤ 2
entry_most None = omega arith
entry_most (Some t) = omega arith

pub entries_most : (h : History) (g : Group) → group_entries h g ≤ 2 * length g
entries_most h [] = omega arith
entries_most h (x ∷ g) = omega (arith, entry_most (on h x.0), entries_most h g)

gave_most : (room : Room) (s : Settings) (g : Group) (h : History) (fit : Bool) (h' : History) → GiveWay room s g h fit h' → (length h ≤ length h') × (length h' ≤ length h + length g)
gave_most room s [] h fit h' t = let n = ap length t.1 in (omega (arith, n), omega (arith, n))
gave_most room s (x ∷ g) h fit h' t = by_first t.0 t.3 (λ w. gave_most room s g t.1 fit h' w)
  where
    few : (length h ≤ length t.1) × (length t.1 ≤ length h + 1)
    few = gave_few room h (preemption s h x.0) t.0 t.1 t.2

    by_first : (first : Bool) → IfFits first (GiveWay room s g t.1 fit h') ((fit ≡ false) × (h' ≡ t.1)) → (GiveWay room s g t.1 fit h' → (length t.1 ≤ length h') × (length h' ≤ length t.1 + length g))
        → (length h ≤ length h') × (length h' ≤ length h + suc (length g))
    by_first true rest more = let q = more rest in (omega (arith, q, few), omega (arith, q, few))
    by_first false rest more = let n = ap length rest.1 in (omega (arith, n, few), omega (arith, n, few))

placings_many : (g : Group) → length (placings g) ≡ length g
placings_many [] = refl
placings_many (x ∷ g) = ap suc (placings_many g)

pub puts_few : (placed : Bool) (room : Room) (s : Settings) (h : History) (g : Group) (fit : Bool) (h' : History) → PutsIf placed room s h g fit h' → (length h ≤ length h') × (length h' ≤ length h + 2 * length g)
puts_few false room s h g fit h' t = let n = ap length t.1 in (omega (arith, n), omega (arith, n))
puts_few true room s h g fit h' t = by_fit fit t.2
  where
    gave : (length h ≤ length t.0) × (length t.0 ≤ length h + length g)
    gave = gave_most room s g h fit t.0 t.1

    by_fit : (b : Bool) → h' ≡ t.0 ++ cond b (placings g) [] → (length h ≤ length h') × (length h' ≤ length h + 2 * length g)
    by_fit true e = let n = ap length e ∙ length-append t.0 (placings g) in (omega (arith, n, gave, placings_many g), omega (arith, n, gave, placings_many g))
    by_fit false e = let n = ap length e ∙ length-append t.0 [] in (omega (arith, n, gave), omega (arith, n, gave))

-- ---- a commit

pub rises_is : (s : Settings) (mask : ℕ) (region : List (List ℕ)) (g : Group) → length region ≡ s.cpus → g ≡ group_in mask 0 (told_by 0 region) → Rises 0 s.cpus g
rises_is s mask region g n e = subst (Rises 0 s.cpus) (sym e) (region_rises s mask region n)

pub stamped_is : (mask : ℕ) (region : List (List ℕ)) (g : Group) → g ≡ group_in mask 0 (told_by 0 region) → AreStamped region g
stamped_is mask region g e = subst (AreStamped region) (sym e) (region_stamped mask region)

pub together_many : (room : Room) (s : Settings) (g : Group) (zs left : List (List ℕ)) (h h' : History) (before after : List Landing) → Adds (LandsTogether room s g zs h) before after left h' → length left ≡ length zs
together_many room s g zs left h h' before after t = ap length t.slots ∙ finished_many (λ x. group_landing s h t.made.history x.0 x.1 (group_outcome s h g t.lands.fit x.0 x.1)) g zs t.made.slots t.lands.slots

-- a slot of the mask that is of no group and not busy lands as nothing, and so does one of the group, which is done
pub nothing_left : (room : Room) (s : Settings) (mask busy some : ℕ) (g : Group) (zs left : List (List ℕ)) (h h' : History) (before after : List Landing) → Rises 0 s.cpus g → AreStamped zs g → Adds (LandsTogether room s g zs h) before after left h'
    → length zs ≤ 128 → ((c : ℕ) → c < 128 → has busy c ≡ is_busy_at zs c) → ((c : ℕ) → has some c ≡ ((has mask c && has busy c) && not (is_for c g)))
    → (c : ℕ) (z : List ℕ) → has mask c ≡ true → has some c ≡ false → slice_get left c ≡ Some z → is_to_land (state_in c z) ≡ false
nothing_left room s mask busy some g zs left h h' before after r w t few of is c z wanted out there = by_group (is_for c g) refl
  where
    l : ℕ × Stamp → Landing
    l x = group_landing s h t.made.history x.0 x.1 (group_outcome s h g t.lands.fit x.0 x.1)

    finishes : Finishes l g zs t.made.slots
    finishes = t.lands.slots

    found : slice_get t.made.slots c ≡ Some z
    found = sym (ap (λ q. slice_get q c) t.slots) ∙ there

    rises : Rises 0 s.cpus g
    rises = r

    stamped : AreStamped zs g
    stamped = w

    by_busy : (b : Bool) → is_busy z ≡ b → has busy c ≡ b → is_for c g ≡ false → is_to_land (state_in c z) ≡ false
    by_busy false quiet e p = ap is_to_land (quiet_read c z quiet)
    by_busy true b e p =
        absurd (not_out (sym out ∙ (is c ∙ (ap (λ a. (a && has busy c) && not (is_for c g)) wanted ∙ (ap (λ a. a && not (is_for c g)) e ∙ ap not p)))))
      where
        not_out : false ≡ true → ⊥
        not_out e = cc

    by_group : (b : Bool) → is_for c g ≡ b → is_to_land (state_in c z) ≡ false
    by_group true e = finished_here s l 0 g zs t.made.slots c z rises stamped finishes e found
    by_group false e =
        let old : slice_get zs c ≡ Some z = sym (finished_others l g zs t.made.slots c finishes e) ∙ found in
        let lt : c < 128 = omega (arith, slice_get_within zs c z old, few) in
        by_busy (is_busy z) refl (of c lt ∙ ap is_busy_if_any old) e

-- landings by a ring later on
pub later_adds : (a b : Room) (s s' : Settings) (mask : ℕ) (zs left : List (List ℕ)) (h h' : History) (before after : List Landing) → Entails a b → s ≡ s'
    → Adds (LandsRegion a s mask 0 zs h) before after left h' → Adds (LandsRegion b s' mask 0 zs h) before after left h'
later_adds a b s s' mask zs left h h' before after f e t =
    record {
      made = t.made;
      lands = all_map_by (LandsBytes a s') (LandsBytes b s') mask 0 zs h t.made (bytes_map a b s' f) (subst (λ (z : Settings). LandsRegion a z mask 0 zs h t.made) e t.lands);
      answers = t.answers;
      slots = t.slots;
      history = t.history;
    }

-- a group, and then the other slots
pub commits : (room : Room) (s : Settings) (mask : ℕ) (zs mid zs' : List (List ℕ)) (h now h' : History) (before landed after : List Landing)
    → Adds (LandsTogether room s (group_in mask 0 (told_by 0 zs)) zs h) before landed mid now → Adds (LandsRegion room s mask 0 mid now) landed after zs' h'
    → Adds (CommitsRegion room s mask zs h) before after zs' h'
commits room s mask zs mid zs' h now h' before landed after a b =
    record {
      made = record { answers = a.made.answers ++ b.made.answers; history = b.made.history; slots = b.made.slots };
      lands = record {
        group = a.made;
        first = a.lands;
        rest = b.made;
        others = subst (λ (q : History). LandsRegion room s mask 0 a.made.slots q b.made) a.history (subst (λ (q : List (List ℕ)). LandsRegion room s mask 0 q now b.made) a.slots b.lands);
        whole = refl;
      };
      answers = b.answers ∙ (ap (λ (w : List Landing). w ++ b.made.answers) a.answers ∙ append_assoc before a.made.answers b.made.answers);
      slots = b.slots;
      history = b.history;
    }
