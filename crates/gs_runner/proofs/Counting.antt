-- As many slots land in a commit as are listed.
use Rattle.std.proofs.Common.{◌≡◌, ℕ, zero, suc, ◌+◌, ◌<◌, ◌≤◌, Bool, true, false, not, Option, Some, Ok, Err, List, [], ◌∷◌, ◌++◌, length, length-append, slice_get, slice_set, map, cond, refl, ap, sym, ◌∙◌, arith}
use Rattle.std.specs.Prelude.{◌&&◌}
use Rattle.gs_status.specs.Masks.{has}
use Rattle.gs_slots.specs.Reading.{state_in, told_by}
use Rattle.gs_slots.specs.State.{Held}
use Rattle.gs_slots.specs.declared.state.SlotState.{SlotState}
use Rattle.gs_slots.specs.declared.state.SlotState.TheVariants.{Idle, Stamped, Done}
use Rattle.gs_slots.specs.declared.state.Stamp.{Stamp}
use Rattle.gs_journal.specs.History.{History}
use Rattle.gs_kernel.specs.declared.settings.Settings.{Settings}
use Rattle.gs_kernel.specs.declared.landing.Landing.{Landing}
use Rattle.gs_kernel.specs.Legal.{Room}
use Rattle.gs_kernel.specs.Group.{AreStamped, CommitsRegion, Finishes, Group, group_in, group_landing, group_outcome, grouped}
use Rattle.gs_kernel.specs.Lands.{LandingsOf, LandsBytes, LandsHeld, LandsIfBy, LandsIn, LandsRegion, listed}
use Rattle.gs_kernel.proofs.Laws.{region_stamped, set_other}
use Rattle.gs_runner.specs.Calls.{is_settled, is_wanted, landed_if, landed_slots}

-- ---- slots that land one after another

in_count : (room : Room) (s : Settings) (h : History) (k : ℕ) (b : List ℕ) (z z' : SlotState) (o : Option Landing) (h' : History) → LandsIn room s h k z o z' h' → length (listed o) ≡ length (landed_if (not (is_settled (Ok z))) k b)
in_count room s h k b (Stamped x) z' o h' t = ap (λ (p : Option Landing). length (listed p)) t.2
in_count room s h k b Idle z' o h' t = ap (λ (p : Option Landing). length (listed p)) t.0
in_count room s h k b (Done x p a n) z' o h' t = ap (λ (q : Option Landing). length (listed q)) t.0

held_count : (room : Room) (s : Settings) (h : History) (k : ℕ) (b : List ℕ) (x x' : Held) (o : Option Landing) (h' : History) → LandsHeld room s h k x o x' h' → length (listed o) ≡ length (landed_if (not (is_settled x)) k b)
held_count room s h k b (Ok z) x' o h' t = in_count room s h k b z t.0 o h' t.1
held_count room s h k b (Err e) x' o h' t = ap (λ (p : Option Landing). length (listed p)) t.0

if_count : (room : Room) (s : Settings) (w : Bool) (k : ℕ) (b : List ℕ) (h : History) (r : LandingsOf (List ℕ)) → LandsIfBy (LandsBytes room s) w k b h r → length r.answers ≡ length (landed_if (w && not (is_settled (state_in k b))) k b)
if_count room s false k b h r t = ap (λ (q : LandingsOf (List ℕ)). length q.answers) t
if_count room s true k b h r t = ap length t.3 ∙ held_count room s h k b (state_in k b) (state_in k t.1) t.0 r.history t.2

region_count : (room : Room) (s : Settings) (mask k : ℕ) (bs : List (List ℕ)) (h : History) (r : LandingsOf (List ℕ)) → LandsRegion room s mask k bs h r → length r.answers ≡ length (landed_slots mask k bs)
region_count room s mask k [] h r t = ap (λ (q : LandingsOf (List ℕ)). length q.answers) t
region_count room s mask k (b ∷ bs) h r t =
    let one = if_count room s (has mask k) k b h t.0 t.2 in
    let rest = region_count room s mask (suc k) bs t.0.history t.1 t.3 in
    ap (λ (q : LandingsOf (List ℕ)). length q.answers) t.4 ∙ (length-append t.0.answers t.1.answers ∙ ((λ i. one i + rest i) ∙ sym (length-append (landed_if (is_wanted mask k b) k b) (landed_slots mask (suc k) bs))))

-- ---- the group of a mask

-- the CPUs of a group are of the mask, and go up
abbrev OfMask : ℕ → ℕ → Group → Type 0
OfMask mask n [] = Unit {0}
OfMask mask n (x ∷ g) = (n ≤ x.0) × (has mask x.0 ≡ true) × OfMask mask (suc x.0) g

of_lower : (mask n m : ℕ) (g : Group) → n ≤ m → OfMask mask m g → OfMask mask n g
of_lower mask n m [] le t = tt
of_lower mask n m (x ∷ g) le t = (omega (arith, le, t.0), t.1, t.2)

one_of : (mask k : ℕ) (w : Bool) (z : SlotState) (g : Group) → has mask k ≡ w → OfMask mask (suc k) g → OfMask mask k (grouped w k z ++ g)
one_of mask k false z g e t = of_lower mask k (suc k) g (omega arith) t
one_of mask k true Idle g e t = of_lower mask k (suc k) g (omega arith) t
one_of mask k true (Done b o a n) g e t = of_lower mask k (suc k) g (omega arith) t
one_of mask k true (Stamped b) g e t = by_flag b.flags.group
  where
    is_in : has mask k ≡ true
    is_in = e

    more : OfMask mask (suc k) g
    more = t

    by_flag : (f : Bool) → OfMask mask k (cond f ((k, b) ∷ []) [] ++ g)
    by_flag true = (omega arith, is_in, more)
    by_flag false = of_lower mask k (suc k) g (omega arith) more

of_mask : (mask k : ℕ) (zs : List SlotState) → OfMask mask k (group_in mask k zs)
of_mask mask k [] = tt
of_mask mask k (z ∷ zs) = one_of mask k (has mask k) z (group_in mask (suc k) zs) refl (of_mask mask (suc k) zs)

-- those for higher CPUs are stamped still
stamped_still : (mask n j : ℕ) (zs : List (List ℕ)) (y : List ℕ) (g : Group) → j < n → OfMask mask n g → AreStamped zs g → AreStamped (slice_set zs j y) g
stamped_still mask n j zs y [] lt r t = tt
stamped_still mask n j zs y (x ∷ g) lt r t =
    let low : j < x.0 = omega (arith, lt, r.0) in
    (t.0, set_other zs j x.0 y (λ e. absurd (omega (arith, e, low))) ∙ t.1, t.2, stamped_still mask (suc x.0) j zs y g (omega (arith, low)) r.2 t.3)

-- a slot that lands no more is one less
set_count : (mask k i : ℕ) (zs : List (List ℕ)) (z y : List ℕ) → slice_get zs i ≡ Some z → is_wanted mask (k + i) z ≡ true → is_wanted mask (k + i) y ≡ false → length (landed_slots mask k zs) ≡ suc (length (landed_slots mask k (slice_set zs i y)))
set_count mask k i [] z y e a b = absurd cc
set_count mask k zero (x ∷ zs) z y e a b =
    let same : x ≡ z = cc in
    let n : k + 0 ≡ k = omega arith in
    let was : is_wanted mask k x ≡ true = (λ j. is_wanted mask (sym n j) (same j)) ∙ a in
    let now : is_wanted mask k y ≡ false = ap (λ (m : ℕ). is_wanted mask m y) (sym n) ∙ b in
    ap (λ (q : Bool). length (landed_if q k x ++ landed_slots mask (suc k) zs)) was ∙ sym (ap (λ (q : Bool). suc (length (landed_if q k y ++ landed_slots mask (suc k) zs))) now)
set_count mask k (suc i) (x ∷ zs) z y e a b =
    let n : k + suc i ≡ suc k + i = omega arith in
    let rest = set_count mask (suc k) i zs z y e (ap (λ (m : ℕ). is_wanted mask m z) (sym n) ∙ a) (ap (λ (m : ℕ). is_wanted mask m y) (sym n) ∙ b) in
    let own = landed_if (is_wanted mask k x) k x in
    let p = length-append own (landed_slots mask (suc k) zs) in
    let q = length-append own (landed_slots mask (suc k) (slice_set zs i y)) in
    omega (arith, rest, p, q)

wanted_stamped : (mask k : ℕ) (z : List ℕ) (b : Stamp) → has mask k ≡ true → state_in k z ≡ Ok (Stamped b) → is_wanted mask k z ≡ true
wanted_stamped mask k z b e is = λ i. e i && not (is_settled (is i))

wanted_done : (w : Bool) (k : ℕ) (y : List ℕ) (x : Held) → state_in k y ≡ x → is_settled x ≡ true → (w && not (is_settled (state_in k y))) ≡ false
wanted_done false k y x is e = refl
wanted_done true k y x is e = ap (λ (h : Held). not (is_settled h)) is ∙ ap not e

-- the slots of a mask are those of its group, and those that land behind it
group_count : (l : ℕ × Stamp → Landing) (mask n : ℕ) (g : Group) (zs zs' : List (List ℕ)) → OfMask mask n g → AreStamped zs g → Finishes l g zs zs' → length (landed_slots mask 0 zs) ≡ length g + length (landed_slots mask 0 zs')
group_count l mask n [] zs zs' of are f = let e = ap (λ (q : List (List ℕ)). length (landed_slots mask 0 q)) f in omega (arith, e)
group_count l mask n (x ∷ g) zs zs' of are f =
    let m : 0 + x.0 ≡ x.0 = omega arith in
    let one = set_count mask 0 x.0 zs are.0 f.0 are.1 (ap (λ (q : ℕ). is_wanted mask q are.0) m ∙ wanted_stamped mask x.0 are.0 x.1 of.1 are.2)
    (ap (λ (q : ℕ). is_wanted mask q f.0) m ∙ wanted_done (has mask x.0) x.0 f.0 (Ok (Done x.1 (l x).outcome (l x).at (l x).seen)) f.1 refl)
    in
    let rest = group_count l mask (suc x.0) g (slice_set zs x.0 f.0) zs' of.2 (stamped_still mask (suc x.0) x.0 zs f.0 g (omega arith) of.2 are.3) f.2 in
    omega (arith, one, rest)

map_count : (l : ℕ × Stamp → Landing) (g : Group) → length (map l g) ≡ length g
map_count l [] = refl
map_count l (x ∷ g) = ap suc (map_count l g)

-- a commit of a region answers for each slot that is listed
pub commit_count : (room : Room) (s : Settings) (mask : ℕ) (region : List (List ℕ)) (h : History) (r : LandingsOf (List ℕ)) → CommitsRegion room s mask region h r → length r.answers ≡ length (landed_slots mask 0 region)
commit_count room s mask region h r t =
    let g : Group = group_in mask 0 (told_by 0 region) in
    let l : ℕ × Stamp → Landing = λ x. group_landing s h t.group.history x.0 x.1 (group_outcome s h g t.first.fit x.0 x.1) in
    let first = ap length t.first.answers ∙ map_count l g in
    let rest = region_count room s mask 0 t.group.slots t.group.history t.rest t.others in
    let parts = group_count l mask 0 g region t.group.slots (of_mask mask 0 (told_by 0 region)) (region_stamped mask region) t.first.slots in
    let all = ap (λ (q : LandingsOf (List ℕ)). length q.answers) t.whole ∙ length-append t.group.answers t.rest.answers in
    omega (arith, first, rest, parts, all)
