-- A commit of a region in which no slot is malformed is a commit of its states.
use Rattle.std.proofs.Common.{List, ◌≡◌, ℕ, suc, ◌+◌, ◌++◌, ◌∷◌, [], Bool, true, false, length, length-append, cond, Option, Ok, refl, ap, sym, subst, ◌∙◌, append_assoc, arith, slice_set, map}
use Rattle.gs_slots.specs.declared.state.Stamp.{Stamp}
use Rattle.gs_slots.specs.declared.state.SlotState.{SlotState}
use Rattle.gs_slots.specs.declared.state.SlotState.TheVariants.{Idle, Stamped, Done}
use Rattle.gs_slots.specs.Reading.{by_cpu, state_in, states_in}
use Rattle.gs_slots.specs.State.{Held}
use Rattle.gs_slots.proofs.Laws.{set_held, states_set, told_is}
use Rattle.gs_status.specs.Masks.{has}
use Rattle.gs_journal.specs.History.{History}
use Rattle.gs_kernel.specs.declared.landing.Landing.{Landing}
use Rattle.gs_kernel.specs.declared.settings.Settings.{Settings}
use Rattle.gs_kernel.specs.Legal.{Room}
use Rattle.gs_kernel.specs.Lands.{Landings, LandingsOf, LandsAll, LandsBytes, LandsHeld, LandsIf, LandsIfBy, LandsIn, LandsRegion, then_others}
use Rattle.gs_kernel.specs.Group.{CommitsRegion, Finishes, Group, LandsCommit, LandsGroup, LandsTogether, done_if, group_in, group_landing, group_outcome, grouped, left_of}
use Rattle.gs_kernel.proofs.Landings.{set_middle}

-- landings that leave states leave the bytes of a region, of which these are read from CPU k on
pub record Same (k : ℕ) (r : LandingsOf (List ℕ)) (q : Landings) : Type 0 where
  pub answers : r.answers ≡ q.answers
  pub history : r.history ≡ q.history
  pub slots : states_in k r.slots ≡ map Ok q.slots

first_held : (x y : Held) (xs ys : List Held) → x ∷ xs ≡ y ∷ ys → (x ≡ y) × (xs ≡ ys)
first_held x y xs ys e = (cc, cc)

held_if : (room : Room) (s : Settings) (h : History) (k : ℕ) (x : Held) (z : SlotState) (o : Option Landing) (x' : Held) (h' : History) → x ≡ Ok z → LandsHeld room s h k x o x' h' → (z' : SlotState) × LandsIn room s h k z o z' h' × (x' ≡ Ok z')
held_if room s h k x z o x' h' e t = subst (λ (y : Held). LandsHeld room s h k y o x' h') e t

one_if : (room : Room) (s : Settings) (wanted : Bool) (k : ℕ) (b : List ℕ) (z : SlotState) (h : History) (r : LandingsOf (List ℕ)) → state_in k b ≡ Ok z → LandsIfBy (LandsBytes room s) wanted k b h r
    → (q : Landings) × LandsIf room s wanted k z h q × (c : List ℕ) × (y : SlotState) × (r.answers ≡ q.answers) × (r.history ≡ q.history) × (r.slots ≡ c ∷ []) × (q.slots ≡ y ∷ []) × (state_in k c ≡ Ok y)
one_if room s false k b z h r e t = (record { answers = []; history = h; slots = z ∷ [] }, refl, b, z, ap (λ (p : LandingsOf (List ℕ)). p.answers) t, ap (λ (p : LandingsOf (List ℕ)). p.history) t, ap (λ (p : LandingsOf (List ℕ)). p.slots) t, refl, e)
one_if room s true k b z h r e t =
    let u = held_if room s h k (state_in k b) z t.0 (state_in k t.1) r.history e t.2 in
    (record { answers = r.answers; history = r.history; slots = u.0 ∷ [] }, (t.0, u.0, u.1, t.3, refl), t.1, u.0, refl, refl, t.4, refl, u.2)

pub all_if : (room : Room) (s : Settings) (mask k : ℕ) (bs : List (List ℕ)) (zs : List SlotState) (h : History) (r : LandingsOf (List ℕ)) → states_in k bs ≡ map Ok zs → LandsRegion room s mask k bs h r → (q : Landings) × LandsAll room s mask k zs h q × Same k r q
all_if room s mask k [] [] h r e t = (record { answers = []; history = h; slots = [] }, refl, record { answers = ap (λ (p : LandingsOf (List ℕ)). p.answers) t; history = ap (λ (p : LandingsOf (List ℕ)). p.history) t; slots = ap (λ (p : LandingsOf (List ℕ)). states_in k p.slots) t })
all_if room s mask k [] (z ∷ zs) h r e t = absurd cc
all_if room s mask k (b ∷ bs) [] h r e t = absurd cc
all_if room s mask k (b ∷ bs) (z ∷ zs) h r e t =
    let p = first_held (state_in k b) (Ok z) (states_in (suc k) bs) (map Ok zs) e in
    let one = one_if room s (has mask k) k b z h t.0 p.0 t.2 in
    let rest = all_if room s mask (suc k) bs zs t.0.history t.1 p.1 t.3 in
    let q : Landings = one.0 in
    let u : Landings = rest.0 in
    let lands : LandsAll room s mask (suc k) zs q.history u = subst (λ (g : History). LandsAll room s mask (suc k) zs g u) one.5 rest.1 in
    let slots : states_in k (t.0.slots ++ t.1.slots) ≡ map Ok (q.slots ++ u.slots) =
    ap (λ (xs : List (List ℕ)). states_in k (xs ++ t.1.slots)) one.6 ∙ ((λ i. one.8 i ∷ rest.2.slots i) ∙ ap (λ (ys : List SlotState). map Ok (ys ++ u.slots)) (sym one.7)) in (
      then_others q u,
      (q, u, one.1, lands, refl),
      record {
        answers = ap (λ (w : LandingsOf (List ℕ)). w.answers) t.4 ∙ (λ i. one.4 i ++ rest.2.answers i);
        history = ap (λ (w : LandingsOf (List ℕ)). w.history) t.4 ∙ rest.2.history;
        slots = ap (λ (w : LandingsOf (List ℕ)). states_in k w.slots) t.4 ∙ slots;
      },
    )

-- ---- the group

-- the states of a group's slots, done one after another
abbrev finished : (ℕ → Stamp → Landing) → Group → List SlotState → List SlotState
finished l [] zs = zs
finished l (x ∷ g) zs = finished l g (slice_set zs x.0 (Done x.1 (l x.0 x.1).outcome (l x.0 x.1).at (l x.0 x.1).seen))

own : (k : ℕ) (b : List ℕ) → state_in (0 + k) b ≡ state_in k b
own k b = ap (λ (n : ℕ). state_in n b) (let e : 0 + k ≡ k = omega arith in e)

finished_read : (l : ℕ → Stamp → Landing) (g : Group) (bs left : List (List ℕ)) (zs : List SlotState) → states_in 0 bs ≡ map Ok zs → Finishes (λ x. l x.0 x.1) g bs left → states_in 0 left ≡ map Ok (finished l g zs)
finished_read l [] bs left zs e f = ap (states_in 0) f ∙ e
finished_read l (x ∷ g) bs left zs e f =
    finished_read l g (slice_set bs x.0 f.0) left (slice_set zs x.0 (Done x.1 (l x.0 x.1).outcome (l x.0 x.1).at (l x.0 x.1).seen))
    (states_set 0 x.0 bs f.0 ∙ ((λ i. slice_set (e i) x.0 ((own x.0 f.0 ∙ f.1) i)) ∙ set_held zs x.0 (Done x.1 (l x.0 x.1).outcome (l x.0 x.1).at (l x.0 x.1).seen))) f.2

-- behind the slots that are past, those of the group are done
abbrev Behind : (ℕ → Stamp → Landing) → ℕ → ℕ → List SlotState → Type 0
Behind l mask k zs = (past : List SlotState) → length past ≡ k → finished l (group_in mask k zs) (past ++ zs) ≡ past ++ by_cpu (λ i z. left_of l (has mask i) i z) k zs

-- one that stays is past
stays_behind : (l : ℕ → Stamp → Landing) (mask k : ℕ) (z : SlotState) (zs past : List SlotState) → length past ≡ k → Behind l mask (suc k) zs
    → finished l (group_in mask (suc k) zs) (past ++ z ∷ zs) ≡ past ++ z ∷ by_cpu (λ i y. left_of l (has mask i) i y) (suc k) zs
stays_behind l mask k z zs past n more =
    ap (finished l (group_in mask (suc k) zs)) (sym (append_assoc past (z ∷ []) zs))
    ∙ (more (past ++ z ∷ []) (length-append past (z ∷ []) ∙ omega (arith, n)) ∙ append_assoc past (z ∷ []) (by_cpu (λ i y. left_of l (has mask i) i y) (suc k) zs))

one_behind : (l : ℕ → Stamp → Landing) (mask k : ℕ) (wanted : Bool) (z : SlotState) (zs past : List SlotState) → length past ≡ k → Behind l mask (suc k) zs
    → finished l (grouped wanted k z ++ group_in mask (suc k) zs) (past ++ z ∷ zs) ≡ past ++ left_of l wanted k z ∷ by_cpu (λ i y. left_of l (has mask i) i y) (suc k) zs
one_behind l mask k false z zs past n more = stays_behind l mask k z zs past n more
one_behind l mask k true Idle zs past n more = stays_behind l mask k Idle zs past n more
one_behind l mask k true (Done b o a q) zs past n more = stays_behind l mask k (Done b o a q) zs past n more
one_behind l mask k true (Stamped b) zs past n more = by_flag b.flags.group
  where
    more' : Behind l mask (suc k) zs
    more' = more

    n' : length past ≡ k
    n' = n

    done : SlotState
    done = Done b (l k b).outcome (l k b).at (l k b).seen

    set_here : slice_set (past ++ Stamped b ∷ zs) k done ≡ past ++ done ∷ zs
    set_here = ap (λ i. slice_set (past ++ Stamped b ∷ zs) i done) (sym n') ∙ set_middle past zs (Stamped b) done

    by_flag : (f : Bool) → finished l (cond f ((k, b) ∷ []) [] ++ group_in mask (suc k) zs) (past ++ Stamped b ∷ zs) ≡ past ++ done_if f b (l k b) ∷ by_cpu (λ i y. left_of l (has mask i) i y) (suc k) zs
    by_flag true = ap (finished l (group_in mask (suc k) zs)) set_here ∙ stays_behind l mask k done zs past n' more'
    by_flag false = stays_behind l mask k (Stamped b) zs past n' more'

all_behind : (l : ℕ → Stamp → Landing) (mask k : ℕ) (zs : List SlotState) → Behind l mask k zs
all_behind l mask k [] past n = refl
all_behind l mask k (z ∷ zs) past n = one_behind l mask k (has mask k) z zs past n (all_behind l mask (suc k) zs)

-- the group of a region lands as that of its states
group_read : (room : Room) (s : Settings) (mask : ℕ) (bs : List (List ℕ)) (zs : List SlotState) (h : History) (r : LandingsOf (List ℕ)) → states_in 0 bs ≡ map Ok zs
    → LandsTogether room s (group_in mask 0 zs) bs h r → (q : Landings) × LandsGroup room s mask zs h q × Same 0 r q
group_read room s mask bs zs h r e t =
    let l : ℕ → Stamp → Landing = λ c b. group_landing s h r.history c b (group_outcome s h (group_in mask 0 zs) t.fit c b) in (
      record { answers = r.answers; history = r.history; slots = by_cpu (λ k z. left_of l (has mask k) k z) 0 zs },
      record { fit = t.fit; puts = t.puts; answers = t.answers; slots = refl },
      record { answers = refl; history = refl; slots = finished_read l (group_in mask 0 zs) bs r.slots zs e t.slots ∙ ap (map Ok) (all_behind l mask 0 zs [] refl) },
    )

-- a commit of a region is a commit of its states
pub commit_read : (room : Room) (s : Settings) (mask : ℕ) (bs : List (List ℕ)) (zs : List SlotState) (h : History) (r : LandingsOf (List ℕ)) → states_in 0 bs ≡ map Ok zs
    → CommitsRegion room s mask bs h r → (q : Landings) × LandsCommit room s mask zs h q × Same 0 r q
commit_read room s mask bs zs h r e t =
    let first = group_read room s mask bs zs h t.group e (subst (λ (ys : List SlotState). LandsTogether room s (group_in mask 0 ys) bs h t.group) (told_is 0 bs zs e) t.first) in
    let one : Landings = first.0 in
    let rest = all_if room s mask 0 t.group.slots one.slots t.group.history t.rest first.2.slots t.others in
    let two : Landings = rest.0 in (
      record { answers = one.answers ++ two.answers; history = two.history; slots = two.slots },
      record { group = one; first = first.1; rest = two; others = subst (λ (g : History). LandsAll room s mask 0 one.slots g two) first.2.history rest.1; whole = refl },
      record {
        answers = ap (λ (w : LandingsOf (List ℕ)). w.answers) t.whole ∙ (λ i. first.2.answers i ++ rest.2.answers i);
        history = ap (λ (w : LandingsOf (List ℕ)). w.history) t.whole ∙ rest.2.history;
        slots = ap (λ (w : LandingsOf (List ℕ)). states_in 0 w.slots) t.whole ∙ rest.2.slots;
      },
    )
