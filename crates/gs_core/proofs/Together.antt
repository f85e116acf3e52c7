-- What a commit leaves, which lands a group first and then the others.
use Rattle.std.proofs.Common.{◌≡◌, refl, ap, sym, subst, ◌∙◌, ℕ, suc, ◌<◌, ◌⊎◌, inl, inr, Bool, true, false, cond, Option, Some, List, [], ◌∷◌, ◌++◌, arith}
use Rattle.std.specs.Prelude.{◌&&◌}
use Rattle.std.specs.List.{list_all}
use Rattle.std.proofs.lemmas.Bool.{and_parts, false≢true}
use Rattle.gs_layout.specs.declared.message.Change.TheVariants.{Preempted}
use Rattle.gs_layout.specs.declared.message.Message.{Message}
use Rattle.gs_layout.specs.declared.outcome.Outcome.{Outcome}
use Rattle.gs_layout.specs.declared.outcome.Outcome.TheVariants as outcomes
use Rattle.gs_layout.specs.View.{Look}
use Rattle.gs_slots.specs.declared.state.Stamp.{Stamp}
use Rattle.gs_slots.specs.declared.state.SlotState.{SlotState}
use Rattle.gs_slots.specs.declared.state.SlotState.TheVariants.{Idle, Stamped, Done}
use Rattle.gs_slots.specs.Reading.{by_cpu}
use Rattle.gs_status.specs.Masks.{has}
use Rattle.gs_journal.specs.declared.entry.Entry.TheVariants.{Posted, Torn}
use Rattle.gs_journal.specs.History.{History, on, seq, torn}
use Rattle.gs_journal.specs.State.{AllWas}
use Rattle.gs_journal.proofs.Laws.{same_posted}
use Rattle.gs_threads.proofs.Laws.{eqb_same}
use Rattle.gs_kernel.specs.declared.settings.Settings.{Settings}
use Rattle.gs_kernel.specs.declared.landing.Landing.{Landing}
use Rattle.gs_kernel.specs.Kernel.{is_full, next_about}
use Rattle.gs_kernel.specs.Landing.{placing, verdict}
use Rattle.gs_kernel.specs.Legal.{Room}
use Rattle.gs_kernel.specs.Lands.{Landings, is_to_place}
use Rattle.gs_kernel.specs.Group.{Group, LandsCommit, LandsGroup, are_to_place, done_if, group_entries, group_in, group_landing, group_outcome, grouped, is_named_below, left_of, or_failed, own_verdict}
use Rattle.gs_kernel.specs.Ready.{Rises}
use Rattle.gs_kernel.proofs.Laws.{AllOf, IsKeptBy, IsPlacing, group_keeps, own_placed, rises_from, torn_now}
use Rattle.gs_beliefs.specs.Belief.{shows_place}
use Rattle.gs_core.specs.declared.transaction.Transaction.{Transaction}
use Rattle.gs_core.specs.Safe.{IsIn, is_given}
use Rattle.gs_core.specs.Good.{AreOf, GoodHistory}
use Rattle.gs_core.specs.Trust.{AreSeen, IsSeen, NoneDone}
use Rattle.gs_core.proofs.Believing.{backs_posted, backs_same}
use Rattle.gs_core.proofs.Collecting.{AllShow, AreLanded, Keeps, Shows, are_landed, at_is_on, none_shows, now_when, placed_nobody, shown_by}
use Rattle.gs_core.proofs.Growing.{Both, both_next, both_placed, both_torn}
use Rattle.gs_core.proofs.Grows.{stood_before}
use Rattle.gs_core.proofs.Left.{AreAfter, after_stamped, after_then, lands_after}
use Rattle.gs_core.proofs.Roles.{NoNewRole, lands_roles, roles_placed, roles_posted, roles_then, roles_torn, same_history}
use Rattle.gs_core.proofs.Seeing.{seen_now, seen_posted, seen_same, seen_torn}

-- it was stamped as one of these
abbrev IsOne : List Transaction → ℕ → Stamp → Type 0
IsOne xs k b = (x : Transaction) × IsIn xs x × (x.slot ≡ b) × (x.cpu ≡ k)

tail_of : (xs : List Transaction) (k : ℕ) (z : SlotState) (zs : List SlotState) → AreOf xs k (z ∷ zs) → AreOf xs (suc k) zs
tail_of xs k z zs of i b e = let q = of (suc i) b e in (q.0, q.1, q.2, omega (arith, q.3))

head_of : (xs : List Transaction) (k : ℕ) (z : SlotState) (zs : List SlotState) → AreOf xs k (z ∷ zs) → (b : Stamp) → z ≡ Stamped b → IsOne xs k b
head_of xs k z zs of b e = let q = of 0 b (ap Some e) in (q.0, q.1, q.2, omega (arith, q.3))

-- a group's transactions are those of its slots
one_more : (xs : List Transaction) (w : Bool) (k : ℕ) (z : SlotState) (g : Group) → ((b : Stamp) → z ≡ Stamped b → IsOne xs k b) → AllOf (IsOne xs) g → AllOf (IsOne xs) (grouped w k z ++ g)
one_more xs false k z g one rest = rest
one_more xs true k Idle g one rest = rest
one_more xs true k (Done b o a n) g one rest = rest
one_more xs true k (Stamped b) g one rest = by_test b.flags.group
  where
    by_test : (p : Bool) → AllOf (IsOne xs) (cond p ((k, b) ∷ []) [] ++ g)
    by_test true = (one b refl, rest)
    by_test false = rest

all_of : (xs : List Transaction) (mask k : ℕ) (zs : List SlotState) → AreOf xs k zs → AllOf (IsOne xs) (group_in mask k zs)
all_of xs mask k [] of = tt
all_of xs mask k (z ∷ zs) of = one_more xs (has mask k) k z (group_in mask (suc k) zs) (head_of xs k z zs of) (all_of xs mask (suc k) zs (tail_of xs k z zs of))

-- and their CPUs rise
rises_more : (s : Settings) (w : Bool) (k : ℕ) (z : SlotState) (g : Group) → ((b : Stamp) → z ≡ Stamped b → k < s.cpus) → Rises (suc k) s.cpus g → Rises k s.cpus (grouped w k z ++ g)
rises_more s false k z g below rest = rises_from s k (suc k) g (omega arith) rest
rises_more s true k Idle g below rest = rises_from s k (suc k) g (omega arith) rest
rises_more s true k (Done b o a n) g below rest = rises_from s k (suc k) g (omega arith) rest
rises_more s true k (Stamped b) g below rest = by_test b.flags.group
  where
    by_test : (p : Bool) → Rises k s.cpus (cond p ((k, b) ∷ []) [] ++ g)
    by_test true = (omega arith, below b refl, rest)
    by_test false = rises_from s k (suc k) g (omega arith) rest

rises_in : (s : Settings) (xs : List Transaction) (mask k : ℕ) (zs : List SlotState) → ((x : Transaction) → IsIn xs x → x.cpu < s.cpus) → AreOf xs k zs → Rises k s.cpus (group_in mask k zs)
rises_in s xs mask k [] within of = tt
rises_in s xs mask k (z ∷ zs) within of =
    rises_more s (has mask k) k z (group_in mask (suc k) zs) (λ b e. let q = head_of xs k z zs of b e in omega (arith, within q.0 q.1, q.3)) (rises_in s xs mask (suc k) zs within (tail_of xs k z zs of))

-- whatever who makes way, a placing and a tear-down keep, a group keeps that lands
group_then : (room : Room) (s : Settings) (xs : List Transaction) (mask : ℕ) (zs : List SlotState) (h : History) (r : Landings) (P : History → Type 0) → IsKeptBy s P (IsOne xs) → GoodHistory s xs h → AreOf xs 0 zs → LandsGroup room s mask zs h r → P h
    → P r.history
group_then room s xs mask zs h r P keeps g of t p = group_keeps room s P (IsOne xs) (group_in mask 0 zs) h t.fit r.history keeps (all_of xs mask 0 zs of) (rises_in s xs mask 0 zs g.within of) t.puts p

-- ---- its slots

-- what of a slot lands together with a group
abbrev With : Settings → History → History → Group → Bool → ℕ → Stamp → Landing
With s h h' g fit c b = group_landing s h h' c b (group_outcome s h g fit c b)

one_after : (l : ℕ → Stamp → Landing) (w : Bool) (k : ℕ) (z : SlotState) (zs xs : List SlotState) → AreAfter zs xs → AreAfter (z ∷ zs) (left_of l w k z ∷ xs)
one_after l false k z zs xs rest = (inl refl, rest)
one_after l true k Idle zs xs rest = (inl refl, rest)
one_after l true k (Done b o a n) zs xs rest = (inl refl, rest)
one_after l true k (Stamped b) zs xs rest = by_flag b.flags.group
  where
    by_flag : (f : Bool) → AreAfter (Stamped b ∷ zs) (done_if f b (l k b) ∷ xs)
    by_flag true = (inr refl, rest)
    by_flag false = (inl refl, rest)

all_after : (l : ℕ → Stamp → Landing) (mask k : ℕ) (zs : List SlotState) → AreAfter zs (by_cpu (λ c z. left_of l (has mask c) c z) k zs)
all_after l mask k [] = tt
all_after l mask k (z ∷ zs) = one_after l (has mask k) k z zs (by_cpu (λ c y. left_of l (has mask c) c y) (suc k) zs) (all_after l mask (suc k) zs)

group_after : (room : Room) (s : Settings) (mask : ℕ) (zs : List SlotState) (h : History) (r : Landings) → LandsGroup room s mask zs h r → AreAfter zs r.slots
group_after room s mask zs h r t = subst (AreAfter zs) (sym t.slots) (all_after (With s h r.history (group_in mask 0 zs) t.fit) mask 0 zs)

pub commit_after : (room : Room) (s : Settings) (mask : ℕ) (zs : List SlotState) (h : History) (r : Landings) → LandsCommit room s mask zs h r → AreAfter zs r.slots
commit_after room s mask zs h r t =
    subst (λ (q : Landings). AreAfter zs q.slots) (sym t.whole) (after_then zs t.group.slots t.rest.slots (group_after room s mask zs h t.group t.first) (lands_after room s mask 0 t.group.slots t.group.history t.rest t.others))

-- ---- no agent begins

keeps_roles : (s : Settings) (xs : List Transaction) (h : History) → IsKeptBy s (NoNewRole h) (IsOne xs)
keeps_roles s xs h = record {
  told = λ g t k lt there p. roles_then h g _ p (roles_posted g (next_about s g t (Preempted k)));
  placed = λ g k b lt p q r. roles_then h g _ r (roles_placed g k b);
  torn = λ g p. roles_then h g _ p (roles_torn g);
}

pub commit_roles : (room : Room) (s : Settings) (xs : List Transaction) (mask : ℕ) (zs : List SlotState) (h : History) (r : Landings) → GoodHistory s xs h → AreOf xs 0 zs → LandsCommit room s mask zs h r → NoNewRole h r.history
commit_roles room s xs mask zs h r g of t =
    let first : NoNewRole h t.group.history = group_then room s xs mask zs h t.group (NoNewRole h) (keeps_roles s xs h) g of t.first (same_history h h refl) in
    subst (λ (q : Landings). NoNewRole h q.history) (sym t.whole) (roles_then h t.group.history t.rest.history first (lands_roles room s mask 0 t.group.slots t.group.history t.rest t.others))

-- ---- the history stays good, and what is believed backed

-- a history that came after another one
record Came (s : Settings) (xs : List Transaction) (n : ℕ) (v : Look) (page : Option ℕ) (first h : History) : Type 0 where
  both : Both s xs n v page h
  stood : torn h ≡ false → torn first ≡ false
  seen : (b : Stamp) → IsSeen first v b → IsSeen h v b
  keeps : torn h ≡ false → Keeps first h n v page

keeps_all : (s : Settings) (xs : List Transaction) (n : ℕ) (v : Look) (page : Option ℕ) (first : History) → IsKeptBy s (Came s xs n v page first) (IsOne xs)
keeps_all s xs n v page first = record { told = told'; placed = placed'; torn = torn' }
  where
    told' : (h : History) (t k : ℕ) → k < s.cpus → on h k ≡ Some t → Came s xs n v page first h → Came s xs n v page first (h ++ Posted (next_about s h t (Preempted k)) ∷ [])
    told' h t k lt there p =
        let m : Message = next_about s h t (Preempted k) in
        let w : Both s xs n v page (h ++ Posted m ∷ []) = both_next s xs n v page h t (Preempted k) refl (p.both.good.on_known t k there) p.both in
        let g = w.good in
        record {
          both = w;
          stood = λ up. p.stood (stood_before h (Posted m) up);
          seen = λ b q. seen_posted h v b m (p.seen b q);
          keeps = λ up c x back. backs_posted s.first_tseq h n v page m c x g.numbered p.both.faces (p.keeps (stood_before h (Posted m) up) c x back);
        }

    placed' : (h : History) (k : ℕ) (b : Stamp) → k < s.cpus → IsPlacing s h k b → IsOne xs k b → Came s xs n v page first h → Came s xs n v page first (h ++ placing k b ∷ [])
    placed' h k b lt p q r = record {
      both = both_placed s xs n v page h k b q.0 q.1 q.2 q.3 lt p r.both;
      stood = λ up. r.stood (stood_before h (placing k b) up);
      seen = λ d e. seen_same h (h ++ placing k b ∷ []) v d (same_posted h (placing k b) refl) (r.seen d e);
      keeps = λ up c x back. backs_same h (h ++ placing k b ∷ []) n v page c x (same_posted h (placing k b) refl) (placed_nobody b.tid b.tseq k b.generation h p.free) (r.keeps (stood_before h (placing k b) up) c x back);
    }

    torn' : (h : History) → Came s xs n v page first h → Came s xs n v page first (h ++ Torn ∷ [])
    torn' h p = record {
      both = both_torn s xs n v page h p.both;
      stood = λ up. absurd (false≢true (sym up ∙ torn_now h));
      seen = λ b q. seen_torn h v b (p.seen b q);
      keeps = λ up. absurd (false≢true (sym up ∙ torn_now h));
    }

-- an outcome of a group that shows a place
failed_shows : (o : Outcome) → shows_place (or_failed o) ≡ true → o ≡ outcomes.AlreadyPlaced
failed_shows o e = by_test (is_to_place o) refl e
  where
    by_case : (o ≡ outcomes.Placed) ⊎ (o ≡ outcomes.AlreadyPlaced) → is_to_place o ≡ false → o ≡ outcomes.AlreadyPlaced
    by_case (inl p) no_place = absurd (false≢true (sym no_place ∙ ap is_to_place p))
    by_case (inr p) no_place = p

    by_test : (b : Bool) → is_to_place o ≡ b → shows_place (cond b outcomes.GroupFailed o) ≡ true → o ≡ outcomes.AlreadyPlaced
    by_test true is shows = absurd cc
    by_test false is shows = by_case (shown_by o shows) is

own_already : (s : Settings) (h : History) (g : Group) (k : ℕ) (b : Stamp) → own_verdict s h g k b ≡ outcomes.AlreadyPlaced → verdict s h k b ≡ outcomes.AlreadyPlaced
own_already s h g k b e = by_test (is_to_place (verdict s h k b) && is_named_below k b.tid g) e
  where
    by_test : (p : Bool) → cond p outcomes.GroupFailed (verdict s h k b) ≡ outcomes.AlreadyPlaced → verdict s h k b ≡ outcomes.AlreadyPlaced
    by_test true q = absurd cc
    by_test false q = q

outcome_shows : (s : Settings) (h : History) (g : Group) (fit : Bool) (k : ℕ) (b : Stamp) → (are_to_place s h g g ≡ true → is_to_place (own_verdict s h g k b) ≡ true) → shows_place (group_outcome s h g fit k b) ≡ true
    → (verdict s h k b ≡ outcomes.Placed) ⊎ (verdict s h k b ≡ outcomes.AlreadyPlaced)
outcome_shows s h g fit k b each shows = by_test (are_to_place s h g g) refl shows
  where
    by_test : (p : Bool) → are_to_place s h g g ≡ p → shows_place (cond p (cond (is_full s h (group_entries h g)) outcomes.HistoryFull (cond fit outcomes.Placed outcomes.Gone)) (or_failed (own_verdict s h g k b))) ≡ true
        → (verdict s h k b ≡ outcomes.Placed) ⊎ (verdict s h k b ≡ outcomes.AlreadyPlaced)
    by_test true is q = inl (own_placed s h g k b (each is)).0
    by_test false is q = inr (own_already s h g k b (failed_shows (own_verdict s h g k b) q))

-- ---- what its slots show

-- whether it would be placed by itself
abbrev would_place : Settings → History → Group → ℕ × Stamp → Bool
would_place s h g x = is_to_place (own_verdict s h g x.0 x.1)

member_shows : (s : Settings) (h h' : History) (g : Group) (fit : Bool) (n : ℕ) (v : Look) (page : Option ℕ) (k : ℕ) (b : Stamp) → AllWas s.first_tseq h v → ((t : ℕ) → is_given page t ≡ true) → IsSeen h v b → (are_to_place s h g g ≡ true → would_place s h g (k, b) ≡ true)
    → Shows h' n v page (Done b (With s h h' g fit k b).outcome (With s h h' g fit k b).at (With s h h' g fit k b).seen)
member_shows s h h' g fit n v page k b known given seen each shows c there =
    let p = now_when s h k b (outcome_shows s h g fit k b each shows) in
    record {
      given = given b.tid;
      known = seen_now s.first_tseq h v b known seen (sym (eqb_same b.tseq (seq s.first_tseq h b.tid) p.0)) p.1;
      there = inl (at_is_on s.cpus h' b.tid c there);
    }

one_shows : (s : Settings) (h h' : History) (g : Group) (fit : Bool) (n : ℕ) (v : Look) (page : Option ℕ) (w : Bool) (k : ℕ) (z : SlotState) (rest : Group) → AllWas s.first_tseq h v → ((t : ℕ) → is_given page t ≡ true)
    → ((b : Stamp) → z ≡ Stamped b → IsSeen h v b) → Shows h' n v page z → (are_to_place s h g g ≡ true → list_all (would_place s h g) (grouped w k z ++ rest) ≡ true) → Shows h' n v page (left_of (With s h h' g fit) w k z)
one_shows s h h' g fit n v page false k z rest known given seen shows each = shows
one_shows s h h' g fit n v page true k Idle rest known given seen shows each = tt
one_shows s h h' g fit n v page true k (Done b o a q) rest known given seen shows each = shows
one_shows s h h' g fit n v page true k (Stamped b) rest known given seen shows each = by_flag b.flags.group each
  where
    has_seen : IsSeen h v b
    has_seen = seen b refl

    by_flag : (f : Bool) → (are_to_place s h g g ≡ true → list_all (would_place s h g) (cond f ((k, b) ∷ []) [] ++ rest) ≡ true) → Shows h' n v page (done_if f b (With s h h' g fit k b))
    by_flag true e = member_shows s h h' g fit n v page k b known given has_seen (λ p. (and_parts (would_place s h g (k, b)) (list_all (would_place s h g) rest) (e p)).0)
    by_flag false e = tt

rest_place : (p : ℕ × Stamp → Bool) (w : Bool) (k : ℕ) (z : SlotState) (rest : Group) → list_all p (grouped w k z ++ rest) ≡ true → list_all p rest ≡ true
rest_place p false k z rest e = e
rest_place p true k Idle rest e = e
rest_place p true k (Done b o a n) rest e = e
rest_place p true k (Stamped b) rest e = by_flag b.flags.group e
  where
    by_flag : (f : Bool) → list_all p (cond f ((k, b) ∷ []) [] ++ rest) ≡ true → list_all p rest ≡ true
    by_flag true q = (and_parts (p (k, b)) (list_all p rest) q).1
    by_flag false q = q

all_show : (s : Settings) (h h' : History) (g : Group) (fit : Bool) (n : ℕ) (v : Look) (page : Option ℕ) (mask k : ℕ) (zs : List SlotState) → AllWas s.first_tseq h v → ((t : ℕ) → is_given page t ≡ true)
    → AreSeen h v zs → AllShow h' n v page zs → (are_to_place s h g g ≡ true → list_all (would_place s h g) (group_in mask k zs) ≡ true) → AllShow h' n v page (by_cpu (λ c z. left_of (With s h h' g fit) (has mask c) c z) k zs)
all_show s h h' g fit n v page mask k [] known given seen show each = tt
all_show s h h' g fit n v page mask k (z ∷ zs) known given seen show each = (
  one_shows s h h' g fit n v page (has mask k) k z (group_in mask (suc k) zs) known given (λ b e. seen 0 b (ap Some e)) show.0 each,
  all_show s h h' g fit n v page mask (suc k) zs known given (λ i b e. seen (suc i) b e) show.1 (λ p. rest_place (would_place s h g) (has mask k) k z (group_in mask (suc k) zs) (each p)),
)

-- the group lands
group_landed : (room : Room) (s : Settings) (xs : List Transaction) (n : ℕ) (v : Look) (page : Option ℕ) (mask : ℕ) (zs : List SlotState) (h : History) (r : Landings) → LandsGroup room s mask zs h r → Both s xs n v page h
    → ((t : ℕ) → is_given page t ≡ true) → AreOf xs 0 zs → AreSeen h v zs → NoneDone zs → AreLanded s xs n v page h r
group_landed room s xs n v page mask zs h r t both given of seen none =
    let start : Came s xs n v page h h = record { both = both; stood = λ up. up; seen = λ b p. p; keeps = λ up c x back. back } in
    let w : Came s xs n v page h r.history = group_then room s xs mask zs h r (Came s xs n v page h) (keeps_all s xs n v page h) both.good of t start in
    let f = both.faces in
    record {
      both = w.both;
      stood = w.stood;
      seen = w.seen;
      keeps = w.keeps;
      shows = λ up. subst (AllShow r.history n v page) (sym t.slots) (all_show s h r.history (group_in mask 0 zs) t.fit n v page mask 0 zs f.known given seen (none_shows r.history n v page zs none) (λ p. p));
    }

-- and then the others
pub commit_landed : (room : Room) (s : Settings) (xs : List Transaction) (n : ℕ) (v : Look) (page : Option ℕ) (mask : ℕ) (zs : List SlotState) (h : History) (r : Landings) → LandsCommit room s mask zs h r → Both s xs n v page h
    → ((t : ℕ) → is_given page t ≡ true) → AreOf xs 0 zs → AreSeen h v zs → NoneDone zs → AreLanded s xs n v page h r
commit_landed room s xs n v page mask zs h r t both given of seen none =
    let a : AreLanded s xs n v page h t.group = group_landed room s xs n v page mask zs h t.group t.first both given of seen none in
    let after : AreAfter zs t.group.slots = group_after room s mask zs h t.group t.first in
    let b : AreLanded s xs n v page t.group.history t.rest =
    are_landed room s xs n v page mask 0 t.group.slots t.group.history t.rest t.others a.both given (λ i d e. of i d (after_stamped zs t.group.slots i d after e))
    (λ i d e. a.seen d (seen i d (after_stamped zs t.group.slots i d after e))) a.shows in
    subst (AreLanded s xs n v page h) (sym t.whole) (record {
      both = b.both;
      stood = λ up. a.stood (b.stood up);
      seen = λ z e. b.seen z (a.seen z e);
      keeps = λ up c x back. b.keeps up c x (a.keeps (b.stood up) c x back);
      shows = b.shows;
    })
