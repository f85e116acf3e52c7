-- How the transactions of a group land: all of them are placed, or none is.
use Rattle.std.specs.Prelude.{Bool, true, false, not, ◌&&◌, ◌==◌, ℕ, suc, ◌+◌, nat_lt, ◌≡◌, Option, None, Some, Ok, List, [], ◌∷◌, ◌++◌, map, slice_get, slice_set, if◌then◌else◌}
use Rattle.std.specs.List.{list_all, list_any}
use Rattle.gs_layout.specs.declared.message.Message.{Message}
use Rattle.gs_layout.specs.declared.outcome.Outcome.{Outcome}
use Rattle.gs_layout.specs.declared.outcome.Outcome.TheVariants as outcomes
use Rattle.gs_slots.specs.declared.state.SlotState.{SlotState}
use Rattle.gs_slots.specs.declared.state.SlotState.TheVariants.{Idle, Stamped, Done}
use Rattle.gs_slots.specs.declared.state.Stamp.{Stamp}
use Rattle.gs_slots.specs.Reading.{by_cpu, state_in, told_by}
use Rattle.gs_status.specs.Masks.{has}
use Rattle.gs_journal.specs.declared.entry.Entry.{Entry}
use Rattle.gs_journal.specs.History.{History, seq, on, at}
use Rattle.gs_kernel.specs.declared.settings.Settings.{Settings}
use Rattle.gs_kernel.specs.declared.landing.Landing.{Landing}
use Rattle.gs_kernel.specs.declared.effect.Effect.TheVariants.{Post}
use Rattle.gs_kernel.specs.Kernel.{is_full, preemption}
use Rattle.gs_kernel.specs.Landing.{placing, placing_entries, verdict}
use Rattle.gs_kernel.specs.Legal.{Room, Tells}
use Rattle.gs_kernel.specs.Lands.{Landings, LandingsOf, LandsAll, LandsRegion, is_to_place}

-- transactions, each with the CPU in whose slot it is, in increasing order of CPU
abbrev pub Group : Type 0
Group = List (ℕ × Stamp)

-- the transaction in the slot of CPU k, if it is wanted, has not landed and is of the group
abbrev pub grouped : Bool → ℕ → SlotState → Group
grouped true k (Stamped b) = if b.flags.group then (k, b) ∷ [] else []
grouped true k Idle = []
grouped true k (Done b o a n) = []
grouped false k z = []

-- the group of a mask, among slots of which the first is that of CPU k
abbrev pub group_in : ℕ → ℕ → List SlotState → Group
group_in mask k [] = []
group_in mask k (z ∷ zs) = grouped (has mask k) k z ++ group_in mask (suc k) zs

-- whether a transaction of the group is for CPU k
abbrev pub is_for : ℕ → Group → Bool
is_for k g = list_any (λ x. x.0 == k) g

-- whether a transaction of the group for a CPU below k names a thread
abbrev pub is_named_below : ℕ → ℕ → Group → Bool
is_named_below k t g = list_any (λ x. nat_lt x.0 k && x.1.tid == t) g

-- what would become of a transaction by itself. One that would be placed fails if a transaction for a lower CPU names its thread
abbrev pub own_verdict : Settings → History → Group → ℕ → Stamp → Outcome
own_verdict s h g k b = if is_to_place (verdict s h k b) && is_named_below k b.tid g then outcomes.GroupFailed else verdict s h k b

-- the transactions of these that are marked are those whose threads one of the group for a lower CPU names
abbrev pub AreMarked : ℕ → Group → Group → Type 0
AreMarked marks all [] = Unit {0}
AreMarked marks all (x ∷ g) = (has marks x.0 ≡ is_named_below x.0 x.1.tid all) × AreMarked marks all g

-- what would become of a transaction by itself, by whether it is marked
abbrev pub marked_verdict : Settings → History → ℕ → ℕ → Stamp → Outcome
marked_verdict s h marks k b = if is_to_place (verdict s h k b) && has marks k then outcomes.GroupFailed else verdict s h k b

-- whether each of these would be placed by itself, as one of a group
abbrev pub are_to_place : Settings → History → Group → Group → Bool
are_to_place s h all g = list_all (λ x. is_to_place (own_verdict s h all x.0 x.1)) g

-- the same, by which of them are marked
abbrev pub are_marked_to_place : Settings → History → ℕ → Group → Bool
are_marked_to_place s h marks g = list_all (λ x. is_to_place (marked_verdict s h marks x.0 x.1)) g

-- how many entries the group adds: one for each, and one for each victim
abbrev pub group_entries : History → Group → ℕ
group_entries h [] = 0
group_entries h (x ∷ g) = placing_entries (on h x.0) + group_entries h g

-- whether the group is placed, as far as its messages fit
abbrev pub is_group_placed : Settings → History → Group → Bool
is_group_placed s h g = are_to_place s h g g && not (is_full s h (group_entries h g))

-- of a group that fails: a transaction that would be placed fails with it
abbrev pub or_failed : Outcome → Outcome
or_failed o = if is_to_place o then outcomes.GroupFailed else o

-- what becomes of a transaction of the group, by whether the messages fit
abbrev pub group_outcome : Settings → History → Group → Bool → ℕ → Stamp → Outcome
group_outcome s h g fit k b =
    if are_to_place s h g g then (if is_full s h (group_entries h g) then outcomes.HistoryFull else (if fit then outcomes.Placed else outcomes.Gone)) else or_failed (own_verdict s h g k b)

-- PREEMPTED of the thread on a CPU, if there is one, is posted, or the enclave is torn down in place of that
abbrev pub GivesWay : Room → History → Option Message → Bool → History → Type 0
GivesWay room h None fit h' = (fit ≡ true) × (h' ≡ h)
GivesWay room h (Some m) fit h' = Tells room h (Post m) fit h'

-- one or the other
abbrev pub IfFits : Bool → Type 0 → Type 0 → Type 0
IfFits true more ends = more
IfFits false more ends = ends

-- so are the threads on the CPUs of a group, in order. The first message that does not fit ends that: those before it stay
abbrev pub GiveWay : Room → Settings → Group → History → Bool → History → Type 0
GiveWay room s [] h fit h' = (fit ≡ true) × (h' ≡ h)
GiveWay room s (x ∷ g) h fit h' =
    (first : Bool) × (mid : History) × GivesWay room h (preemption s h x.0) first mid × IfFits first (GiveWay room s g mid fit h') ((fit ≡ false) × (h' ≡ mid))

-- the entries of a group that is placed
abbrev pub placings : Group → List Entry
placings g = map (λ x. placing x.0 x.1) g

-- the group is placed once PREEMPTED of all victims was posted, or it is gone with the enclave
abbrev pub Puts : Room → Settings → History → Group → Bool → History → Type 0
Puts room s h g fit h' = (told : History) × GiveWay room s g h fit told × (h' ≡ told ++ (if fit then placings g else []))

-- or nothing comes of it
abbrev pub PutsIf : Bool → Room → Settings → History → Group → Bool → History → Type 0
PutsIf true room s h g fit h' = Puts room s h g fit h'
PutsIf false room s h g fit h' = (fit ≡ true) × (h' ≡ h)

-- what is returned of a transaction that landed with its group
abbrev pub group_landing : Settings → History → History → ℕ → Stamp → Outcome → Landing
group_landing s h h' k b o = record { cpu = k; tid = b.tid; outcome = o; seen = seq s.first_tseq h b.tid; at = at s.cpus h' b.tid }

-- the slot of CPU k after a group landed: a slot of the group is done, and any other is as it was
abbrev pub done_if : Bool → Stamp → Landing → SlotState
done_if true b l = Done b l.outcome l.at l.seen
done_if false b l = Stamped b

abbrev pub left_of : (ℕ → Stamp → Landing) → Bool → ℕ → SlotState → SlotState
left_of l true k (Stamped b) = done_if b.flags.group b (l k b)
left_of l true k Idle = Idle
left_of l true k (Done b o a n) = Done b o a n
left_of l false k z = z

-- the group of a mask lands, all of it on the history that it finds
pub record LandsGroup (room : Room) (s : Settings) (mask : ℕ) (zs : List SlotState) (h : History) (r : Landings) : Type 0 where
  pub fit : Bool
  pub puts : PutsIf (is_group_placed s h (group_in mask 0 zs)) room s h (group_in mask 0 zs) fit r.history
  pub answers : r.answers ≡ map (λ x. group_landing s h r.history x.0 x.1 (group_outcome s h (group_in mask 0 zs) fit x.0 x.1)) (group_in mask 0 zs)
  pub slots : r.slots ≡ by_cpu (λ k z. left_of (λ c b. group_landing s h r.history c b (group_outcome s h (group_in mask 0 zs) fit c b)) (has mask k) k z) 0 zs

-- a commit: the group lands first, and then the other slots of the mask, one after another. Those of the group are done by then
pub record LandsCommit (room : Room) (s : Settings) (mask : ℕ) (zs : List SlotState) (h : History) (r : Landings) : Type 0 where
  pub group : Landings
  pub first : LandsGroup room s mask zs h group
  pub rest : Landings
  pub others : LandsAll room s mask 0 group.slots group.history rest
  pub whole : r ≡ record { answers = group.answers ++ rest.answers; history = rest.history; slots = rest.slots }

-- what becomes of all of a group together, by whether its messages fit. There is nothing such if one of it would not be placed
abbrev pub together : Settings → History → Group → Bool → Option Outcome
together s h g fit =
    if are_to_place s h g g then Some (if is_full s h (group_entries h g) then outcomes.HistoryFull else (if fit then outcomes.Placed else outcomes.Gone)) else None

-- the group is placed or gone, or nothing comes of it, and this becomes of all of it together
abbrev pub SettlesGroup : Room → Settings → History → Group → Option Outcome → History → Type 0
SettlesGroup room s h g o h' = (fit : Bool) × PutsIf (is_group_placed s h g) room s h g fit h' × (o ≡ together s h g fit)

-- what is returned of a transaction of the group, by the history that the group left and by which are marked
abbrev pub member_landing : Settings → History → ℕ → Option Outcome → ℕ × Stamp → Landing
member_landing s h marks (Some o) x = record { cpu = x.0; tid = x.1.tid; outcome = o; seen = x.1.tseq; at = at s.cpus h x.1.tid }
member_landing s h marks None x = record { cpu = x.0; tid = x.1.tid; outcome = or_failed (marked_verdict s h marks x.0 x.1); seen = seq s.first_tseq h x.1.tid; at = at s.cpus h x.1.tid }

-- the slots of a group are stamped with its transactions
abbrev pub AreStamped : List (List ℕ) → Group → Type 0
AreStamped zs [] = Unit {0}
AreStamped zs (x ∷ g) = (z : List ℕ) × (slice_get zs x.0 ≡ Some z) × (state_in x.0 z ≡ Ok (Stamped x.1)) × AreStamped zs g

-- the slots of a group are done, one after another. Every other slot stays, byte for byte
abbrev pub Finishes : (ℕ × Stamp → Landing) → Group → List (List ℕ) → List (List ℕ) → Type 0
Finishes l [] zs zs' = zs' ≡ zs
Finishes l (x ∷ g) zs zs' = (y : List ℕ) × (state_in x.0 y ≡ Ok (Done x.1 (l x).outcome (l x).at (l x).seen)) × Finishes l g (slice_set zs x.0 y) zs'

-- these transactions in slots of a region land as a group
pub record LandsTogether (room : Room) (s : Settings) (g : Group) (zs : List (List ℕ)) (h : History) (r : LandingsOf (List ℕ)) : Type 0 where
  pub fit : Bool
  pub puts : PutsIf (is_group_placed s h g) room s h g fit r.history
  pub answers : r.answers ≡ map (λ x. group_landing s h r.history x.0 x.1 (group_outcome s h g fit x.0 x.1)) g
  pub slots : Finishes (λ x. group_landing s h r.history x.0 x.1 (group_outcome s h g fit x.0 x.1)) g zs r.slots

-- a commit of a region: the group of the mask lands first, and then the other slots of the mask, the malformed ones with them
pub record CommitsRegion (room : Room) (s : Settings) (mask : ℕ) (zs : List (List ℕ)) (h : History) (r : LandingsOf (List ℕ)) : Type 0 where
  pub group : LandingsOf (List ℕ)
  pub first : LandsTogether room s (group_in mask 0 (told_by 0 zs)) zs h group
  pub rest : LandingsOf (List ℕ)
  pub others : LandsRegion room s mask 0 group.slots group.history rest
  pub whole : r ≡ record { answers = group.answers ++ rest.answers; history = rest.history; slots = rest.slots }
