-- How transactions land, as legal steps of the kernel.
use Rattle.std.specs.Prelude.{Bool, true, false, ℕ, suc, ◌<◌, ◌≡◌, ◌⊎◌, Option, None, Some, Ok, Err, List, [], ◌∷◌, ◌++◌, length, if◌then◌else◌}
use Rattle.gs_layout.specs.declared.message.Change.TheVariants.{Preempted}
use Rattle.gs_layout.specs.declared.outcome.Outcome.{Outcome}
use Rattle.gs_layout.specs.declared.outcome.Outcome.TheVariants as outcomes
use Rattle.gs_slots.specs.declared.state.SlotState.{SlotState}
use Rattle.gs_slots.specs.declared.state.SlotState.TheVariants.{Idle, Stamped, Done}
use Rattle.gs_slots.specs.declared.state.Stamp.{Stamp}
use Rattle.gs_slots.specs.Reading.{state_in}
use Rattle.gs_slots.specs.State.{Held, refused}
use Rattle.gs_status.specs.Masks.{has}
use Rattle.gs_journal.specs.History.{History, seq, on, at}
use Rattle.gs_kernel.specs.declared.settings.Settings.{Settings}
use Rattle.gs_kernel.specs.declared.landing.Landing.{Landing}
use Rattle.gs_kernel.specs.Kernel.{next_about, preemption}
use Rattle.gs_kernel.specs.Landing.{IsToPlace, verdict, placing}
use Rattle.gs_kernel.specs.declared.command.Command.{Command}
use Rattle.gs_kernel.specs.declared.effect.Effect.{Effect}
use Rattle.gs_kernel.specs.declared.effect.Effect.TheVariants.{Append, Post}
use Rattle.gs_kernel.specs.Legal.{Room, Tells, effect, refusal}

-- what a placing adds: PREEMPTED of the victim, if there is one, and the placing
abbrev pub placement : Settings → History → ℕ → Stamp → Effect
placement s h k b = Append (preemption s h k) (placing k b)

-- whether a verdict is to place
abbrev pub is_to_place : Outcome → Bool
is_to_place outcomes.Placed = true
is_to_place _ = false

-- what becomes of a transaction with this verdict. One that is to be placed is placed, or is gone with the enclave if PREEMPTED of the thread there does not fit. Of any other nothing comes
abbrev pub SettlesIf : Bool → Room → Settings → History → ℕ → Stamp → Outcome → Outcome → History → Type 0
SettlesIf true room s h k b v o h' = (fit : Bool) × (o ≡ (if fit then outcomes.Placed else outcomes.Gone)) × Tells room h (placement s h k b) fit h'
SettlesIf false room s h k b v o h' = (o ≡ v) × (h' ≡ h)

-- what becomes of a transaction with this verdict. If it is to be placed, what that adds is told, and the outcome is placed, or gone if its
-- message does not fit. Else the outcome is the verdict, and the history stays
abbrev pub Settles : Room → Settings → History → ℕ → Stamp → Outcome → Outcome → History → Type 0
Settles room s h k b v o h' = SettlesIf (is_to_place v) room s h k b v o h'

-- what was stamped into the slot of CPU k lands, with this answer
pub record Lands (room : Room) (s : Settings) (h : History) (k : ℕ) (b : Stamp) (l : Landing) (h' : History) : Type 0 where
  pub settles : Settles room s h k b (verdict s h k b) l.outcome h'
  pub values : l ≡ record { cpu = k; tid = b.tid; outcome = l.outcome; seen = seq s.first_tseq h b.tid; at = at s.cpus h' b.tid }

-- the slot of CPU k lands: a stamped one is done then, with what became of its transaction
abbrev pub LandsIn : Room → Settings → History → ℕ → SlotState → Option Landing → SlotState → History → Type 0
LandsIn room s h k (Stamped b) o z h' = (l : Landing) × Lands room s h k b l h' × (o ≡ Some l) × (z ≡ Done b l.outcome l.at l.seen)
LandsIn room s h k Idle o z h' = (o ≡ None) × (z ≡ Idle) × (h' ≡ h)
LandsIn room s h k (Done b p a n) o z h' = (o ≡ None) × (z ≡ Done b p a n) × (h' ≡ h)

-- what is returned of the malformed slot of CPU k: no thread, and no CPU that it is on
abbrev pub malformed_landing : ℕ → Landing
malformed_landing k = record { cpu = k; tid = 0; outcome = outcomes.Malformed; seen = 0; at = None }

-- the slot of CPU k lands, of which this is read before and that after the landing. One with a state lands as the state does. A malformed one is
-- returned as malformed, of which alone is left, and nothing is added to the history
abbrev pub LandsHeld : Room → Settings → History → ℕ → Held → Option Landing → Held → History → Type 0
LandsHeld room s h k (Ok z) o x h' = (z' : SlotState) × LandsIn room s h k z o z' h' × (x ≡ Ok z')
LandsHeld room s h k (Err e) o x h' = (o ≡ Some (malformed_landing k)) × (x ≡ Ok refused) × (h' ≡ h)

-- whether something comes of the landing of a slot, of which this is read
abbrev pub is_to_land : Held → Bool
is_to_land (Ok Idle) = false
is_to_land (Ok (Stamped b)) = true
is_to_land (Ok (Done b o a n)) = false
is_to_land (Err e) = true

-- the slot of CPU k with these bytes lands, and those are left
abbrev pub LandsBytes : Room → Settings → History → ℕ → List ℕ → Option Landing → List ℕ → History → Type 0
LandsBytes room s h k b o b' h' = LandsHeld room s h k (state_in k b) o (state_in k b') h'

-- how a slot lands on a history, with an answer: what slot and what history it leaves
abbrev pub LandsOn : Type 0 → Type 1
LandsOn Z = History → ℕ → Z → Option Landing → Z → History → Type 0

-- what landings return, in order, and what they leave: the history, and their slots
pub record LandingsOf (Z : Type 0) : Type 0 where
  pub answers : List Landing
  pub history : History
  pub slots : List Z

abbrev pub Landings : Type 0
Landings = LandingsOf SlotState

-- an answer, if there is one
abbrev pub listed : Option Landing → List Landing
listed None = []
listed (Some l) = l ∷ []

-- landings, and then others on the history that they left
abbrev pub then_others : {Z : Type 0} → LandingsOf Z → LandingsOf Z → LandingsOf Z
then_others a b = record { answers = a.answers ++ b.answers; history = b.history; slots = a.slots ++ b.slots }

-- a slot lands, or stays if it is not wanted
abbrev pub LandsIfBy : {Z : Type 0} → LandsOn Z → Bool → ℕ → Z → History → LandingsOf Z → Type 0
LandsIfBy L false k z h r = r ≡ record { answers = []; history = h; slots = z ∷ [] }
LandsIfBy L true k z h r = (o : Option Landing) × (z' : _) × L h k z o z' r.history × (r.answers ≡ listed o) × (r.slots ≡ z' ∷ [])

-- the slots of the mask land, in increasing order of CPU from k on, each on the history that the one before left
abbrev pub LandsAllBy : {Z : Type 0} → LandsOn Z → ℕ → ℕ → List Z → History → LandingsOf Z → Type 0
LandsAllBy L mask k [] h r = r ≡ record { answers = []; history = h; slots = [] }
LandsAllBy L mask k (z ∷ zs) h r = (one : LandingsOf _) × (rest : LandingsOf _) × LandsIfBy L (has mask k) k z h one × LandsAllBy L mask (suc k) zs one.history rest × (r ≡ then_others one rest)

-- so land what is stamped in slots that have states
abbrev pub LandsIf : Room → Settings → Bool → ℕ → SlotState → History → Landings → Type 0
LandsIf room s = LandsIfBy (LandsIn room s)

abbrev pub LandsAll : Room → Settings → ℕ → ℕ → List SlotState → History → Landings → Type 0
LandsAll room s = LandsAllBy (LandsIn room s)

-- and the slots of a region, stamped and malformed ones
abbrev pub LandsRegion : Room → Settings → ℕ → ℕ → List (List ℕ) → History → LandingsOf (List ℕ) → Type 0
LandsRegion room s = LandsAllBy (LandsBytes room s)

-- landings add their answers to these, and leave these slots and this history
pub record Adds {Z : Type 0} (R : LandingsOf Z → Type 0) (before after : List Landing) (left : List Z) (h' : History) : Type 0 where
  pub made : LandingsOf Z
  pub lands : R made
  pub answers : after ≡ before ++ made.answers
  pub slots : left ≡ made.slots
  pub history : h' ≡ made.history

-- this is what a command adds that nothing refuses
pub record IsDue (s : Settings) (h : History) (x : Effect) : Type 0 where
  pub command : Command
  pub given : Bool
  pub free : refusal s h given command ≡ None
  pub effect_is : x ≡ effect s h command

-- this is what a transaction adds that is to be placed
pub record IsPlaced (s : Settings) (h : History) (x : Effect) : Type 0 where
  pub cpu : ℕ
  pub stamp : Stamp
  pub below : cpu < s.cpus
  pub ready : IsToPlace s h cpu stamp
  pub effect_is : x ≡ placement s h cpu stamp

-- this is PREEMPTED of the thread on a CPU
pub record MakesWay (s : Settings) (h : History) (x : Effect) : Type 0 where
  pub cpu : ℕ
  pub thread : ℕ
  pub below : cpu < s.cpus
  pub there : on h cpu ≡ Some thread
  pub room : length h < s.history
  pub effect_is : x ≡ Post (next_about s h thread (Preempted cpu))

-- this comes next: by a command that nothing refuses, by a placing, or by a preemption
abbrev pub ComesNext : Settings → History → Effect → Type 0
ComesNext s h x = IsDue s h x ⊎ IsPlaced s h x ⊎ MakesWay s h x
