-- The entry that explains a refusal of a command, and what it says.
use Rattle.std.specs.Prelude.{Bool, true, false, ℕ, suc, ◌+◌, ◌^◌, ◌<◌, ◌≤◌, ◌≡◌, ◌⊎◌, ⊤, Option, None, Some, List, [], ◌∷◌, ◌++◌, length, slice_get}
use Rattle.gs_layout.specs.declared.message.Message.{Message}
use Rattle.gs_layout.specs.declared.message.TheConstants.{MOST_TIDS}
use Rattle.gs_layout.specs.declared.record.Record.TheVariants.{Absent}
use Rattle.gs_layout.specs.declared.refusal.Refusal.{Refusal}
use Rattle.gs_layout.specs.declared.refusal.Refusal.TheVariants as refusals
use Rattle.gs_journal.specs.declared.entry.Entry.{Entry}
use Rattle.gs_journal.specs.declared.entry.Entry.TheVariants.{Posted}
use Rattle.gs_journal.specs.History.{AtEach, History, created, seq, record_in, on, at, begin_by, ends_run, generation_by, placed_on, role_by, taken_by}
use Rattle.gs_kernel.specs.declared.command.Command.{Command}
use Rattle.gs_kernel.specs.declared.command.Command.TheVariants as commands
use Rattle.gs_kernel.specs.declared.settings.Settings.{Settings}
use Rattle.gs_kernel.specs.declared.settings.TheConstants.{LAST_TSEQ, MOST_GENERATION}
use Rattle.gs_kernel.specs.Legal.{most_entries}
use Rattle.gs_reasons.specs.declared.sign.Sign.{Sign}
use Rattle.gs_reasons.specs.declared.sign.Sign.TheVariants as signs
use Rattle.gs_reasons.specs.Entries.{AtPlace, number_by, runs_by, torn_by}
use Rattle.gs_reasons.specs.Explains.{IsSeated, NeverSaid}
use Rattle.gs_reasons.specs.Named.{OfCpu, OfMask, OfTaken, OfThread}

-- the reason is a sign of this, and of the last entry that is one this holds
pub record SaidLast (reason : Option Sign) (h : History) (g : Sign) (P : Entry → Type 0) : Type 0 where
  pub sign : reason ≡ Some g
  pub last : AtPlace h g P

-- the reason is a sign of this, of which nothing was ever said
pub record Unsaid (reason : Option Sign) (h : History) (g : Sign) : Type 0 where
  pub sign : reason ≡ Some g
  pub never : NeverSaid h g

-- each placing finds its CPU free, as a kernel's do: who was there was taken off before
abbrev pub FindsFree : History → Type 0
FindsFree h = AtEach (λ before e. (k t : ℕ) → placed_on k e ≡ Some t → on before k ≡ None) h

-- from this place on no entry puts the thread on a CPU of an enclave of so many
abbrev pub NotPlacedFrom : ℕ → History → ℕ → ℕ → Type 0
NotPlacedFrom cpus h t from = (i k : ℕ) (e : Entry) → from ≤ i → slice_get h i ≡ Some e → k < cpus → placed_on k e ≡ Some t → ⊥

-- the last entry that took a thread off its CPU, behind which none puts it on one
pub record IsTakenOff (reason : Option Sign) (s : Settings) (h : History) (t : ℕ) : Type 0 where
  pub off : SaidLast reason h (signs.Off t) (λ e. ends_run t e ≡ true)
  pub since : NotPlacedFrom s.cpus h t (suc off.last.place)

-- none ever took it off, and none ever put it on one
pub record IsNeverOn (reason : Option Sign) (s : Settings) (h : History) (t : ℕ) : Type 0 where
  pub unsaid : Unsaid reason h (signs.Off t)
  pub ever : NotPlacedFrom s.cpus h t 0

-- a thread that is on no CPU was last taken off, or never put on one
pub record IsOff (reason : Option Sign) (s : Settings) (h : History) (t : ℕ) : Type 0 where
  pub nowhere : at s.cpus h t ≡ None
  pub by : FindsFree h → IsTakenOff reason s h t ⊎ IsNeverOn reason s h t

-- an entry leaves no agent for a command: it is no role, for a hand-off, and no beginning either, for a leaving
abbrev pub LeavesNoAgent : Command → Entry → Type 0
LeavesNoAgent (commands.HandOff k) e = role_by e ≡ None
LeavesNoAgent commands.Leave e = (role_by e ≡ None) × (begin_by e ≡ None)
LeavesNoAgent _ e = ⊥

-- it makes an agent active, or begins one
abbrev pub MakesAgent : Entry → Type 0
MakesAgent e = ((a : ℕ × ℕ) × (role_by e ≡ Some a)) ⊎ ((g : ℕ) × (begin_by e ≡ Some g))

-- it begins no agent, or one that was not yet given the last page
abbrev pub IsNotReady : Bool → Entry → Type 0
IsNotReady given e = (begin_by e ≡ None) ⊎ ((g : ℕ) × (begin_by e ≡ Some g) × (given ≡ false))

-- it is the last creation of a history
abbrev pub IsLastCreation : History → Entry → Type 0
IsLastCreation h e = (m : Message) × (before : List Message) × (e ≡ Posted m) × (created h ≡ before ++ m ∷ [])

-- somebody was last put on the CPU and is there, and has the last sequence number
pub record IsSpentOn (reason : Option Sign) (s : Settings) (h : History) (k : ℕ) : Type 0 where
  pub who : ℕ
  pub sign : reason ≡ Some (signs.Seat k)
  pub seated : IsSeated h k who
  pub spent : LAST_TSEQ ≤ seq s.first_tseq h who

-- the last message about the thread that a command names has the last sequence number; or so it is with the thread on the CPU that it takes
abbrev pub IsSpent : Option Sign → Settings → History → Command → Type 0
IsSpent reason s h (commands.Thread t e) = SaidLast reason h (signs.About t) (λ e. (n : ℕ) × (number_by t e ≡ Some n) × (LAST_TSEQ ≤ n))
IsSpent reason s h c = OfTaken (λ k. IsSpentOn reason s h k) c

-- what explains a refusal of a command, by whether the last page was given, if the reason is such a sign
abbrev pub ExplainsRefusal : Option Sign → Refusal → Settings → History → Bool → Command → Type 0
ExplainsRefusal w refusals.NoThread s h given c = OfThread (λ t. (Unsaid w h (signs.Death t) × (record_in h t ≡ Absent)) ⊎ SaidLast w h (signs.Death t) (λ e. ⊤)) c
ExplainsRefusal w refusals.NotRunning s h given c = OfThread (λ t. IsOff w s h t) c
ExplainsRefusal w refusals.NotBlocked s h given c = OfThread (λ t. SaidLast w h (signs.Runs t) (λ e. runs_by t e ≡ Some true)) c
ExplainsRefusal w refusals.EmptyMask s h given c = (w ≡ None) × OfMask (λ m. (m ≡ 0) ⊎ (2 ^ s.cpus ≤ m)) c
ExplainsRefusal w refusals.BadCpu s h given c = (w ≡ None) × OfCpu (λ k. s.cpus ≤ k) c
ExplainsRefusal w refusals.AgentThere s h given c = OfTaken (λ k. SaidLast w h signs.Agent (λ e. (g : ℕ) × (role_by e ≡ Some (g, k)))) c
ExplainsRefusal w refusals.CpuTaken s h given c = OfTaken (λ k. SaidLast w h (signs.Held k) (λ e. taken_by k e ≡ Some true)) c
ExplainsRefusal w refusals.NotTaken s h given c = OfCpu (λ k. Unsaid w h (signs.Held k) ⊎ SaidLast w h (signs.Held k) (λ e. taken_by k e ≡ Some false)) c
ExplainsRefusal w refusals.NotActive s h given c = Unsaid w h signs.Agent ⊎ SaidLast w h signs.Agent (λ e. LeavesNoAgent c e)
ExplainsRefusal w refusals.StillAttached s h given c = SaidLast w h signs.Agent (λ e. MakesAgent e)
ExplainsRefusal w refusals.NotAttaching s h given c = Unsaid w h signs.Agent ⊎ SaidLast w h signs.Agent (λ e. IsNotReady given e)
ExplainsRefusal w refusals.SeqSpent s h given c = IsSpent w s h c
ExplainsRefusal w refusals.GenSpent s h given c = SaidLast w h signs.Generation (λ e. generation_by e ≡ Some MOST_GENERATION)
ExplainsRefusal w refusals.TidsSpent s h given c = (MOST_TIDS ≤ length (created h)) × SaidLast w h signs.Created (λ e. IsLastCreation h e)
ExplainsRefusal w refusals.HistoryFull s h given c = (w ≡ None) × (s.history < length h + most_entries c)
ExplainsRefusal w refusals.SlotOpen s h given c = ⊥
ExplainsRefusal w refusals.NoSuchTransaction s h given c = ⊥
ExplainsRefusal w refusals.Gone s h given c = SaidLast w h signs.TornDown (λ e. torn_by e ≡ Some true)
ExplainsRefusal w refusals.OutOfMemory s h given c = ⊥
