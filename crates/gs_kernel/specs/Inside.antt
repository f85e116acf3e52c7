-- How the kernel keeps what it has.
use Rattle.std.specs.Prelude.{Bool, true, ℕ, ◌<◌, ◌≤◌, ◌≡◌, Option, None, Some, List, [], ◌∷◌, ◌++◌, length, slice_get, slice_set, if◌then◌else◌, unwrap_or}
use Rattle.gs_layout.specs.declared.facts.Facts.{Facts}
use Rattle.gs_layout.specs.declared.message.Change.{Change}
use Rattle.gs_layout.specs.declared.message.Change.TheVariants.{Created}
use Rattle.gs_layout.specs.declared.message.TheConstants.{MOST_TIDS}
use Rattle.gs_layout.specs.declared.message.Message.{Message}
use Rattle.gs_layout.specs.declared.message.Message.TheVariants.{Thread, TimerTick}
use Rattle.gs_layout.specs.Message.{takes_off_cpu}
use Rattle.gs_layout.specs.Spelling.{cpu_of_change}
use Rattle.gs_journal.specs.declared.entry.Entry.{Entry}
use Rattle.gs_journal.specs.declared.entry.Entry.TheVariants.{Posted, Placed, Role, Begin, Left, Taken, Given, Torn}
use Rattle.gs_threads.specs.declared.row.ThreadRow.{ThreadRow}
use Rattle.gs_threads.specs.Rows.{new_row}
use Rattle.gs_threads.specs.Table.{rows_after, rows_placed}
use Rattle.gs_status.specs.Masks.{has}
use Rattle.gs_status.specs.declared.mask.TheConstants.{MOST_CPUS}
use Rattle.gs_journal.specs.History.{History, posted, on, record_in, active, attaching, generation, taken, taken_by, torn}
use Rattle.gs_journal.specs.JournalState.{JournalState}
use Rattle.gs_threads.specs.Table.{TableState}
use Rattle.gs_threads.specs.Mirrors.{Mirrors}
use Rattle.gs_kernel.specs.declared.settings.Settings.{Settings}
use Rattle.gs_kernel.specs.declared.agents.Agents.{Agents}
use Rattle.gs_kernel.specs.declared.effect.Effect.{Effect}
use Rattle.gs_kernel.specs.declared.effect.Effect.TheVariants.{Post, Append}
use Rattle.gs_kernel.specs.Settings.{IsInRange}
use Rattle.gs_kernel.specs.Threads.{HasMask, may_be_on}

-- the active agent, the one that attaches, and the generation that was given last, are the history's
pub record AgentsAre (a : Agents) (h : History) : Type 0 where
  pub active : a.active ≡ active h
  pub attaching : a.attaching ≡ attaching h
  pub generation : generation h ≡ Some a.generation

-- The rows of threads mirror the history. There is a seat for each CPU, with the thread that is on it, which may run there. The mask has the CPUs
-- that the other class holds. Each thread that lives has a CPU in its mask. The agents are the history's, and so is whether the enclave was torn
-- down.
pub record IsKept (s : Settings) (h : History) (t : TableState) (running : List (Option ℕ)) (held : ℕ) (a : Agents) (down : Bool) : Type 0 where
  pub rows : Mirrors s.first_tseq h t.rows
  pub first : t.first_tseq ≡ s.first_tseq
  pub few : length t.rows ≤ MOST_TIDS
  pub count : length running ≡ s.cpus
  pub runs : (c : ℕ) → c < s.cpus → slice_get running c ≡ Some (on h c)
  pub below : (t c : ℕ) → on h c ≡ Some t → c < s.cpus
  pub allowed : (t c : ℕ) → on h c ≡ Some t → may_be_on c (record_in h t) ≡ true
  pub held_by_other : (c : ℕ) → has held c ≡ taken h c
  pub masked : (t : ℕ) → HasMask (record_in h t)
  pub agents : AgentsAre a h
  pub down_when_torn : down ≡ torn h

-- the facts of the thread that a message creates, if it does
abbrev pub created_in : Message → Option Facts
created_in (Thread t n (Created f)) = Some f
created_in _ = None

-- the CPU that a change takes its thread off, if it does
abbrev pub left_in : Change → Option ℕ
left_in c = if takes_off_cpu c then cpu_of_change c else None

abbrev pub left_by : Message → Option ℕ
left_by (TimerTick c) = None
left_by (Thread t n c) = left_in c

-- the seats once the thread on this CPU, if there is one, is off it
abbrev pub freed : List (Option ℕ) → Option ℕ → List (Option ℕ)
freed running None = running
freed running (Some c) = slice_set running c None

-- the entry behind the message of a step, if there is one
abbrev pub behind : Effect → Option Entry
behind (Post m) = None
behind (Append victim e) = Some e

-- what a message adds, if there is one, and what an entry adds behind it
abbrev pub listed_message : Option Message → List Entry
listed_message None = []
listed_message (Some m) = Posted m ∷ []

abbrev pub listed_entry : Option Entry → List Entry
listed_entry None = []
listed_entry (Some e) = e ∷ []

-- the rows and the seats after a message, if there is one
abbrev pub rows_with : ℕ → List ThreadRow → Message → Option Facts → List ThreadRow
rows_with first rows m None = rows_after rows m
rows_with first rows m (Some f) = rows ++ new_row first f ∷ []

abbrev pub rows_told : ℕ → List ThreadRow → Option Message → List ThreadRow
rows_told first rows None = rows
rows_told first rows (Some m) = rows_with first rows m (created_in m)

abbrev pub seats_told : List (Option ℕ) → Option Message → List (Option ℕ)
seats_told running None = running
seats_told running (Some m) = freed running (left_by m)

-- and after an entry, if there is one
abbrev pub rows_seated : List ThreadRow → Option Entry → List ThreadRow
rows_seated rows (Some (Placed t q c g)) = rows_placed rows t (Some c)
rows_seated rows _ = rows

abbrev pub seats_seated : List (Option ℕ) → Option Entry → List (Option ℕ)
seats_seated running (Some (Placed t q c g)) = slice_set running c (Some t)
seats_seated running _ = running

abbrev pub SeatsBelow : ℕ → Entry → Type 0
SeatsBelow n (Placed t q c g) = c < n
SeatsBelow n _ = Unit {0}

-- whether the other class holds a CPU after an entry, if there is one
abbrev pub held_by : Option Entry → ℕ → Bool → Bool
held_by None c held = held
held_by (Some e) c held = unwrap_or (taken_by c e) held

-- no agent is active, and none attaches
abbrev pub gone : Agents → Agents
gone a = record { active = None; attaching = None; generation = a.generation }

-- the agents after an entry, if there is one
abbrev pub agents_by : Option Entry → Agents → Agents
agents_by (Some (Role g c)) a = record { active = Some (g, c); attaching = None; generation = g }
agents_by (Some (Begin g)) a = record { active = None; attaching = Some g; generation = g }
agents_by (Some Left) a = gone a
agents_by (Some Torn) a = gone a
agents_by _ a = a

-- the CPU that an entry says to be held or not, if it does, is one that there may be
abbrev pub HoldsNear : Entry → Type 0
HoldsNear (Taken c) = c < MOST_CPUS
HoldsNear (Given c) = c < MOST_CPUS
HoldsNear _ = Unit {0}

-- what was sent to the ring is what was posted
pub record IsKernel (sent : List Message → Type 0) (s : Settings) (j : JournalState) (t : TableState) (running : List (Option ℕ)) (held : ℕ) (a : Agents) (down : Bool) : Type 0 where
  pub in_range : IsInRange s
  pub limit : j.limit ≡ s.history
  pub first : j.first_tseq ≡ s.first_tseq
  pub told : sent (posted j.entries)
  pub kept : IsKept s j.entries t running held a down
