-- What stands behind each refusal of a command, and of what its reason is.
use Rattle.std.specs.Prelude.{Bool, true, false, ◌&&◌, ◌≡◌, nat_le, Option, None, Some, length, is_some}
use Rattle.gs_layout.specs.declared.message.TheConstants.{MOST_TIDS}
use Rattle.gs_layout.specs.declared.refusal.Refusal.{Refusal}
use Rattle.gs_layout.specs.declared.refusal.Refusal.TheVariants as refusals
use Rattle.gs_journal.specs.History.{History, created, record_in, on, at, active, attaching, generation, taken, torn}
use Rattle.gs_kernel.specs.declared.command.Command.{Command}
use Rattle.gs_kernel.specs.declared.command.Command.TheVariants as commands
use Rattle.gs_kernel.specs.declared.settings.Settings.{Settings}
use Rattle.gs_kernel.specs.Kernel.{has_agent, is_agent_on, is_bad_mask, is_full, is_last_generation, is_spent, is_spent_there, lives}
use Rattle.gs_kernel.specs.Legal.{most_entries}
use Rattle.gs_kernel.specs.Threads.{is_runnable}
use Rattle.gs_reasons.specs.declared.sign.Sign.{Sign}
use Rattle.gs_reasons.specs.declared.sign.Sign.TheVariants as signs
use Rattle.gs_reasons.specs.Named.{OfCpu, OfMask, OfTaken, OfThread, cpu_by, tid_by}

-- of what the reason is that sequence numbers are spent: the thread's, or those of the one on the CPU
abbrev pub spent_by : Command → Sign
spent_by (commands.Thread t e) = signs.About t
spent_by c = signs.Seat (cpu_by c)

-- of what the reason is that a command is refused
abbrev pub sign_of_refusal : Command → Refusal → Option Sign
sign_of_refusal c refusals.NoThread = Some (signs.Death (tid_by c))
sign_of_refusal c refusals.NotRunning = Some (signs.Off (tid_by c))
sign_of_refusal c refusals.NotBlocked = Some (signs.Runs (tid_by c))
sign_of_refusal c refusals.EmptyMask = None
sign_of_refusal c refusals.BadCpu = None
sign_of_refusal c refusals.AgentThere = Some signs.Agent
sign_of_refusal c refusals.CpuTaken = Some (signs.Held (cpu_by c))
sign_of_refusal c refusals.NotTaken = Some (signs.Held (cpu_by c))
sign_of_refusal c refusals.NotActive = Some signs.Agent
sign_of_refusal c refusals.StillAttached = Some signs.Agent
sign_of_refusal c refusals.NotAttaching = Some signs.Agent
sign_of_refusal c refusals.SeqSpent = Some (spent_by c)
sign_of_refusal c refusals.GenSpent = Some signs.Generation
sign_of_refusal c refusals.TidsSpent = Some signs.Created
sign_of_refusal c refusals.HistoryFull = None
sign_of_refusal c refusals.SlotOpen = None
sign_of_refusal c refusals.NoSuchTransaction = None
sign_of_refusal c refusals.Gone = Some signs.TornDown
sign_of_refusal c refusals.OutOfMemory = None

-- there is no agent for a command: none is active, of a hand-off, and none attaches either, of a leaving
abbrev pub LacksAgent : History → Command → Type 0
LacksAgent h (commands.HandOff k) = active h ≡ None
LacksAgent h commands.Leave = has_agent h ≡ false
LacksAgent h _ = ⊥

-- the thread that a command names lives, and its numbers are spent; or those of the thread on the CPU that it takes are
abbrev pub Spends : Settings → History → Command → Type 0
Spends s h (commands.Thread t e) = (lives h t ≡ true) × (is_spent s h t ≡ true)
Spends s h c = OfTaken (λ k. is_spent_there s h (on h k) ≡ true) c

-- the clause that makes a refusal of a command
abbrev pub BecauseRefused : Refusal → Settings → History → Bool → Command → Type 0
BecauseRefused refusals.NoThread s h given c = OfThread (λ t. lives h t ≡ false) c
BecauseRefused refusals.NotRunning s h given c = OfThread (λ t. (torn h ≡ false) × (at s.cpus h t ≡ None)) c
BecauseRefused refusals.NotBlocked s h given c = OfThread (λ t. (lives h t ≡ true) × (is_runnable (record_in h t) ≡ true)) c
BecauseRefused refusals.EmptyMask s h given c = OfMask (λ m. is_bad_mask s m ≡ true) c
BecauseRefused refusals.BadCpu s h given c = OfCpu (λ k. nat_le s.cpus k ≡ true) c
BecauseRefused refusals.AgentThere s h given c = OfTaken (λ k. is_agent_on k (active h) ≡ true) c
BecauseRefused refusals.CpuTaken s h given c = OfTaken (λ k. taken h k ≡ true) c
BecauseRefused refusals.NotTaken s h given c = OfCpu (λ k. taken h k ≡ false) c
BecauseRefused refusals.NotActive s h given c = LacksAgent h c
BecauseRefused refusals.StillAttached s h given c = has_agent h ≡ true
BecauseRefused refusals.NotAttaching s h given c = (is_some (attaching h) && given) ≡ false
BecauseRefused refusals.SeqSpent s h given c = Spends s h c
BecauseRefused refusals.GenSpent s h given c = is_last_generation (generation h) ≡ true
BecauseRefused refusals.TidsSpent s h given c = nat_le MOST_TIDS (length (created h)) ≡ true
BecauseRefused refusals.HistoryFull s h given c = is_full s h (most_entries c) ≡ true
BecauseRefused refusals.SlotOpen s h given c = ⊥
BecauseRefused refusals.NoSuchTransaction s h given c = ⊥
BecauseRefused refusals.Gone s h given c = torn h ≡ true
BecauseRefused refusals.OutOfMemory s h given c = ⊥
