-- The clause behind each refusal of a command.
use Rattle.std.proofs.Common.{◌≡◌, refl, subst, ℕ, Bool, true, false, not, ◌&&◌, cond, nat_le, length, Option, None, Some}
use Rattle.std.specs.Prelude.{is_none}
use Rattle.std.specs.Option.{is_some}
use Rattle.gs_layout.specs.declared.message.TheConstants.{MOST_TIDS}
use Rattle.gs_layout.specs.declared.facts.Facts.{Facts}
use Rattle.gs_layout.specs.declared.refusal.Refusal.{Refusal}
use Rattle.gs_layout.specs.declared.refusal.Refusal.TheVariants as refusals
use Rattle.gs_journal.specs.History.{History, created, record_in, on, at, active, attaching, generation, taken, torn}
use Rattle.gs_kernel.specs.declared.command.Command.{Command}
use Rattle.gs_kernel.specs.declared.command.Command.TheVariants as commands
use Rattle.gs_kernel.specs.declared.thread_event.ThreadEvent.{ThreadEvent}
use Rattle.gs_kernel.specs.declared.thread_event.ThreadEvent.TheVariants as happens
use Rattle.gs_kernel.specs.declared.settings.Settings.{Settings}
use Rattle.gs_kernel.specs.Attaching.{activate_refusal, begin_refusal, leave_refusal}
use Rattle.gs_kernel.specs.Kernel.{create_refusal, event_refusal, give_refusal, hand_off_refusal, has_agent, is_agent_on, is_bad_mask, is_full, is_last_generation, is_spent, is_spent_there, lives, or_else, take_refusal, thread_refusal, tick_refusal}
use Rattle.gs_kernel.specs.Legal.{most_entries, own_refusal, refusal, standing_refusal}
use Rattle.gs_kernel.specs.Threads.{is_runnable}
use Rattle.gs_reasons.specs.Refused.{BecauseRefused}
use Rattle.gs_reasons.proofs.Verdicts.{not_false, not_true}

-- what holds of each refusal, whichever this may be
abbrev Entailed : (Refusal → Type 0) → Option Refusal → Type 0
Entailed P o = (r : Refusal) → o ≡ Some r → P r

nothing : (P : Refusal → Type 0) → Entailed P None
nothing P = λ r e. absurd cc

-- a test that holds makes the refusal that stands beside it, or the next ones are asked
or_later : (P : Refusal → Type 0) (t : Bool) (x : Refusal) (o : Option Refusal) → (t ≡ true → P x) → (t ≡ false → Entailed P o) → Entailed P (cond t (Some x) o)
or_later P true x o here later = λ r e. let same : x ≡ r = cc in subst P same (here refl)
or_later P false x o here later = later refl

unless : (P : Refusal → Type 0) (t : Bool) (x : Refusal) → (t ≡ false → P x) → Entailed P (cond t None (Some x))
unless P true x here = λ r e. absurd cc
unless P false x here = λ r e. let same : x ≡ r = cc in subst P same (here refl)

either : (P : Refusal → Type 0) (a b : Option Refusal) → Entailed P a → Entailed P b → Entailed P (or_else a b)
either P None b here later = later
either P (Some x) b here later = here

none_there : (o : Option ℕ) → is_some o ≡ false → o ≡ None
none_there None e = refl
none_there (Some c) e = absurd cc

none_active : (o : Option (ℕ × ℕ)) → is_none o ≡ true → o ≡ None
none_active None e = refl
none_active (Some a) e = absurd cc

create_because : (s : Settings) (h : History) (given : Bool) (f : Facts) → Entailed (λ r. BecauseRefused r s h given (commands.Create f)) (create_refusal s h f)
unfolding create_refusal
create_because s h given f =
    let P : Refusal → Type 0 = λ r. BecauseRefused r s h given (commands.Create f) in
    or_later P (is_bad_mask s f.mask) refusals.EmptyMask _ (λ q. q) (λ _.
    or_later P (nat_le MOST_TIDS (length (created h))) refusals.TidsSpent None (λ q. q) (λ _. nothing P))

event_because : (s : Settings) (h : History) (given : Bool) (t : ℕ) (e : ThreadEvent) → torn h ≡ false → lives h t ≡ true
    → Entailed (λ r. BecauseRefused r s h given (commands.Thread t e)) (event_refusal s (at s.cpus h t) (is_runnable (record_in h t)) e)
event_because s h given t happens.Block up live = let P : Refusal → Type 0 = λ r. BecauseRefused r s h given (commands.Thread t happens.Block) in unless P (is_some (at s.cpus h t)) refusals.NotRunning (λ q. (up, none_there _ q))
event_because s h given t happens.Wake up live =
    let P : Refusal → Type 0 = λ r. BecauseRefused r s h given (commands.Thread t happens.Wake) in
    or_later P (is_runnable (record_in h t)) refusals.NotBlocked None (λ q. (live, q)) (λ _. nothing P)
event_because s h given t happens.Yield up live = let P : Refusal → Type 0 = λ r. BecauseRefused r s h given (commands.Thread t happens.Yield) in unless P (is_some (at s.cpus h t)) refusals.NotRunning (λ q. (up, none_there _ q))
event_because s h given t happens.Die up live = nothing (λ r. BecauseRefused r s h given (commands.Thread t happens.Die))
event_because s h given t (happens.Affinity m) up live =
    let P : Refusal → Type 0 = λ r. BecauseRefused r s h given (commands.Thread t (happens.Affinity m)) in
    or_later P (is_bad_mask s m) refusals.EmptyMask None (λ q. q) (λ _. nothing P)

thread_because : (s : Settings) (h : History) (given : Bool) (t : ℕ) (e : ThreadEvent) → torn h ≡ false → Entailed (λ r. BecauseRefused r s h given (commands.Thread t e)) (thread_refusal s h t e)
unfolding thread_refusal
thread_because s h given t e up =
    let P : Refusal → Type 0 = λ r. BecauseRefused r s h given (commands.Thread t e) in
    or_later P (not (lives h t)) refusals.NoThread _ (λ q. not_true _ q) (λ live.
    either P (event_refusal s (at s.cpus h t) (is_runnable (record_in h t)) e) _ (event_because s h given t e up (not_false _ live)) (
    or_later P (is_spent s h t) refusals.SeqSpent None (λ q. (not_false _ live, q)) (λ _. nothing P)))

take_because : (P : Refusal → Type 0) (s : Settings) (h : History) (k : ℕ) → (nat_le s.cpus k ≡ true → P refusals.BadCpu) → (is_agent_on k (active h) ≡ true → P refusals.AgentThere)
    → (taken h k ≡ true → P refusals.CpuTaken) → (is_spent_there s h (on h k) ≡ true → P refusals.SeqSpent) → Entailed P (take_refusal s h k)
unfolding take_refusal
take_because P s h k bad agent held spent =
    or_later P (nat_le s.cpus k) refusals.BadCpu _ bad (λ _.
    or_later P (is_agent_on k (active h)) refusals.AgentThere _ agent (λ _.
    or_later P (taken h k) refusals.CpuTaken _ held (λ _.
    or_later P (is_spent_there s h (on h k)) refusals.SeqSpent None spent (λ _. nothing P))))

give_because : (s : Settings) (h : History) (given : Bool) (k : ℕ) → Entailed (λ r. BecauseRefused r s h given (commands.Give k)) (give_refusal s h k)
unfolding give_refusal
give_because s h given k =
    let P : Refusal → Type 0 = λ r. BecauseRefused r s h given (commands.Give k) in
    or_later P (nat_le s.cpus k) refusals.BadCpu _ (λ q. q) (λ _.
    or_later P (not (taken h k)) refusals.NotTaken None (λ q. not_true _ q) (λ _. nothing P))

tick_because : (s : Settings) (h : History) (given : Bool) (k : ℕ) → Entailed (λ r. BecauseRefused r s h given (commands.Tick k)) (tick_refusal s k)
unfolding tick_refusal
tick_because s h given k =
    let P : Refusal → Type 0 = λ r. BecauseRefused r s h given (commands.Tick k) in
    or_later P (nat_le s.cpus k) refusals.BadCpu None (λ q. q) (λ _. nothing P)

hand_off_because : (s : Settings) (h : History) (given : Bool) (k : ℕ) → Entailed (λ r. BecauseRefused r s h given (commands.HandOff k)) (hand_off_refusal s h k)
unfolding hand_off_refusal
hand_off_because s h given k =
    let P : Refusal → Type 0 = λ r. BecauseRefused r s h given (commands.HandOff k) in
    or_later P (is_none (active h)) refusals.NotActive _ (λ q. none_active _ q) (λ _.
    either P (take_refusal s h k) _ (take_because P s h k (λ q. q) (λ q. q) (λ q. q) (λ q. q)) (
    or_later P (is_last_generation (generation h)) refusals.GenSpent None (λ q. q) (λ _. nothing P)))

leave_because : (s : Settings) (h : History) (given : Bool) → Entailed (λ r. BecauseRefused r s h given commands.Leave) (leave_refusal h)
unfolding leave_refusal
leave_because s h given =
    let P : Refusal → Type 0 = λ r. BecauseRefused r s h given commands.Leave in
    or_later P (not (has_agent h)) refusals.NotActive None (λ q. not_true _ q) (λ _. nothing P)

begin_because : (s : Settings) (h : History) (given : Bool) → Entailed (λ r. BecauseRefused r s h given commands.Begin) (begin_refusal h)
unfolding begin_refusal
begin_because s h given =
    let P : Refusal → Type 0 = λ r. BecauseRefused r s h given commands.Begin in
    or_later P (has_agent h) refusals.StillAttached _ (λ q. q) (λ _.
    or_later P (is_last_generation (generation h)) refusals.GenSpent None (λ q. q) (λ _. nothing P))

activate_because : (s : Settings) (h : History) (given : Bool) (k : ℕ) → Entailed (λ r. BecauseRefused r s h given (commands.Activate k)) (activate_refusal s h given k)
unfolding activate_refusal
activate_because s h given k =
    let P : Refusal → Type 0 = λ r. BecauseRefused r s h given (commands.Activate k) in
    or_later P (not (is_some (attaching h) && given)) refusals.NotAttaching _ (λ q. not_true _ q) (λ _. take_because P s h k (λ q. q) (λ q. q) (λ q. q) (λ q. q))

own_because : (s : Settings) (h : History) (given : Bool) (c : Command) → torn h ≡ false → Entailed (λ r. BecauseRefused r s h given c) (own_refusal s h given c)
own_because s h given (commands.Create f) up = create_because s h given f
own_because s h given (commands.Thread t e) up = thread_because s h given t e up
own_because s h given (commands.Take k) up = take_because (λ r. BecauseRefused r s h given (commands.Take k)) s h k (λ q. q) (λ q. q) (λ q. q) (λ q. q)
own_because s h given (commands.Give k) up = give_because s h given k
own_because s h given (commands.Tick k) up = tick_because s h given k
own_because s h given (commands.HandOff k) up = hand_off_because s h given k
own_because s h given commands.Leave up = leave_because s h given
own_because s h given commands.Begin up = begin_because s h given
own_because s h given (commands.Activate k) up = activate_because s h given k

pub because_refused : (s : Settings) (h : History) (given : Bool) (c : Command) (r : Refusal) → refusal s h given c ≡ Some r → BecauseRefused r s h given c
because_refused s h given c r e =
    let P : Refusal → Type 0 = λ r. BecauseRefused r s h given c in
    or_later P (torn h) refusals.Gone (standing_refusal s h given c) (λ q. q) (λ up.
    either P (own_refusal s h given c) _ (own_because s h given c up) (
    or_later P (is_full s h (most_entries c)) refusals.HistoryFull None (λ q. q) (λ _. nothing P))) r e
