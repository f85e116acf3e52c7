-- How the calls are kept. What the kernel was told, and did, follows from the journal, and is kept nowhere else.
use Rattle.std.specs.Prelude.{ℕ, ◌≤◌, ◌<◌, ◌-◌, Bool, true, false, Ok, List, length, map, take, get_or, All}
use Rattle.gs_layout.specs.declared.message.Change.{Change}
use Rattle.gs_layout.specs.declared.message.Change.TheVariants.{Created, Blocked, Wakeup, Preempted, Yield, Dead, Affinity}
use Rattle.gs_layout.specs.declared.message.Message.{Message}
use Rattle.gs_layout.specs.declared.message.Message.TheVariants.{Thread, TimerTick}
use Rattle.gs_journal.specs.declared.entry.Entry.{Entry}
use Rattle.gs_journal.specs.declared.entry.Entry.TheVariants.{Posted, Placed, Role, Begin, Left, Taken, Given, Torn}
use Rattle.gs_journal.specs.History.{History}
use Rattle.gs_kernel.specs.declared.command.Command.{Command}
use Rattle.gs_kernel.specs.declared.command.Command.TheVariants as told
use Rattle.gs_kernel.specs.declared.thread_event.ThreadEvent.TheVariants as events
use Rattle.gs_kernel.specs.declared.executed.Executed.{Executed}
use Rattle.gs_kernel.specs.Kernel.{last_entry}
use Rattle.gs_replies.specs.declared.reply.Reply.TheVariants as replies
use Rattle.gs_replies.specs.Replies.{reply_of}
use Rattle.gs_runner.specs.declared.command.Command.TheVariants as commands
use Rattle.gs_runner.specs.declared.call.Call.{Call}
use Rattle.gs_runner.specs.declared.call.Called.TheVariants.{Served}
use Rattle.gs_runner.specs.declared.kept.Kept.{Kept}
use Rattle.gs_runner.specs.declared.kept.Kept.TheVariants as kept

-- whether a command follows from the last entry that it adds: all but an activation do, whose entry is one of a hand-off too
abbrev pub is_told_by_entry : Command → Bool
is_told_by_entry (told.Activate c) = false
is_told_by_entry _ = true

-- the command whose last message has this change. None ends in a preemption
abbrev pub command_by_change : ℕ → Change → Command
command_by_change t (Created f) = told.Create f
command_by_change t (Blocked c) = told.Thread t events.Block
command_by_change t Wakeup = told.Thread t events.Wake
command_by_change t (Preempted c) = told.Leave
command_by_change t (Yield c) = told.Thread t events.Yield
command_by_change t (Dead c) = told.Thread t events.Die
command_by_change t (Affinity c off m) = told.Thread t (events.Affinity m)

abbrev pub command_by_message : Message → Command
command_by_message (Thread t n c) = command_by_change t c
command_by_message (TimerTick c) = told.Tick c

-- the command, but for an activation, whose last entry is this one. None ends in a placing or a tear-down
abbrev pub command_by : Entry → Command
command_by (Posted m) = command_by_message m
command_by (Placed t n c g) = told.Leave
command_by (Role g c) = told.HandOff c
command_by (Begin g) = told.Begin
command_by Left = told.Leave
command_by (Taken c) = told.Take c
command_by (Given c) = told.Give c
command_by Torn = told.Leave

-- the call that told the kernel this, when the journal had `at` entries and then `end`
abbrev pub told_call : Command → Executed → Entry → ℕ → ℕ → Call
told_call c x last at end = record { called = Served (commands.Kernel c); at = at; entries = end - at; reply = reply_of (Ok x) last }

-- the last of so many entries
abbrev pub entry_before : History → ℕ → Entry
entry_before h end = last_entry (take end h)

-- the call that the kernel was told what this entry says
abbrev pub done_call : Entry → ℕ → ℕ → Call
done_call e at end = record { called = Served (commands.Kernel (command_by e)); at = at; entries = end - at; reply = replies.Done e }

-- a call that is none
abbrev pub no_call : Call
no_call = record { called = Served commands.Crash; at = 0; entries = 0; reply = replies.Torn }

-- the call that is kept so, beside these others
abbrev pub call_kept : History → List Call → Kept → Call
call_kept h others (kept.Told at end) = done_call (entry_before h end) at end
call_kept h others (kept.Other k) = get_or others k no_call

-- all calls that are kept so
abbrev pub calls_kept : History → List Call → List Kept → List Call
calls_kept h others ks = map (call_kept h others) ks

-- so many entries are there, and the call added the last of them, or so many others
abbrev pub IsWithin : ℕ → ℕ → Kept → Type 0
IsWithin n m (kept.Told at end) = (at ≤ end) × (end ≤ n)
IsWithin n m (kept.Other k) = k < m

abbrev pub AllWithin : ℕ → ℕ → List Kept → Type 0
AllWithin n m ks = All (IsWithin n m) ks

-- how many entries the journal had before the call that is kept so
abbrev pub kept_at : List Call → Kept → ℕ
kept_at others (kept.Told at end) = at
kept_at others (kept.Other k) = (get_or others k no_call).at

-- the first so many of these calls were made when the journal had fewer entries
abbrev pub AreBefore : List Call → ℕ → List Kept → ℕ → Type 0
AreBefore others at ks n = (n ≤ length ks) × All (λ k. kept_at others k < at) (take n ks)
