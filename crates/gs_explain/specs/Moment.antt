-- What is at hand about an event that happened.
use Rattle.std.specs.Prelude.{ℕ, ◌+◌, Option, None, Some, Ok, List, length, map, slice_get}
use Rattle.gs_journal.specs.declared.entry.Entry.{Entry}
use Rattle.gs_journal.specs.History.{History, posted}
use Rattle.gs_layout.specs.Spelling.{round_up}
use Rattle.gs_layout.specs.declared.wire.TheConstants.{AFFINITY_LEN, HEADER_LEN, NAME_AT}
use Rattle.gs_kernel.specs.declared.command.Command.TheVariants as commands
use Rattle.gs_kernel.specs.declared.thread_event.ThreadEvent.TheVariants.{Affinity}
use Rattle.gs_kernel.specs.declared.settings.Settings.{Settings}
use Rattle.gs_slots.specs.Reading.{states_in}
use Rattle.gs_slots.specs.State.{Held}
use Rattle.gs_ring.specs.Places.{free_after, need, written}
use Rattle.gs_ring.specs.RingState.{RingState, end, free}
use Rattle.gs_core.specs.declared.event.Event.{Event}
use Rattle.gs_core.specs.declared.event.Event.TheVariants as events
use Rattle.gs_core.specs.declared.transaction.Transaction.{Transaction}
use Rattle.gs_core.specs.Machine.{State, planned}
use Rattle.gs_sentences.specs.Told.{Cause}
use Rattle.gs_sentences.specs.declared.landed.Overflow.{Overflow}
use Rattle.gs_explain.specs.declared.moment.Scene.{Scene}
use Rattle.gs_trace.specs.Noted.{Noted}

-- an event without the policy that it may name: no sentence tells of that
abbrev pub bare : {A : Type 0} → Event A → Event (Unit {0})
bare e = planned (λ _. tt) e

-- the lines that were noted, this event's too, the event, and the machine that it left, with what did not fit if it tore that down
pub record Moment : Type 0 where
  pub lines : List ℕ
  pub stamped : List ℕ
  pub page : Option ℕ
  pub event : Event (Unit {0})
  pub history : History
  pub transactions : List Transaction
  pub slots : List Held
  pub settings : Settings
  pub overflow : Overflow

-- how many bytes the message of an event has. That of a commit and of a late landing is PREEMPTED of a victim
abbrev pub size_of : Event (Unit {0}) → ℕ
size_of (events.Kernel (commands.Create f)) = round_up (NAME_AT + length f.name)
size_of (events.Kernel (commands.Thread t (Affinity m))) = AFFINITY_LEN
size_of _ = HEADER_LEN

-- what that needs behind all that was posted, and what is free
abbrev pub overflow_of : Event (Unit {0}) → State → Overflow
overflow_of e m = record { needs = need m.ring (written m.ring (posted m.history)) (size_of e); free = free_after m.ring (posted m.history) m.consumed }

-- the same, by the ring
abbrev pub overflow_in : Event (Unit {0}) → RingState → Overflow
overflow_in e r = record { needs = need r.capacity (end r) (size_of e); free = free r }

abbrev pub moment_with : Noted → Event (Unit {0}) → State → Moment
moment_with n e m =
    record {
      lines = n.lines;
      stamped = n.stamped;
      page = n.page;
      event = e;
      history = m.history;
      transactions = m.transactions;
      slots = map Ok m.slots;
      settings = m.settings;
      overflow = overflow_of e m;
    }

-- the same of an event that may name a policy
abbrev pub moment : {A : Type 0} → Noted → Event A → State → Moment
moment n e m = moment_with n (bare e) m

-- an entry and the line that added it
abbrev pub caused : ℕ → Option ℕ → Option Entry → Option Cause
caused i (Some line) (Some e) = Some (record { line = line; place = i; entry = e })
caused i _ _ = None

-- the entry at a place, if there is one
abbrev pub cause_at : Moment → Option ℕ → Option Cause
cause_at x None = None
cause_at x (Some i) = caused i (slice_get x.lines i) (slice_get x.history i)

-- what is lent of it
abbrev pub moment_of : Scene → Moment
moment_of s =
    record {
      lines = s.noted.now.entries.items;
      stamped = s.noted.now.stamped.items;
      page = s.noted.now.page;
      event = s.event.now;
      history = s.journal.now.entries;
      transactions = s.transactions.now;
      slots = states_in 0 s.region.now;
      settings = s.kernel.now.settings;
      overflow = overflow_in s.event.now s.kernel.now.poster;
    }
