-- What a thread's messages make of it.
use Rattle.std.specs.Prelude.{Bool, true, false, Option, None, Some, List, if◌then◌else◌}
use Rattle.std.specs.Prelude.{ℕ}
use Rattle.std.specs.List.{list_any}
use Rattle.gs_layout.specs.declared.facts.Facts.{Facts}
use Rattle.gs_layout.specs.declared.message.Change.{Change}
use Rattle.gs_layout.specs.declared.message.Change.TheVariants.{Created, Blocked, Wakeup, Affinity}
use Rattle.gs_layout.specs.declared.message.Message.{Message}
use Rattle.gs_layout.specs.declared.message.Message.TheVariants.{Thread, TimerTick}
use Rattle.gs_layout.specs.declared.record.Record.{Record}
use Rattle.gs_layout.specs.declared.record.Record.TheVariants as records
use Rattle.gs_layout.specs.Message.{is_death}
use Rattle.gs_journal.specs.Standing.{latest}

abbrev pub starts_by : {A : Type 0} → (Change → Option A) → Message → Option A
starts_by f (Thread t s c) = f c
starts_by f (TimerTick c) = None

-- the facts that a creation sets
abbrev pub created_by : Change → Option Facts
created_by (Created f) = Some f
created_by _ = None

-- what a change says of whether the thread may run
abbrev pub runnable_by : Change → Option Bool
runnable_by (Created f) = Some f.runnable
runnable_by (Blocked c) = Some false
runnable_by Wakeup = Some true
runnable_by _ = None

-- what a change says of the mask
abbrev pub mask_by : Change → Option ℕ
mask_by (Created f) = Some f.mask
mask_by (Affinity c off m) = Some m
mask_by _ = None

abbrev pub or_given : {A : Type 0} → Option A → A → A
or_given None a = a
or_given (Some x) a = x

-- class and name of the creation, with what was last said of running and of the mask
abbrev pub live_of : Option Facts → Option Bool → Option ℕ → Record
live_of None r m = records.Absent
live_of (Some f) r m = records.Live (record { runnable = or_given r f.runnable; mask = or_given m f.mask; class = f.class; name = f.name })

-- the record of a thread with these messages. It is absent if it has none, and dead if a death is among them. Else it is runnable by the last
-- creation, block or wake-up, with the mask of the last creation or affinity. Its class and name are the creation's
unfoldable pub record_of : List Message → Record
record_of ms =
    if list_any is_death ms
    then records.Dead
    else live_of (latest (starts_by created_by) ms) (latest (starts_by runnable_by) ms) (latest (starts_by mask_by) ms)
