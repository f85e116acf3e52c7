-- The row of a thread, and what a message makes of it.
use Rattle.std.specs.Prelude.{Bool, true, false, ℕ, ◌+◌, Option, None, if◌then◌else◌}
use Rattle.gs_layout.specs.declared.facts.Facts.{Facts}
use Rattle.gs_layout.specs.declared.message.Message.{Message}
use Rattle.gs_layout.specs.declared.message.Message.TheVariants.{Thread, TimerTick}
use Rattle.gs_layout.specs.declared.record.Record.{Record}
use Rattle.gs_layout.specs.declared.record.Record.TheVariants.{Live}
use Rattle.gs_layout.specs.Message.{takes_off_cpu}
use Rattle.gs_layout.specs.Record.{after}
use Rattle.gs_threads.specs.declared.row.ThreadRow.{ThreadRow}

abbrev pub is_live : Record → Bool
is_live (Live f) = true
is_live _ = false

-- the row of a thread that was just created: its first number, and no CPU
abbrev pub new_row : ℕ → Facts → ThreadRow
new_row first f = record { «record» = Live f; tseq = first + 1; cpu = None }

-- the row after a message about the thread: its record, the message's number, and no CPU if the message takes the thread off
abbrev pub row_after : ThreadRow → Message → ThreadRow
row_after row (TimerTick c) = row
row_after row (Thread t s c) =
    record {
      «record» = after row.record (Thread t s c);
      tseq = s;
      cpu = if takes_off_cpu c then None else row.cpu;
    }

-- the row of a thread that was put on a CPU, or taken off
abbrev pub row_placed : ThreadRow → Option ℕ → ThreadRow
row_placed row cpu = record row { cpu = cpu }
