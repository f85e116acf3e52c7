-- When a receipt's call stands in a list of calls.
use Rattle.std.specs.Prelude.{◌≡◌, Bool, true, false, ℕ, Some, List, slice_get}
use Rattle.gs_journal.specs.History.{History}
use Rattle.gs_replies.specs.declared.reply.Reply.{Reply}
use Rattle.gs_replies.specs.declared.reply.Reply.TheVariants as replies
use Rattle.gs_runner.specs.declared.command.Command.{Command}
use Rattle.gs_runner.specs.declared.call.Call.{Call}
use Rattle.gs_runner.specs.declared.call.Called.{Called}
use Rattle.gs_runner.specs.declared.call.Called.TheVariants.{Served, Committed}
use Rattle.gs_runner.specs.declared.call.Receipt.{Receipt}

-- the call that has this command, and the receipt's place, count of entries and reply
abbrev pub call_of : Command → Receipt → Call
call_of c r = record { called = Served c; at = r.at; entries = r.entries; reply = r.reply }

-- it stands at some place
abbrev pub Stands : List Call → Command → Receipt → Type 0
Stands calls c r = (k : ℕ) × (slice_get calls k ≡ Some (call_of c r))

-- whether a reply is one that a command of a locked enclave has
abbrev pub is_command_reply : Reply → Bool
is_command_reply (replies.Refused f) = true
is_command_reply replies.Torn = true
is_command_reply (replies.Done e) = true
is_command_reply replies.Crashed = true
is_command_reply (replies.Page count next bytes) = true
is_command_reply (replies.Landed ls down) = true
is_command_reply _ = false

abbrev pub is_answered : Called → Reply → Bool
is_answered (Served c) r = is_command_reply r
is_answered (Committed xs) r = true

-- whether a call that has a command has such a reply
abbrev pub answers_command : Call → Bool
answers_command c = is_answered c.called c.reply

-- a search of the calls of a journal for one receipt after another, the last of which was at this place
pub record SearchOf : Type 0 where
  pub entries : History
  pub calls : List Call
  pub at : ℕ
