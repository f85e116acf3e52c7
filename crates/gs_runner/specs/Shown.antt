-- A call as it is shown.
use Rattle.gs_replies.specs.declared.reply.Reply.TheVariants.{Done}
use Rattle.gs_runner.specs.declared.command.Command.TheVariants.{Kernel}
use Rattle.gs_runner.specs.declared.call.Call.{Call}
use Rattle.gs_runner.specs.declared.call.Called.TheVariants.{Served}
use Rattle.gs_runner.specs.declared.calls.CallRef.{CallRef}
use Rattle.gs_runner.specs.declared.calls.CallRef.TheVariants.{Told, Other}

-- the call that is shown so
abbrev pub shown_call : CallRef → Call
shown_call (Told c at n last) = record { called = Served (Kernel c); at = at; entries = n; reply = Done last }
shown_call (Other c) = c.now
