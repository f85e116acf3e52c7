-- Which replies say that memory ran out.
use Rattle.std.specs.Prelude.{Bool, true, false, Option, Some}
use Rattle.gs_layout.specs.declared.refusal.Refusal.TheVariants.{OutOfMemory}
use Rattle.gs_agent.specs.declared.drained.Stop.{Stop}
use Rattle.gs_agent.specs.declared.drained.Stop.TheVariants.{Memory}
use Rattle.gs_replies.specs.declared.reply.Reply.{Reply}
use Rattle.gs_replies.specs.declared.reply.Reply.TheVariants.{Refused, Drained}

abbrev pub is_memory : Option Stop → Bool
is_memory (Some Memory) = true
is_memory _ = false

-- whether a reply says that memory ran out
abbrev pub wants_memory : Reply → Bool
wants_memory (Refused OutOfMemory) = true
wants_memory (Drained d) = is_memory d.stop
wants_memory _ = false
