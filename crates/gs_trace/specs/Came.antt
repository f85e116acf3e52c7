-- What came of an event, as the reply that it is.
use Rattle.gs_journal.specs.Last.{entry_lent}
use Rattle.gs_replies.specs.declared.reply.Reply.{Reply}
use Rattle.gs_replies.specs.declared.reply.Reply.TheVariants as replies
use Rattle.gs_replies.specs.Replies.{reply_of}
use Rattle.gs_trace.specs.declared.came.Came.{Came}
use Rattle.gs_trace.specs.declared.came.Came.TheVariants as came

abbrev pub reply_in : Came → Reply
reply_in (came.Executed what last) = reply_of what (entry_lent last)
reply_in (came.Refused refusal) = replies.Refused refusal
reply_in (came.Drained drained) = replies.Drained drained.now
reply_in (came.Stamped cpu tid flags number) = replies.Stamped number
reply_in (came.Landed landings torn) = replies.Landed landings.now torn
reply_in (came.Decided first choices) = replies.Decided first choices.now
reply_in (came.Replied reply) = reply.now
