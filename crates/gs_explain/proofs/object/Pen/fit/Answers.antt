use Rattle.gs_explain.proofs.Quoting.{utf8_front}
use Rattle.gs_explain.proofs.object.Pen.fit.Goals as goal

pub fit_short-requires-clause-reply : goal.fit_short-requires-clause-reply
fit_short-requires-clause-reply c = utf8_front c.args.lines.now c.in-Some.reply.now c.in-Some.ensures.line c.requires.lines
