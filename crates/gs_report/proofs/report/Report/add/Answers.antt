use Rattle.gs_report.proofs.Reported.{reports_on_more}
use Rattle.gs_report.proofs.report.Report.add.Goals as goal

pub returns : goal.returns
returns c = reports_on_more c.args.self.now (record { counts = c.in-Some.counts; text = c.write_reply.new.out }) c.args.reply.now c.in-Some.ensures c.in_ok-write_reply.ensures
