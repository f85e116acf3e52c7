use Rattle.gs_runner.proofs.Keeping.{executed_follows, executed_quiet}
use Rattle.gs_runner.proofs.Tellings.{told_executed}
use Rattle.gs_runner.proofs.carry.execute.Goals as goal

pub returns-clause-told : goal.returns-clause-told
returns-clause-told c = told_executed c.args.kernel.now c.execute.new.self c.args.command.now c.execute.result c.execute.ensures

pub returns-clause-follows : goal.returns-clause-follows
returns-clause-follows c = executed_follows c.args.kernel.now c.execute.new.self c.args.command.now c.execute.result c.execute.ensures

pub returns-clause-quiet : goal.returns-clause-quiet
returns-clause-quiet c = executed_quiet c.args.kernel.now c.execute.new.self c.args.command.now c.execute.result c.execute.ensures
