use Rattle.gs_kernel.proofs.OtherClass.{activates_when}
use Rattle.gs_kernel.proofs.kernel.Kernel.activating.Goals as goal

pub preemption-requires-clause-cpu : goal.preemption-requires-clause-cpu
preemption-requires-clause-cpu g c = (activates_when c.args.self.now.settings c.args.self.now.history c.args.self.now.paged c.args.cpu c.requires).cpu

pub preemption-requires-clause-numbers : goal.preemption-requires-clause-numbers
preemption-requires-clause-numbers g c = (activates_when c.args.self.now.settings c.args.self.now.history c.args.self.now.paged c.args.cpu c.requires).numbers
