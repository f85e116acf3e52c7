use Rattle.gs_kernel.proofs.OtherClass.{hands_off_when}
use Rattle.gs_kernel.proofs.kernel.Kernel.handing_over.Goals as goal

pub preemption-requires-clause-cpu : goal.preemption-requires-clause-cpu
preemption-requires-clause-cpu g c = (hands_off_when c.args.self.now.settings c.args.self.now.history c.args.cpu c.requires).cpu

pub preemption-requires-clause-numbers : goal.preemption-requires-clause-numbers
preemption-requires-clause-numbers g c = (hands_off_when c.args.self.now.settings c.args.self.now.history c.args.cpu c.requires).numbers

pub next_generation-requires : goal.next_generation-requires
next_generation-requires g c = (hands_off_when c.args.self.now.settings c.args.self.now.history c.args.cpu c.requires).more
