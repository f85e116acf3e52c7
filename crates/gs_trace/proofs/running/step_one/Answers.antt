use Rattle.gs_core.specs.Machine.{planned, planning}
use Rattle.gs_trace.proofs.Adding.{adds_one}
use Rattle.gs_trace.proofs.running.step_one.Goals as goal

pub returns : goal.returns
returns g c =
    let chosen = g.P.Policy.chosen in
    let e = c.step-reply.ensures in
    adds_one g.S.Sink.has (planning chosen c.args.machine.now) (planned chosen c.args.event.now) c.step-reply.result (planning chosen c.step-reply.new.self) c.args.sink.now c.add_to.new.sink c.add_to.result e.step e.safe e.faithful c.add_to.ensures.sufficed c.add_to.ensures.grows
