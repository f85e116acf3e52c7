use Rattle.std.proofs.Common.{◌∙◌, refl}
use Rattle.gs_core.specs.Machine.{planning}
use Rattle.gs_slots.specs.Reading.{states_in}
use Rattle.gs_trace.specs.NotedLines.{noted_of}
use Rattle.gs_explain.proofs.Moments.{moment_is}
use Rattle.gs_explain.proofs.moment.Scene.new.Goals as goal

pub returns-clause-moment : goal.returns-clause-moment
returns-clause-moment g c =
    let l = c.args.noted.now in
    let k = c.kernel-kernel.result.now in
    let e = c.args.event.now in
    moment_is (noted_of l) e (planning g.P.Policy.chosen c.args.machine.now) l.entries.items l.stamped.items l.page e c.journal.result.now.entries c.transactions.result.now (states_in 0 c.region.result.now) k.settings k.poster refl refl refl refl
    (c.journal.ensures.entries ∙ c.kernel-kernel.ensures.history) c.transactions.ensures c.region.ensures c.kernel-kernel.ensures.settings c.kernel-kernel.ensures.posted c.kernel-kernel.ensures.ring c.kernel-kernel.ensures.consumed
