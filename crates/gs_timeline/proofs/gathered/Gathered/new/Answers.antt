use Rattle.std.proofs.Common.{refl}
use Rattle.gs_timeline.specs.Bars.{scale}
use Rattle.gs_timeline.proofs.Counted.{same_told}
use Rattle.gs_timeline.proofs.gathered.Gathered.new.Goals as goal

pub returns-clause-decisions : goal.returns-clause-decisions
returns-clause-decisions c =
    let p = c.args.part.now in
    let counts = c.in_ok-counted.field-0 in
    let counted = c.in_ok-counted.ensures in
    same_told (scale p) p c.args.notes.now.marks.now counts.stamped counts.placed counts.failed counts.outcomes.items refl counted.stamped counted.placed counted.failed counted.outcomes
