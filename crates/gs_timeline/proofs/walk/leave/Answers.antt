use Rattle.std.proofs.Common.{◌∙◌, ap, sym, get_or, slice_set}
use Rattle.std.proofs.lemmas.Option.{slice_get-get_or}
use Rattle.std.proofs.lemmas.Result.{on_ok_weaker}
use Rattle.gs_timeline.specs.Lanes.{LaneOf}
use Rattle.gs_timeline.proofs.Housed.{none_home, one_home, past_home}
use Rattle.gs_timeline.proofs.Moved.{gone_then}
use Rattle.gs_timeline.proofs.walk.leave.Goals as goal

pub returns-in_default : goal.returns-in_default
returns-in_default c = λ x e s. none_home c.args.place x c.args.tid c.args.homes.now.cpus.items c.args.lanes.now s c.requires.home (sym c.in_default.ensures)

pub returns-then-cpu-lanes : goal.returns-then-cpu-lanes
returns-then-cpu-lanes c = λ x e s. past_home c.args.place x c.args.tid c.in-Some.cpu c.args.homes.now.cpus.items c.args.lanes.now s c.requires.home (sym c.in-Some.ensures) c.if-cpu-lanes.true

pub returns : goal.returns
returns c =
    on_ok_weaker c.leave.result
    (λ heard x e s. ap (slice_set c.args.lanes.now c.in-Some.cpu) (heard ∙ gone_then c.in-Some.cpu c.args.place c.args.tid x before e s) ∙ one_home c.args.place x c.args.tid c.in-Some.cpu c.args.homes.now.cpus.items c.args.lanes.now before s c.requires.home (sym c.in-Some.ensures) (slice_get-get_or c.args.lanes.now c.in-Some.cpu c.index-lanes-cpu.result c.if-cpu-lanes.false))
    c.leave.ensures
  where
    before : LaneOf
    before = get_or c.args.lanes.now c.in-Some.cpu c.index-lanes-cpu.result
