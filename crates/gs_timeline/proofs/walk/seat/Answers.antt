use Rattle.std.proofs.Common.{◌≡◌, ◌∙◌, ap, false, Some, get_or, slice_set}
use Rattle.std.proofs.lemmas.Option.{slice_get-get_or}
use Rattle.std.proofs.lemmas.Result.{on_ok_weaker}
use Rattle.gs_journal.specs.declared.entry.Entry.{Entry}
use Rattle.gs_timeline.specs.Lanes.{LaneOf, each_then, empties, lane_then, placing, seated}
use Rattle.gs_timeline.proofs.Housed.{then_home}
use Rattle.gs_timeline.proofs.Moved.{placed_then}
use Rattle.gs_timeline.proofs.Walked.{none_there, one_there}
use Rattle.gs_timeline.proofs.walk.seat.Goals as goal

pub returns-then-cpu-lanes-clause-lanes : goal.returns-then-cpu-lanes-clause-lanes
returns-then-cpu-lanes-clause-lanes c = λ x e p. none_there c.args.place x c.args.tid c.args.cpu c.args.lanes.now e p c.if-cpu-lanes.true

pub returns-clause-lanes : goal.returns-clause-lanes
returns-clause-lanes c = on_ok_weaker c.place-2.result (λ heard x e p. ap (slice_set c.args.lanes.now c.args.cpu) heard ∙ changed x e p) c.place-2.ensures
  where
    before : LaneOf
    before = get_or c.args.lanes.now c.args.cpu c.index-lanes-cpu.result

    changed : (x : Entry) → empties x ≡ false → placing x ≡ Some (c.args.tid, c.args.cpu) → slice_set c.args.lanes.now c.args.cpu (seated c.args.cpu c.args.place (Some c.args.tid) before) ≡ each_then (lane_then c.args.place x) 0 c.args.lanes.now
    changed x e p =
        ap (slice_set c.args.lanes.now c.args.cpu) (placed_then c.args.cpu c.args.place c.args.tid x before p)
        ∙ one_there c.args.place x c.args.tid c.args.cpu c.args.lanes.now before e p (slice_get-get_or c.args.lanes.now c.args.cpu c.index-lanes-cpu.result c.if-cpu-lanes.false)

pub returns-clause-home : goal.returns-clause-home
returns-clause-home c =
    on_ok_weaker c.place-2.result
    (λ heard x e p f. let known = c.requires.home (c.in_ok-place.ensures.kept f) in then_home c.args.place x c.args.tid c.args.cpu c.args.homes.now.cpus.items c.place.new.self.cpus.items c.args.lanes.now (slice_set c.args.lanes.now c.args.cpu c.place-2.new.self) p (c.in_ok-place.ensures.here f) (c.in_ok-place.ensures.others f) known (c.in_ok-place.ensures.apart f known) (ap (slice_set c.args.lanes.now c.args.cpu) heard ∙ changed x e p))
    c.place-2.ensures
  where
    before : LaneOf
    before = get_or c.args.lanes.now c.args.cpu c.index-lanes-cpu.result

    changed : (x : Entry) → empties x ≡ false → placing x ≡ Some (c.args.tid, c.args.cpu) → slice_set c.args.lanes.now c.args.cpu (seated c.args.cpu c.args.place (Some c.args.tid) before) ≡ each_then (lane_then c.args.place x) 0 c.args.lanes.now
    changed x e p =
        ap (slice_set c.args.lanes.now c.args.cpu) (placed_then c.args.cpu c.args.place c.args.tid x before p)
        ∙ one_there c.args.place x c.args.tid c.args.cpu c.args.lanes.now before e p (slice_get-get_or c.args.lanes.now c.args.cpu c.index-lanes-cpu.result c.if-cpu-lanes.false)
