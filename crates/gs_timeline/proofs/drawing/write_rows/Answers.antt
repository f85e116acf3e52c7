use Rattle.std.proofs.Common.{◌≡◌, ◌∙◌, ◌++◌, ◌+◌, subst, flat_map, map, List, ℕ}
use Rattle.gs_timeline.specs.Bars.{pieces_of, scale}
use Rattle.gs_timeline.specs.Lives.{born, class_among}
use Rattle.gs_timeline.specs.Sent.{Sends}
use Rattle.gs_timeline.specs.Stays.{all_stays, stays}
use Rattle.gs_timeline.specs.declared.gathered.Drawn.{Drawn}
use Rattle.gs_timeline.specs.declared.stay.Stay.{Stay}
use Rattle.gs_timeline.proofs.Drawn.{lane_stays, rows_next, rows_none}
use Rattle.gs_timeline.proofs.Sent.{grows_more, on_err, sends_grows, sends_more, sends_same, sends_then}
use Rattle.gs_timeline.proofs.drawing.write_rows.Goals as goal

abbrev drawn_of : Drawn → Stay → List (List ℕ)
drawn_of d = pieces_of (scale d.part.now) (class_among (map born d.all.now.lives.items)) d.all.now.endings

abbrev rows : Drawn → ℕ → List (List ℕ)
rows d n = flat_map (drawn_of d) (all_stays d.all.now.endings n)

pub loop-cpu-init : goal.loop-cpu-init
loop-cpu-init g c = rows_none (drawn_of c.args.drawn.now) c.args.drawn.now.all.now.endings (g.W.Write.contents c.args.writer.now) c.args.out.now.settled

pub returns-in_err-write_row-clause-stuck : goal.returns-in_err-write_row-clause-stuck
returns-in_err-write_row-clause-stuck g c = on_err _ (sends_grows (rows c.args.drawn.now c.loop-cpu.cpu) _ _ _ _ c.loop-cpu.invariant)

pub returns-in_err-write_holds-clause-stuck : goal.returns-in_err-write_holds-clause-stuck
returns-in_err-write_holds-clause-stuck g c = on_err _ (grows_more _ _ _ (sends_grows (rows c.args.drawn.now c.loop-cpu.cpu) _ _ _ _ c.loop-cpu.invariant) c.in_err-write_holds.ensures.stuck)

pub returns-in_err-write_stays-clause-stuck : goal.returns-in_err-write_stays-clause-stuck
returns-in_err-write_stays-clause-stuck g c =
    let d = c.args.drawn.now in
    let n = c.loop-cpu.cpu in
    let row = sends_same (rows d n) _ _ _ _ _ c.loop-cpu.invariant c.write_row.ensures in
    let held = sends_more (rows d n) _ _ _ _ _ _ row c.in_ok-write_holds.ensures.sent in
    on_err _ (grows_more _ _ _ (sends_grows (rows d n) _ _ _ _ held) c.in_err-write_stays.ensures.stuck)

pub returns-in_err-write_again-clause-stuck : goal.returns-in_err-write_again-clause-stuck
returns-in_err-write_again-clause-stuck g c =
    let d = c.args.drawn.now in
    let n = c.loop-cpu.cpu in
    let row = sends_same (rows d n) _ _ _ _ _ c.loop-cpu.invariant c.write_row.ensures in
    let held = sends_more (rows d n) _ _ _ _ _ _ row c.in_ok-write_holds.ensures.sent in
    let drawn = sends_then (rows d n) (flat_map (drawn_of d) c.stays-stays.result.now) _ _ _ _ _ _ held c.in_ok-write_stays.ensures.sent in
    on_err _ (grows_more _ _ _ (sends_grows (rows d n ++ flat_map (drawn_of d) c.stays-stays.result.now) _ _ _ _ drawn) c.in_err-write_again.ensures.stuck)

pub returns-in_err-spill-clause-stuck : goal.returns-in_err-spill-clause-stuck
returns-in_err-spill-clause-stuck g c =
    let d = c.args.drawn.now in
    let n = c.loop-cpu.cpu in
    let row = sends_same (rows d n) _ _ _ _ _ c.loop-cpu.invariant c.write_row.ensures in
    let held = sends_more (rows d n) _ _ _ _ _ _ row c.in_ok-write_holds.ensures.sent in
    let drawn = sends_then (rows d n) (flat_map (drawn_of d) c.stays-stays.result.now) _ _ _ _ _ _ held c.in_ok-write_stays.ensures.sent in
    let again = sends_more (rows d n ++ flat_map (drawn_of d) c.stays-stays.result.now) _ _ _ _ _ _ drawn c.in_ok-write_again.ensures.sent in
    on_err _ (grows_more _ _ _ (sends_grows (rows d n ++ flat_map (drawn_of d) c.stays-stays.result.now) _ _ _ _ again) c.in_err-spill.ensures.stuck)

pub loop-cpu-preserved : goal.loop-cpu-preserved
loop-cpu-preserved g c =
    let d = c.args.drawn.now in
    let n = c.loop-cpu.cpu in
    let row = sends_same (rows d n) _ _ _ _ _ c.loop-cpu.invariant c.write_row.ensures in
    let held = sends_more (rows d n) _ _ _ _ _ _ row c.in_ok-write_holds.ensures.sent in
    let h = d.all.now.endings in
    let there : c.stays-stays.result.now ≡ stays h n = c.stays-stays.ensures ∙ lane_stays d.all.now.lanes.items n d.cpus c.index.result.now (stays h n) c.requires.count c.loop-cpu-test.true c.index.ensures (c.requires.stays n c.loop-cpu-test.true) in
    let drawn = subst (λ (ss : List Stay). Sends (flat_map (drawn_of d) ss) (g.W.Write.contents c.write_holds.new.writer) (g.W.Write.contents c.write_stays.new.writer) c.write_holds.new.out.settled c.write_stays.new.out.settled) there c.in_ok-write_stays.ensures.sent in
    let next = rows_next (drawn_of d) h n _ _ _ _ _ _ held drawn in
    let again = sends_more (rows d (n + 1)) _ _ _ _ _ _ next c.in_ok-write_again.ensures.sent in
    sends_more (rows d (n + 1)) _ _ _ _ _ _ again c.in_ok-spill.ensures.sent
