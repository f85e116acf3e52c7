use Rattle.std.proofs.Common.{◌++◌, flat_map, map, List, ℕ}
use Rattle.gs_timeline.specs.Bars.{pieces_of, scale}
use Rattle.gs_timeline.specs.Counts.{told_by}
use Rattle.gs_timeline.specs.Lives.{born, class_among}
use Rattle.gs_timeline.specs.Sent.{Sends}
use Rattle.gs_timeline.specs.Stays.{all_stays}
use Rattle.gs_timeline.specs.declared.gathered.Drawn.{Drawn}
use Rattle.gs_timeline.proofs.Sent.{grows_more, on_err, sends_added, sends_grows, sends_more, sends_same, sends_then}
use Rattle.gs_timeline.proofs.drawing.draw.Goals as goal

abbrev told : Drawn → List (List ℕ)
told d = told_by d.all.now.counts

abbrev rows : Drawn → List (List ℕ)
rows d = flat_map (pieces_of (scale d.part.now) (class_among (map born d.all.now.lives.items)) d.all.now.endings) (all_stays d.all.now.endings d.cpus)

pub returns-in_err-write_rows-clause-stuck : goal.returns-in_err-write_rows-clause-stuck
returns-in_err-write_rows-clause-stuck g c =
    let head = c.in_ok-write_head.ensures in
    let first : Sends (told c.args.drawn.now) (g.W.Write.contents c.args.writer.now) (g.W.Write.contents c.args.writer.now) head.0 c.write_head.new.out.settled = sends_added (told c.args.drawn.now) _ _ _ head.1 in
    let above = sends_more (told c.args.drawn.now) _ _ _ _ _ _ first c.in_ok-write_above.ensures.sent in
    on_err _ (grows_more _ _ _ (sends_grows (told c.args.drawn.now) _ _ _ _ above) c.in_err-write_rows.ensures.stuck)

pub returns-in_err-write_below-clause-stuck : goal.returns-in_err-write_below-clause-stuck
returns-in_err-write_below-clause-stuck g c =
    let head = c.in_ok-write_head.ensures in
    let first : Sends (told c.args.drawn.now) (g.W.Write.contents c.args.writer.now) (g.W.Write.contents c.args.writer.now) head.0 c.write_head.new.out.settled = sends_added (told c.args.drawn.now) _ _ _ head.1 in
    let above = sends_more (told c.args.drawn.now) _ _ _ _ _ _ first c.in_ok-write_above.ensures.sent in
    let drawn = sends_then (told c.args.drawn.now) (rows c.args.drawn.now) _ _ _ _ _ _ above c.in_ok-write_rows.ensures.sent in
    on_err _ (grows_more _ _ _ (sends_grows (told c.args.drawn.now ++ rows c.args.drawn.now) _ _ _ _ drawn) c.in_err-write_below.ensures.stuck)

pub returns-in_err-push_str-clause-stuck : goal.returns-in_err-push_str-clause-stuck
returns-in_err-push_str-clause-stuck g c =
    let head = c.in_ok-write_head.ensures in
    let first : Sends (told c.args.drawn.now) (g.W.Write.contents c.args.writer.now) (g.W.Write.contents c.args.writer.now) head.0 c.write_head.new.out.settled = sends_added (told c.args.drawn.now) _ _ _ head.1 in
    let above = sends_more (told c.args.drawn.now) _ _ _ _ _ _ first c.in_ok-write_above.ensures.sent in
    let drawn = sends_then (told c.args.drawn.now) (rows c.args.drawn.now) _ _ _ _ _ _ above c.in_ok-write_rows.ensures.sent in
    let below = sends_more (told c.args.drawn.now ++ rows c.args.drawn.now) _ _ _ _ _ _ drawn c.in_ok-write_below.ensures.sent in
    on_err _ (sends_grows (told c.args.drawn.now ++ rows c.args.drawn.now) _ _ _ _ below)

pub returns-clause-sent : goal.returns-clause-sent
returns-clause-sent g c =
    let head = c.in_ok-write_head.ensures in
    let first : Sends (told c.args.drawn.now) (g.W.Write.contents c.args.writer.now) (g.W.Write.contents c.args.writer.now) head.0 c.write_head.new.out.settled = sends_added (told c.args.drawn.now) _ _ _ head.1 in
    let above = sends_more (told c.args.drawn.now) _ _ _ _ _ _ first c.in_ok-write_above.ensures.sent in
    let drawn = sends_then (told c.args.drawn.now) (rows c.args.drawn.now) _ _ _ _ _ _ above c.in_ok-write_rows.ensures.sent in
    let below = sends_more (told c.args.drawn.now ++ rows c.args.drawn.now) _ _ _ _ _ _ drawn c.in_ok-write_below.ensures.sent in
    (head.0, sends_same (told c.args.drawn.now ++ rows c.args.drawn.now) _ _ _ _ _ below c.push_str.ensures.settled)
