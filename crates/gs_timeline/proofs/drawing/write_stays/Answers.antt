use Rattle.std.proofs.Common.{subst, flat_map, get_or, map, take, List, ℕ}
use Rattle.std.proofs.lemmas.List.{take_all}
use Rattle.gs_timeline.specs.Bars.{pieces_of, scale}
use Rattle.gs_timeline.specs.Lives.{born, class_among}
use Rattle.gs_timeline.specs.Pieces.{Adds}
use Rattle.gs_timeline.specs.Sent.{Sends}
use Rattle.gs_timeline.specs.declared.lives.Life.{Life}
use Rattle.gs_timeline.specs.declared.gathered.Drawn.{Drawn}
use Rattle.gs_timeline.specs.declared.stay.Stay.{Stay}
use Rattle.gs_timeline.proofs.Sent.{grows_more, on_err, sends_grows, sends_next, sends_same}
use Rattle.gs_timeline.proofs.drawing.write_stays.Goals as goal

abbrev none : Stay
none = record { cpu = 0; tid = 0; from = 0; to = 0 }

abbrev drawn_of : Drawn → Stay → List (List ℕ)
drawn_of d = pieces_of (scale d.part.now) (class_among (map born d.all.now.lives.items)) d.all.now.endings

abbrev first : Drawn → ℕ → List Stay → List (List ℕ)
first d i xs = flat_map (drawn_of d) (take i xs)

pub returns-in_err-write_next-clause-stuck : goal.returns-in_err-write_next-clause-stuck
returns-in_err-write_next-clause-stuck g c = on_err _ (sends_grows (first c.args.drawn.now c.loop-stay.stay-index c.args.stays.now) _ _ _ _ c.loop-stay.invariant)

pub returns-in_err-spill-clause-stuck : goal.returns-in_err-spill-clause-stuck
returns-in_err-spill-clause-stuck g c = on_err _ (grows_more _ _ _ (sends_grows (first c.args.drawn.now c.loop-stay.stay-index c.args.stays.now) _ _ _ _ c.loop-stay.invariant) c.in_err-spill.ensures.stuck)

pub loop-stay-preserved : goal.loop-stay-preserved
loop-stay-preserved g c =
    let d = c.args.drawn.now in
    let x : Stay = get_or c.args.stays.now c.loop-stay.stay-index none in
    let one = subst (λ (ls : List Life). Adds (pieces_of (scale d.part.now) (class_among (map born ls)) d.all.now.endings x) c.loop-stay.out.settled c.write_next.new.out.settled) c.as_slice-lives.ensures.value c.in_ok-write_next.ensures in
    sends_next (drawn_of d) c.args.stays.now c.loop-stay.stay-index none _ _ _ _ _ _ _ c.loop-stay-test.true c.loop-stay.invariant one c.in_ok-spill.ensures.sent

pub returns-in_err-write-clause-stuck : goal.returns-in_err-write-clause-stuck
returns-in_err-write-clause-stuck g c = on_err _ (sends_grows (first c.args.drawn.now c.loop-stay.stay-index c.args.stays.now) _ _ _ _ c.loop-stay.invariant)

pub returns-clause-sent : goal.returns-clause-sent
returns-clause-sent g c =
    let xs : List Stay = c.args.stays.now in
    let all = sends_same (first c.args.drawn.now c.loop-stay.stay-index xs) _ _ _ _ _ c.loop-stay.invariant c.write.ensures in
    subst (λ (ss : List Stay). Sends (flat_map (drawn_of c.args.drawn.now) ss) (g.W.Write.contents c.args.writer.now) (g.W.Write.contents c.loop-stay.writer) c.args.out.now.settled c.write.new.out.settled) (take_all c.loop-stay.stay-index xs c.loop-stay-test.false) all
