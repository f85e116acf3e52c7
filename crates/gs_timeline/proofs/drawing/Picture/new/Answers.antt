use Rattle.std.proofs.Common.{◌∙◌, ◌++◌, Some, ap, flat_map, length, map, sym, ℕ}
use Rattle.gs_journal.specs.History.{History}
use Rattle.gs_timeline.specs.Bars.{pieces_of, scale}
use Rattle.gs_timeline.specs.Counts.{told_by}
use Rattle.gs_timeline.specs.Lives.{born, class_among}
use Rattle.gs_timeline.specs.Places.{scale_of}
use Rattle.gs_timeline.specs.Stays.{all_stays, stays}
use Rattle.gs_timeline.proofs.Drawn.{pieces_drawn}
use Rattle.gs_timeline.proofs.drawing.Picture.new.Goals as goal

pub returns : goal.returns
returns c =
    let h = c.args.journal.now.entries in
    let v = scale_of (length h) c.args.from c.args.to in
    let scaled = c.new-part.ensures ∙ ap (λ (n : ℕ). scale_of n c.args.from c.args.to) c.len.ensures.value in
    let all = c.in_ok-all.ensures in
    let drawn = pieces_drawn (scale c.new-part.result) v (told_by c.in_ok-all.all.counts) c.args.notes.marks.now c.in_ok-all.all.lives.items h c.args.cpus scaled all.decisions all.lives in
    let classes = class_among (map born c.in_ok-all.all.lives.items) in
    ap (λ (k : History). told_by c.in_ok-all.all.counts ++ flat_map (pieces_of (scale c.new-part.result) classes k) (all_stays k c.args.cpus)) c.in_ok-all.ensures.endings ∙ drawn

pub invariant_of-result : goal.invariant_of-result
invariant_of-result c =
    let all = c.in_ok-all.ensures in
    (all.count, λ k lt. all.stays k lt ∙ ap (λ (h : History). Some (stays h k)) (sym c.in_ok-all.ensures.endings))
