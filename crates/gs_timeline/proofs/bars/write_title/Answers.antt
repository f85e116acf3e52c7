use Rattle.std.proofs.Common.{◌++◌, ◌∙◌, ap, List, ℕ}
use Rattle.gs_timeline.specs.Bars.{reason}
use Rattle.gs_timeline.proofs.Pieces.{adds_last}
use Rattle.gs_timeline.proofs.bars.write_title.Goals as goal

pub returns : goal.returns
returns c =
    let old = c.args.out.now in
    let front = c.write.new.out in
    let k = c.push_str.new.self in
    let same =
    c.in_ok-push_str.ensures.settled
    ∙ (c.write.ensures
    ∙ (c.in_ok-push_digits.ensures.settled
    ∙ c.write_thread.ensures)) in
    adds_last (reason c.args.ending) front.told old.settled k.told c.settle.new.self.settled (c.in_ok-push_str.ensures.told ∙ ap (λ (t : List ℕ). front.told ++ t) c.reason_of.ensures) (ap (λ w. w.settled) c.settle.ensures ∙ ap (λ (t : List ℕ). t ++ k.told) same)
