use Rattle.std.proofs.Common.{codes, decimal}
use Rattle.std.proofs.lemmas.Result.{on_ok_weaker}
use Rattle.gs_timeline.proofs.Pieces.{pairs_told}
use Rattle.gs_timeline.proofs.counts.write_sums.Goals as goal

pub returns-clause-told : goal.returns-clause-told
returns-clause-told c =
    let old = c.args.out.now in
    let n = c.args.counts.now in
    on_ok_weaker c.push_number-3.result
    (λ told. pairs_told old.told c.push_number.new.self.told c.push_number-2.new.self.told c.push_number-3.new.self.told (codes "Decisions: stamped ") (decimal n.stamped) (codes ", placed ") (decimal n.placed) (codes ", not placed ") (decimal n.failed) c.in_ok-push_number.ensures.told c.in_ok-push_number-2.ensures.told told)
    c.push_number-3.ensures.told
