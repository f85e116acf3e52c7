use Rattle.std.proofs.Common.{◌≡◌, ap, arith}
use Rattle.gs_runner.specs.Holds.{SearchOf}
use Rattle.gs_runner.proofs.Places.{before_later}
use Rattle.gs_runner.proofs.search.Search.holds.Goals as goal

pub pass-self-inside-requires : goal.pass-self-inside-requires
pass-self-inside-requires c =
    let at : c.self.inside.at ≡ c.args.self.now.at = ap (λ (s : SearchOf). s.at) c.self.view_is in
    before_later c.self.inside.others.now c.self.inside.at c.args.receipt.now.at c.self.inside.kept.now c.self.inside.passed (omega (arith, at, c.requires.order)) c.self.invariant.3
