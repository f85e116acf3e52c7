use Rattle.std.proofs.Common.{◌∙◌, ◌&&◌}
use Rattle.gs_status.specs.Masks.{has}
use Rattle.gs_status.proofs.Halves.{in_both}
use Rattle.gs_status.proofs.mask.Mask.both.Goals as goal

pub returns : goal.returns
returns c = λ n.
    in_both c.self.inside.high c.self.inside.low c.other.inside.high c.other.inside.low c.both-2.result c.both.result
    c.self.invariant c.other.invariant c.both.ensures.fits c.both-2.ensures.in_both c.both.ensures.in_both n
    ∙ (λ i. has (c.self.view_is i) n && has (c.other.view_is i) n)
