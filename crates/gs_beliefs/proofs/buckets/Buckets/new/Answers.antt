use Rattle.std.proofs.Common.{replicate, ap, ◌∙◌}
use Rattle.gs_beliefs.proofs.buckets.Buckets.new.Goals as goal

pub returns : goal.returns
returns c = c.in_ok-vec.ensures.items_if_clones_equal (λ y h. h) ∙ ap (replicate 256) c.none.ensures.bits
