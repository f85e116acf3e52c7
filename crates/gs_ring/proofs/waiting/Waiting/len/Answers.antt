use Rattle.std.proofs.Common.{◌++◌, length, ap, sym, ◌∙◌}
use Rattle.gs_ring.proofs.Held.{length-messages_in}
use Rattle.gs_ring.proofs.waiting.Waiting.len.Goals as goal

pub returns : goal.returns
returns c = let i = c.self.inside in sym (length-messages_in i.left (i.first.now ++ i.second.now)) ∙ ap length c.self.view_is
