use Rattle.std.proofs.Common.{ap, sym, ◌∙◌}
use Rattle.gs_slots.specs.declared.state.SlotState.{SlotState}
use Rattle.gs_agent.specs.Mind.{picture_of, thinks}
use Rattle.gs_agent.specs.Picture.{after_slot}
use Rattle.gs_agent.proofs.mind.Mind.collect.Goals as goal

pub returns : goal.returns
returns c = c.learn.ensures c.in-Done.seen ∙ ap (λ (x : SlotState). thinks c.args.self.now (after_slot c.args.cpu x (picture_of c.args.self.now))) (sym c.in-Done.is)
