use Rattle.std.proofs.Common.{ap, ◌∙◌}
use Rattle.gs_slots.specs.declared.state.SlotState.{SlotState}
use Rattle.gs_agent.specs.Mind.{MindState, picture_of, thinks}
use Rattle.gs_agent.specs.Picture.{after_slot}
use Rattle.gs_agent.specs.Role.{RoleOf}
use Rattle.gs_agent.proofs.role.Role.learn.Goals as goal

pub returns : goal.returns
returns g c seen =
    let r = c.self.inside in
    ap (λ (m : MindState). record { mind = m; generation = r.generation; policy = r.policy; next = r.next }) (c.learn.ensures seen)
    ∙ ap (λ (x : RoleOf _). record x { mind = thinks x.mind (after_slot c.args.cpu (SlotState.Done c.args.stamp.now c.args.outcome c.args.at seen) (picture_of x.mind)) }) c.self.view_is
