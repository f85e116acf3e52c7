use Rattle.std.proofs.Common.{◌≡◌, ◌+◌, Some, ap, sym, ◌∙◌, arith}
use Rattle.gs_slots.specs.Reading.{state_in}
use Rattle.gs_slots.proofs.States.{state_at}
use Rattle.gs_slots.proofs.region.Region.state.Goals as goal

pub returns : goal.returns
returns c =
    let own : 0 + c.args.cpu ≡ c.args.cpu = omega arith in
    state_at 0 c.args.cpu c.args.self.now c.bytes.result.now c.bytes.ensures ∙ ap Some (ap (λ n. state_in n c.bytes.result.now) own ∙ sym c.state_at.ensures)
