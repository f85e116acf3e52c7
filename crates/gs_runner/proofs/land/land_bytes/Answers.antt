use Rattle.std.proofs.Common.{◌∙◌}
use Rattle.gs_runner.proofs.Landing.{one_landed}
use Rattle.gs_runner.proofs.land.land_bytes.Goals as goal

pub returns-clause-lands : goal.returns-clause-lands
returns-clause-lands c =
    let k = c.args.kernel.now in
    one_landed k.poster k.settings k.history _ _ c.args.bytes _ _ c.unwrap.result c.land.new.self.history (c.over-slot.ensures.cpu ∙ c.named_cpu-cpu.ensures) c.over-slot.ensures.bytes c.in_ok-land.ensures.lands c.unwrap.ensures
