use Rattle.std.proofs.Common.{◌≡◌, false, arith}
use Rattle.std.proofs.lemmas.Grind.{common_steps}
use Rattle.gs_kernel.proofs.Gathered.{none_added}
use Rattle.gs_kernel.proofs.group.add_member.Goals as goal

pub returns-then-not-is_flagged : goal.returns-then-not-is_flagged
returns-then-not-is_flagged c = λ x found.
    let unset : c.is_flagged.result ≡ false = grind (arith, common_steps) in
    none_added c.args.group.now.items c.args.region.now c.args.cpu c.is_flagged.result x c.requires c.is_flagged.ensures unset found
