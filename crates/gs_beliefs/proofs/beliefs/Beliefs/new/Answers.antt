use Rattle.std.proofs.Common.{◌≡◌, None, replicate, rules}
use Rattle.gs_beliefs.proofs.Found.{cpus_unknown}
use Rattle.gs_beliefs.proofs.beliefs.Beliefs.new.Goals as goal

pub invariant_of-result : goal.invariant_of-result
invariant_of-result c =
    let begun : c.in_ok-vec.field-0.items ≡ replicate c.args.cpus None = search rules in
    cpus_unknown c.args.cpus c.in_ok-vec.field-0.items c.in_ok-new.field-0 c.in_ok-new-2.field-0 c.requires begun c.in_ok-new.ensures c.in_ok-new-2.ensures
