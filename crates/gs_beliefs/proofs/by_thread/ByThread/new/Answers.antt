use Rattle.std.proofs.Common.{◌≡◌, None, replicate, rules}
use Rattle.gs_beliefs.proofs.Index.{indexed_none}
use Rattle.gs_beliefs.proofs.by_thread.ByThread.new.Goals as goal

pub invariant_of-result : goal.invariant_of-result
invariant_of-result c =
    let begun : c.in_ok-vec.field-0.items ≡ replicate c.args.cpus None = search rules in
    indexed_none c.args.cpus c.in_ok-vec.field-0.items c.in_ok-new.field-0.masks.items c.all_below.result c.requires begun c.in_ok-new.ensures c.all_below.ensures
