use Rattle.std.proofs.Common.{Bool, List, rules}
use Rattle.std.specs.Prelude.{ltb}
use Rattle.std.proofs.lemmas.List.Sorted.{IsPartitionPoint-from_clause, IsPartitionedBy-ltb}
use Rattle.gs_runner.specs.declared.kept.Kept.{Kept}
use Rattle.gs_runner.specs.Kept.{kept_at}
use Rattle.gs_runner.proofs.Places.{before_there}
use Rattle.gs_runner.proofs.calls.count_before.Goals as goal

pub returns : goal.returns
returns c =
    let ks : List Kept = c.args.kept.now in
    let below : Kept → Bool = λ k. ltb (kept_at c.args.others.now k) c.args.at in
    let point = IsPartitionPoint-from_clause below ks c.partition_point.result c.partition_point.ensures.partitioned (IsPartitionedBy-ltb (kept_at c.args.others.now) ks c.args.at c.requires) (λ a r f' k. search rules) in
    before_there c.args.others.now c.args.at c.partition_point.result ks c.partition_point.ensures.bound point
