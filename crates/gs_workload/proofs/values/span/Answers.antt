use Rattle.std.proofs.Common.{subst, length, ◌<◌, ◌≤◌}
use Rattle.toml.specs.View.{view}
use Rattle.gs_workload.proofs.Pairs.{few_items, many_items}
use Rattle.gs_workload.proofs.values.span.Goals as goal

pub returns-in_default-as_slice-clause-exact : goal.returns-in_default-as_slice-clause-exact
returns-in_default-as_slice-clause-exact c =
    few_items c.args.least c.args.most (view c.args.value.now) c.in-Some.pair.now.items _ c.in-Some.ensures
    (subst (λ vs. length vs < 2) c.as_slice.ensures.value c.in_default-as_slice.len_below)

pub returns-in_default-as_slice-2-clause-exact : goal.returns-in_default-as_slice-2-clause-exact
returns-in_default-as_slice-2-clause-exact c =
    many_items c.args.least c.args.most (view c.args.value.now) c.in-Some.pair.now.items _ c.in-Some.ensures
    (subst (λ vs. 3 ≤ length vs) c.as_slice.ensures.value c.in_default-as_slice.len_at_least)
