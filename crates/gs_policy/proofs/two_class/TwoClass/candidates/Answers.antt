use Rattle.std.proofs.Common.{length, ap, sym, ◌∙◌}
use Rattle.gs_policy.specs.Plan.{class_one_after}
use Rattle.gs_policy.specs.Safety.{class_one_taking}
use Rattle.gs_policy.specs.Shown.{shows}
use Rattle.gs_policy.proofs.Gathered.{runs_slice}
use Rattle.gs_policy.proofs.Served.{plan_served}
use Rattle.gs_policy.proofs.two_class.TwoClass.candidates.Goals as goal

pub returns : goal.returns
returns c =
    let slice = c.args.self.now.slice in
    let s = shows c.args.view.now.entries c.args.cpus.now c.args.queue.now in
    c.new.ensures (class_one_after slice) c.args.view.now.entries c.args.queue.now (class_one_taking slice s)
    (record {
      by_zero = c.class_one_cpus-zero_class.ensures;
      by_one = λ cpu. c.those_that_have_had-one_class.ensures cpu ∙ runs_slice s slice cpu _ (c.class_one_cpus-zero_class.ensures cpu);
    })

pub returns-then-serve_all : goal.returns-then-serve_all
returns-then-serve_all c =
    let s = shows c.args.view.now.entries c.args.cpus.now c.args.queue.now in
    c.free_alone-then-serve_all.ensures c.args.view.now.entries c.args.queue.now ∙ plan_served (class_one_after c.args.self.now.slice) s (sym (ap length (c.free_alone.ensures c.args.view.now.entries c.args.queue.now)) ∙ c.serve_all.ensures c.if-serve_all.true)
