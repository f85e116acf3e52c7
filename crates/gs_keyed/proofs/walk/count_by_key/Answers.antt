use Rattle.std.proofs.Common.{◌∙◌, arith, refl, sym}
use Rattle.gs_layout.specs.View.{look_up}
use Rattle.gs_policy.specs.Shown.{shows}
use Rattle.gs_runq.specs.Queue.{order}
use Rattle.gs_keyed.proofs.Orders.{ranks_up}
use Rattle.gs_keyed.proofs.Walks.{counting_end, counting_more, counting_none, counting_spent, counting_start, few, fewer_behind, ranked}
use Rattle.gs_keyed.proofs.walk.count_by_key.Goals as goal

pub loop-left-init : goal.loop-left-init
loop-left-init g c = counting_start _ _ _ _ _ refl refl

pub loop-left-preserved-then-is_some : goal.loop-left-preserved-then-is_some
loop-left-preserved-then-is_some g c =
    let key = g.K.Key.key_of c.args.key.now in
    let s = shows c.args.view.now.entries c.args.cpus.now c.args.queue.now in
    counting_more (look_up c.args.view.now.entries) c.args.all c.loop-left.left c.choose.new.self c.loop-left.count c.loop-left.last c.in-Some.rank (ranked key s) c.choose.result
    c.loop-left.invariant (ranks_up key s 0 (order c.args.queue.now)) c.in-Some.ensures (sym c.is_some.ensures ∙ c.if-is_some.true) c.choose.ensures.choice c.choose.ensures.left

pub overflow_add-count : goal.overflow_add-count
overflow_add-count g c = omega (arith, few _ _ _ _ _ (g.K.Key.key_of c.args.key.now) (shows c.args.view.now.entries c.args.cpus.now c.args.queue.now) (loop-left-preserved-then-is_some g c))

pub loop-left-smaller-then-is_some : goal.loop-left-smaller-then-is_some
loop-left-smaller-then-is_some g c =
    fewer_behind c.loop-left.last _ c.in-Some.rank (ranks_up (g.K.Key.key_of c.args.key.now) (shows c.args.view.now.entries c.args.cpus.now c.args.queue.now) 0 (order c.args.queue.now))
    c.in-Some.ensures

pub loop-left-smaller : goal.loop-left-smaller
loop-left-smaller g c =
    fewer_behind c.loop-left.last _ c.in-Some.rank (ranks_up (g.K.Key.key_of c.args.key.now) (shows c.args.view.now.entries c.args.cpus.now c.args.queue.now) 0 (order c.args.queue.now))
    c.in-Some.ensures

pub loop-left-preserved : goal.loop-left-preserved
loop-left-preserved g c =
    let key = g.K.Key.key_of c.args.key.now in
    let s = shows c.args.view.now.entries c.args.cpus.now c.args.queue.now in
    counting_none (look_up c.args.view.now.entries) c.args.all c.loop-left.left c.choose.new.self c.loop-left.count c.loop-left.last c.in-Some.rank (ranked key s) c.choose.result
    c.loop-left.invariant (ranks_up key s 0 (order c.args.queue.now)) c.in-Some.ensures (sym c.is_some.ensures ∙ c.if-is_some.false) c.choose.ensures.choice c.choose.ensures.left

pub returns : goal.returns
returns g c = counting_spent _ _ _ _ _ _ c.loop-left.invariant (sym c.are_spent.ensures ∙ c.loop-left-test.false)

pub returns-in_default : goal.returns-in_default
returns-in_default g c = counting_end _ _ _ _ _ _ c.loop-left.invariant c.in_default.ensures
