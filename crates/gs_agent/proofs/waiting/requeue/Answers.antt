use Rattle.std.proofs.Common.{◌≡◌, ap, sym, ◌∙◌, Bool, cond, true}
use Rattle.gs_layout.specs.View.{look_up}
use Rattle.gs_beliefs.specs.Cpus.{is_believed}
use Rattle.gs_runq.specs.Queue.{removed}
use Rattle.gs_agent.specs.Picture.{ends_own_turn, settled}
use Rattle.gs_agent.proofs.Minds.{requeued_by}
use Rattle.gs_agent.proofs.waiting.requeue.Goals as goal

pub settle_anew-requires-clause-off : goal.settle_anew-requires-clause-off
settle_anew-requires-clause-off c =
    let ends : ends_own_turn c.args.message.now ≡ true = sym (c.ends_turn.ensures c.args.message.now c.requires.kind) ∙ c.if-ends_turn.true in
    ap (is_believed c.args.cpus.now) c.tid-tid.ensures ∙ c.requires.off ends

pub returns-then-ends_turn-clause-requeued : goal.returns-then-ends_turn-clause-requeued
returns-then-ends_turn-clause-requeued c =
    let q = c.args.queue.now in
    let turn = λ (b : Bool). settled (look_up c.args.view.now.entries) c.args.cpus.now c.tid-tid.result (cond b (removed c.tid-tid.result q) q) in
    requeued_by (look_up c.args.view.now.entries) c.args.cpus.now q c.settle_anew.new.queue c.args.message.now c.args.kind c.tid-tid.result c.requires.kind c.requires.thread c.tid-tid.ensures
    (c.settle_anew.ensures.settled ∙ ap turn (sym c.if-ends_turn.true ∙ c.ends_turn.ensures c.args.message.now c.requires.kind))

pub returns-else-ends_turn-clause-requeued : goal.returns-else-ends_turn-clause-requeued
returns-else-ends_turn-clause-requeued c =
    let q = c.args.queue.now in
    let turn = λ (b : Bool). settled (look_up c.args.view.now.entries) c.args.cpus.now c.tid-tid.result (cond b (removed c.tid-tid.result q) q) in
    requeued_by (look_up c.args.view.now.entries) c.args.cpus.now q c.settle_ready.new.queue c.args.message.now c.args.kind c.tid-tid.result c.requires.kind c.requires.thread c.tid-tid.ensures
    (c.settle_ready.ensures.settled ∙ ap turn (sym c.if-ends_turn.false ∙ c.ends_turn.ensures c.args.message.now c.requires.kind))
