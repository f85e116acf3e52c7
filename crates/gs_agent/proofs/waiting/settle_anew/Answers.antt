use Rattle.std.proofs.Common.{◌≡◌, ◌<◌, ◌≤◌, None, false, is_some, length, true, ap, sym, ◌∙◌, arith, rules}
use Rattle.gs_layout.specs.declared.message.TheConstants.{MOST_TIDS}
use Rattle.gs_layout.specs.View.{look_up}
use Rattle.gs_runq.specs.Queue.{Queue, class_of, is_in, order, put}
use Rattle.gs_agent.proofs.Settling.{gone, named_waits_not, ready_known, settled_last, settled_out, unready_waits_not}
use Rattle.gs_agent.proofs.waiting.settle_anew.Goals as goal
use Rattle.gs_agent.proofs.waiting.settle_anew.Goals.{in_default-via-in-None-1, in_default-via-in-Some+else-not-names}

-- the thread is out of the queue
out : (c : goal.After-push-arg-1) → is_in c.args.tid (order c.remove.new.self) ≡ false
out c = ap (λ (q : Queue). is_in c.args.tid (order q)) c.remove.ensures ∙ gone c.args.tid c.args.queue.now

pub push-requires-clause-absent : goal.push-requires-clause-absent
push-requires-clause-absent c = out c

pub push-requires-clause-room : goal.push-requires-clause-room
push-requires-clause-room c =
    let known : is_some (look_up c.args._view.now.entries c.args.tid) ≡ true = ready_known _ c.in-Some.class (sym c.requires.ready ∙ c.in-Some.is) in
    let spare : length (class_of c.in-Some.class c.remove.new.self) < MOST_TIDS =
    c.has-gone.ensures.spare (c.has-gone.ensures.has ∙ out c) (c.requires.room.least c.args.tid known, c.requires.room.most c.args.tid known) c.in-Some.class in
    let room : MOST_TIDS ≤ c.args.queue.now.room = c.requires.room.room c.args.tid known in
    let same : c.remove.new.self.room ≡ c.args.queue.now.room = ap (λ (q : Queue). q.room) c.remove.ensures in omega arith

pub returns-then-not-names-clause-settled : goal.returns-then-not-names-clause-settled
returns-then-not-names-clause-settled c =
    c.push.ensures
    ∙ (ap (put c.in-Some.class c.args.tid) c.remove.ensures
    ∙ sym (settled_last (look_up c.args._view.now.entries) c.args.cpus.now c.args.tid c.args.queue.now c.in-Some.class (sym c.requires.ready ∙ c.in-Some.is) c.requires.off (sym c.names.ensures ∙ c.if-not-names.true)))

pub returns-in_default-clause-settled : goal.returns-in_default-clause-settled
returns-in_default-clause-settled c =
    c.remove.ensures
    ∙ sym (settled_out (look_up c.args._view.now.entries) c.args.cpus.now c.args.tid c.args.queue.now
    (elim c.in_default.branch [
      | in_default-via-in-None-1 w ↦ let none : c.args.ready ≡ None = search rules in unready_waits_not (look_up c.args._view.now.entries) c.args.cpus.now c.args.tid (sym c.requires.ready ∙ none)
      | in_default-via-in-Some+else-not-names w ↦ named_waits_not (look_up c.args._view.now.entries) c.args.cpus.now c.args.tid (sym w.names.ensures ∙ w.if-not-names.false)
    ]))
