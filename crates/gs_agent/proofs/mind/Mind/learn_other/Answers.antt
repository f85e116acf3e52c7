use Rattle.std.proofs.Common.{◌≡◌, ap, ◌∙◌}
use Rattle.gs_layout.specs.View.{look_up}
use Rattle.gs_slots.specs.declared.state.SlotState.{SlotState}
use Rattle.gs_beliefs.specs.Cpus.{Cpus, unstamps}
use Rattle.gs_beliefs.specs.Belief.{after_outcome}
use Rattle.gs_agent.specs.Mind.{MindState, bare, picture_of, thinks}
use Rattle.gs_agent.specs.Picture.{after_slot, settled_all}
use Rattle.gs_agent.proofs.Rooms.{bare_settled_all}
use Rattle.gs_agent.proofs.Followed.{holds_slot, touched}
use Rattle.gs_agent.proofs.Minds.{named_queue, same_mind, same_waiting, slot_queue}
use Rattle.gs_agent.proofs.mind.Mind.learn_other.Goals as goal

-- what is believed then
abbrev after : goal.After-settle_if_any-2 → Cpus
after c = unstamps c.args.cpu (after_outcome c.args.outcome c.args.at c.args.stamp.now.tid c.args.stamp.now.tseq c.self.inside.cpus)

cpus_are : (c : goal.After-settle_if_any-2) → c.unstamp.new.self ≡ after c
cpus_are c = c.unstamp.ensures ∙ ap (unstamps c.args.cpu) c.learn.ensures

-- the queue is then that of those who wait
queue_is : (c : goal.After-settle_if_any-2) → c.settle_if_any-2.new.queue ≡ settled_all (look_up c.self.inside.view.entries) (after c) (touched c.self.inside.cpus c.args.cpu c.args.at c.args.stamp.now.tid) c.self.inside.queue
queue_is c =
    slot_queue (look_up c.self.inside.view.entries) c.self.inside.cpus c.unstamp.new.self c.self.inside.queue _ _ _ c.args.cpu c.args.at c.args.stamp.now.tid _ _ c.stamp_on.ensures c.running_on-displaced.ensures c.settle_found.ensures.settled
    (named_queue (look_up c.self.inside.view.entries) c.unstamp.new.self c.self.inside.queue _ _ c.args.stamp.now.tid c.stamp_on.result c.other_than-named.result c.other_than-named.ensures c.settle_found.ensures.settled c.settle_if_any.ensures.settled)
    c.settle_if_any-2.ensures.settled
    ∙ ap (λ (x : Cpus). settled_all (look_up c.self.inside.view.entries) x (touched c.self.inside.cpus c.args.cpu c.args.at c.args.stamp.now.tid) c.self.inside.queue) (cpus_are c)

pub invariant_of-self : goal.invariant_of-self
invariant_of-self c =
    record {
      waiting = same_waiting (look_up c.self.inside.view.entries) _ _ _ _ (cpus_are c) (queue_is c)
          (holds_slot (look_up c.self.inside.view.entries) c.self.inside.cpus c.self.inside.queue c.args.cpu c.args.outcome c.args.at c.args.stamp.now.tid c.args.stamp.now.tseq c.self.invariant.waiting);
      room = c.settle_if_any-2.ensures.room;
    }

pub returns : goal.returns
returns c seen =
    same_mind c.self.inside.view.entries _ _ _ _ (cpus_are c) (ap bare (queue_is c) ∙ bare_settled_all (look_up c.self.inside.view.entries) (after c) (touched c.self.inside.cpus c.args.cpu c.args.at c.args.stamp.now.tid) c.self.inside.queue)
    ∙ ap (λ (x : MindState). thinks x (after_slot c.args.cpu (SlotState.Done c.args.stamp.now c.args.outcome c.args.at seen) (picture_of x))) c.self.view_is
