use Rattle.std.proofs.Common.{◌≡◌, ◌<◌, length, Some, ap, subst, sym, ◌∙◌}
use Rattle.gs_layout.specs.View.{look_up}
use Rattle.gs_layout.specs.declared.outcome.Outcome.TheVariants.{Placed}
use Rattle.gs_slots.specs.declared.state.SlotState.{SlotState}
use Rattle.gs_beliefs.specs.Cpus.{Cpus, places, stamp_on, unstamps}
use Rattle.gs_agent.specs.Mind.{MindState, bare, picture_of, thinks}
use Rattle.gs_agent.specs.Picture.{after_slot, settled_all}
use Rattle.gs_agent.proofs.Rooms.{bare_settled_all}
use Rattle.gs_agent.proofs.Followed.{holds_slot, touched}
use Rattle.gs_agent.proofs.Minds.{placed_queue, same_mind, same_waiting}
use Rattle.gs_agent.proofs.mind.Mind.learn_placed.Goals as goal

-- what is believed then
abbrev after : goal.After-settle_if_any → Cpus
after c = unstamps c.args.cpu (places c.args.place c.args.stamp.now.tid c.args.stamp.now.tseq c.self.inside.cpus)

cpus_are : (c : goal.After-settle_if_any) → c.unstamp_named.new.self ≡ after c
cpus_are c = c.unstamp_named.ensures ∙ ap (unstamps c.args.cpu) c.place.ensures

-- the queue is then that of those who wait
queue_is : (c : goal.After-settle_if_any) → c.settle_if_any.new.queue ≡ settled_all (look_up c.self.inside.view.entries) (after c) (touched c.self.inside.cpus c.args.cpu (Some c.args.place) c.args.stamp.now.tid) c.self.inside.queue
queue_is c =
    let below : c.args.place < length c.self.inside.cpus.believed = subst (λ (x : MindState). c.args.place < length x.cpus.believed) (sym c.self.view_is) c.requires.place in
    let named : stamp_on c.self.inside.cpus c.args.cpu ≡ Some c.args.stamp.now.tid = ap (λ (x : MindState). stamp_on x.cpus c.args.cpu) c.self.view_is ∙ c.requires.named in
    placed_queue (look_up c.self.inside.view.entries) c.self.inside.cpus c.unstamp_named.new.self c.self.inside.queue _ c.args.cpu c.args.place c.args.stamp.now.tid c.args.stamp.now.tseq _ below named
    c.self.invariant.waiting (cpus_are c) c.running_on-displaced.ensures c.settle_if_any.ensures.settled

pub invariant_of-self : goal.invariant_of-self
invariant_of-self c =
    record {
      waiting = same_waiting (look_up c.self.inside.view.entries) _ _ _ _ (cpus_are c) (queue_is c)
          (holds_slot (look_up c.self.inside.view.entries) c.self.inside.cpus c.self.inside.queue c.args.cpu Placed (Some c.args.place) c.args.stamp.now.tid c.args.stamp.now.tseq c.self.invariant.waiting);
      room = c.settle_if_any.ensures.room;
    }

pub returns : goal.returns
returns c seen =
    same_mind c.self.inside.view.entries _ _ _ _ (cpus_are c) (ap bare (queue_is c) ∙ bare_settled_all (look_up c.self.inside.view.entries) (after c) (touched c.self.inside.cpus c.args.cpu (Some c.args.place) c.args.stamp.now.tid) c.self.inside.queue)
    ∙ ap (λ (x : MindState). thinks x (after_slot c.args.cpu (SlotState.Done c.args.stamp.now Placed (Some c.args.place) seen) (picture_of x))) c.self.view_is
