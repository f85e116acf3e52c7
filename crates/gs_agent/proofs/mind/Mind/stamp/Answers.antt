use Rattle.std.proofs.Common.{◌≡◌, ap, ◌∙◌, ◌∷◌}
use Rattle.std.specs.Option.{option_to_list}
use Rattle.gs_layout.specs.View.{look_up}
use Rattle.gs_beliefs.specs.Cpus.{stamp_on, stamps}
use Rattle.gs_agent.specs.Mind.{MindState, bare, picture_of, thinks}
use Rattle.gs_agent.specs.Picture.{after_stamp, settled_all}
use Rattle.gs_agent.proofs.Rooms.{bare_settled_all}
use Rattle.gs_agent.proofs.Followed.{holds_stamp}
use Rattle.gs_agent.proofs.Minds.{same_mind, same_waiting, stamp_queue}
use Rattle.gs_agent.proofs.mind.Mind.stamp.Goals as goal

-- the queue is then that of those who wait
queue_is : (c : goal.After-settle_if_any) → c.settle_if_any.new.queue ≡ settled_all (look_up c.self.inside.view.entries) (stamps c.args.cpu c.args.tid c.self.inside.cpus) (c.args.tid ∷ option_to_list (stamp_on c.self.inside.cpus c.args.cpu)) c.self.inside.queue
queue_is c = stamp_queue (look_up c.self.inside.view.entries) c.self.inside.cpus _ c.self.inside.queue _ _ c.args.cpu c.args.tid _ c.stamp.ensures c.stamp_on-older.ensures c.settle_stamped.ensures.settled c.settle_if_any.ensures.settled

pub invariant_of-self : goal.invariant_of-self
invariant_of-self c =
    record {
      waiting = same_waiting (look_up c.self.inside.view.entries) _ _ _ _ c.stamp.ensures (queue_is c) (holds_stamp (look_up c.self.inside.view.entries) c.self.inside.cpus c.self.inside.queue c.args.cpu c.args.tid c.self.invariant.waiting);
      room = c.settle_if_any.ensures.room;
    }

pub returns : goal.returns
returns c =
    same_mind c.self.inside.view.entries _ _ _ _ c.stamp.ensures (ap bare (queue_is c) ∙ bare_settled_all (look_up c.self.inside.view.entries) (stamps c.args.cpu c.args.tid c.self.inside.cpus) (c.args.tid ∷ option_to_list (stamp_on c.self.inside.cpus c.args.cpu)) c.self.inside.queue)
    ∙ ap (λ (x : MindState). thinks x (after_stamp c.args.cpu c.args.tid (picture_of x))) c.self.view_is
