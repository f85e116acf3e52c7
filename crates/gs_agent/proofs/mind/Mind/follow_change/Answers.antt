use Rattle.std.proofs.Common.{ap, ◌∙◌, refl, sym}
use Rattle.gs_layout.specs.View.{look_up}
use Rattle.gs_view.specs.News.{word_of}
use Rattle.gs_agent.specs.Mind.{MindState, picture_of}
use Rattle.gs_agent.specs.Picture.{after_message}
use Rattle.gs_agent.proofs.Believing.{turn_ended}
use Rattle.gs_agent.proofs.Minds.{is_applied, mask_same, not_applied, news_picture, news_waiting, old_picture, room_news, waiting_as_before}
use Rattle.gs_agent.proofs.mind.Mind.follow_change.Goals as goal

pub requeue-requires-clause-room : goal.requeue-requires-clause-room
requeue-requires-clause-room c =
    let v = look_up c.self.inside.view.entries in
    room_news v (look_up c.hear.new.self.entries) c.self.inside.queue c.make_room.new.queue c.args.message.now c.self.invariant.room c.in_ok-heard.ensures.known
    c.make_room.ensures.room c.in_ok-make_room.ensures.begun c.as_bytes-spelled.ensures.spellable

pub requeue-requires-clause-off : goal.requeue-requires-clause-off
requeue-requires-clause-off c = turn_ended c.args.message.now c.self.inside.cpus c.hear_as.new.self c.hear_as.ensures

pub returns-in_default-clause-picture : goal.returns-in_default-clause-picture
returns-in_default-clause-picture c =
    let v = look_up c.self.inside.view.entries in
    old_picture v (look_up c.hear.new.self.entries) c.self.inside.cpus c.self.inside.queue c.make_room.new.queue c.args.message.now
    (ap is_applied c.in_ok-heard.ensures.word ∙ not_applied c.in_ok-heard.heard.news c.in_default.not-Applied)
    c.in_ok-heard.ensures.known c.make_room.ensures.waiting
    ∙ ap (λ (x : MindState). after_message c.args.message.now (picture_of x)) c.self.view_is

pub invariant_of-self-2 : goal.invariant_of-self-2
invariant_of-self-2 c =
    let v = look_up c.self.inside.view.entries in
    record {
      waiting = news_waiting v (look_up c.hear.new.self.entries) c.self.inside.cpus c.hear_as.new.self c.make_room.new.queue c.requeue.new.queue c.args.message.now
          (waiting_as_before v v c.self.inside.cpus c.self.inside.queue c.make_room.new.queue (λ t. refl) c.make_room.ensures.waiting c.self.invariant.waiting)
          c.in_ok-heard.ensures.known c.hear_as.ensures c.requeue.ensures.requeued;
      room = c.requeue.ensures.room;
    }

pub returns-clause-picture : goal.returns-clause-picture
returns-clause-picture c =
    let v = look_up c.self.inside.view.entries in
    news_picture v (look_up c.hear.new.self.entries) c.self.inside.cpus c.hear_as.new.self c.self.inside.queue c.make_room.new.queue c.requeue.new.queue c.args.message.now
    (c.in_ok-heard.ensures.word ∙ ap word_of c.in-Applied.is)
    c.in_ok-heard.ensures.known c.hear_as.ensures c.make_room.ensures.waiting c.requeue.ensures.requeued
    ∙ ap (λ (x : MindState). after_message c.args.message.now (picture_of x)) c.self.view_is

pub invariant_of-self-then-is_mask_alone : goal.invariant_of-self-then-is_mask_alone
invariant_of-self-then-is_mask_alone c =
    let v = look_up c.self.inside.view.entries in
    record {
      waiting = news_waiting v (look_up c.hear.new.self.entries) c.self.inside.cpus c.hear_as.new.self c.make_room.new.queue c.make_room.new.queue c.args.message.now
          (waiting_as_before v v c.self.inside.cpus c.self.inside.queue c.make_room.new.queue (λ t. refl) c.make_room.ensures.waiting c.self.invariant.waiting)
          c.in_ok-heard.ensures.known c.hear_as.ensures (mask_same v (look_up c.hear.new.self.entries) c.self.inside.cpus c.hear_as.new.self c.self.inside.queue c.make_room.new.queue c.args.message.now (sym c.is_mask_alone.ensures ∙ c.if-is_mask_alone.true) (c.in_ok-heard.ensures.word ∙ ap word_of c.in-Applied.is) c.in_ok-heard.ensures.known c.hear_as.ensures c.make_room.ensures.waiting c.self.invariant.waiting);
      room = room_news v (look_up c.hear.new.self.entries) c.self.inside.queue c.make_room.new.queue c.args.message.now c.self.invariant.room c.in_ok-heard.ensures.known
          c.make_room.ensures.room c.in_ok-make_room.ensures.begun c.as_bytes-spelled.ensures.spellable;
    }

pub returns-then-is_mask_alone-clause-picture : goal.returns-then-is_mask_alone-clause-picture
returns-then-is_mask_alone-clause-picture c =
    let v = look_up c.self.inside.view.entries in
    news_picture v (look_up c.hear.new.self.entries) c.self.inside.cpus c.hear_as.new.self c.self.inside.queue c.make_room.new.queue c.make_room.new.queue c.args.message.now
    (c.in_ok-heard.ensures.word ∙ ap word_of c.in-Applied.is)
    c.in_ok-heard.ensures.known c.hear_as.ensures c.make_room.ensures.waiting (mask_same v (look_up c.hear.new.self.entries) c.self.inside.cpus c.hear_as.new.self c.self.inside.queue c.make_room.new.queue c.args.message.now (sym c.is_mask_alone.ensures ∙ c.if-is_mask_alone.true) (c.in_ok-heard.ensures.word ∙ ap word_of c.in-Applied.is) c.in_ok-heard.ensures.known c.hear_as.ensures c.make_room.ensures.waiting c.self.invariant.waiting)
    ∙ ap (λ (x : MindState). after_message c.args.message.now (picture_of x)) c.self.view_is
