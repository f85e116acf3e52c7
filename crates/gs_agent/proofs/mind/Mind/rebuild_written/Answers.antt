use Rattle.std.proofs.Common.{◌≡◌, ap, ◌∙◌, List, ℕ}
use Rattle.gs_layout.specs.declared.known.Known.{Known}
use Rattle.gs_layout.specs.View.{look_up}
use Rattle.gs_dump.specs.declared.record.DumpRecord.{DumpRecord}
use Rattle.gs_agent.specs.Mind.{MindState, picture_of}
use Rattle.gs_agent.specs.Pages.{after_page}
use Rattle.gs_agent.specs.Picture.{parts}
use Rattle.gs_agent.proofs.Paged.{page_picture, page_waiting}
use Rattle.gs_agent.proofs.mind.Mind.rebuild_written.Goals as goal

-- what the records of the page make of what the mind had
after_all : (c : goal.After-follow_written) → parts (look_up c.follow_written.new.view.entries) c.follow_written.new.cpus c.follow_written.new.queue
    ≡ after_page c.args.page.now.records (parts (look_up c.self.inside.view.entries) c.self.inside.cpus c.make_room_for_written.new.queue)
after_all c =
    let queue = c.make_room_for_written.new.queue in
    c.follow_written.ensures.picture
    ∙ (ap (λ (rs : List DumpRecord). after_page rs (parts (look_up c.reserve_written.new.self.entries) c.self.inside.cpus queue)) c.records.ensures.records
    ∙ ap (λ (es : List (ℕ × Known)). after_page c.args.page.now.records (parts (look_up es) c.self.inside.cpus queue)) c.reserve_written.ensures.same)

pub invariant_of-self-2 : goal.invariant_of-self-2
invariant_of-self-2 c =
    record {
      waiting = page_waiting c.args.page.now.records (look_up c.self.inside.view.entries) (look_up c.follow_written.new.view.entries) c.self.inside.cpus
          c.follow_written.new.cpus c.self.inside.queue c.make_room_for_written.new.queue c.follow_written.new.queue c.make_room_for_written.ensures.waiting
          (after_all c) c.self.invariant.waiting;
      room = c.follow_written.ensures.room;
    }

pub returns-clause-picture : goal.returns-clause-picture
returns-clause-picture c =
    page_picture c.args.page.now.records (look_up c.self.inside.view.entries) (look_up c.follow_written.new.view.entries) c.self.inside.cpus
    c.follow_written.new.cpus c.self.inside.queue c.make_room_for_written.new.queue c.follow_written.new.queue c.make_room_for_written.ensures.waiting (after_all c)
    ∙ ap (λ (x : MindState). after_page c.args.page.now.records (picture_of x)) c.self.view_is
