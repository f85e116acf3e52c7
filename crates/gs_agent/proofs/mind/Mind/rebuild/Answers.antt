use Rattle.std.proofs.Common.{◌≡◌, ◌<◌, ◌≤◌, ap, sym, ◌∙◌, subst, List, ℕ, length, slice_get}
use Rattle.std.specs.List.{AllByRecursion}
use Rattle.gs_layout.specs.declared.known.Known.{Known}
use Rattle.gs_layout.specs.declared.message.TheConstants.{MOST_TIDS}
use Rattle.gs_layout.specs.View.{look_up}
use Rattle.gs_dump.specs.declared.record.DumpRecord.{DumpRecord}
use Rattle.gs_dump.specs.Page.{Contents}
use Rattle.gs_dump.specs.Record.{IsLive}
use Rattle.gs_view.specs.Loaded.{HasRoomFor}
use Rattle.gs_agent.specs.Held.{HasRoom}
use Rattle.gs_agent.specs.Mind.{MindState, picture_of}
use Rattle.gs_agent.specs.Pages.{after_page}
use Rattle.gs_agent.specs.Picture.{parts}
use Rattle.gs_agent.proofs.Paged.{page_picture, page_waiting, room_more, tid_at}
use Rattle.gs_agent.proofs.mind.Mind.rebuild.Goals as goal

pub follow_records-requires : goal.follow_records-requires
follow_records-requires c =
    let all = c.args.page.now.records in
    let queue = c.make_room_for_page.new.queue in
    let same : c.deref.result.now ≡ all = c.deref.ensures.value ∙ ap (λ (p : Contents). p.records) c.page.view_is in
    let live : AllByRecursion IsLive all = subst (λ (p : Contents). AllByRecursion IsLive p.records) c.page.view_is c.page.invariant.live in
    record {
      view_room = subst (λ (rs : List DumpRecord). HasRoomFor rs c.reserve.new.self) (sym same) c.in_ok-reserve.ensures.room;
      queue_room = subst (λ (rs : List DumpRecord). 0 < length rs → MOST_TIDS ≤ queue.room) (sym same) c.in_ok-make_room_for_page.ensures.told;
      tids = λ i r found. tid_at all live i r (ap (λ (rs : List DumpRecord). slice_get rs i) (sym same) ∙ found);
      room = room_more (look_up c.reserve.new.self.entries) c.self.inside.queue queue c.make_room_for_page.ensures.room
          (subst (λ (es : List (ℕ × Known)). HasRoom (look_up es) c.self.inside.queue) (sym c.reserve.ensures.same) c.self.invariant.room);
    }

-- the records that are followed are the page's, on what was known before
after_all : (c : goal.After-follow_records)
    → parts (look_up c.follow_records.new.view.entries) c.follow_records.new.cpus c.follow_records.new.queue
    ≡ after_page c.args.page.now.records (parts (look_up c.self.inside.view.entries) c.self.inside.cpus c.make_room_for_page.new.queue)
after_all c =
    let same : c.deref.result.now ≡ c.args.page.now.records = c.deref.ensures.value ∙ ap (λ (p : Contents). p.records) c.page.view_is in
    let queue = c.make_room_for_page.new.queue in
    c.follow_records.ensures.picture
    ∙ (ap (λ (rs : List DumpRecord). after_page rs (parts (look_up c.reserve.new.self.entries) c.self.inside.cpus queue)) same
    ∙ ap (λ (es : List (ℕ × Known)). after_page c.args.page.now.records (parts (look_up es) c.self.inside.cpus queue)) c.reserve.ensures.same)

pub invariant_of-self-2 : goal.invariant_of-self-2
invariant_of-self-2 c =
    record {
      waiting = page_waiting c.args.page.now.records (look_up c.self.inside.view.entries) (look_up c.follow_records.new.view.entries) c.self.inside.cpus
          c.follow_records.new.cpus c.self.inside.queue c.make_room_for_page.new.queue c.follow_records.new.queue c.make_room_for_page.ensures.waiting
          (after_all c) c.self.invariant.waiting;
      room = c.follow_records.ensures.room;
    }

pub returns-clause-picture : goal.returns-clause-picture
returns-clause-picture c =
    page_picture c.args.page.now.records (look_up c.self.inside.view.entries) (look_up c.follow_records.new.view.entries) c.self.inside.cpus
    c.follow_records.new.cpus c.self.inside.queue c.make_room_for_page.new.queue c.follow_records.new.queue c.make_room_for_page.ensures.waiting (after_all c)
    ∙ ap (λ (x : MindState). after_page c.args.page.now.records (picture_of x)) c.self.view_is
