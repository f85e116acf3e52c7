use Rattle.std.proofs.Common.{◌≡◌, ◌+◌, ◌++◌, ◌∷◌, ap, sym, ◌∙◌, ℕ, List, [], arith, length, refl, take, get_or}
use Rattle.std.proofs.lemmas.List.{take_all, take_more}
use Rattle.std.proofs.lemmas.Option.{slice_get_read}
use Rattle.gs_layout.specs.declared.known.Known.{Known}
use Rattle.gs_layout.specs.View.{Look, look_up}
use Rattle.gs_dump.specs.declared.record.DumpRecord.{DumpRecord}
use Rattle.gs_dump.specs.Page.{Contents}
use Rattle.gs_view.specs.Loaded.{HasRoomFor, loaded}
use Rattle.gs_view.proofs.Loading.{loaded_more}
use Rattle.gs_view.proofs.view.AgentView.load.Goals as goal

pub loop-thread-init : goal.loop-thread-init
loop-thread-init c =
    let fits : HasRoomFor c.args.page.now.records c.reserve.new.self = c.in_ok-reserve.ensures.room in
    record { places = fits.places; room = omega (arith, fits.room); known = refl }

pub set-requires-clause-place : goal.set-requires-clause-place
set-requires-clause-place c =
    let i = c.loop-thread.thread-index in
    let all = c.args.page.now.records in
    let here = c.thread-item.result in
    let same : c.deref-thread-items.result.now ≡ all = c.deref-thread-items.ensures.value ∙ ap (λ (p : Contents). p.records) c.page.view_is in
    let is : here ≡ get_or all i here = c.thread-item.is ∙ ap (λ (rs : List DumpRecord). get_or rs i here) same in
    c.loop-thread.invariant.places i here (slice_get_read all (length c.deref-thread-items.result.now) i here (ap length same) c.loop-thread-test.true is)

pub loop-thread-preserved : goal.loop-thread-preserved
loop-thread-preserved c =
    let i = c.loop-thread.thread-index in
    let all = c.args.page.now.records in
    let here = c.thread-item.result in
    let before = look_up c.loop-thread.self.entries in
    let same : c.deref-thread-items.result.now ≡ all = c.deref-thread-items.ensures.value ∙ ap (λ (p : Contents). p.records) c.page.view_is in
    let is : here ≡ get_or all i here = c.thread-item.is ∙ ap (λ (rs : List DumpRecord). get_or rs i here) same in
    let more : take (i + 1) all ≡ take i all ++ here ∷ [] = take_more all i here (omega (arith, c.loop-thread-test.true, ap length same))
    ∙ ap (λ (r : DumpRecord). take i all ++ r ∷ []) (sym is) in
    record {
      places = λ j r there. omega (arith, c.set.ensures.places, c.loop-thread.invariant.places j r there);
      room = omega (arith, c.loop-thread.invariant.room, c.set.ensures.room);
      known = loaded_more all i here more (look_up c.reserve.new.self.entries) before (look_up c.set.new.self.entries) c.loop-thread.invariant.known
          c.set.ensures.known;
    }

pub returns-clause-known : goal.returns-clause-known
returns-clause-known c =
    let all = c.args.page.now.records in
    let same : c.deref-thread-items.result.now ≡ all = c.deref-thread-items.ensures.value ∙ ap (λ (p : Contents). p.records) c.page.view_is in
    let whole : take c.loop-thread.thread-index all ≡ all = take_all c.loop-thread.thread-index all (omega (arith, c.loop-thread-test.false, ap length same)) in
    λ t. ap (λ (v : Look). v t) c.loop-thread.invariant.known
    ∙ (ap (λ (rs : List DumpRecord). loaded rs (look_up c.reserve.new.self.entries) t) whole
    ∙ ap (λ (es : List (ℕ × Known)). loaded all (look_up es) t) c.reserve.ensures.same)
