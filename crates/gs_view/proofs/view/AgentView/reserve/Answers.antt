use Rattle.std.proofs.Common.{true, ◌≡◌, ◌-◌, ap, sym, ◌∙◌, List, Some, arith, length, slice_get}
use Rattle.std.proofs.lemmas.Option.{slice_get_within}
use Rattle.gs_dump.specs.declared.record.DumpRecord.{DumpRecord}
use Rattle.gs_dump.specs.Page.{Contents, rises}
use Rattle.gs_view.proofs.Loading.{upto_later}
use Rattle.gs_view.proofs.view.AgentView.reserve.Goals as goal

pub returns-in_ok-reserve-clause-room : goal.returns-in_ok-reserve-clause-room
returns-in_ok-reserve-clause-room c =
    let all = c.args.page.now.records in
    let last = c.in-Some.last.now in
    let same : c.deref.result.now ≡ all = c.deref.ensures.value ∙ ap (λ (p : Contents). p.records) c.page.view_is in
    let up : rises 0 all c.args.page.now.next ≡ true = ap (λ (p : Contents). rises 0 p.records p.next) (sym c.page.view_is) ∙ c.page.invariant.order in
    let ends : slice_get all (length all - 1) ≡ Some last = ap (λ (rs : List DumpRecord). slice_get rs (length rs - 1)) (sym same) ∙ sym c.in-Some.ensures.value in
    record {
      places = λ i r found.
          let within = slice_get_within all i r found in
          let below = upto_later 0 all c.args.page.now.next up i (length all - 1) r last (omega (arith, within)) found ends in
          omega (arith, below, c.in_ok-reserve.ensures.place);
      room = omega (arith, c.in_ok-reserve.ensures.room, c.len.ensures, c.page.inside.records.ok, ap (λ (p : Contents). length p.records) c.page.view_is);
    }
