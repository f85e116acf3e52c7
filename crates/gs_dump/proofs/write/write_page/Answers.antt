use Rattle.std.proofs.Common.{◌≡◌, ◌+◌, ◌++◌, ◌∷◌, [], List, get_or, length, take, sym, ap, ◌∙◌, arith}
use Rattle.std.specs.List.{flat_map}
use Rattle.std.proofs.lemmas.List.{flat_map_more, take_more}
use Rattle.gs_dump.specs.declared.record.DumpRecord.{DumpRecord}
use Rattle.gs_dump.specs.declared.version.Version.TheVariants as versions
use Rattle.gs_dump.specs.Page.{Contents, header_bytes}
use Rattle.gs_dump.specs.Record.{record_spelling}
use Rattle.gs_dump.proofs.write.write_page.Goals as goal

pub loop-record-preserved : goal.loop-record-preserved
loop-record-preserved c =
    let i = c.loop-record.record-index in
    let all = c.args.page.now.records in
    let item = c.record-item.result in
    let same : c.deref-record-items.result.now ≡ all = c.deref-record-items.ensures.value ∙ ap (λ (p : Contents). p.records) c.page.view_is in
    let head = header_bytes c.args.page.now in
    let more : take (i + 1) all ≡ take i all ++ item ∷ [] = take_more all i item (omega (arith, c.loop-record-test.true, ap length same)) ∙ ap (λ (x : DumpRecord). take i all ++ x ∷ []) (sym (c.record-item.is ∙ ap (λ (rs : List DumpRecord). get_or rs i item) same)) in
    c.in_ok-extend_from_slice-2.ensures.items
    ∙ (λ j. c.loop-record.invariant j ++ c.record_bytes.ensures j)
    ∙ flat_map_more (record_spelling versions.Two) head (take i all) item
    ∙ ap (λ (rs : List DumpRecord). head ++ flat_map (record_spelling versions.Two) rs) (sym more)
