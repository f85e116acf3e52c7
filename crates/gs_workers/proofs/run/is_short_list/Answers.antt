use Rattle.std.proofs.Common.{◌≡◌, Bool, length, sym, ◌∙◌}
use Rattle.std.proofs.lemmas.List.{length-map}
use Rattle.gs_core.specs.Short.{wants_memory}
use Rattle.gs_runner.specs.declared.call.Receipt.{Receipt}
use Rattle.gs_runner.specs.Slips.{no_receipt, receipt_kept, receipts_in}
use Rattle.gs_workers.proofs.Shorts.{found, found_not}
use Rattle.gs_workers.proofs.run.is_short_list.Goals as goal

pub returns-then-is_short_at : goal.returns-then-is_short_at
returns-then-is_short_at c =
    let h = c.args.journal.now.entries in
    let rs = c.args.receipts.now in
    let short : Receipt → Bool = λ r. wants_memory r.reply in
    let count : c.len-index-end.result ≡ length (receipts_in h rs) = c.len-index-end.ensures ∙ sym (length-map rs.slips (receipt_kept h rs.others)) in
    sym (found short (receipts_in h rs) c.len-index-end.result c.loop-index.index no_receipt c.is_short_at.result count c.loop-index-test.true c.is_short_at.ensures c.if-is_short_at.true)

pub loop-index-preserved : goal.loop-index-preserved
loop-index-preserved c =
    let h = c.args.journal.now.entries in
    let rs = c.args.receipts.now in
    let short : Receipt → Bool = λ r. wants_memory r.reply in
    let count : c.len-index-end.result ≡ length (receipts_in h rs) = c.len-index-end.ensures ∙ sym (length-map rs.slips (receipt_kept h rs.others)) in
    found_not short (receipts_in h rs) c.len-index-end.result c.loop-index.index no_receipt c.is_short_at.result count c.loop-index-test.true c.is_short_at.ensures c.if-is_short_at.false c.loop-index.invariant
