use Rattle.std.proofs.Common.{◌++◌, codes, decimal}
use Rattle.gs_history.specs.Pieces.{thread_piece}
use Rattle.gs_history.proofs.Pieces.{before, before_number}
use Rattle.gs_history.proofs.entry_json.write_woken.Goals as goal

pub returns : goal.returns
returns c =
    let r = c.write_thread.result in
    let new = c.write_thread.new.out in
    let w0 = codes "{\"entry\":" in
    let d0 = decimal c.args.place in
    let p1 = codes ",\"kind\":\"posted\",\"message\":\"woken\"" in
    let p2 = thread_piece c.args.tid c.args.tseq in
    before_number r c.args.out.now w0 d0 new (p1 ++ p2) c.in_ok-write_first_place.ensures (before r c.write_first_place.new.out p1 new p2 c.in_ok-push_str.ensures.added c.write_thread.ensures)
