use Rattle.std.proofs.Common.{◌++◌, codes, decimal}
use Rattle.gs_history.proofs.Pieces.{before_number}
use Rattle.gs_history.proofs.entry_json.write_thread.Goals as goal

pub returns : goal.returns
returns c =
    let r = c.push_str.result in
    let new = c.push_str.new.self in
    let w0 = codes ",\"seq\":" in
    let d0 = decimal c.args.tseq in
    let w1 = codes ",\"tid\":" in
    let d1 = decimal c.args.tid in
    let p2 = codes "}" in
    before_number r c.args.out.now w0 d0 new (w1 ++ (d1 ++ p2)) c.in_ok-push_number.ensures.added (before_number r c.push_number.new.self w1 d1 new p2 c.in_ok-push_number-2.ensures.added c.push_str.ensures.added)
