use Rattle.std.proofs.Common.{◌++◌, codes, decimal}
use Rattle.gs_history.proofs.Pieces.{before_number}
use Rattle.gs_history.proofs.entry_json.write_begin.Goals as goal

pub returns : goal.returns
returns c =
    let r = c.push_str.result in
    let new = c.push_str.new.self in
    let w0 = codes "{\"entry\":" in
    let d0 = decimal c.args.place in
    let w1 = codes ",\"generation\":" in
    let d1 = decimal c.args.generation in
    let p2 = codes ",\"kind\":\"begin\"}" in
    before_number r c.args.out.now w0 d0 new (w1 ++ (d1 ++ p2)) c.in_ok-write_first_place.ensures (before_number r c.write_first_place.new.out w1 d1 new p2 c.in_ok-push_number.ensures.added c.push_str.ensures.added)
