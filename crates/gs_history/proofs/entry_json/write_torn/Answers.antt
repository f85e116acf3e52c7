use Rattle.std.proofs.Common.{codes, decimal}
use Rattle.gs_history.proofs.Pieces.{before_number}
use Rattle.gs_history.proofs.entry_json.write_torn.Goals as goal

pub returns : goal.returns
returns c =
    let r = c.push_str.result in
    let new = c.push_str.new.self in
    let w0 = codes "{\"entry\":" in
    let d0 = decimal c.args.place in
    let p1 = codes ",\"kind\":\"torn\"}" in
    before_number r c.args.out.now w0 d0 new p1 c.in_ok-write_first_place.ensures c.push_str.ensures.added
