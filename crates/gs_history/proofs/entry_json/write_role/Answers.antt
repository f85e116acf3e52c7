use Rattle.std.proofs.Common.{◌++◌, Some, codes, decimal}
use Rattle.gs_history.specs.Pieces.{cpu_piece, place_piece}
use Rattle.gs_history.proofs.Pieces.{before, before_number}
use Rattle.gs_history.proofs.entry_json.write_role.Goals as goal

pub returns : goal.returns
returns c =
    let r = c.push_str.result in
    let new = c.push_str.new.self in
    let p0 = cpu_piece (Some c.args.cpu) in
    let p1 = place_piece c.args.place in
    let w2 = codes ",\"generation\":" in
    let d2 = decimal c.args.generation in
    let p3 = codes ",\"kind\":\"role\"}" in
    before r c.args.out.now p0 new (p1 ++ (w2 ++ (d2 ++ p3))) c.in_ok-write_cpu.ensures (before r c.write_cpu.new.out p1 new (w2 ++ (d2 ++ p3)) c.in_ok-write_place.ensures (before_number r c.write_place.new.out w2 d2 new p3 c.in_ok-push_number.ensures.added c.push_str.ensures.added))
