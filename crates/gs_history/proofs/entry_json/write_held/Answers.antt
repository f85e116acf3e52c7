use Rattle.std.proofs.Common.{◌++◌, Some}
use Rattle.gs_history.specs.Pieces.{cpu_piece, place_piece}
use Rattle.gs_history.proofs.Pieces.{before}
use Rattle.gs_history.proofs.entry_json.write_held.Goals as goal

pub returns : goal.returns
returns c =
    let r = c.push_str.result in
    let new = c.push_str.new.self in
    let p0 = cpu_piece (Some c.args.cpu) in
    let p1 = place_piece c.args.place in
    let p2 = c.args.words.now in
    before r c.args.out.now p0 new (p1 ++ p2) c.in_ok-write_cpu.ensures (before r c.write_cpu.new.out p1 new p2 c.in_ok-write_place.ensures c.push_str.ensures.added)
