use Rattle.std.proofs.Common.{◌++◌, Some, codes, decimal}
use Rattle.gs_history.specs.Pieces.{cpu_piece, place_piece, thread_piece}
use Rattle.gs_history.proofs.Pieces.{before, before_number}
use Rattle.gs_history.proofs.entry_json.write_placed.Goals as goal

pub returns : goal.returns
returns c =
    let r = c.write_thread.result in
    let new = c.write_thread.new.out in
    let p0 = cpu_piece (Some c.args.cpu) in
    let p1 = place_piece c.args.place in
    let w2 = codes ",\"generation\":" in
    let d2 = decimal c.args.generation in
    let p3 = codes ",\"kind\":\"placed\"" in
    let p4 = thread_piece c.args.tid c.args.tseq in
    before r c.args.out.now p0 new (p1 ++ (w2 ++ (d2 ++ (p3 ++ p4)))) c.in_ok-write_cpu.ensures (before r c.write_cpu.new.out p1 new (w2 ++ (d2 ++ (p3 ++ p4))) c.in_ok-write_place.ensures (before_number r c.write_place.new.out w2 d2 new (p3 ++ p4) c.in_ok-push_number.ensures.added (before r c.push_number.new.self p3 new p4 c.in_ok-push_str.ensures.added c.write_thread.ensures)))
