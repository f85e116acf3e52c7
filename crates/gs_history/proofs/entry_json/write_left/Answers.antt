use Rattle.std.proofs.Common.{◌++◌}
use Rattle.gs_history.specs.Pieces.{cpu_piece, place_piece, thread_piece}
use Rattle.gs_history.proofs.Pieces.{before}
use Rattle.gs_history.proofs.entry_json.write_left.Goals as goal

pub returns : goal.returns
returns c =
    let r = c.write_thread.result in
    let new = c.write_thread.new.out in
    let p0 = cpu_piece c.args.cpu in
    let p1 = place_piece c.args.place in
    let p2 = c.args.words.now in
    let p3 = thread_piece c.args.tid c.args.tseq in
    before r c.args.out.now p0 new (p1 ++ (p2 ++ p3)) c.in_ok-write_cpu.ensures (before r c.write_cpu.new.out p1 new (p2 ++ p3) c.in_ok-write_place.ensures (before r c.write_place.new.out p2 new p3 c.in_ok-push_str.ensures.added c.write_thread.ensures))
