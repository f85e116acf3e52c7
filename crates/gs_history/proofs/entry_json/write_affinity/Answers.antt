use Rattle.json.specs.Print.{quoted}
use Rattle.serde_json.specs.Data.{boolean}
use Rattle.serde_json.specs.Written.{compact_text}
use Rattle.std.proofs.Common.{◌++◌, codes, decimal}
use Rattle.gs_history.specs.Pieces.{cpu_piece, place_piece, thread_piece}
use Rattle.gs_history.proofs.Pieces.{before}
use Rattle.gs_history.proofs.entry_json.write_affinity.Goals as goal

pub returns : goal.returns
returns c =
    let r = c.write_thread.result in
    let new = c.write_thread.new.out in
    let p0 = cpu_piece c.args.cpu in
    let p1 = place_piece c.args.place in
    let w2 = codes ",\"kind\":\"posted\",\"mask\":" in
    let d2 = quoted (decimal c.args.mask) in
    let p3 = codes ",\"message\":\"affinity\",\"off\":" in
    let p4 = compact_text (boolean c.args.off) in
    let p5 = thread_piece c.args.tid c.args.tseq in
    before r c.args.out.now p0 new (p1 ++ (w2 ++ (d2 ++ (p3 ++ (p4 ++ p5))))) c.in_ok-write_cpu.ensures (before r c.write_cpu.new.out p1 new (w2 ++ (d2 ++ (p3 ++ (p4 ++ p5)))) c.in_ok-write_place.ensures (before r c.write_place.new.out w2 new (d2 ++ (p3 ++ (p4 ++ p5))) c.in_ok-push_str.ensures.added (before r c.push_str.new.self d2 new (p3 ++ (p4 ++ p5)) c.in_ok-write_mask.ensures (before r c.write_mask.new.out p3 new (p4 ++ p5) c.in_ok-push_str-2.ensures.added (before r c.push_str-2.new.self p4 new p5 c.in_ok-write_flag.ensures c.write_thread.ensures)))))
