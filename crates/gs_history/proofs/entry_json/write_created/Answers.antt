use Rattle.std.proofs.Common.{◌++◌, codes, decimal}
use Rattle.json.specs.Print.{quoted}
use Rattle.serde_json.specs.Data.{boolean}
use Rattle.serde_json.specs.Written.{compact_text}
use Rattle.gs_layout.specs.Class.{class_number}
use Rattle.gs_history.specs.Pieces.{place_piece, thread_piece}
use Rattle.gs_history.proofs.Pieces.{before, before_number}
use Rattle.gs_history.proofs.entry_json.write_created.Goals as goal

pub returns : goal.returns
returns c =
    let r = c.write_thread.result in
    let new = c.write_thread.new.out in
    let w0 = codes "{\"class\":" in
    let d0 = decimal (class_number c.args.facts.now.class) in
    let p1 = place_piece c.args.place in
    let w2 = codes ",\"kind\":\"posted\",\"mask\":" in
    let d2 = quoted (decimal c.args.facts.now.mask) in
    let p3 = codes ",\"message\":\"created\",\"name\":" in
    let p4 = quoted c.args.facts.now.name in
    let p5 = codes ",\"runnable\":" in
    let p6 = compact_text (boolean c.args.facts.now.runnable) in
    let p7 = thread_piece c.args.tid c.args.tseq in
    before_number r c.args.out.now w0 d0 new (p1 ++ (w2 ++ (d2 ++ (p3 ++ (p4 ++ (p5 ++ (p6 ++ p7))))))) (rw c.number.ensures at c.in_ok-push_number.ensures.added) (before r c.push_number.new.self p1 new (w2 ++ (d2 ++ (p3 ++ (p4 ++ (p5 ++ (p6 ++ p7)))))) c.in_ok-write_place.ensures (before r c.write_place.new.out w2 new (d2 ++ (p3 ++ (p4 ++ (p5 ++ (p6 ++ p7))))) c.in_ok-push_str.ensures.added (before r c.push_str.new.self d2 new (p3 ++ (p4 ++ (p5 ++ (p6 ++ p7)))) c.in_ok-write_mask.ensures (before r c.write_mask.new.out p3 new (p4 ++ (p5 ++ (p6 ++ p7))) c.in_ok-push_str-2.ensures.added (before r c.push_str-2.new.self p4 new (p5 ++ (p6 ++ p7)) c.in_ok-write_name.ensures (before r c.write_name.new.out p5 new (p6 ++ p7) c.in_ok-push_str-3.ensures.added (before r c.push_str-3.new.self p6 new p7 c.in_ok-write_flag.ensures c.write_thread.ensures)))))))
