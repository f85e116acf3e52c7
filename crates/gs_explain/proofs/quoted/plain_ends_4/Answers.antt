use Rattle.std.proofs.Common.{◌-◌, ◌++◌, length, take, arith}
use Rattle.std.specs.List.{range_with_len}
use Rattle.json.proofs.Printed.Plain.{plain_from_lanes}
use lib.Lanes.{chunk, pick_l}
use Rattle.gs_explain.proofs.Quoting.{lanes_plain, lanes_fit}
use Rattle.gs_explain.proofs.quoted.plain_ends_4.Goals as goal

pub returns : goal.returns
returns c =
    let bytes = c.args.bytes.now in
    let xs = take 4 bytes ++ chunk (length bytes - 4) 4 bytes in
    lanes_plain _ bytes 4 c.requires.many c.requires.few (plain_from_lanes (pick_l 0 xs (range_with_len 0 8)) 0 8 (omega arith) (omega arith) (lanes_fit bytes 4 c.requires.many c.type_inv.bytes))
