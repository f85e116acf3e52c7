use Rattle.std.proofs.Common.{◌≡◌, length, take, arith, length-take-le}
use Rattle.std.proofs.lemmas.Simd.{take_more_put_chunk}
use Rattle.gs_text.proofs.forwards.put_front.Goals as goal

pub returns-clause-written : goal.returns-clause-written
returns-clause-written g c =
    let front = take g.row.N c.args.more.now in
    let long : length front ≡ g.row.N = length-take-le g.row.N c.args.more.now c.requires.many in
    take_more_put_chunk c.args.at c.args.bytes.now front _ (omega arith) c.requires.room
