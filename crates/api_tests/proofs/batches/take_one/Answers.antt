use Rattle.std.proofs.Common.{length, ap, arith, length-append}
use Rattle.api_tests.proofs.batches.take_one.Goals as goal

pub returns : goal.returns
returns c =
    let t = c.take_batch.ensures.takes in
    omega (arith, t.1.consumed, ap length t.1.unread, length-append t.0 c.take_batch.new.taker.unread)
