use Rattle.std.proofs.Common.{◌+◌, ◌-◌, ◌*◌, ◌/◌, ℕ, arith}
use Rattle.std.proofs.lemmas.Fmt.{length-decimal-le}
use Rattle.gs_text.proofs.Padded.{last_put}
use Rattle.gs_text.proofs.forwards.write_tail.Goals as goal

pub write_digits-requires : goal.write_digits-requires
write_digits-requires c =
    let behind : ℕ = 1000000000000000000 + (c.args.number - c.args.number / 1000000000000000000 * 1000000000000000000) in
    (omega (arith, c.requires.room, length-decimal-le 19 behind (omega arith) (omega arith) (omega arith)), c.requires.within)

pub returns-clause-written : goal.returns-clause-written
returns-clause-written c =
    let front : ℕ = c.args.number / 1000000000000000000 in
    let last : ℕ = c.args.number - front * 1000000000000000000 in
    last_put 18 c.args.number front last c.write_digits.result c.args.end c.args.buffer.now c.write_digits.new.buf (omega (arith, c.requires.long)) (omega arith) (omega arith) (omega arith) (omega arith) c.write_digits.ensures.start c.write_digits.ensures.written
