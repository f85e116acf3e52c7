use Rattle.std.proofs.Common.{rules, decimal, drop}
use Rattle.std.proofs.lemmas.Fmt.{length-decimal-le}
use Rattle.gs_text.proofs.Grown.{both_utf8, number_utf8}
use Rattle.gs_sentences.proofs.backwards.put_number.Goals as goal

pub write_digits-requires : goal.write_digits-requires
write_digits-requires c = search (rules, length-decimal-le 20)

pub returns-clause-low : goal.returns-clause-low
returns-clause-low c = search (rules, length-decimal-le 20)

pub returns-clause-utf8 : goal.returns-clause-utf8
returns-clause-utf8 c = λ behind. both_utf8 (decimal c.args.number) (drop c.args.end c.args.array.now) (drop c.write_digits.result c.write_digits.new.buf) c.write_digits.ensures.written behind (number_utf8 c.args.number (search rules))
