use Rattle.std.proofs.Common.{drop}
use Rattle.gs_text.proofs.Grown.{both_utf8}
use Rattle.gs_sentences.proofs.backwards.put_text.Goals as goal

pub returns-clause-utf8 : goal.returns-clause-utf8
returns-clause-utf8 c = λ front behind. both_utf8 c.args.bytes.now (drop c.args.end c.args.array.now) (drop c.put_bytes.result c.put_bytes.new.array) c.put_bytes.ensures.written behind front
