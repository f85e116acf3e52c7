use Rattle.std.proofs.Common.{take}
use Rattle.gs_text.proofs.Grown.{both_utf8, first_put}
use Rattle.gs_text.proofs.forwards.put_first.Goals as goal

pub returns-clause-written : goal.returns-clause-written
returns-clause-written c = first_put c.args.at c.args.count c.put.result c.args.bytes.now c.put.new.bytes c.args.more.now c.requires.room c.requires.few c.put.ensures.end c.put.ensures.written

pub returns-clause-utf8 : goal.returns-clause-utf8
returns-clause-utf8 c = λ more before. both_utf8 (take c.args.at c.args.bytes.now) (take c.args.count c.args.more.now) _ (returns-clause-written c) more before
