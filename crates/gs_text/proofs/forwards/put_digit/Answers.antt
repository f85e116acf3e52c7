use Rattle.std.proofs.Common.{arith, decimal, ◌++◌, refl, subst, take}
use Rattle.std.specs.Str.{IsUtf8}
use Rattle.gs_text.proofs.Grown.{both_utf8, digit_put, number_utf8}
use Rattle.gs_text.proofs.forwards.put_digit.Goals as goal

pub returns-clause-written : goal.returns-clause-written
returns-clause-written c = digit_put c.args.at c.put_words-behind.result _ c.args.digit c.args.bytes.now c.put_words-behind.new.bytes c.args.words.now c.requires.digit (omega arith) refl c.put_words-behind.ensures.written

pub returns-clause-utf8 : goal.returns-clause-utf8
returns-clause-utf8 c = λ before. both_utf8 (take c.args.at c.args.bytes.now ++ c.args.words.now) (decimal c.args.digit) _ (returns-clause-written c) (number_utf8 c.args.digit (omega arith)) (subst IsUtf8 c.put_words-behind.ensures.written (c.put_words-behind.ensures.utf8 before))
