use Rattle.std.proofs.Common.{arith, sym}
use Rattle.std.proofs.lemmas.Fmt.{decimal_digit}
use Rattle.std.proofs.lemmas.Str.{IsUtf8-nil}
use Rattle.gs_sentences.proofs.sentence.Sentence.new.Goals as goal

pub invariant_of-result : goal.invariant_of-result
invariant_of-result c = record { within = omega arith; utf8 = IsUtf8-nil; first = omega arith; digits = sym (decimal_digit 0 (omega arith)) }
