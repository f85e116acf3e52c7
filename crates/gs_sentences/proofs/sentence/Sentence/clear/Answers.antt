use Rattle.std.proofs.Common.{◌≡◌, sym, subst, [], arith, drop}
use Rattle.std.specs.Str.{IsUtf8}
use Rattle.std.proofs.lemmas.List.{drop_all}
use Rattle.std.proofs.lemmas.Str.{IsUtf8-nil}
use Rattle.gs_sentences.proofs.sentence.Sentence.clear.Goals as goal

pub invariant_of-self : goal.invariant_of-self
invariant_of-self c =
    let none : drop 640 c.self.inside.bytes ≡ [] = drop_all 640 c.self.inside.bytes (omega (arith, c.self.told)) in
    record { within = omega arith; utf8 = subst IsUtf8 (sym none) IsUtf8-nil; first = c.self.invariant.first; digits = c.self.invariant.digits }

pub returns : goal.returns
returns c = drop_all 640 c.self.inside.bytes (omega (arith, c.self.told))
