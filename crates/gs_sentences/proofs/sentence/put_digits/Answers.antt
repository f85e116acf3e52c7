use Rattle.std.proofs.Common.{◌≡◌, [], ◌++◌, ◌∙◌, ap, append-nil, arith, decimal, drop}
use Rattle.std.proofs.lemmas.List.{drop_all}
use Rattle.gs_sentences.proofs.sentence.put_digits.Goals as goal

pub returns-clause-value : goal.returns-clause-value
returns-clause-value c =
    let none : drop 39 c.args.digits.now ≡ [] = drop_all 39 c.args.digits.now (omega (arith, c.requires.size)) in
    c.put_mask.ensures.written ∙ (ap (λ ds. decimal c.args.mask ++ ds) none ∙ append-nil (decimal c.args.mask))
