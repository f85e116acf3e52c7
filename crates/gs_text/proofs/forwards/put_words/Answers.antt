use Rattle.std.proofs.Common.{◌++◌, ◌∙◌, List, ℕ, ap, arith, subst, take, take_all}
use Rattle.std.specs.Str.{IsUtf8}
use Rattle.gs_text.proofs.Grown.{both_utf8}
use Rattle.gs_text.proofs.forwards.put_words.Goals as goal

pub returns-clause-written : goal.returns-clause-written
returns-clause-written c =
    let more : List ℕ = c.as_bytes-more.result.now in
    c.loop-n.invariant.written ∙ ap (λ (xs : List ℕ). take c.args.at c.args.bytes.now ++ xs) (take_all c.loop-n.n more (omega (arith, c.loop-n-test.false)) ∙ c.as_bytes-more.ensures.value)

pub returns-clause-utf8 : goal.returns-clause-utf8
returns-clause-utf8 c = λ before. both_utf8 (take c.args.at c.args.bytes.now) c.args.words.now _ (returns-clause-written c) (subst IsUtf8 c.as_bytes-more.ensures.value c.as_bytes-more.ensures.utf8) before
