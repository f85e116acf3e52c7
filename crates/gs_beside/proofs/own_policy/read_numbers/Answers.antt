use Rattle.std.proofs.Common.{rules}
use Rattle.gs_beside.proofs.Reading.{further_word, missing_word, read_word, refused_word}
use Rattle.gs_beside.proofs.own_policy.read_numbers.Goals as goal

pub returns-in_default-clause-fault : goal.returns-in_default-clause-fault
returns-in_default-clause-fault c = missing_word c.args.wanted.now c.args.words.now c.loop-place.numbers c.loop-place.place c.loop-place.invariant c.loop-place-test.true c.in_default.ensures.lookup.3

pub returns-in_err-numbers-clause-fault : goal.returns-in_err-numbers-clause-fault
returns-in_err-numbers-clause-fault c =
    let fault = refused_word c.args.wanted.now c.args.words.now c.loop-place.numbers c.loop-place.place c.loop-place.invariant _ c.in-Some.word.now c.in_err-numbers.field-0.0 c.loop-place-test.true c.in-Some.ensures.lookup.3 c.in_err-numbers.ensures in
    search (rules, fault)

pub loop-place-preserved : goal.loop-place-preserved
loop-place-preserved c =
    read_word c.args.wanted.now c.args.words.now c.loop-place.numbers c.loop-place.place c.loop-place.invariant _ c.in-Some.word.now c.in_ok-numbers.field-0 c.loop-place-test.true c.requires.few c.in-Some.ensures.lookup.3 c.in_ok-numbers.ensures

pub returns-then-wanted-words-clause-fault : goal.returns-then-wanted-words-clause-fault
returns-then-wanted-words-clause-fault c = further_word c.args.wanted.now c.args.words.now c.loop-place.numbers c.loop-place.place c.loop-place.invariant c.loop-place-test.false c.loop-place.auto.place-end c.if-wanted-words.true
