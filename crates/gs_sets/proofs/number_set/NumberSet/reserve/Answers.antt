use Rattle.std.proofs.Common.{ap, length, arith}
use Rattle.gs_sets.proofs.Summed.{summed_sums, summed_words}
use Rattle.gs_sets.proofs.number_set.NumberSet.reserve.Goals as goal

pub invariant_of-self-2 : goal.invariant_of-self-2
invariant_of-self-2 c =
    let view = ap length c.self.view_is in
    let sums = c.in_ok-reserve.ensures in
    let words = c.reserve-2.ensures in
    summed_words c.self.inside.numbers c.reserve-2.new.self c.reserve.new.self
    (summed_sums c.self.inside.numbers c.self.inside.words c.reserve.new.self c.self.invariant sums.words sums.kept)
    words.words
    (omega (arith, c.self.invariant.room, sums.kept, sums.room, words.most))
    (omega (arith, c.self.invariant.within, c.requires, words.most))
