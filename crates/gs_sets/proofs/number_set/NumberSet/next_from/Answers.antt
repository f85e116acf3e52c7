use Rattle.std.proofs.Common.{◌≡◌, ap, sym, ◌∙◌, ℕ, ◌*◌, ◌^◌, ◌<◌, true, List, length, arith}
use Rattle.gs_sets.specs.declared.bits.TheConstants.{WORD}
use Rattle.gs_sets.specs.Bits.{is_in, IsNone, IsSummed}
use Rattle.std.proofs.lemmas.Option.{IfSome_then}
use Rattle.gs_sets.proofs.BitWords.{in_within}
use Rattle.gs_sets.proofs.Summed.{none_beyond, summed_within}
use Rattle.gs_sets.proofs.number_set.NumberSet.next_from.Goals as goal

-- a number of the set stands in one of its words, of which there are no more than numbers of 32 bits need
stands : (numbers words sums : List ℕ) (n : ℕ) → numbers ≡ words → IsSummed numbers sums → is_in numbers n ≡ true → (n < WORD * length words) × (n < 2 ^ 32)
stands numbers words sums n same summed there =
    let within : n < WORD * length numbers = in_within numbers n there in
    (omega (arith, within, ap length same), omega (arith, within, summed.within))

pub returns-in-Some-clause-within : goal.returns-in-Some-clause-within
returns-in-Some-clause-within c =
    stands c.self.inside.numbers c.args.self.now c.self.inside.words c.in-Some.number c.self.view_is c.self.invariant c.in-Some.ensures.first.passes

pub returns-in_err-word-clause-first : goal.returns-in_err-word-clause-first
returns-in_err-word-clause-first c =
    let none : IsNone (is_in c.args.self.now) c.args.from =
    λ n ge. ap (λ words. is_in words n) (sym c.self.view_is)
    ∙ none_beyond c.self.inside.numbers c.self.inside.words c.args.from c.self.invariant c.in_default.ensures.none c.in_err-word.ensures n ge
    in
    rw c.from_residual.ensures none

pub returns-clause-within : goal.returns-clause-within
returns-clause-within c =
    IfSome_then c.next_in_word-2.result c.next_in_word-2.ensures.first
    (λ n first. stands c.self.inside.numbers c.args.self.now c.self.inside.words n c.self.view_is c.self.invariant first.passes)

pub overflow_mul-word : goal.overflow_mul-word
overflow_mul-word c =
    omega (arith, c.self.invariant.within, summed_within c.self.inside.numbers c.self.inside.words c.in_ok-word.word c.self.invariant c.in_ok-word.ensures.passes)
