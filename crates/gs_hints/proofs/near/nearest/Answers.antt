use Rattle.std.proofs.Common.{◌≡◌, List, ℕ, Option, take, subst, sym, arith}
use denote.Ref.{Bor}
use Rattle.std.proofs.lemmas.List.{take_all, take_more}
use Rattle.gs_hints.specs.declared.near.Candidate.{Candidate}
use Rattle.gs_hints.specs.Nearest.{IsBest, distance}
use Rattle.gs_hints.proofs.near.nearest.Goals as goal

pub loop-other-preserved : goal.loop-other-preserved
unfolding distance
loop-other-preserved c =
    let others = c.args.others.now in
    let i = c.loop-other.other-index in
    let word = c.args.word.now in
    let better = c.better-best.ensures (take i others) c.in_ok-edits.ensures.value c.loop-other.invariant in
    subst (λ (xs : List (Bor (List ℕ))). IsBest word xs c.better-best.result) (sym (take_more others i _ c.loop-other-test.true)) better

pub returns-in-None : goal.returns-in-None
returns-in-None c =
    let others = c.args.others.now in
    let all : take c.loop-other.other-index others ≡ others = take_all c.loop-other.other-index others (omega arith) in
    let best = subst (λ (xs : List (Bor (List ℕ))). IsBest c.args.word.now xs c.loop-other.best) all c.loop-other.invariant in
    subst (λ (o : Option Candidate). IsBest c.args.word.now others o) c.in-None.is best
