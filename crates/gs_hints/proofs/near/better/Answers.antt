use Rattle.std.proofs.Common.{◌≡◌, ◌<◌, Option, Some, subst, sym, ◌∙◌, arith}
use Rattle.gs_hints.specs.declared.near.Candidate.{Candidate}
use Rattle.gs_hints.specs.Nearest.{IsBest}
use Rattle.gs_hints.proofs.Better.{passed_over, as_near, chosen}
use Rattle.gs_hints.proofs.near.better.Goals.{in_default-via-in-Some+else-first-other, in_default-via-in_default}
use Rattle.gs_hints.proofs.near.better.Goals as goal

pub returns-then-not-is_few : goal.returns-then-not-is_few
returns-then-not-is_few c words known best = passed_over c.args.word.now words c.args.best c.args.other (sym c.is_few.ensures ∙ c.if-not-is_few.true) known best

pub returns-in-Some : goal.returns-in-Some
returns-in-Some c words known best =
    as_near c.args.word.now words c.in-Some.first c.args.other (omega arith) known (subst (λ (o : Option Candidate). IsBest c.args.word.now words o) c.in-Some.is best)

pub returns-in_default : goal.returns-in_default
returns-in_default c words known best =
    let less : (b : Candidate) → c.args.best ≡ Some b → c.args.other.edits < b.edits =
    λ b is.
    elim c.in_default.branch [
      | in_default-via-in-Some+else-first-other w ↦
          let is_first = w.in-Some.is in
          let same : w.in-Some.first ≡ b = cc in
          let above = w.if-first-other.false in
          subst (λ (x : Candidate). c.args.other.edits < x.edits) same (omega arith)
      | in_default-via-in_default w ↦ let none = w.in_default.is in absurd cc
    ] in
    chosen c.args.word.now words c.args.best c.args.other less (sym c.is_few.ensures ∙ c.if-not-is_few.false) known best
