use Rattle.std.proofs.Common.{◌≡◌, ◌==◌, ◌∙◌, sym, subst, length, ℕ, Bool, false, true, arith}
use Rattle.std.proofs.lemmas.Grind.{common_steps}
use Rattle.std.specs.Io.KnownBytes.{prepend_known}
use Rattle.gs_serve.specs.Source.{GoesOn}
use Rattle.gs_serve.proofs.Coming.{few_kept, last_comes, line_begins, line_comes, none_comes}
use Rattle.gs_serve.proofs.Kept.{end_known}
use Rattle.gs_serve.proofs.source.Source.next.Goals as goal

is_zero : (n : ℕ) → (n == 0) ≡ true → n ≡ 0
is_zero n e = grind (arith, common_steps)

is_more : (n : ℕ) → (n == 0) ≡ false → n ≡ 0 → ⊥
is_more n e h = grind (arith, common_steps)

pub returns-then-is_empty : goal.returns-then-is_empty
returns-then-is_empty g c =
    let filled = c.in_ok-fill.ensures in
    let end = filled.end c.if-not-branch.true in
    let empty : length c.loop-turn.line.items ≡ 0 = sym c.loop-turn.line.ok.0 ∙ is_zero _ (sym c.is_empty.ensures ∙ c.if-is_empty.true) in
    none_comes _ (prepend_known c.loop-turn.self (g.R.Read.remaining c.loop-turn.reader)) _ c.loop-turn.line.items c.loop-turn.invariant.so_far empty filled.same (end_known (g.R.Read.remaining c.fill.new.reader) c.fill.new.self end.0 end.1)

pub returns-then-not-branch : goal.returns-then-not-branch
returns-then-not-branch g c =
    let filled = c.in_ok-fill.ensures in
    let end = filled.end c.if-not-branch.true in
    last_comes _ (prepend_known c.loop-turn.self (g.R.Read.remaining c.loop-turn.reader)) _ c.loop-turn.line.items c.loop-turn.invariant.so_far
    (λ h. is_more _ (sym c.is_empty.ensures ∙ c.if-is_empty.false) (c.loop-turn.line.ok.0 ∙ h)) filled.same (end_known (g.R.Read.remaining c.fill.new.reader) c.fill.new.self end.0 end.1)

pub returns-then-branch : goal.returns-then-branch
returns-then-branch g c =
    let went = subst (λ (b : Bool). GoesOn c.loop-turn.line.items c.go_on.new.line.items b c.fill.new.self c.go_on.new.self) c.if-branch.true c.in_ok-go_on.ensures in
    line_comes _ (prepend_known c.loop-turn.self (g.R.Read.remaining c.loop-turn.reader)) c.loop-turn.line.items c.go_on.new.line.items c.fill.new.self c.go_on.new.self (g.R.Read.remaining c.fill.new.reader) c.loop-turn.invariant.so_far c.in_ok-fill.ensures.same went

pub loop-turn-preserved : goal.loop-turn-preserved
loop-turn-preserved g c =
    let went = subst (λ (b : Bool). GoesOn c.loop-turn.line.items c.go_on.new.line.items b c.fill.new.self c.go_on.new.self) c.if-branch.false c.in_ok-go_on.ensures in
    record {
      short = omega (arith, few_kept c.loop-turn.line.items c.go_on.new.line.items c.fill.new.self c.go_on.new.self false went, c.go_on.new.line.ok.0);
      so_far =
          line_begins _ (prepend_known c.loop-turn.self (g.R.Read.remaining c.loop-turn.reader)) c.loop-turn.line.items c.go_on.new.line.items c.fill.new.self c.go_on.new.self (g.R.Read.remaining c.fill.new.reader) c.loop-turn.invariant.so_far c.in_ok-fill.ensures.same went;
    }
