use Rattle.std.proofs.Common.{List, [], ◌∷◌, ◌++◌, length, subst, arith, length-append, append-nil, ap, ◌∙◌}
use Rattle.std.specs.Prelude.{MatchOption}
use Rattle.gs_layout.specs.declared.message.Message.{Message}
use Rattle.gs_ring.specs.Peek.{message_of}
use Rattle.api_tests.proofs.ring.take_some.Goals as goal

pub taking-preserved : goal.taking-preserved
taking-preserved g c =
    let inv = c.taking.invariant.1 in
    let follows = c.peek.follows.holds-at-none in
    let m : Message = message_of c.in-Some.field-0 in
    let next =
    subst (λ o. MatchOption o ((m : Message) (ms : List Message) → g.T.Taker.ahead c.peek.follows.lender-at-none (m ∷ ms) → ⊥) (λ p. g.T.Taker.ahead c.peek.follows.lender-at-none (message_of p ∷ []))) c.in-Some.is follows.1 in
    let one = c.advance.ensures m next in
    let both = g.met.T.Taker.passed_join _ _ _ _ _ follows.0 one in
    let all = g.met.T.Taker.passed_join _ _ _ _ _ inv.1 both in
    (omega arith, (inv.0 ++ m ∷ [], all, omega (arith, length-append inv.0 (m ∷ []), inv.2)))

pub returns-in_default-clause-takes : goal.returns-in_default-clause-takes
returns-in_default-clause-takes g c =
    let inv = c.taking.invariant.1 in
    let all = g.met.T.Taker.passed_join _ _ _ _ _ inv.1 c.peek.follows.holds-at-none.0 in
    (inv.0 ++ [], all, ap length (append-nil inv.0) ∙ inv.2)
