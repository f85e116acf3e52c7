use Rattle.std.proofs.Common.{◌≡◌, ℕ, List, [], ◌∷◌, ◌++◌, map, ap, subst, sym, ◌∙◌, append-nil, arith}
use Rattle.std.proofs.lemmas.List.{map_push}
use Rattle.std.specs.Prelude.{MatchOption}
use Rattle.gs_layout.specs.Spelling.{tid_of}
use Rattle.gs_layout.specs.declared.message.Message.{Message}
use Rattle.gs_ring.specs.Peek.{message_of}
use Rattle.integration_tests.proofs.two_rings.take_tids.Goals as goal
use Rattle.integration_tests.proofs.two_rings.take_tids.Goals.{else-loop-test, then-loop-test+in_default}

-- the tids with one message more
one_more : (ms : List Message) (m : Message) (tids more : List ℕ) (tid : ℕ) → more ≡ tids ++ tid ∷ [] → tids ≡ map tid_of ms → tid ≡ tid_of m → more ≡ map tid_of (ms ++ m ∷ [])
one_more ms m tids more tid e f g = e ∙ ap (λ l. l ++ tid ∷ []) f ∙ ap (λ t. map tid_of ms ++ t ∷ []) g ∙ sym (map_push tid_of ms m)

pub loop-preserved : goal.loop-preserved
loop-preserved g c =
    let inv = c.loop.invariant in
    let taken = inv.2.0 in
    let follows = c.peek.follows.holds-at-none in
    let m : Message = message_of c.in-Some.next in
    let next =
    subst (λ o. MatchOption o ((m : Message) (ms : List Message) → g.T.Taker.ahead c.peek.follows.lender-at-none (m ∷ ms) → ⊥) (λ p. g.T.Taker.ahead c.peek.follows.lender-at-none (message_of p ∷ []))) c.in-Some.is follows.1 in
    let one = c.advance.ensures m next in
    let both = g.met.T.Taker.passed_join _ _ _ _ _ follows.0 one in
    let all = g.met.T.Taker.passed_join _ _ _ _ _ inv.2.1 both in (
      omega (arith, inv.0, c.push_reserved.ensures.len),
      omega (arith, inv.1, c.push_reserved.ensures.capacity),
      (taken ++ m ∷ [], all, one_more taken m _ _ _ c.push_reserved.ensures.items inv.2.2 (c.tid.ensures ∙ ap tid_of c.message.ensures)),
    )

pub returns : goal.returns
returns g c =
    let found = c.loop.invariant.2 in
    elim c.loop-test.branch [
      | else-loop-test w ↦ (found.0, subst (λ u. g.T.Taker.passed c.args.taker.now found.0 u) (sym w.taker-is) found.1, found.2)
      | then-loop-test+in_default w ↦
          let all = g.met.T.Taker.passed_join _ _ _ _ _ found.1 w.peek.follows.holds-at-none.0 in
          (found.0, subst (λ u. g.T.Taker.passed c.args.taker.now found.0 u) (sym w.taker-is) (subst (λ ms. g.T.Taker.passed c.args.taker.now ms w.peek.follows.lender-at-none) (append-nil found.0) all), found.2)
    ]
