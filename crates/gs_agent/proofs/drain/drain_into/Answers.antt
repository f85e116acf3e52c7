use Rattle.std.proofs.Common.{◌≡◌, refl, rules, ◌-◌, List, [], ◌∷◌, ◌++◌, length, ap, sym, subst, ◌∙◌, arith, length-append}
use Rattle.std.proofs.lemmas.List.{nil_from_length}
use Rattle.gs_layout.specs.declared.message.Message.{Message}
use Rattle.gs_ring.specs.Batches.{messages_of}
use Rattle.gs_agent.specs.Mind.{picture_of}
use Rattle.gs_agent.proofs.Draining.{first_done, left_after, next_ahead, none_where}
use Rattle.gs_agent.proofs.drain.drain_into.Goals as goal
use Rattle.gs_agent.proofs.drain.drain_into.Goals.{After-pass}

pub pass-requires : goal.pass-requires
pass-requires g c =
    let t = c.follow_first-drained.ensures in
    (messages_of c.batch.result, c.batch.follows.holds-at-none.1, omega (arith, t.count, ap length t.all, length-append t.done t.left))

-- what was followed of the batch passed
passed : (g : _) (c : After-pass g) → g.T.Taker.passed c.batch.follows.lender-at-none c.follow_first-drained.ensures.done c.pass.new.self
passed g c =
    let t = c.follow_first-drained.ensures in
    let n = c.follow_first-drained.result.count - c.draining.drained.count in
    subst (λ (l : List Message). g.T.Taker.passed c.batch.follows.lender-at-none l c.pass.new.self) (first_done (messages_of c.batch.result) t.done t.left n t.all (omega (arith, t.count)))
    (c.pass.ensures (messages_of c.batch.result) c.batch.follows.holds-at-none.1 (omega (arith, t.count, ap length t.all, length-append t.done t.left)))

pub draining-preserved : goal.draining-preserved
draining-preserved g c =
    let had = c.draining.invariant.followed in
    let t = c.follow_first-drained.ensures in
    let both = g.met.T.Taker.passed_join _ _ _ _ _ c.batch.follows.holds-at-none.0 (passed g (goal.at.draining-preserved g c).After-pass) in
    record {
      few = t.most;
      goes_on = none_where c.follow_first-drained.result.stop (sym c.is_some.ensures ∙ c.if-is_some.false);
      followed = (had.0 ++ t.done, g.met.T.Taker.passed_join _ _ _ _ _ had.1 both, t.followed (picture_of c.args.mind.now) had.0 had.2);
    }

pub returns-then-followed-eq0 : goal.returns-then-followed-eq0
returns-then-followed-eq0 g c =
    let had = c.draining.invariant.followed in
    let follows = c.batch.follows.holds-at-none in
    let t = c.follow_first-drained.ensures in
    let none : t.done ≡ [] = nil_from_length t.done (omega (arith, t.count, c.if-followed-eq0.true)) in
    let so_far = g.met.T.Taker.passed_join _ _ _ _ _ had.1 follows.0 in
    let left : messages_of c.batch.result ≡ t.left = t.all ∙ ap (λ l. l ++ t.left) none in
    let comes = λ (m : Message) (more : List Message) (next : t.left ≡ m ∷ more).
    next_ahead g.T.Taker.ahead g.met.T.Taker.begins c.batch.follows.lender-at-none m more (messages_of c.batch.result) (left ∙ next) follows.1 in
    record {
      followed = (had.0 ++ t.done, subst (λ (l : List Message). g.T.Taker.passed c.args.taker.now (had.0 ++ l) c.batch.follows.lender-at-none) (sym none) so_far, t.followed (picture_of c.args.mind.now) had.0 had.2);
      most = t.most;
      whole = λ goes_on less m ms ahead. follows.2 (left ∙ t.whole goes_on less) m ms ahead;
      early = t.early;
      gap = λ stop. let next = t.gap stop in (next.0, comes next.0 next.1 next.2, next.3);
      memory = λ stop. let next = t.memory stop in (next.0, comes next.0 next.1 next.2, next.3);
    }

pub returns-then-is_some : goal.returns-then-is_some
returns-then-is_some g c =
    let had = c.draining.invariant.followed in
    let follows = c.batch.follows.holds-at-none in
    let t = c.follow_first-drained.ensures in
    let one = passed g (goal.at.returns-then-is_some g c).After-pass in
    let both = g.met.T.Taker.passed_join _ _ _ _ _ follows.0 one in
    let comes = λ (m : Message) (more : List Message) (next : t.left ≡ m ∷ more).
    next_ahead g.T.Taker.ahead g.met.T.Taker.begins c.pass.new.self m more t.left next
    (left_after g.T.Taker.ahead c.pass.new.self (messages_of c.batch.result) t.done t.done t.left refl t.all (omega (arith, ap length next)) (g.met.T.Taker.agrees _ _ _ _ one follows.1)) in
    record {
      followed = (had.0 ++ t.done, g.met.T.Taker.passed_join _ _ _ _ _ had.1 both, t.followed (picture_of c.args.mind.now) had.0 had.2);
      most = t.most;
      whole = search rules;
      early = t.early;
      gap = λ stop. let next = t.gap stop in (next.0, comes next.0 next.1 next.2, next.3);
      memory = λ stop. let next = t.memory stop in (next.0, comes next.0 next.1 next.2, next.3);
    }
