use Rattle.std.proofs.Common.{◌≡◌, ℕ, [], ◌∷◌, ◌++◌, true≢false, IsTrue, ap, sym, subst, ◌∙◌, append_assoc}
use Rattle.gs_layout.specs.View.{Look, look_up}
use Rattle.gs_layout.specs.declared.known.Known.{Known}
use Rattle.gs_view.specs.Shown.{known_shown}
use Rattle.gs_journal.specs.State.{state}
use Rattle.gs_runner.specs.Settles.{AreKnown}
use Rattle.gs_runner.proofs.Agreeing.{known_all, known_append, known_behind}
use Rattle.gs_runner.proofs.knowing.are_known.Goals as goal

pub returns-then-not-is_known-clause-exact : goal.returns-then-not-is_known-clause-exact
returns-then-not-is_known-clause-exact c =
    let v : Look = state c.args.kernel.now.settings.first_tseq c.args.kernel.now.history in
    let i = c.loop-tid.invariant in
    let e : ℕ × Known = (c.in-Some.tid, known_shown (c.in-Some.facts, c.in-Some.tseq)) in
    let whole : i.0 ++ e ∷ c.next.new.self ≡ c.args.view.now.entries = ap (λ l. i.0 ++ l) (sym c.in-Some.ensures.steps) ∙ i.1 in (
      (λ is. absurd (true≢false (sym is))),
      (λ all. let b = known_behind v i.0 (e ∷ c.next.new.self) (subst (AreKnown v) (sym whole) all) in subst IsTrue c.if-not-is_known.true (c.is_known.ensures.1 b.0)),
    )

pub returns-then-not-is_known-clause-listed : goal.returns-then-not-is_known-clause-listed
returns-then-not-is_known-clause-listed c = known_all (look_up c.args.view.now.entries) c.args.view.now.entries c.walk-tid-items.ensures.found

pub returns-clause-listed : goal.returns-clause-listed
returns-clause-listed c = known_all (look_up c.args.view.now.entries) c.args.view.now.entries c.walk-tid-items.ensures.found

pub loop-tid-preserved : goal.loop-tid-preserved
loop-tid-preserved c =
    let v : Look = state c.args.kernel.now.settings.first_tseq c.args.kernel.now.history in
    let i = c.loop-tid.invariant in
    let e : ℕ × Known = (c.in-Some.tid, known_shown (c.in-Some.facts, c.in-Some.tseq)) in
    let whole : i.0 ++ e ∷ c.next.new.self ≡ c.args.view.now.entries = ap (λ l. i.0 ++ l) (sym c.in-Some.ensures.steps) ∙ i.1 in
    (i.0 ++ e ∷ [], append_assoc i.0 (e ∷ []) c.next.new.self ∙ whole, known_append v i.0 (e ∷ []) i.2 (c.is_known.ensures.0 c.if-not-is_known.false, tt))
