use Rattle.std.proofs.Common.{◌≡◌, ◌∙◌, ap, sym, true, Bool, cond, ℕ, Option, Some, rules}
use Rattle.gs_layout.specs.declared.outcome.Outcome.{Outcome}
use Rattle.gs_layout.specs.declared.outcome.Outcome.TheVariants.{Placed}
use Rattle.gs_slots.specs.declared.state.SlotState.{SlotState}
use Rattle.gs_slots.specs.declared.state.Stamp.{Stamp}
use Rattle.gs_beliefs.specs.Belief.{shows_place}
use Rattle.gs_beliefs.specs.Cpus.{places, unstamps}
use Rattle.gs_agent.specs.Mind.{MindState, picture_of, thinks}
use Rattle.gs_agent.specs.Picture.{after_slot, believes}
use Rattle.gs_agent.proofs.Followed.{touched}
use Rattle.gs_agent.proofs.mind.Mind.learn.Goals as goal

-- an outcome that says that the thread is on a CPU is learnt as one that says that it was placed there
as_placed : (x : MindState) (c : ℕ) (b : Stamp) (o : Outcome) (at : Option ℕ) (p seen : ℕ) → shows_place o ≡ true → at ≡ Some p
    → thinks x (after_slot c (SlotState.Done b Placed (Some p) seen) (picture_of x)) ≡ thinks x (after_slot c (SlotState.Done b o at seen) (picture_of x))
as_placed x c b o at p seen shows is =
    ap (λ (w : Bool). thinks x (believes (unstamps c (cond w (places p b.tid b.tseq x.cpus) x.cpus)) (touched x.cpus c (Some p) b.tid) (picture_of x))) (sym shows)
    ∙ ap (λ (y : Option ℕ). thinks x (after_slot c (SlotState.Done b o y seen) (picture_of x))) (sym is)

pub returns-then-eq : goal.returns-then-eq
returns-then-eq c seen =
    let shows : shows_place c.args.outcome ≡ true = search rules in
    c.learn_placed.ensures seen ∙ as_placed c.args.self.now c.args.cpu c.args.stamp.now c.args.outcome c.args.at c.in-Placed-Some.place seen shows c.in-Placed-Some.is-1
