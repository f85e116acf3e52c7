use Rattle.std.proofs.Common.{◌∙◌, ℕ, ap, sym}
use Rattle.gs_status.specs.Masks.{has}
use Rattle.gs_slots.proofs.Busy.{found_more, goes_up, looked_first, looked_more, none_left}
use Rattle.gs_slots.proofs.region.busy_of.Goals as goal
use Rattle.gs_slots.proofs.region.busy_of.Goals.{else-not-is_busy_at, then-not-is_busy_at}

pub looking-init : goal.looking-init
looking-init c = looked_first c.args.blocks.now c.args.lent c.requires

pub looking-preserved : goal.looking-preserved
looking-preserved c =
    let k = c.in-Some.cpu in
    looked_more c.args.blocks.now c.looking.busy c.if-not-is_busy_at.busy c.looking.flagged c.or_flagged-flagged.result c.looking.left c.without-left.result k c.looking.invariant (elim c.if-not-is_busy_at.branch [
      | then-not-is_busy_at w ↦
          found_more c.args.blocks.now c.looking.busy c.if-not-is_busy_at.busy c.looking.left c.without-left.result k c.looking.invariant.found
          (ap (λ (m : ℕ). has m k) w.busy-is ∙ (w.without-busy.ensures.here ∙ w.if-not-is_busy_at.ensures))
          (λ d other. ap (λ (m : ℕ). has m d) w.busy-is ∙ w.without-busy.ensures.others d other)
          c.without-left.ensures.here c.without-left.ensures.others
      | else-not-is_busy_at w ↦
          found_more c.args.blocks.now c.looking.busy c.if-not-is_busy_at.busy c.looking.left c.without-left.result k c.looking.invariant.found
          (ap (λ (m : ℕ). has m k) w.busy-is ∙ (c.looking.invariant.found.kept k c.in-Some.ensures.is_in ∙ w.if-not-is_busy_at.ensures))
          (λ d other. ap (λ (m : ℕ). has m d) w.busy-is)
          c.without-left.ensures.here c.without-left.ensures.others
    ]) c.or_flagged-flagged.ensures c.without-left.ensures.others

pub looking-smaller : goal.looking-smaller
looking-smaller c = goes_up c.looking.left c.without-left.result c.in-Some.cpu (sym c.in-Some.ensures.least) c.in-Some.ensures.within c.without-left.ensures.here c.without-left.ensures.others

pub returns-clause-busy : goal.returns-clause-busy
returns-clause-busy c = λ k lt. c.looking.invariant.found.right k lt (none_left c.looking.left c.in_default.ensures.empty k)

pub returns-clause-single : goal.returns-clause-single
returns-clause-single c = λ e k lt. c.looking.invariant.single e k lt (none_left c.looking.left c.in_default.ensures.empty k)
