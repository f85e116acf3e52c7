use Rattle.std.proofs.Common.{◌++◌, arith, drop, length, length-take, subst, sym}
use Rattle.gs_slots.specs.Busy.{CoversBusy}
use Rattle.gs_slots.proofs.Busy.{all_covered}
use Rattle.gs_slots.proofs.region.Region.lend.Goals as goal

pub invariant_of-self-lent : goal.invariant_of-self-lent
invariant_of-self-lent c = λ w.
    let blocks = c.self.inside.blocks in
    record {
      few = omega (arith, length-take blocks.len (w ++ drop (length w) blocks.items), c.self.invariant.few, c.deref_mut.ensures.len);
      covered = subst (CoversBusy _) (sym c.new-self-inside.ensures) (all_covered _);
      single = λ e. absurd cc;
    }
