use Rattle.std.proofs.Common.{◌<◌, ℕ, List, length, refl, subst, sym}
use Rattle.gs_slots.proofs.Written.{unnoted}
use Rattle.gs_slots.proofs.region.Region.clear_slot.Goals as goal

pub invariant_of-self : goal.invariant_of-self
invariant_of-self c =
    let within : c.args.cpu < length c.self.inside.blocks.items = subst (λ (ys : List (List ℕ)). c.args.cpu < length ys) (sym c.self.view_is) c.requires in
    unnoted c.self.inside.blocks.items c.self.inside.lent c.without-self-inside.result c.self.inside.flagged c.args.cpu c.self.invariant within (λ k lt. c.without-self-inside.ensures.others k)

pub invariant_of-self-else-cpu-lt-MOST_CPUS : goal.invariant_of-self-else-cpu-lt-MOST_CPUS
invariant_of-self-else-cpu-lt-MOST_CPUS c =
    let within : c.args.cpu < length c.self.inside.blocks.items = subst (λ (ys : List (List ℕ)). c.args.cpu < length ys) (sym c.self.view_is) c.requires in
    unnoted c.self.inside.blocks.items c.self.inside.lent c.self.inside.lent c.self.inside.flagged c.args.cpu c.self.invariant within (λ k lt other. refl)
