use Rattle.std.proofs.Common.{◌≡◌, ◌∷◌, Ok, suc, length, ap, sym, subst, ◌∙◌, arith, rules}
use Rattle.gs_slots.specs.declared.state.SlotState.TheVariants.{Stamped}
use Rattle.gs_slots.specs.SlotMut.{bytes_of, cpu_of, state_of}
use Rattle.gs_kernel.specs.Group.{AreStamped, Finishes, Group, member_landing}
use Rattle.gs_kernel.specs.Ready.{Rises}
use Rattle.gs_kernel.proofs.Together.{left_here, read_here, rises_from, set_many, stamped_still}
use Rattle.gs_kernel.proofs.kernel.Kernel.+finish_group.Goals as goal

pub finish_group-requires : goal.finish_group-requires
finish_group-requires g t c κs within =
    let s = c.args.self.now.settings in
    let x = c.in-Some.field-0-0.now in
    let rest = c.in-Some.rest.now in
    let whole : c.args.group.now ≡ x ∷ rest = c.in-Some.ensures.cases.0 in
    let rises = subst (λ (z : Group). Rises 0 s.cpus z) whole c.requires.rises in
    let stamped = subst (λ (z : Group). AreStamped c.args.region.now z) whole c.requires.stamped in
    let k = ap length whole in (
      search rules,
      (
        search rules,
        (
          rises_from s 0 (suc x.0) rest (omega arith) rises.2,
          (
            set_many _ _ _ ∙ c.requires.cpus,
            (
              stamped_still s (suc x.0) x.0 _ _ rest (omega arith) rises.2 stamped.3,
              (
                c.requires.known,
                omega (arith, k, c.push_reserved.ensures.len, c.push_reserved.ensures.capacity, c.requires.room),
              ),
            ),
          ),
        ),
      ),
    )

pub returns-clause-slots : goal.returns-clause-slots
returns-clause-slots g t c =
    let s = c.args.self.now.settings in
    let h = c.args.self.now.history in
    let x = c.in-Some.field-0-0.now in
    let rest = c.in-Some.rest.now in
    let whole : c.args.group.now ≡ x ∷ rest = c.in-Some.ensures.cases.0 in
    let stamped = subst (λ (z : Group). AreStamped c.args.region.now z) whole c.requires.stamped in
    let l = c.member_landing-landing in
    let is : state_of c.slot.result ≡ Ok (Stamped x.1) = read_here c.args.region.now x.0 (cpu_of c.slot.result) stamped.0 (bytes_of c.slot.result) x.1 stamped.1 stamped.2 c.slot.ensures.bytes c.slot.ensures.cpu in
    subst (λ (z : Group). Finishes (member_landing s h c.args.repeated c.args.together) z c.args.region.now c.finish_group.new.region) (sym whole)
    (_, left_here x.0 (cpu_of c.slot.result) _ x.1 l.result (member_landing s h c.args.repeated c.args.together x) c.slot.ensures.cpu l.ensures.value (c.finish.ensures.done x.1 l.ensures.known is), c.finish_group.ensures.slots)
