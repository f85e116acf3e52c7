use Rattle.std.proofs.Common.{◌≡◌, false, refl, sym, subst, inl, inr}
use Rattle.std.proofs.lemmas.Grind.{common_steps}
use Rattle.std.proofs.Common.{arith}
use Rattle.gs_layout.specs.declared.outcome.Outcome.TheVariants as outcomes
use Rattle.gs_journal.specs.History.{History, on}
use Rattle.gs_kernel.specs.Kernel.{is_spent_there}
use Rattle.gs_kernel.specs.Landing.{IsToPlace, verdict}
use Rattle.gs_kernel.proofs.Placings.{placing_when}
use Rattle.gs_kernel.proofs.kernel.Kernel.place.Goals as goal

pub tell_entry-requires-clause-numbers : goal.tell_entry-requires-clause-numbers
tell_entry-requires-clause-numbers g c =
    let k = c.self.inside in
    let h = k.journal.entries in
    let placed : verdict k.settings h c.args.cpu c.args.slot.now ≡ outcomes.Placed = grind (arith, common_steps) in
    let same : c.reserve.new.self.entries ≡ h = grind (arith, common_steps) in
    subst (λ (x : History). is_spent_there k.settings x (on x c.args.cpu) ≡ false) (sym same) (placing_when k.settings h c.args.cpu c.args.slot.now placed).numbers

pub tell_entry-requires-clause-due : goal.tell_entry-requires-clause-due
tell_entry-requires-clause-due g c =
    let k = c.self.inside in
    let h = k.journal.entries in
    let placed : verdict k.settings h c.args.cpu c.args.slot.now ≡ outcomes.Placed = grind (arith, common_steps) in
    let same : c.reserve.new.self.entries ≡ h = grind (arith, common_steps) in
    inr (inl (record {
      cpu = c.args.cpu;
      stamp = c.args.slot.now;
      below = grind (arith, common_steps);
      ready = subst (λ (x : History). IsToPlace k.settings x c.args.cpu c.args.slot.now) (sym same) (placing_when k.settings h c.args.cpu c.args.slot.now placed);
      effect_is = refl;
    }))
