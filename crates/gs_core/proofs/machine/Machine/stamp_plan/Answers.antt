use Rattle.std.proofs.Common.{◌≡◌, ℕ, Option, Some, refl, List, true, ap, sym, subst, ◌∙◌}
use Rattle.std.specs.Option.{is_some}
use Rattle.gs_journal.specs.History.{active}
use Rattle.gs_policy.specs.declared.choice.Choice.{Choice}
use Rattle.gs_agent.specs.Role.{RoleOf}
use Rattle.gs_kernel.proofs.Laws.{some_there}
use Rattle.gs_core.specs.declared.transaction.Transaction.{Transaction}
use Rattle.gs_core.specs.Machine.{State, plan_of, stamps_all, planning}
use Rattle.gs_core.specs.Desk.{AreBelow, Desk, all_stamped, desk}
use Rattle.gs_core.specs.Held.{Kept, Suits, agent_of, machine_now}
use Rattle.gs_core.proofs.Deciding.{at_desk, desk_left}
use Rattle.gs_core.proofs.Keeping.{kept_choices}
use Rattle.gs_core.proofs.Roles.{same_history}
use Rattle.gs_core.proofs.Serving.{lent_mut, shows_role}
use Rattle.gs_core.proofs.Suiting.{suits_still}
use Rattle.gs_core.proofs.machine.Machine.stamp_plan.Goals as goal

abbrev before : (g : _) → goal.After-self-2-1 g → Desk
before g c = desk c.unwrap-role.result.now.mind c.self.inside.region c.self.inside.transactions.items

abbrev after : (g : _) → goal.After-self-2-1 g → Desk
after g c = desk c.stamp_all.new.role.mind c.stamp_all.new.region c.stamp_all.new.transactions.items

-- the machine as it was, and its plan
same : (g : _) (c : goal.After-self-2-1 g) → machine_now g.P.Policy.chosen c.self.inside ≡ planning g.P.Policy.chosen c.args.self.now
same g c = ap (planning g.P.Policy.chosen) c.self.view_is

planned : (g : _) (c : goal.After-self-2-1 g) → c.as_slice.result.now ≡ plan_of (planning g.P.Policy.chosen c.args.self.now)
planned g c = c.as_slice.ensures.value ∙ c.in_ok-plan.ensures.plan

left : (g : _) (c : goal.After-self-2-1 g) → after g c ≡ all_stamped c.unwrap-role.result.now.generation (plan_of (planning g.P.Policy.chosen c.args.self.now)) (before g c)
left g c =
    let n = c.unwrap-role.result.now.generation in
    c.stamp_all.ensures.desk
    ∙ (ap (λ (items : List Transaction). all_stamped n c.as_slice.result.now (desk c.unwrap-role.result.now.mind c.self.inside.region items)) c.reserve.ensures.items
    ∙ ap (λ (xs : List Choice). all_stamped n xs (before g c)) (planned g c))

stamped : (g : _) (c : goal.After-self-2-1 g) → at_desk (machine_now g.P.Policy.chosen c.self.inside) c.unwrap-role.result.now.next (after g c) ≡ stamps_all (machine_now g.P.Policy.chosen c.self.inside) (plan_of (planning g.P.Policy.chosen c.args.self.now))
stamped g c =
    let m : State = machine_now g.P.Policy.chosen c.self.inside in
    let is_active : is_some (active m.history) ≡ true = ap (λ (x : State). is_some (active x.history)) (same g c) ∙ c.in_ok-plan.ensures.active in
    let a = some_there (active m.history) is_active in
    let suits : Suits c.self.inside.policy m.history c.self.inside.kernel.paged (Some c.unwrap-role.result.now) = subst (Suits c.self.inside.policy m.history c.self.inside.kernel.paged) (lent_mut c.as_mut.ensures.value c.unwrap-role.ensures) c.self.invariant.suits in
    desk_left m c.unwrap-role.result.now.next a.0 c.unwrap-role.result.now.generation (before g c) (after g c) (plan_of (planning g.P.Policy.chosen c.args.self.now)) a.1 (sym (suits.acts a.0 a.1)) (left g c)
    ∙ ap (λ (x : State). stamps_all x (plan_of (planning g.P.Policy.chosen c.args.self.now))) (sym (shows_role m c.self.inside.role c.unwrap-role.result.now refl (lent_mut c.as_mut.ensures.value c.unwrap-role.ensures)))

-- the machine that is left
now : (g : _) (c : goal.After-self-2-1 g) → at_desk (machine_now g.P.Policy.chosen c.self.inside) c.unwrap-role.result.now.next (after g c) ≡ record (at_desk (machine_now g.P.Policy.chosen c.self.inside) c.unwrap-role.result.now.next (after g c)) { agent = Some (agent_of c.stamp_all.new.role) }
now g c = ap (λ (n : Option ℕ). at_desk (machine_now g.P.Policy.chosen c.self.inside) n (after g c)) (sym (ap (λ (x : RoleOf _). x.next) c.stamp_all.ensures.role))

pub invariant_of-self-2 : goal.invariant_of-self-2
invariant_of-self-2 g c =
    let m : State = machine_now g.P.Policy.chosen c.self.inside in
    let xs : List Choice = plan_of (planning g.P.Policy.chosen c.args.self.now) in
    let i = c.self.invariant in
    let below : AreBelow m.settings.cpus xs = subst (AreBelow m.settings.cpus) c.in_ok-plan.ensures.plan (subst (λ (x : State). AreBelow x.settings.cpus c.plan.new.choices.items) (sym (same g c)) c.in_ok-plan.ensures.below) in
    record {
      kept = subst Kept (now g c) (subst Kept (sym (stamped g c)) (kept_choices m xs below i.kept));
      told = i.told;
      suits = suits_still c.self.inside.policy m.history m.history c.self.inside.kernel.paged c.self.inside.kernel.paged c.unwrap-role.result.now c.stamp_all.new.role (same_history m.history m.history refl) refl c.stamp_all.ensures.role
          (subst (Suits c.self.inside.policy m.history c.self.inside.kernel.paged) (lent_mut c.as_mut.ensures.value c.unwrap-role.ensures) i.suits);
    }

pub returns-clause-ok : goal.returns-clause-ok
returns-clause-ok g c = sym (now g c) ∙ (stamped g c ∙ ap (λ (m : State). stamps_all m (plan_of (planning g.P.Policy.chosen c.args.self.now))) (same g c))
