use Rattle.std.proofs.Common.{◌≡◌, ◌<◌, ℕ, Option, None, Some, refl, false, nat_le, length, get_or, List, ◌∷◌, [], true, ap, sym, subst, ◌∙◌, arith}
use Rattle.std.specs.Option.{is_some, unwrap_or}
use Rattle.std.proofs.lemmas.Bool.Decides.{nat_tests}
use Rattle.std.proofs.lemmas.Grind.{common_steps}
use Rattle.std.proofs.lemmas.Result.{err_from_is_err_and}
use Rattle.std.proofs.lemmas.Option.{slice_get-get_or}
use Rattle.gs_slots.specs.declared.state.SlotState.TheVariants.{Idle}
use Rattle.gs_layout.specs.View.{look_up}
use Rattle.gs_journal.specs.History.{active}
use Rattle.gs_agent.specs.Role.{RoleOf}
use Rattle.gs_kernel.proofs.Laws.{some_there}
use Rattle.gs_layout.specs.declared.refusal.Refusal.TheVariants.{HistoryFull}
use Rattle.gs_kernel.specs.declared.settings.Settings.{Settings}
use Rattle.gs_kernel.specs.First.{first_that}
use Rattle.gs_kernel.specs.Kernel.{IsRefusal}
use Rattle.gs_core.specs.declared.event.Event.TheVariants.{Stamp}
use Rattle.gs_core.specs.Machine.{State, StateOf, planning, stamps, standing_refusal}
use Rattle.gs_core.specs.declared.transaction.Transaction.{Transaction}
use Rattle.gs_core.specs.Desk.{Desk, desk, thread_stamped}
use Rattle.gs_core.specs.Held.{Kept, Suits, agent_of, machine_now}
use Rattle.gs_core.proofs.Deciding.{at_desk, stamp_left}
use Rattle.gs_core.proofs.Keeping.{kept_stamp}
use Rattle.gs_core.proofs.Refusing.{role_refuses, room_refuses}
use Rattle.gs_core.proofs.Roles.{same_history}
use Rattle.gs_core.proofs.Serving.{lent_mut, shows_role}
use Rattle.gs_core.proofs.Suiting.{suits_still}
use Rattle.gs_core.proofs.machine.Machine.stamp_slot.Goals as goal

abbrev before : (g : _) → goal.After-len g → Desk
before g c = desk c.unwrap-role.result.now.mind c.self.inside.region c.self.inside.transactions.items

abbrev after : (g : _) → goal.After-len g → Desk
after g c = desk c.stamp_thread.new.role.mind c.stamp_thread.new.region c.stamp_thread.new.transactions.items

left : (g : _) (c : goal.After-len g) → after g c ≡ thread_stamped c.unwrap-role.result.now.generation c.args.cpu c.args.tid c.args.flags (look_up c.unwrap-role.result.now.mind.records c.args.tid) (before g c)
left g c =
    c.in_ok-stamp_thread.ensures.desk
    ∙ ap (λ (items : List Transaction). thread_stamped c.unwrap-role.result.now.generation c.args.cpu c.args.tid c.args.flags (look_up c.unwrap-role.result.now.mind.records c.args.tid) (desk c.unwrap-role.result.now.mind c.self.inside.region items)) c.make_room.ensures.items

stamped : (g : _) (c : goal.After-len g) → at_desk (machine_now g.P.Policy.chosen c.self.inside) c.unwrap-role.result.now.next (after g c) ≡ (stamps (machine_now g.P.Policy.chosen c.self.inside) c.args.cpu c.args.tid c.args.flags).1
stamped g c =
    let m : State = machine_now g.P.Policy.chosen c.self.inside in
    let is_active : is_some (active m.history) ≡ true = grind (arith, common_steps) in
    let a = some_there (active m.history) is_active in
    let suits : Suits c.self.inside.policy m.history c.self.inside.kernel.paged (Some c.unwrap-role.result.now) = subst (Suits c.self.inside.policy m.history c.self.inside.kernel.paged) (lent_mut c.as_mut.ensures.value c.unwrap-role.ensures) c.self.invariant.suits in
    stamp_left m c.unwrap-role.result.now.next a.0 c.unwrap-role.result.now.generation (before g c) (after g c) c.args.cpu c.args.tid c.args.flags a.1 (sym (suits.acts a.0 a.1)) (left g c)
    ∙ ap (λ (x : State). (stamps x c.args.cpu c.args.tid c.args.flags).1) (sym (shows_role m c.self.inside.role c.unwrap-role.result.now refl (lent_mut c.as_mut.ensures.value c.unwrap-role.ensures)))

-- the machine that is left
now : (g : _) (c : goal.After-len g) → at_desk (machine_now g.P.Policy.chosen c.self.inside) c.unwrap-role.result.now.next (after g c) ≡ record (at_desk (machine_now g.P.Policy.chosen c.self.inside) c.unwrap-role.result.now.next (after g c)) { agent = Some (agent_of c.stamp_thread.new.role) }
now g c = ap (λ (n : Option ℕ). at_desk (machine_now g.P.Policy.chosen c.self.inside) n (after g c)) (sym (ap (λ (x : RoleOf _). x.next) c.stamp_thread.ensures.role))

pub invariant_of-self-2 : goal.invariant_of-self-2
invariant_of-self-2 g c =
    let m : State = machine_now g.P.Policy.chosen c.self.inside in
    let i = c.self.invariant in
    let below : c.args.cpu < m.settings.cpus = grind (arith, common_steps) in
    record {
      kept = subst Kept (now g c) (subst Kept (sym (stamped g c)) (kept_stamp m c.args.cpu c.args.tid c.args.flags below i.kept));
      told = i.told;
      suits = suits_still c.self.inside.policy m.history m.history c.self.inside.kernel.paged c.self.inside.kernel.paged c.unwrap-role.result.now c.stamp_thread.new.role (same_history m.history m.history refl) refl c.stamp_thread.ensures.role
          (subst (Suits c.self.inside.policy m.history c.self.inside.kernel.paged) (lent_mut c.as_mut.ensures.value c.unwrap-role.ensures) i.suits);
    }

pub returns-clause-ok : goal.returns-clause-ok
returns-clause-ok g c = sym (now g c) ∙ (stamped g c ∙ ap (λ (x : StateOf _). (stamps (planning g.P.Policy.chosen x) c.args.cpu c.args.tid c.args.flags).1) c.self.view_is)

pub returns-in_err-stamp_thread-clause-refused : goal.returns-in_err-stamp_thread-clause-refused
returns-in_err-stamp_thread-clause-refused g c =
    let m : State = machine_now g.P.Policy.chosen c.self.inside in
    let m' : State = record m { agent = Some (agent_of c.unwrap-role.result.now) } in
    let same : m' ≡ planning g.P.Policy.chosen c.args.self.now = sym (shows_role m c.self.inside.role c.unwrap-role.result.now refl (lent_mut c.as_mut.ensures.value c.unwrap-role.ensures)) ∙ ap (planning g.P.Policy.chosen) c.self.view_is in
    let is_active : is_some (active m.history) ≡ true = grind (arith, common_steps) in
    let low : c.args.cpu < m.settings.cpus = grind (arith, common_steps) in
    let below : nat_le m.settings.cpus c.args.cpu ≡ false = grind (arith, nat_tests) in
    let there = slice_get-get_or c.self.inside.region c.args.cpu Idle (omega (arith, low, c.self.invariant.kept.good.count)) in
    let z = get_or c.self.inside.region c.args.cpu Idle in
    let f = c.in_err-stamp_thread.field-0.0 in
    let is = role_refuses m' c.args.cpu c.args.tid c.args.flags z f is_active below there (c.in_err-stamp_thread.ensures.refused z there) in
    let r = err_from_is_err_and c.from_residual-in_err-stamp_thread.result c.from_residual-in_err-stamp_thread.ensures.1 in
    rw (r.1, r.2) (subst (λ (x : State). IsRefusal (standing_refusal x (Stamp c.args.cpu c.args.tid c.args.flags)) f) same is)

pub returns-in-Err-clause-refused : goal.returns-in-Err-clause-refused
returns-in-Err-clause-refused g c =
    let m : State = machine_now g.P.Policy.chosen c.self.inside in
    let m' : State = record m { agent = Some (agent_of c.unwrap-role.result.now) } in
    let same : m' ≡ planning g.P.Policy.chosen c.args.self.now = sym (shows_role m c.self.inside.role c.unwrap-role.result.now refl (lent_mut c.as_mut.ensures.value c.unwrap-role.ensures)) ∙ ap (planning g.P.Policy.chosen) c.self.view_is in
    let is_active : is_some (active m.history) ≡ true = grind (arith, common_steps) in
    let low : c.args.cpu < m.settings.cpus = grind (arith, common_steps) in
    let below : nat_le m.settings.cpus c.args.cpu ≡ false = grind (arith, nat_tests) in
    let there = slice_get-get_or c.self.inside.region c.args.cpu Idle (omega (arith, low, c.self.invariant.kept.good.count)) in
    let z = get_or c.self.inside.region c.args.cpu Idle in
    let most = λ (n : ℕ). IsRefusal (first_that ((nat_le n (length m.transactions), Some HistoryFull) ∷ []) None) c.in-Err.refusal in
    let full = subst most (ap (λ (s : Settings). s.history) c.settings-most.ensures.value) c.in-Err.ensures.refused in
    let is = room_refuses m' c.args.cpu c.args.tid c.args.flags z c.stamp_refusal.result c.in-Err.refusal is_active below there (c.stamp_refusal.ensures z there) full in
    rw c.unwrap_or.ensures (subst (λ (x : State). IsRefusal (standing_refusal x (Stamp c.args.cpu c.args.tid c.args.flags)) (unwrap_or c.stamp_refusal.result c.in-Err.refusal)) same is)
