use Rattle.std.proofs.Common.{◌≡◌, Option, Some, List, [], ap, sym, subst, refl, ◌∙◌}
use Rattle.std.proofs.lemmas.Result.{err_from_is_err_and}
use Rattle.gs_layout.specs.declared.refusal.Refusal.{Refusal}
use Rattle.gs_journal.specs.History.{torn}
use Rattle.gs_agent.specs.Role.{RoleOf}
use Rattle.gs_core.specs.declared.event.Event.TheVariants as events
use Rattle.gs_replies.specs.declared.reply.Reply.{Reply}
use Rattle.gs_replies.specs.declared.reply.Reply.TheVariants as replies
use Rattle.gs_core.specs.Machine.{State, Step, Serves, StateOf, planning, thinking}
use Rattle.gs_core.specs.AtOnce.{CommitsAtOnce}
use Rattle.gs_core.specs.Good.{Good}
use Rattle.gs_slots.specs.declared.state.SlotState.{SlotState}
use Rattle.gs_agent.specs.Mind.{MindState, picture_of, thinks}
use Rattle.gs_agent.specs.Picture.{after_all}
use Rattle.std.specs.Option.{option_map}
use Rattle.gs_core.specs.Held.{Suits, agent_of, machine_now}
use Rattle.gs_core.proofs.Landed.{added_roles, commit_step}
use Rattle.gs_core.proofs.Serving.{lent_mut}
use Rattle.gs_core.proofs.Suiting.{suits_still}
use Rattle.gs_kernel.specs.declared.landing.Landing.{Landing}
use Rattle.gs_kernel.specs.Lands.{Adds}
use Rattle.gs_kernel.specs.Group.{LandsCommit}
use Rattle.gs_core.proofs.Posting.{RingRoom, with_kernel}
use Rattle.gs_core.proofs.Keeping.{kept_step}
use Rattle.gs_core.proofs.Refusing.{commit_refused}
use Rattle.gs_core.proofs.machine.Machine.land.Goals as goal
use Rattle.gs_core.proofs.machine.Machine.land.Goals.{After-is_torn}

abbrev after : (g : _) → After-is_torn g → State
after g c = record (with_kernel (machine_now g.P.Policy.chosen c.self.inside) c.land.new.kernel.settings c.land.new.kernel.poster c.land.new.kernel.history) { agent = Some (agent_of c.land.new.role); slots = c.land.new.self }

-- the landings, of a list that was empty, and what the slots were before they were collected
at_once : (g : _) (c : After-is_torn g) → CommitsAtOnce (RingRoom c.self.inside.kernel.poster) c.self.inside.kernel.settings c.args.mask c.self.inside.region c.self.inside.kernel.history [] c.land.new.landings.items c.land.new.self c.land.new.kernel.history c.unwrap-role.result.now.mind c.land.new.role.mind
at_once g c =
    subst (λ (xs : List Landing). CommitsAtOnce (RingRoom c.self.inside.kernel.poster) c.self.inside.kernel.settings c.args.mask c.self.inside.region c.self.inside.kernel.history xs c.land.new.landings.items c.land.new.self c.land.new.kernel.history c.unwrap-role.result.now.mind c.land.new.role.mind)
    c.requires.empty c.in_ok-land.ensures.lands

abbrev left : (g : _) → After-is_torn g → List SlotState
left g c = (at_once g c).made.slots

lands : (g : _) (c : After-is_torn g) → Adds (LandsCommit (RingRoom c.self.inside.kernel.poster) c.self.inside.kernel.settings c.args.mask c.self.inside.region c.self.inside.kernel.history) [] c.land.new.landings.items (left g c) c.land.new.kernel.history
lands g c = let a = at_once g c in record { made = a.made; lands = a.lands; answers = a.answers; slots = refl; history = a.history }

-- the role that is left
role_is : (g : _) (c : After-is_torn g) → c.land.new.role ≡ record c.unwrap-role.result.now { mind = thinks c.unwrap-role.result.now.mind (after_all (left g c) (picture_of c.unwrap-role.result.now.mind)) }
role_is g c = c.land.ensures.role ∙ ap (λ (v : MindState). record c.unwrap-role.result.now { mind = v }) (at_once g c).thought

step : (g : _) (c : After-is_torn g) → Step (machine_now g.P.Policy.chosen c.self.inside) (events.Commit c.args.mask) (replies.Landed c.land.new.landings.items (torn c.land.new.kernel.history)) (after g c)
step g c =
    let m = machine_now g.P.Policy.chosen c.self.inside in
    let e = c.in_ok-land.ensures in
    let k = c.land.new.kernel in
    commit_step m c.args.mask k.settings c.self.inside.kernel.poster k.poster k.history c.land.new.landings.items (Some (agent_of c.land.new.role)) c.land.new.self (left g c)
    refl refl e.frame.ring e.frame.stays e.frame.settings e.accepted (lands g c)
    (ap (λ (r : RoleOf _). Some (agent_of r)) (role_is g c) ∙ ap (λ (o : Option (RoleOf _)). option_map (thinking (after_all (left g c))) (option_map agent_of o)) (sym (lent_mut c.as_mut.ensures.value c.unwrap-role.ensures))) (at_once g c).slots

pub land-requires-clause-none_done : goal.land-requires-clause-none_done
land-requires-clause-none_done g c = c.self.invariant.kept.trusts.none_done

pub invariant_of-self-2 : goal.invariant_of-self-2
invariant_of-self-2 g c =
    let m = machine_now g.P.Policy.chosen c.self.inside in
    let e = c.in_ok-land.ensures in
    let i = c.self.invariant in
    let good : Good m = i.kept.good in
    let k = c.land.new.kernel in
    record {
      kept = kept_step m (events.Commit c.args.mask) _ _ i.kept tt (step g c);
      told = e.frame.told;
      suits = suits_still c.self.inside.policy m.history k.history c.self.inside.kernel.paged k.paged c.unwrap-role.result.now c.land.new.role
          (added_roles _ m.settings m.transactions c.args.mask m.slots (left g c) m.history k.history c.land.new.landings.items good.history good.slots (lands g c)) e.frame.pages c.land.ensures.role
          (subst (Suits c.self.inside.policy m.history c.self.inside.kernel.paged) (lent_mut c.as_mut.ensures.value c.unwrap-role.ensures) i.suits);
    }

pub returns-clause-step : goal.returns-clause-step
returns-clause-step g c =
    let m : State = machine_now g.P.Policy.chosen c.self.inside in
    let k = c.land.new.kernel in
    let reply : replies.Landed c.land.new.landings.items (torn k.history) ≡ replies.Landed c.land.new.landings.items c.is_torn.result = ap (replies.Landed c.land.new.landings.items) (sym c.is_torn.ensures) in
    subst (λ (x : StateOf _). Step (planning g.P.Policy.chosen x) (events.Commit c.args.mask) (replies.Landed c.land.new.landings.items c.is_torn.result) (after g c)) c.self.view_is
    (subst (λ (r : Reply). Step m (events.Commit c.args.mask) r (after g c)) reply (step g c))

pub returns-in_err-active_agent-clause-step : goal.returns-in_err-active_agent-clause-step
returns-in_err-active_agent-clause-step g c =
    let m : State = planning g.P.Policy.chosen c.args.self.now in
    let f = c.in_err-active_agent.field-0.0 in
    let r = err_from_is_err_and c.from_residual.result c.from_residual.ensures.1 in
    rw (r.1, r.2) (subst (λ (o : Option Refusal). Serves o m (events.Commit c.args.mask) (replies.Refused f) m) (sym (commit_refused m c.args.mask f c.requires.stands c.in_err-active_agent.ensures.refused)) (refl, refl))
