use Rattle.std.proofs.Common.{◌≡◌, ◌==◌, ◌+◌, ◌∷◌, [], ◌++◌, ℕ, Option, Some, Ok, unwrap_or, false, refl, ap, sym, subst, ◌∙◌, arith, replicate}
use Rattle.std.proofs.lemmas.Bool.Decides.{nat_tests}
use Rattle.gs_slots.specs.declared.state.SlotState.TheVariants.{Idle}
use Rattle.gs_journal.specs.declared.entry.Entry.{Entry}
use Rattle.gs_journal.specs.declared.entry.Entry.TheVariants.{Begin}
use Rattle.gs_kernel.specs.declared.command.Command.TheVariants as commands
use Rattle.gs_kernel.specs.declared.executed.Executed.{Executed}
use Rattle.gs_kernel.specs.declared.executed.Executed.TheVariants.{Done}
use Rattle.gs_kernel.specs.Kernel.{is_last_generation, last_entry, next_generation}
use Rattle.gs_kernel.specs.Legal.{paged_by}
use Rattle.gs_kernel.proofs.Laws.{begins_when, free_when, last_added}
use Rattle.gs_agent.specs.Role.{RoleOf}
use Rattle.gs_replies.specs.Replies.{reply_of}
use Rattle.gs_core.specs.Machine.{Carries, State, StateOf, freed_by, led, newcomer, planned_by, planning}
use Rattle.gs_core.specs.Good.{Good}
use Rattle.gs_core.specs.Held.{Kept, agent_of, machine_now}
use Rattle.gs_core.proofs.Posting.{RingRoom, done_alone, legal_told, with_kernel}
use Rattle.gs_core.proofs.Serving.{refused_kept}
use Rattle.gs_core.proofs.Suiting.{suits_begun}
use Rattle.gs_core.proofs.Vacant.{kept_begun}
use Rattle.gs_core.proofs.machine.Machine.begin.Goals as goal

-- it was done, and a new generation begins
begun : (g : _) (c : goal.Joined-self g) → (c.in_ok-executed.executed ≡ Done) × (c.execute.new.self.history ≡ c.self.inside.kernel.history ++ Begin (next_generation c.self.inside.kernel.history) ∷ [])
begun g c =
    let h = c.self.inside.kernel.history in
    done_alone (RingRoom c.self.inside.kernel.poster) h c.execute.new.self.history (Begin (next_generation h)) c.in_ok-executed.executed c.in_ok-executed.ensures.legal.tells

-- the role that attaches knows nothing, and is of that generation
generation : (g : _) (c : goal.Joined-self g) → c.in_ok-role.role.generation ≡ next_generation c.self.inside.kernel.history
generation g c =
    let k = c.self.inside.kernel in
    let free = free_when k.settings k.history k.paged commands.Begin c.in_ok-executed.ensures.legal.free in
    let more : is_last_generation (Some c.generation.result) ≡ false = ap is_last_generation c.generation.ensures ∙ begins_when k.history free.own in
    let test : (c.generation.result == 4294967295) ≡ false = more in
    let sum : c.saturating_add-generation.result ≡ c.generation.result + 1 = grind (arith, nat_tests, test, c.generation.type_inv, c.saturating_add-generation.ensures) in
    ap (λ (r : RoleOf _). r.generation) c.in_ok-role.ensures ∙ (sum ∙ ap (λ (o : Option ℕ). unwrap_or o 0 + 1) c.generation.ensures)

fresh : (g : _) (c : goal.Joined-self g) → agent_of c.in_ok-role.role ≡ newcomer c.self.inside.kernel.settings.cpus
fresh g c = ap agent_of c.in_ok-role.ensures ∙ ap newcomer (ap (λ (x : _). x.cpus) c.settings-cpus.ensures.value)

idle : (g : _) (c : goal.Joined-self g) → c.clear.new.self ≡ replicate c.self.inside.kernel.settings.cpus Idle
idle g c =
    let good : Good (machine_now g.P.Policy.chosen c.self.inside) = c.self.invariant.kept.good in
    c.clear.ensures ∙ ap (λ n. replicate n Idle) good.count

-- refused, all is as before, but that more threads may find room
pub invariant_of-self-in_err-executed : goal.invariant_of-self-in_err-executed
invariant_of-self-in_err-executed g c =
    let i = c.self.invariant in
    refused_kept g.P.Policy.chosen (record c.self.inside { gone = c.take-gone.new.self }) c.execute.new.self c.in_err-executed.ensures.refused (record { kept = i.kept; told = i.told; suits = i.suits })

pub invariant_of-self-2 : goal.invariant_of-self-2
invariant_of-self-2 g c =
    let m = machine_now g.P.Policy.chosen c.self.inside in
    let i = c.self.invariant in
    let e = c.in_ok-executed.ensures in
    let k = c.execute.new.self in
    let one = begun g c in
    let left : record m { history = m.history ++ Begin (next_generation m.history) ∷ []; agent = Some (newcomer m.settings.cpus); policy = g.P.Policy.chosen c.args.policy; slots = replicate m.settings.cpus Idle }
    ≡ record (with_kernel m k.settings k.poster k.history) { agent = Some (agent_of c.in_ok-role.role); policy = g.P.Policy.chosen c.args.policy; slots = c.clear.new.self } =
    λ j. record m { settings = sym e.frame.settings j; ring = sym e.frame.ring j; history = sym one.1 j; consumed = sym e.frame.stays j; agent = Some (sym (fresh g c) j); policy = g.P.Policy.chosen c.args.policy; slots = sym (idle g c) j } in
    let none : k.paged ≡ false = e.frame.pages ∙ ap (λ (x : Executed). paged_by (Ok x) commands.Begin c.self.inside.kernel.paged) one.0 in
    record {
      kept = subst Kept left (kept_begun m (next_generation m.history) (g.P.Policy.chosen c.args.policy) i.kept);
      told = e.frame.told;
      suits = suits_begun c.args.policy m.history k.history (next_generation m.history) k.paged c.in_ok-role.role one.1 none (ap (λ (r : RoleOf _). r.policy) c.in_ok-role.ensures)
          (generation g c) (ap (λ (r : RoleOf _). r.next) c.in_ok-role.ensures);
    }

pub returns-clause-begun : goal.returns-clause-begun
returns-clause-begun g c =
    let m : State = machine_now g.P.Policy.chosen c.self.inside in
    let p = g.P.Policy.chosen c.args.policy in
    let e = c.in_ok-executed.ensures in
    let k = c.execute.new.self in
    let old = c.self.inside.kernel in
    let x = c.in_ok-executed.executed in
    let last : last_entry k.history ≡ Begin (next_generation m.history) = ap last_entry (begun g c).1 ∙ last_added m.history (Begin (next_generation m.history)) in
    let agent : led m.settings.cpus (last_entry k.history) m.agent ≡ Some (agent_of c.in_ok-role.role) = ap (λ (y : Entry). led m.settings.cpus y m.agent) last ∙ ap Some (sym (fresh g c)) in
    let slots : freed_by m.settings.cpus (last_entry k.history) m.slots ≡ c.clear.new.self = ap (λ (y : Entry). freed_by m.settings.cpus y m.slots) last ∙ sym (idle g c) in
    let told = legal_told (planned_by p m) old.paged commands.Begin x k.settings old.poster k.poster k.history refl refl e.frame.ring e.frame.stays e.frame.settings c.self.invariant.suits.given e.legal in
    let carries : Carries (planned_by p m) commands.Begin (reply_of (Ok x) (last_entry k.history)) (record (with_kernel m k.settings k.poster k.history) { agent = Some (agent_of c.in_ok-role.role); policy = p; slots = c.clear.new.self }) =
    subst (λ (s : State). Carries (planned_by p m) commands.Begin (reply_of (Ok x) (last_entry k.history)) s) (λ i. record (with_kernel (planned_by p m) k.settings k.poster k.history) { agent = agent i; slots = slots i }) told.1 in
    subst (λ (s : StateOf _). Carries (planned_by p (planning g.P.Policy.chosen s)) commands.Begin (reply_of (Ok x) (last_entry k.history)) (record (with_kernel m k.settings k.poster k.history) { agent = Some (agent_of c.in_ok-role.role); policy = p; slots = c.clear.new.self })) c.self.view_is carries

pub returns-clause-done : goal.returns-clause-done
returns-clause-done g c = (begun g c).0
