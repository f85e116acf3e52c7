use Rattle.std.proofs.Common.{◌≡◌, Ok, true, refl, ap, sym, subst, ◌∙◌}
use Rattle.std.specs.Option.{option_map}
use Rattle.std.proofs.lemmas.Result.{err_from_is_err_and}
use Rattle.gs_ring.specs.RingState.{RingState}
use Rattle.gs_replies.specs.declared.reply.Reply.TheVariants as replies
use Rattle.gs_kernel.specs.Kernel.{KernelOf, last_entry}
use Rattle.gs_core.specs.declared.event.Event.TheVariants as events
use Rattle.gs_core.specs.Follows.{follows}
use Rattle.gs_replies.specs.Replies.{reply_of}
use Rattle.gs_core.specs.Machine.{State, Step, StateOf, freed_by, led, planning, stays_with}
use Rattle.gs_core.specs.Held.{Suits, agent_of, machine_now}
use Rattle.gs_core.proofs.Posting.{RingRoom, follows_nothing, leads_stays, legal_refused, legal_told, told_agent, told_refused, told_slots, told_step, with_kernel}
use Rattle.gs_core.proofs.Serving.{refused_kept}
use Rattle.gs_core.proofs.Suiting.{suits_told}
use Rattle.gs_core.proofs.Keeping.{kept_step}
use Rattle.gs_core.proofs.machine.Machine.tell_event.Goals as goal
use Rattle.gs_core.proofs.machine.Machine.tell_event.Goals.{In_ok-done}

abbrev after : (g : _) → In_ok-done g → State
after g c = with_kernel (machine_now g.P.Policy.chosen c.self.inside) c.execute.new.self.settings c.execute.new.self.poster c.execute.new.self.history

stays : (g : _) (c : In_ok-done g) → stays_with c.args.command.now ≡ true
stays g c = leads_stays c.args.command.now c.requires.stays

-- the role is the one that follows the last entry
followed : (g : _) (c : In_ok-done g) → c.self.inside.role ≡ follows (last_entry c.execute.new.self.history) c.self.inside.role
followed g c =
    let m = machine_now g.P.Policy.chosen c.self.inside in
    follows_nothing (RingRoom c.self.inside.kernel.poster) m.settings m.history c.execute.new.self.history c.args.command.now c.in_ok-done.done c.self.inside.role c.requires.stays c.in_ok-done.ensures.legal.tells

-- agent and slots follow the last entry as the role does
same : (g : _) (c : In_ok-done g)
    → record (with_kernel (machine_now g.P.Policy.chosen c.self.inside) c.execute.new.self.settings c.execute.new.self.poster c.execute.new.self.history) {
      agent = led c.self.inside.kernel.settings.cpus (last_entry c.execute.new.self.history) (option_map agent_of c.self.inside.role);
      slots = freed_by c.self.inside.kernel.settings.cpus (last_entry c.execute.new.self.history) c.self.inside.region;
    } ≡ after g c
same g c =
    let m = machine_now g.P.Policy.chosen c.self.inside in
    let k = c.execute.new.self in
    let l = c.in_ok-done.ensures.legal in
    let x = c.in_ok-done.done in
    let room = RingRoom c.self.inside.kernel.poster in
    let agent = told_agent m.settings.cpus room m.settings m.history k.history c.args.command.now x c.self.inside.role (stays g c) l.tells ∙ ap (option_map agent_of) (sym (followed g c)) in
    let slots = told_slots m.settings.cpus room m.settings m.history k.history c.args.command.now x m.slots (stays g c) l.tells in
    λ i. record (with_kernel m k.settings k.poster k.history) { agent = agent i; slots = slots i }

step : (g : _) (c : In_ok-done g) → Step (machine_now g.P.Policy.chosen c.self.inside) (events.Kernel c.args.command.now) (reply_of (Ok c.in_ok-done.done) (last_entry c.execute.new.self.history)) (after g c)
step g c =
    let m = machine_now g.P.Policy.chosen c.self.inside in
    let k = c.execute.new.self in
    let e = c.in_ok-done.ensures in
    let r = reply_of (Ok c.in_ok-done.done) (last_entry k.history) in
    subst (λ (s : State). Step m (events.Kernel c.args.command.now) r s) (same g c)
    (told_step m c.args.command.now r _ (stays g c)
    (legal_told m c.self.inside.kernel.paged c.args.command.now c.in_ok-done.done k.settings c.self.inside.kernel.poster k.poster k.history refl refl e.frame.ring e.frame.stays e.frame.settings c.self.invariant.suits.given e.legal))

pub invariant_of-self-2 : goal.invariant_of-self-2
invariant_of-self-2 g c =
    let m = machine_now g.P.Policy.chosen c.self.inside in
    let i = c.self.invariant in
    let e = c.in_ok-done.ensures in
    let k = c.execute.new.self in
    let old = c.self.inside.kernel in
    record {
      kept = kept_step m (events.Kernel c.args.command.now) _ _ i.kept tt (step g c);
      told = e.frame.told;
      suits = subst (Suits c.self.inside.policy k.history k.paged) (sym (followed g c))
          (suits_told c.self.inside.policy (RingRoom old.poster) m.settings m.history k.history c.args.command.now c.in_ok-done.done old.paged k.paged c.self.inside.role (stays g c) e.legal.tells e.frame.pages i.suits);
    }

pub returns-clause-step : goal.returns-clause-step
returns-clause-step g c =
    subst (λ (x : StateOf _). Step (planning g.P.Policy.chosen x) (events.Kernel c.args.command.now) (reply_of (Ok c.in_ok-done.done) (last_entry c.execute.new.self.history)) (after g c)) c.self.view_is (step g c)

-- refused, all is as before, but that more threads may find room
pub invariant_of-self : goal.invariant_of-self
invariant_of-self g c = refused_kept g.P.Policy.chosen c.self.inside c.execute.new.self c.in_err-done.ensures.refused c.self.invariant

pub returns-in_err-done-clause-step : goal.returns-in_err-done-clause-step
returns-in_err-done-clause-step g c =
    let chosen = g.P.Policy.chosen in
    let m = machine_now chosen c.self.inside in
    let k = c.execute.new.self in
    let e = c.in_err-done.ensures in
    let f = c.in_err-done.field-0.0 in
    let now : State = machine_now chosen (record c.self.inside { kernel = k }) in
    let same : now ≡ m = ap (λ (x : KernelOf RingState). machine_now chosen (record c.self.inside { kernel = x })) e.refused in
    let is = legal_refused m (RingRoom c.self.inside.kernel.poster) c.self.inside.kernel.paged c.args.command.now f k.history c.self.invariant.suits.given e.legal in
    let r = err_from_is_err_and c.from_residual.result c.from_residual.ensures.1 in
    rw (r.1, r.2) (subst (λ (x : StateOf _). Step (planning chosen x) (events.Kernel c.args.command.now) (replies.Refused f) now) c.self.view_is (told_refused m c.args.command.now f now (leads_stays c.args.command.now c.requires.stays) is same))
