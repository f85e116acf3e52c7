use Rattle.std.proofs.Common.{◌≡◌, ◌+◌, Option, None, IsSome, false, refl, ap, sym, subst, ◌∙◌, List, drop, arith}
use Rattle.std.specs.Option.{is_some, option_map}
use Rattle.gs_agent.specs.Picture.{Picture}
use Rattle.std.proofs.lemmas.Grind.{common_steps}
use Rattle.gs_layout.specs.declared.message.Message.{Message}
use Rattle.gs_agent.specs.Mind.{MindState, picture_of}
use Rattle.gs_agent.specs.Role.{RoleOf}
use Rattle.gs_journal.specs.History.{History, posted, torn}
use Rattle.gs_kernel.specs.Kernel.{KernelOf, SameKernel}
use Rattle.gs_ring.specs.RingState.{RingState}
use Rattle.gs_ring.specs.Ends.{Passed, Posted, Posted-keeps, Posted-unread}
use Rattle.gs_agent.specs.declared.drained.Drained.{Drained}
use Rattle.gs_core.specs.declared.event.Event.TheVariants as events
use Rattle.gs_replies.specs.declared.reply.Reply.TheVariants as replies
use Rattle.gs_agent.specs.Drains.{Followed}
use Rattle.gs_core.specs.Machine.{State, Step, FollowsFirst, Drains, mind_of, page_of, picture, refusal, StateOf, planning}
use Rattle.gs_core.specs.Held.{Suits, agent_of, machine_now}
use Rattle.gs_core.proofs.Draining.{follows_from}
use Rattle.gs_core.proofs.Posting.{done}
use Rattle.gs_core.proofs.Roles.{same_history}
use Rattle.gs_core.proofs.Suiting.{suits_still}
use Rattle.gs_core.proofs.Serving.{drains_as, with_drained, lent_mut}
use Rattle.gs_core.proofs.Keeping.{kept_step}
use Rattle.gs_core.proofs.machine.Machine.follow.Goals as goal

abbrev Kernel : Type 0
Kernel = KernelOf RingState

-- what passed from the kernel's ring, and the kernel beside it
record HasPassed (old new : Kernel) (v v' : MindState) (d : Drained) : Type 0 where
  pub ms : List Message
  pub beside : SameKernel old new
  pub passed : Passed old.poster ms new.poster
  pub followed : Followed (picture_of v) ms d (picture_of v')

from_old : (old head new : Kernel) (v v' : MindState) (d : Drained) → head ≡ old → HasPassed head new v v' d → HasPassed old new v v' d
from_old old head new v v' d e x = subst (λ (k : Kernel). HasPassed k new v v' d) e x

drained : (g : _) (c : goal.After-self-1 g) → HasPassed c.self.inside.kernel c.drain.new.taker.kernel.now c.unwrap-role.result.now.mind c.drain.new.self.mind c.drain.result
drained g c =
    let d = c.drain.ensures in
    from_old _ c.taker-head.result.kernel.now _ _ _ _ c.taker-head.ensures.1
    (record { ms = d.followed.0; beside = d.followed.1.1; passed = d.followed.1.2; followed = d.followed.2 })

drains : (g : _) (c : goal.After-self-1 g) → Drains (machine_now g.P.Policy.chosen c.self.inside) c.args.max c.drain.result (with_drained (machine_now g.P.Policy.chosen c.self.inside) c.drain.new.taker.kernel.now.settings c.drain.new.taker.kernel.now.poster c.drain.new.taker.kernel.now.history (agent_of c.drain.new.self))
drains g c =
    let m : State = machine_now g.P.Policy.chosen c.self.inside in
    let x = drained g c in
    let e = c.drain.ensures in
    let new : Kernel = c.drain.new.taker.kernel.now in
    let old : Kernel = c.self.inside.kernel in
    let follows = follows_from old.poster new.poster x.ms c.args.max c.drain.result (picture_of c.unwrap-role.result.now.mind) (picture_of c.drain.new.self.mind) x.passed x.followed e.most e.whole e.early e.gap e.memory in
    let unread : drop m.consumed (posted m.history) ≡ old.poster.unread = Posted-unread old.poster (posted m.history) c.self.invariant.told in
    let shown : picture_of c.unwrap-role.result.now.mind ≡ picture m = ap (λ (o : Option (RoleOf _)). picture_of (mind_of (option_map agent_of o))) (sym (lent_mut c.as_mut.ensures.value c.unwrap-role.ensures)) in
    let next : page_of m.agent ≡ c.drain.new.self.next = ap (λ (o : Option (RoleOf _)). page_of (option_map agent_of o)) (lent_mut c.as_mut.ensures.value c.unwrap-role.ensures) ∙ ap (λ (r : RoleOf _). r.next) (sym e.others) in
    let some : IsSome m.agent = ap (λ (o : Option (RoleOf _)). is_some (option_map agent_of o)) (lent_mut c.as_mut.ensures.value c.unwrap-role.ensures) in
    drains_as m c.args.max new.settings new.poster new.history c.drain.result (agent_of c.drain.new.self) some next x.beside.settings x.passed.capacity (x.passed.consumed ∙ ap (λ n. m.consumed + n) (sym x.followed.count)) x.beside.history
    (subst (λ (p : Picture). FollowsFirst p (drop m.consumed (posted m.history)) c.args.max c.drain.result (picture_of c.drain.new.self.mind)) shown
    (subst (λ (ms : List Message). FollowsFirst (picture_of c.unwrap-role.result.now.mind) ms c.args.max c.drain.result (picture_of c.drain.new.self.mind)) (sym unread) follows))

step : (g : _) (c : goal.After-self-1 g) → Step (machine_now g.P.Policy.chosen c.self.inside) (events.Drain c.args.max) (replies.Drained c.drain.result)
    (with_drained (machine_now g.P.Policy.chosen c.self.inside) c.drain.new.taker.kernel.now.settings c.drain.new.taker.kernel.now.poster c.drain.new.taker.kernel.now.history (agent_of c.drain.new.self))
step g c =
    let m : State = machine_now g.P.Policy.chosen c.self.inside in
    let up : torn m.history ≡ false = ap (λ (y : StateOf _). torn y.history) c.self.view_is ∙ c.requires in
    let none : refusal m (events.Drain c.args.max) ≡ None = grind (arith, common_steps, up) in
    let new : Kernel = c.drain.new.taker.kernel.now in
    let m' : State = with_drained m new.settings new.poster new.history (agent_of c.drain.new.self) in
    done (refusal m (events.Drain c.args.max)) m (events.Drain c.args.max) (replies.Drained c.drain.result) m' none (c.drain.result, refl, drains g c)

pub invariant_of-self : goal.invariant_of-self
invariant_of-self g c =
    let m : State = machine_now g.P.Policy.chosen c.self.inside in
    let x = drained g c in
    let i = c.self.invariant in
    let new : Kernel = c.drain.new.taker.kernel.now in
    record {
      kept = kept_step m (events.Drain c.args.max) _ _ i.kept tt (step g c);
      told = subst (λ (h : History). Posted new.poster (posted h)) (sym x.beside.history) (Posted-keeps c.self.inside.kernel.poster new.poster (posted m.history) x.ms i.told x.passed);
      suits = suits_still c.self.inside.policy m.history new.history c.self.inside.kernel.paged new.paged c.unwrap-role.result.now c.drain.new.self (same_history m.history new.history x.beside.history) x.beside.pages c.drain.ensures.others
          (subst (Suits c.self.inside.policy m.history c.self.inside.kernel.paged) (lent_mut c.as_mut.ensures.value c.unwrap-role.ensures) i.suits);
    }

pub returns-clause-step : goal.returns-clause-step
returns-clause-step g c =
    let new : Kernel = c.drain.new.taker.kernel.now in
    subst (λ (x : StateOf _). Step (planning g.P.Policy.chosen x) (events.Drain c.args.max) (replies.Drained c.drain.result) (with_drained (machine_now g.P.Policy.chosen c.self.inside) new.settings new.poster new.history (agent_of c.drain.new.self))) c.self.view_is (step g c)
