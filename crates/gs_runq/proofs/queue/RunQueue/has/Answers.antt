use Rattle.std.proofs.Common.{◌≡◌, ◌∙◌, ◌||◌, ap, sym, subst, Bool, false}
use Rattle.std.specs.Prelude.{All}
use Rattle.std.proofs.lemmas.List.Elements.{All-append}
use Rattle.gs_runq.specs.Queue.{Apart, IsTid, Queue, is_in, order}
use Rattle.gs_runq.proofs.Queues.{in_append}
use Rattle.gs_runq.proofs.Rooms.{spare}
use Rattle.gs_runq.proofs.queue.RunQueue.has.Goals as goal

pub returns-else-has-clause-spare : goal.returns-else-has-clause-spare
returns-else-has-clause-spare c out tid class =
    let zero = c.self.inside.zero_class.threads in
    let one = c.self.inside.one_class.threads in
    let absent : is_in c.args.tid (order c.args.self.now) ≡ false =
    subst (λ (q : Queue). is_in c.args.tid (order q) ≡ false) c.self.view_is (in_append c.args.tid zero one ∙ (ap (λ (b : Bool). b || is_in c.args.tid one) (sym c.has.ensures.has ∙ c.if-has.false) ∙ (sym c.has-else-has.ensures.has ∙ out))) in
    spare c.args.tid c.args.self.now (subst (λ (q : Queue). Apart (order q)) c.self.view_is c.self.invariant.apart)
    (subst (λ (q : Queue). All IsTid (order q)) c.self.view_is (All-append IsTid zero one c.has.ensures.tids c.has-else-has.ensures.tids)) tid absent class
