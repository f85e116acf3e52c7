use Rattle.std.proofs.Common.{◌≡◌, ap, ◌∙◌, ◌++◌, subst, sym, false, List, ℕ, arith}
use Rattle.gs_runq.specs.Queue.{Queue, order, is_in, Apart}
use Rattle.gs_runq.proofs.Queues.{not_left, not_right, put_zero, put_one}
use Rattle.gs_runq.proofs.queue.RunQueue.push.Goals as goal

-- who does not wait in the queue stands in neither line
absent : (t : ℕ) (v q : Queue) → v ≡ q → is_in t (order q) ≡ false → is_in t (order v) ≡ false
absent t v q is e = ap (λ (u : Queue). is_in t (order u)) is ∙ e

pub push-requires-clause-absent : goal.push-requires-clause-absent
push-requires-clause-absent c = not_left c.args.tid c.self.inside.zero_class.threads c.self.inside.one_class.threads (absent _ _ _ c.self.view_is c.requires.absent)

pub invariant_of-self : goal.invariant_of-self
invariant_of-self c =
    record {
      rooms = omega (arith, c.self.invariant.rooms, c.push.ensures.room);
      apart = subst (λ (xs : List ℕ). Apart (xs ++ c.self.inside.one_class.threads)) (sym c.push.ensures.threads) (put_zero c.args.tid c.self.inside.zero_class.threads c.self.inside.one_class.threads c.self.invariant.apart (absent _ _ _ c.self.view_is c.requires.absent));
    }

pub push-requires-in-One-clause-absent : goal.push-requires-in-One-clause-absent
push-requires-in-One-clause-absent c = not_right c.args.tid c.self.inside.zero_class.threads c.self.inside.one_class.threads (absent _ _ _ c.self.view_is c.requires.absent)

pub invariant_of-self-in-One : goal.invariant_of-self-in-One
invariant_of-self-in-One c =
    record {
      rooms = omega (arith, c.self.invariant.rooms, c.push-in-One.ensures.room);
      apart = subst (λ (ys : List ℕ). Apart (c.self.inside.zero_class.threads ++ ys)) (sym c.push-in-One.ensures.threads) (put_one c.args.tid c.self.inside.zero_class.threads c.self.inside.one_class.threads c.self.invariant.apart (absent _ _ _ c.self.view_is c.requires.absent));
    }
