use Rattle.std.proofs.Common.{rules, ◌≡◌, false, refl}
use Rattle.gs_core.specs.Short.{wants_memory}
use Rattle.gs_session.proofs.hearing.step.Goals as goal

pub returns : goal.returns
returns g c =
    let sufficed : wants_memory c.step-reply.result ≡ false = search rules in
    record {
      reply = c.step-reply.result;
      next = c.step-reply.new.self;
      replied = refl;
      becomes = refl;
      step = c.step-reply.ensures.step;
      safe = c.step-reply.ensures.safe;
      faithful = c.step-reply.ensures.faithful;
      policy = c.step-reply.ensures.policy;
      sufficed = sufficed;
    }
