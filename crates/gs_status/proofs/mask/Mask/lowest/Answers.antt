use Rattle.std.proofs.Common.{◌≡◌, ◌+◌, ◌-◌, ap, sym, ◌∙◌, arith}
use Rattle.gs_status.specs.declared.bit_word.TheConstants.{WORD_BITS}
use Rattle.gs_status.specs.declared.mask.TheConstants.{MOST_CPUS}
use Rattle.gs_status.specs.Masks.{has, least}
use Rattle.gs_status.proofs.Halves.{in_high, in_low, least_high, least_low, least_of_neither}
use Rattle.gs_status.proofs.mask.Mask.lowest.Goals as goal

pub returns-in-Some-clause-least : goal.returns-in-Some-clause-least
returns-in-Some-clause-least c =
    least_low c.self.inside.high c.self.inside.low c.in-Some.cpu c.self.invariant c.in-Some.ensures.least c.in-Some.ensures.within
    ∙ ap (λ m. least (has m) MOST_CPUS) c.self.view_is

pub returns-in-Some-clause-is_in : goal.returns-in-Some-clause-is_in
returns-in-Some-clause-is_in c =
    sym (ap (λ m. has m c.in-Some.cpu) c.self.view_is)
    ∙ (in_low c.self.inside.high c.self.inside.low c.in-Some.cpu c.self.invariant c.in-Some.ensures.within ∙ c.in-Some.ensures.is_in)

pub returns-in_err-cpu-clause-least : goal.returns-in_err-cpu-clause-least
returns-in_err-cpu-clause-least c =
    rw c.from_residual.ensures (
    least_of_neither c.self.inside.high c.self.inside.low c.in_default.ensures.empty c.in_err-cpu.ensures.empty
    ∙ ap (λ m. least (has m) MOST_CPUS) c.self.view_is)

pub returns-clause-least : goal.returns-clause-least
returns-clause-least c =
    least_high c.self.inside.high c.self.inside.low c.in_ok-cpu.cpu c.self.invariant c.in_default.ensures.empty c.in_ok-cpu.ensures.least c.in_ok-cpu.ensures.within
    ∙ ap (λ m. least (has m) MOST_CPUS) c.self.view_is

pub returns-clause-is_in : goal.returns-clause-is_in
returns-clause-is_in c =
    let back : c.in_ok-cpu.cpu + WORD_BITS - WORD_BITS ≡ c.in_ok-cpu.cpu = omega arith in
    sym (ap (λ m. has m (c.in_ok-cpu.cpu + WORD_BITS)) c.self.view_is)
    ∙ (in_high c.self.inside.high c.self.inside.low (c.in_ok-cpu.cpu + WORD_BITS) c.self.invariant (omega arith)
    ∙ (ap (has c.self.inside.high) back ∙ c.in_ok-cpu.ensures.is_in))
