use Rattle.std.proofs.Common.{ap, sym, ◌∙◌}
use Rattle.gs_runner.specs.Enclaves.{EnclaveOf}
use Rattle.gs_runner.proofs.Concluding.{says_by}
use Rattle.gs_runner.proofs.ending.end.Goals as goal

pub returns-clause-ended : goal.returns-clause-ended
returns-clause-ended g c =
    let e = c.settle-end.new.enclave in
    let held = c.settle-end.new.held in
    record {
      enclave = e;
      taker = held.taker;
      role = held.role;
      journal = sym (c.into_closed.ensures.value.0 ∙ ap (λ (x : EnclaveOf). x.history) c.audit.ensures.same);
      live = c.live.ensures;
      says = says_by e held.taker held.role c.settle-end.result c.settle-end.ensures.ok c.settle-end.ensures.err;
    }
