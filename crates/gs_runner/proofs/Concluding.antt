-- What settling answered, in one word.
use Rattle.std.proofs.Common.{Option, Ok, Err}
use Rattle.std.specs.Prelude.{IfErr, OnOk, Result}
use Rattle.gs_agent.specs.Role.{RoleOf}
use Rattle.gs_journal.specs.History.{posted}
use Rattle.gs_link.specs.declared.taker.RtrbTaker.{RtrbTaker}
use Rattle.gs_link.specs.Between.{Gave}
use Rattle.gs_runner.specs.Enclaves.{EnclaveOf}
use Rattle.gs_runner.specs.Ends.{Says}
use Rattle.gs_runner.specs.Settles.{KnowsAll, WhyNot}
use Rattle.gs_runner.specs.declared.settling.Settled.{Settled}
use Rattle.gs_runner.specs.declared.settling.Unsettled.{Unsettled}

pub says_by : {P : Type 0} (e : EnclaveOf) (t : RtrbTaker) (o : Option (RoleOf P)) (r : Result Settled Unsettled) → OnOk r (Gave t (posted e.history) × KnowsAll o e) → IfErr r (WhyNot e t o) → Says e t o r
says_by e t o (Ok s) ok err = ok
says_by e t o (Err u) ok err = err
