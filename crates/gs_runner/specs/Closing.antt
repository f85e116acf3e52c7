-- What a closed enclave is.
use Rattle.std.specs.Prelude.{List}
use Rattle.gs_journal.specs.JournalState.{JournalState}
use Rattle.gs_runner.specs.declared.call.Call.{Call}

-- what is seen of it: the journal of all that happened, and the calls that were accepted
pub record ClosedOf : Type 0 where
  pub journal : JournalState
  pub calls : List Call
