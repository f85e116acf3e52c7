use Rattle.gs_journal.proofs.Least.{at_least, at_none}
use Rattle.gs_journal.proofs.law.at_is_least.Goals as goal

pub returns : goal.returns
returns c = record {
  found = at_least;
  nowhere = at_none;
}
