use Rattle.gs_journal.proofs.Folds.{record_in-fold}
use Rattle.gs_journal.proofs.Steps.{record_push}
use Rattle.gs_journal.proofs.law.record_is_fold.Goals as goal

pub returns : goal.returns
returns c = record {
  fold = record_in-fold;
  more = λ h e t. record_push t h e;
}
