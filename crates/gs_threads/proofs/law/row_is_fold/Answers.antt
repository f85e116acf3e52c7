use Rattle.gs_threads.proofs.Mirrored.{mirrored_record, mirrored_number, mirrored_place}
use Rattle.gs_threads.proofs.law.row_is_fold.Goals as goal

pub returns : goal.returns
returns c = record {
  facts = mirrored_record;
  number = mirrored_number;
  place = mirrored_place;
}
