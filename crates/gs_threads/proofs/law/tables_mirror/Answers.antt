use Rattle.gs_threads.proofs.Clearing.{mirrors_all_off}
use Rattle.gs_threads.proofs.Mirrored.{mirrors_none}
use Rattle.gs_threads.proofs.Mirroring.{mirrors_created, mirrors_posted}
use Rattle.gs_threads.proofs.Placing.{mirrors_placed, mirrors_quiet}
use Rattle.gs_threads.proofs.law.tables_mirror.Goals as goal

pub returns : goal.returns
returns c = record {
  none = mirrors_none;
  created = mirrors_created;
  posted = mirrors_posted;
  placed = mirrors_placed;
  quiet = mirrors_quiet;
  torn = mirrors_all_off;
}
