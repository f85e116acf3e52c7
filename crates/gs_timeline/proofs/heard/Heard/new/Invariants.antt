use Rattle.std.proofs.Common.{◌≡◌, Some, map, take}
use Rattle.gs_timeline.specs.Endings.{ending_of}
use Rattle.gs_timeline.specs.Lives.{born, creations}
use Rattle.gs_timeline.proofs.heard.Heard.new.Given as goal

abbrev pub invariant-loop-place : goal.invariant-loop-place
invariant-loop-place l = record {
  lives : map born l.lives.items ≡ creations (take l.place l.journal.entries);
  endings : l.endings.items ≡ map (λ x. ending_of (Some x)) (take l.place l.journal.entries);
}
