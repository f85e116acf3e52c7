use Rattle.std.proofs.Common.{◌≡◌, ◌<◌, ℕ, get_or, length, take}
use Rattle.gs_timeline.specs.Counts.{count_of}
use Rattle.gs_timeline.specs.declared.counts.Which.TheVariants.{Failed, Numbered, Placed, Stamped}
use Rattle.gs_timeline.proofs.counts.count_marks.Given as goal

abbrev pub invariant-loop-mark : goal.invariant-loop-mark
invariant-loop-mark l = record {
  all : length l.counts ≡ 15;
  counts : (n : ℕ) → n < 15 → get_or l.counts n 0 ≡ count_of l.part (Numbered n) (take l.mark-index l.marks);
  stamped : l.tally.stamped ≡ count_of l.part Stamped (take l.mark-index l.marks);
  placed : l.tally.placed ≡ count_of l.part Placed (take l.mark-index l.marks);
  failed : l.tally.failed ≡ count_of l.part Failed (take l.mark-index l.marks);
}
