use Rattle.std.proofs.Common.{◌≡◌, ◌-◌, ◌+◌, ◌≤◌, ◌++◌, length, take}
use Rattle.gs_text.proofs.forwards.put_words.Given as goal

abbrev pub invariant-loop-n : goal.invariant-loop-n
invariant-loop-n l =
    record {
      within : l.n ≤ length l.more;
      room : l.at + length l.more ≤ length l.bytes;
      written : take (l.at + l.n) l.bytes ≡ take l.at l.fn.bytes ++ take l.n l.more;
    }

abbrev pub decreases-loop-n : goal.decreases-loop-n
decreases-loop-n l = length l.more - l.n
