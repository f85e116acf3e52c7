use Rattle.std.proofs.Common.{◌≡◌, ◌-◌, ◌+◌, ◌≤◌, ◌++◌, drop, length, take}
use Rattle.gs_sentences.proofs.backwards.put.Given as goal

abbrev pub invariant-loop-n : goal.invariant-loop-n
invariant-loop-n l =
    record {
      within : l.n ≤ length l.bytes;
      room : l.start + length l.bytes ≤ length l.array;
      written : take (l.start + l.n) l.array ≡ take l.start l.fn.array ++ take l.n l.bytes;
      behind : drop (l.start + l.n) l.array ≡ drop (l.start + l.n) l.fn.array;
    }

abbrev pub decreases-loop-n : goal.decreases-loop-n
decreases-loop-n l = length l.bytes - l.n
