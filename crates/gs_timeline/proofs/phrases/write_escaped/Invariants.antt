use Rattle.std.proofs.Common.{◌≡◌, ◌++◌, take}
use Rattle.gs_timeline.specs.Escapes.{escaped}
use Rattle.gs_timeline.proofs.phrases.write_escaped.Given as goal

abbrev pub invariant-loop-byte : goal.invariant-loop-byte
invariant-loop-byte l = record {
  settled : l.out.settled ≡ l.fn.out.settled;
  told : l.out.told ≡ l.fn.out.told ++ escaped (take l.byte-index l.bytes);
}
