use Rattle.std.proofs.Common.{◌≤◌, vec_len}
use Rattle.std.specs.Io.KnownBytes.{Consumes}
use Rattle.gs_trace.specs.declared.pipe.TheConstants.{MOST_READ_BYTES}
use Rattle.gs_trace.proofs.pipe.read_all.Given as goal

abbrev pub invariant-loop-read : goal.invariant-loop-read
invariant-loop-read g l = record {
  so_far : Consumes (g.R.Read.remaining l.fn.reader) (g.R.Read.remaining l.reader) l.bytes.items;
  some : l._read ≤ vec_len l.bytes;
  bounded : vec_len l.bytes ≤ MOST_READ_BYTES;
}
