use Rattle.std.proofs.Common.{◌≡◌, ◌≤◌, List, ℕ, vec_len}
use Rattle.std.specs.Io.KnownBytes.{Consumes, prepend_known}
use Rattle.gs_serve.specs.declared.source.TheConstants.{MOST_KEPT}
use Rattle.gs_serve.specs.Source.{IsLine, kept_of}
use Rattle.gs_serve.proofs.source.Source.next.Given as goal

abbrev pub invariant-loop-turn : goal.invariant-loop-turn
invariant-loop-turn g l =
    record {
      short : vec_len l.line ≤ MOST_KEPT;
      so_far : (begun : List ℕ) × IsLine begun × (l.line.items ≡ kept_of begun) × Consumes (prepend_known l.fn.self (g.R.Read.remaining l.fn.reader)) (prepend_known l.self (g.R.Read.remaining l.reader)) begun;
    }
