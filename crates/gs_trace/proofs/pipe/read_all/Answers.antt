use Rattle.std.proofs.Common.{◌≤◌, ◌++◌, length, take, arith, length-append}
use Rattle.std.proofs.KnownBytes.{Consumes-trans}
use Rattle.std.proofs.lemmas.Grind.{common_steps}
use Rattle.gs_trace.specs.declared.pipe.TheConstants.{BUFFER_BYTES}
use Rattle.gs_trace.proofs.pipe.read_all.Goals as goal

pub returns-then-is_err-clause-bounded : goal.returns-then-is_err-clause-bounded
returns-then-is_err-clause-bounded g c =
    let given = take c.in-Ok.count c.read.new.buf in
    let few : length given ≤ BUFFER_BYTES = grind (arith, common_steps) in (
      c.loop-read.bytes.items ++ given,
      Consumes-trans _ (g.R.Read.remaining c.loop-read.reader) _ c.loop-read.bytes.items given c.loop-read.invariant.so_far c.in-Ok.ensures.bytes.0,
      omega (arith, few, length-append c.loop-read.bytes.items given),
    )
