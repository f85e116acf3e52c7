use Rattle.std.proofs.Common.{◌≡◌, ◌+◌, vec_len}
use Rattle.std.specs.Vec.Iter.{into_iter_len}
use Rattle.gs_runner.proofs.sheet.receipts_of.Given as goal

abbrev pub invariant-loop-receipts : goal.invariant-loop-receipts
invariant-loop-receipts l = vec_len l.all + into_iter_len l.receipts-iterator ≡ vec_len l.fn.sheets
