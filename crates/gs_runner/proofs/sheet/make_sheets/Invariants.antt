use Rattle.std.proofs.Common.{◌≡◌, ◌≤◌, vec_len}
use Rattle.std.specs.Prelude.{vec_capacity}
use Rattle.gs_runner.proofs.sheet.make_sheets.Given as goal

abbrev pub invariant-loop : goal.invariant-loop
invariant-loop l = (vec_len l.sheets ≡ l.counter) × (l.count ≤ vec_capacity l.sheets)
