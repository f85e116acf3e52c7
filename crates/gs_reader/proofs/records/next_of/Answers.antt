use Rattle.std.proofs.Common.{sym, ◌∙◌}
use Rattle.gs_reader.proofs.Segments.{first_fault, second_found}
use Rattle.gs_reader.proofs.records.next_of.Goals as goal

pub returns-in_default : goal.returns-in_default
returns-in_default c =
    second_found c.args.first.now c.args.second.now c.in_ok-found.rest.now c.in_ok-found.found c.in_default.ensures c.in_ok-found.ensures

pub returns-then-is_err : goal.returns-then-is_err
returns-then-is_err c =
    first_fault c.args.first.now c.in-Some.rest.now c.args.second.now c.in-Some.found (sym c.is_err.ensures.value ∙ c.if-is_err.true) c.in-Some.ensures
