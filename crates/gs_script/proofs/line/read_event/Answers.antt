use Rattle.std.proofs.Common.{◌∙◌, sym}
use Rattle.gs_script.proofs.OneLine.{cut_fault, said_alone, unsaid_alone}
use Rattle.gs_script.proofs.line.read_event.Goals as goal

pub returns-then-is_some-clause-err : goal.returns-then-is_some-clause-err
returns-then-is_some-clause-err g c =
    cut_fault g.P.NamedPolicy.naming c.args.line.now c.first_line.result.0.now c.first_line.result.1 (sym c.is_some.ensures ∙ c.if-is_some.true) c.first_line.ensures

pub returns-clause-ok : goal.returns-clause-ok
returns-clause-ok g c =
    said_alone g.P.NamedPolicy.naming c.args.line.now c.first_line.result.0.now c.first_line.result.1 c.add_event.new.left c.args.events.now.items _ c.add_event.new.events.items c.add_event.result (sym c.is_some.ensures ∙ c.if-is_some.false) c.first_line.ensures c.reserve.ensures.items c.add_event.ensures.ok

pub returns-clause-err : goal.returns-clause-err
returns-clause-err g c =
    unsaid_alone g.P.NamedPolicy.naming c.args.line.now c.first_line.result.0.now c.first_line.result.1 c.add_event.result (sym c.is_some.ensures ∙ c.if-is_some.false) c.first_line.ensures c.add_event.ensures.err
