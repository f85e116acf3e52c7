use Rattle.std.proofs.Common.{ap, ◌∙◌, arith}
use Rattle.gs_reader.specs.Reading.{read}
use Rattle.gs_reader.proofs.Again.{message_again}
use Rattle.gs_reader.proofs.Exact.{fault_clause, fault_read, is_read, ok_clause, size_clause}
use Rattle.gs_reader.proofs.read.read_one.Goals as goal

pub returns-clause-ok : goal.returns-clause-ok
returns-clause-ok c = ok_clause c.args.bytes.now c.first_item.result (λ i. omega (arith, c.type_inv.bytes i)) c.first_item.ensures

pub returns-clause-only : goal.returns-clause-only
returns-clause-only c = λ found h. c.first_item.ensures ∙ is_read c.args.bytes.now found h

pub returns-clause-fault : goal.returns-clause-fault
returns-clause-fault c = fault_clause c.args.bytes.now c.first_item.result c.first_item.ensures

pub returns-clause-only_fault : goal.returns-clause-only_fault
returns-clause-only_fault c = λ f h. c.first_item.ensures ∙ fault_read c.args.bytes.now f (λ i. omega (arith, c.type_inv.bytes i)) h

pub returns-clause-again : goal.returns-clause-again
returns-clause-again c = λ m rest fits e. c.first_item.ensures ∙ ap read e ∙ message_again m rest fits

pub returns-clause-size : goal.returns-clause-size
returns-clause-size c = size_clause c.args.bytes.now c.first_item.result c.first_item.ensures
