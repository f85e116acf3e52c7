use Rattle.std.proofs.Common.{refl}
use Rattle.gs_script.specs.Script.{script_of}
use Rattle.gs_trace.specs.Output.{fault_line}
use Rattle.gs_trace.proofs.Writing.{answers_fault, keeps_appends, left_fault}
use Rattle.gs_trace.proofs.answering.write_answer.Goals as goal

pub returns-in-Ok-write_fault-clause-written : goal.returns-in-Ok-write_fault-clause-written
returns-in-Ok-write_fault-clause-written g c =
    let left = left_fault (script_of g.P.NamedPolicy.naming c.args.input.now) _ _ _ _ _ c.in-Err-Script-Fault.fault c.in-Err-Script-Fault.field-0-is c.in-Err-Script-Fault.field-0-0-is c.in-Err-Script-Fault.ensures.left in (
      fault_line c.in-Err-Script-Fault.fault,
      answers_fault _ (script_of g.P.NamedPolicy.naming c.args.input.now) c.in-Err-Script-Fault.fault _ left.0 refl,
      keeps_appends _ _ _ _ left.1 c.in-Ok-write_fault.ensures.written,
    )
