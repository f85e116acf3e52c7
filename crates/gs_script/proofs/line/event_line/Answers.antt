use Rattle.std.proofs.Common.{rules, ◌≡◌, Some, Ok, Err}
use Rattle.gs_script.specs.Rows.{event_of, shown}
use Rattle.gs_script.specs.Script.{says}
use Rattle.gs_script.proofs.Said.{reason_said}
use Rattle.gs_script.proofs.line.event_line.Goals as goal

pub returns-in-Err : goal.returns-in-Err
returns-in-Err g c =
    let said : says Ok c.args.line.now ≡ Ok (Some (shown c.words_said.new.words.items)) = search rules in
    let read : Err c.in-Err.reason ≡ event_of g.P.NamedPolicy.naming (shown c.words_said.new.words.items) = search rules in
    reason_said (event_of g.P.NamedPolicy.naming) c.args.line.now (shown c.words_said.new.words.items) c.in-Err.reason said read
