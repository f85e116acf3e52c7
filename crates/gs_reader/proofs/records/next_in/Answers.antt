use Rattle.std.proofs.Common.{sym, ◌∙◌}
use Rattle.gs_reader.proofs.Segments.{at_fault, at_message, at_pad, empty_segment, not_empty, shorter}
use Rattle.gs_reader.proofs.records.next_in.Goals as goal

pub returns-in-Err : goal.returns-in-Err
returns-in-Err c =
    let rest = c.loop-rest.rest.now in
    at_fault c.args.bytes.now rest c.in-Err.fault c.loop-rest.invariant (not_empty rest c.is_empty.result c.is_empty.ensures c.loop-rest-test.true) (sym c.read_one.ensures.exact ∙ c.in-Err.is)

pub returns-in-Message : goal.returns-in-Message
returns-in-Message c =
    let rest = c.loop-rest.rest.now in
    at_message c.args.bytes.now rest c.split_at.result.1.now c.in-Ok.item c.in-Ok.len c.in-Message.message c.loop-rest.invariant (sym c.read_one.ensures.exact ∙ c.in-Ok.is) c.in-Message.is c.split_at.ensures.back

pub loop-rest-smaller : goal.loop-rest-smaller
loop-rest-smaller c = shorter c.loop-rest.rest.now c.split_at.result.1.now c.in-Ok.item c.in-Ok.len (sym c.read_one.ensures.exact ∙ c.in-Ok.is) c.split_at.ensures.back

pub loop-rest-preserved : goal.loop-rest-preserved
loop-rest-preserved c =
    at_pad c.args.bytes.now c.loop-rest.rest.now c.split_at.result.1.now c.in-Ok.item c.in-Ok.len c.loop-rest.invariant (sym c.read_one.ensures.exact ∙ c.in-Ok.is) c.in_default.is c.split_at.ensures.back

pub returns : goal.returns
returns c = sym c.loop-rest.invariant ∙ empty_segment c.loop-rest.rest.now c.is_empty.result c.is_empty.ensures c.loop-rest-test.false
