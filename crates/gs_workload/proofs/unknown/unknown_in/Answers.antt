use Rattle.std.proofs.Common.{◌∙◌, ap}
use Rattle.toml.specs.View.{table_view}
use Rattle.gs_workload.specs.Unknown.{stray_in}
use Rattle.gs_workload.proofs.Words.{first_stray, stray_by_keys, stray_found, stray_passed}
use Rattle.gs_workload.proofs.unknown.unknown_in.Goals as goal

pub loop-key-init : goal.loop-key-init
loop-key-init c = ap (first_stray c.args.part) (c.into_iter-key-iterator.ensures.into_iter_gives ∙ c.keys-key-items.ensures.rest) ∙ stray_by_keys c.args.part c.args.table.now.entries

pub returns-then-not-is_among : goal.returns-then-not-is_among
returns-then-not-is_among c =
    stray_found c.args.part c.loop-key.key-iterator c.next.new.self c.in-Some.key.now c.as_str.result.now c.as_str-then-not-is_among.result.now c.known.result.now c.is_among.result (stray_in c.args.part (table_view c.args.table.now))
    c.loop-key.invariant c.in-Some.ensures.steps c.as_str.ensures.value c.as_str-then-not-is_among.ensures.value c.known.ensures c.is_among.ensures c.if-not-is_among.true

pub loop-key-preserved : goal.loop-key-preserved
loop-key-preserved c =
    stray_passed c.args.part c.loop-key.key-iterator c.next.new.self c.in-Some.key.now c.as_str.result.now c.known.result.now c.is_among.result (stray_in c.args.part (table_view c.args.table.now))
    c.loop-key.invariant c.in-Some.ensures.steps c.as_str.ensures.value c.known.ensures c.is_among.ensures c.if-not-is_among.false
