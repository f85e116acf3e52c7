use Rattle.std.proofs.Common.{length, ap, ◌∙◌, arith}
use Rattle.std.proofs.lemmas.List.Elements.{All-rest}
use Rattle.gs_runner.specs.Holds.{SearchOf}
use Rattle.gs_runner.specs.Slips.{IsInside}
use Rattle.gs_runner.proofs.Slipping.{answered_next}
use Rattle.gs_runner.proofs.answered.is_answered.Goals as goal

pub commands-preserved : goal.commands-preserved
commands-preserved c =
    let so = c.commands.invariant in
    let o = c.others-others.result.now in
    let h = c.args.closed.now.journal.entries in
    let commands = c.in-Some.ensures.cases.0 in
    let slips = c.in-Some-split_first.ensures.cases.0 in
    let kept = c.is_slip_kept.ensures in
    record {
      calls = ap (λ (s : SearchOf). s.calls) kept.same ∙ so.calls;
      entries = ap (λ (s : SearchOf). s.entries) kept.same ∙ so.entries;
      order = omega (arith, kept.at, c.slip_at-at.ensures c.commands.search.entries);
      inside = All-rest (IsInside (length o)) c.in-Some-split_first.slip.now c.in-Some-split_first.rest.now c.commands.slips.now slips so.inside;
      same = answered_next c.args.closed.now.calls c.commands.search.calls h c.commands.search.entries o c.commands.from c.slip_at-at.result c.in-Some.command.now c.in-Some.later.now c.commands.commands.now c.in-Some-split_first.slip.now c.in-Some-split_first.rest.now c.commands.slips.now
          so.calls so.entries commands slips c.if-at-from.false (c.slip_at-at.ensures h) (kept.exact.0 c.if-not-is_slip_kept.false) so.same;
    }
