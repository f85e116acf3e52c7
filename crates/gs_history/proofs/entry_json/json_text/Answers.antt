use Rattle.gs_lines.specs.Lines.{line}
use Rattle.std.proofs.Common.{arith, ◌∙◌, ap, ◌++◌}
use Rattle.serde_json.specs.Written.{compact_text}
use Rattle.gs_history.specs.Json.{entry_data}
use Rattle.gs_history.proofs.Pieces.{whole}
use Rattle.gs_history.proofs.Places.{written_more}
use Rattle.gs_history.proofs.entry_json.json_text.Goals as goal

pub loop-place-preserved : goal.loop-place-preserved
loop-place-preserved c =
    let n = c.loop-place.place in
    let e = c.entry.result in
    written_more (λ n e. line (compact_text (entry_data n e))) n c.args.journal.now.entries e c.loop-place.out c.write_line.new.out (omega (arith, c.loop-place-test.true, c.len-place-end.ensures.value)) c.entry.ensures.item c.loop-place.invariant (c.in_ok-write_line.ensures ∙ ap (λ text. c.loop-place.out ++ line text) (whole n e))
