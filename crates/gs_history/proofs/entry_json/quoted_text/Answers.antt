use Rattle.std.proofs.Common.{◌∙◌}
use Rattle.gs_history.proofs.Pieces.{string_alone}
use Rattle.gs_history.proofs.entry_json.quoted_text.Goals as goal

pub returns-clause-is : goal.returns-clause-is
returns-clause-is c =
    let w = c.in_ok-string.ensures in
    string_alone c.new-writer.result c.string.new.self c.args.text.now c.into_inner.result.items (c.new-writer.ensures.before ∙ c.in_ok-with_capacity.ensures.items) c.new-writer.ensures.tokens w.room.0 w.ok c.into_inner.ensures.items
