use Rattle.std.proofs.Common.{◌∙◌, ap}
use Rattle.json.specs.Print.{quoted}
use Rattle.gs_explain.proofs.Quoting.{string_alone}
use Rattle.gs_explain.proofs.quoted.escaped.Goals as goal

pub returns-clause-is : goal.returns-clause-is
returns-clause-is c =
    let w = c.in_ok-string.ensures in
    string_alone c.new-writer.result c.string.new.self c.as_text.result.now c.into_inner.result.items (c.new-writer.ensures.before ∙ c.new.ensures.items) c.new-writer.ensures.tokens w.room.0 w.ok c.into_inner.ensures.items ∙ ap quoted c.as_text.ensures
