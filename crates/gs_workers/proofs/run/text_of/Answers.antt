use Rattle.std.proofs.Common.{◌∙◌, sym}
use Rattle.gs_workers.proofs.run.text_of.Goals as goal

pub returns-in-Err-clause-err : goal.returns-in-Err-clause-err
returns-in-Err-clause-err c = (c.args.finished.now, c.requires, sym c.was_short.ensures ∙ c.if-was_short.false, c.in-Err.is)

pub returns-clause-ok : goal.returns-clause-ok
returns-clause-ok c =
    record {
      finished = c.args.finished.now;
      run = c.requires;
      sufficed = sym c.was_short.ensures ∙ c.if-was_short.false;
      settled = c.in_default.is;
      is = c.into_bytes.ensures ∙ c.in_ok-shown_text.ensures;
    }
