-- A report that takes in one more reply.
use Rattle.std.proofs.Common.{◌≡◌, ◌∙◌, ap, sym, List, [], ◌∷◌, ◌++◌}
use Rattle.gs_replies.specs.declared.reply.Reply.{Reply}
use Rattle.gs_lines.specs.Lines.{reply_lines}
use Rattle.gs_lines.proofs.Laws.{lines_more}
use Rattle.gs_report.specs.Counts.{counts_more}
use Rattle.gs_report.specs.Report.{ReportsOn}
use Rattle.gs_report.specs.declared.report.Report.{Report}
use Rattle.gs_report.proofs.Folded.{counts_one_more}

pub reports_on_more : (old new : Report) (r : Reply) → new.counts ≡ counts_more old.counts r → new.text ≡ old.text ++ reply_lines r → (rs : List Reply) → ReportsOn old rs → ReportsOn new (rs ++ r ∷ [])
reports_on_more old new r counted written rs on =
    record {
      counted = counted ∙ ap (λ c. counts_more c r) on.counted ∙ sym (counts_one_more rs r);
      written = written ∙ ap (λ text. text ++ reply_lines r) on.written ∙ sym (lines_more rs r);
    }
