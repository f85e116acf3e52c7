use Rattle.std.proofs.Common.{◌≤◌, ◌++◌, ◌∙◌, ap, subst, sym, map, Bor, List, ℕ, lit<, string_bytes, Some}
use Rattle.serde_json.specs.Data.{Data, depth}
use Rattle.serde_json.specs.Read.{max_depth}
use Rattle.serde_json.specs.Written.{has_float, compact_text}
use Rattle.gs_lines.specs.Lines.{line}
use Rattle.gs_report.proofs.Values.{has_no_float, nests_little}
use Rattle.gs_report.proofs.report.report_line.Goals as goal

pub returns-clause-text : goal.returns-clause-text
returns-clause-text c =
    let value = c.in_ok-value.ensures in
    let none = has_no_float c.args.counts (map (λ (text : Bor (List ℕ)). text.now) c.args.texts.now.items) in
    let text = c.in_ok-report.ensures.text (ap has_float value ∙ none) ∙ ap compact_text value in
    let newline = c.in_ok-push.ensures.ascii (lit< tt) in
    c.in_ok-push.ensures.bytes ∙ ap (λ bytes. string_bytes c.in_ok-report.report ++ bytes) newline ∙ ap line text

pub returns-clause-reads : goal.returns-clause-reads
returns-clause-reads c =
    let value = c.in_ok-value.ensures in
    let little = nests_little c.args.counts (map (λ (text : Bor (List ℕ)). text.now) c.args.texts.now.items) in
    let newline = c.in_ok-push.ensures.ascii (lit< tt) in (
      string_bytes c.in_ok-report.report,
      c.in_ok-push.ensures.bytes ∙ ap (λ bytes. string_bytes c.in_ok-report.report ++ bytes) newline,
      c.in_ok-report.ensures.reads_back (subst (λ (d : Data). depth d ≤ max_depth) (sym value) little) ∙ ap Some value,
    )
