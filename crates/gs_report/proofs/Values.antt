-- The value of a report: which it is, that it has no float, and that it nests two deep.
use Rattle.std.proofs.Common.{◌≡◌, ◌≤◌, ◌∙◌, ℕ, List, [], ◌∷◌, ap, map, false, refl, arith}
use Rattle.serde_json.specs.Data.{string, depth, items_depth}
use Rattle.serde_json.specs.Read.{max_depth}
use Rattle.serde_json.specs.View.{items_of}
use Rattle.serde_json.specs.Written.{has_float, items_have_float}
use Rattle.gs_replies.specs.declared.reply.Reply.{Reply}
use Rattle.gs_lines.specs.Lines.{lines}
use Rattle.gs_report.specs.Counts.{counts_of}
use Rattle.gs_report.specs.declared.counts.Counts.{Counts}
use Rattle.gs_report.specs.Report.{report_data, last_lines, value_of}

pub report_data_is : (last : ℕ) (rs : List Reply) (counts : Counts) (text : List ℕ) (texts : List (List ℕ)) → counts ≡ counts_of rs → text ≡ lines rs → texts ≡ last_lines last text → report_data counts texts ≡ value_of last rs
report_data_is last rs counts text texts counted same kept =
    ap (report_data counts) (kept ∙ ap (last_lines last) same) ∙ ap (λ counts. report_data counts (last_lines last (lines rs))) counted

no_text_has_float : (texts : List (List ℕ)) → items_have_float (items_of (map string texts)) ≡ false
no_text_has_float [] = refl
no_text_has_float (text ∷ texts) = no_text_has_float texts

pub has_no_float : (counts : Counts) (texts : List (List ℕ)) → has_float (report_data counts texts) ≡ false
has_no_float counts texts = rw (no_text_has_float texts) refl

no_text_nests : (texts : List (List ℕ)) → items_depth (items_of (map string texts)) ≡ 0
no_text_nests [] = refl
no_text_nests (text ∷ texts) = rw (no_text_nests texts) refl

pub nests_little : (counts : Counts) (texts : List (List ℕ)) → depth (report_data counts texts) ≤ max_depth
nests_little counts texts = rw (no_text_nests texts) (omega arith)
