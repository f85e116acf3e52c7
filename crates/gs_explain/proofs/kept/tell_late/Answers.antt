use Rattle.std.proofs.Common.{◌≡◌, ◌∙◌, ◌++◌, ap, length, append_assoc, sym, Some}
use Rattle.std.proofs.lemmas.Result.{on_ok_weaker}
use Rattle.gs_lines.specs.Lines.{late_text, line}
use Rattle.gs_sentences.specs.Given.{landed_given}
use Rattle.gs_sentences.specs.Reason as reasons
use Rattle.gs_script.specs.Unread.{said_line}
use Rattle.gs_explain.specs.Landings.{because}
use Rattle.gs_explain.specs.declared.kept.Kept.{Kept}
use Rattle.gs_explain.specs.Rows.{heading}
use Rattle.gs_explain.specs.ToldAgain.{late_told, told_text}
use Rattle.gs_explain.proofs.Keeping.{kept_behind, kept_then, late_told_text}
use Rattle.gs_explain.proofs.kept.tell_late.Goals as goal

pub returns-clause-kept : goal.returns-clause-kept
returns-clause-kept c =
    let x = landed_given c.args.landed.now in
    let head = heading (said_line c.args.said.now) in
    let front = c.args.page.now ++ head in
    let first : c.as_bytes-from.result.now ≡ front = c.as_bytes-from.ensures ∙ c.in_ok-heading.ensures in
    let a = line (late_text c.args.number x.landing) in
    let b = because (Some (reasons.Landed x)) in
    let told : a ++ b ≡ told_text (late_told c.args.number x) = sym (late_told_text c.args.number x c.requires.alone.0 c.requires.alone.1) in
    let whole : c.landed.new.self ≡ front ++ (a ++ b) =
    c.in_ok-landed.ensures ∙ (ap (λ t. t ++ b) (c.in_ok-late.ensures ∙ ap (λ t. t ++ a) c.in_ok-heading.ensures) ∙ append_assoc front a b) in
    let kept : Kept = record { told = c.late_told.result; from = length c.as_bytes-from.result.now; mid = length c.as_bytes-mid.result.now; to = length c.as_bytes.result.now } in
    let is = kept_behind front kept c.landed.new.self (whole ∙ ap (λ t. front ++ t) (told ∙ ap told_text (sym c.late_told.ensures))) (ap length first) (ap length c.as_bytes.ensures) in
    on_ok_weaker c.settle.result (λ put. kept_then c.args.page.now (head ++ (a ++ b)) c.landed.new.self c.args.kepts.now.items c.settle.new.kepts.items kept (whole ∙ append_assoc c.args.page.now head (a ++ b)) c.requires.kept is put) c.settle.ensures
