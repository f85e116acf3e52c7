use Rattle.std.proofs.Common.{◌≡◌, ◌≤◌, ◌∙◌, None, ◌++◌, ◌∷◌, [], List, ap, append_assoc, arith, length, length-append, subst, sym, ℕ}
use Rattle.std.proofs.lemmas.Result.{IfOk-weaker}
use Rattle.gs_sentences.specs.Given.{landed_given}
use Rattle.gs_sentences.specs.Told.{Landed}
use Rattle.gs_lines.specs.Lines.{late_text, line}
use Rattle.gs_sentences.specs.Reason as reasons
use Rattle.gs_explain.specs.Composed.{behind_commas}
use Rattle.gs_explain.specs.Objects.{reason_data}
use Rattle.gs_explain.specs.Moment.{moment_of}
use Rattle.gs_explain.specs.Outlined.{Grows, Tells, late_object}
use Rattle.gs_explain.specs.ToldAgain.{late_told}
use Rattle.gs_explain.specs.declared.kept.Kept.{Kept}
use Rattle.gs_explain.proofs.Keeping.{none_overflowed}
use Rattle.gs_explain.proofs.Repeating.{late_kept, late_tells, lates_put}
use Rattle.gs_explain.proofs.Retelling.{on_ok}
use Rattle.gs_explain.proofs.once.tell_anew.Goals as goal

pub returns-clause-kept : goal.returns-clause-kept
returns-clause-kept c =
    let old = c.args.draft.now in
    let mid = c.late.new.self in
    let new = c.reason.new.self in
    let x : Landed = landed_given c.landed_late-landed.result in
    let l = c.args.landing.now in
    let e : x.overflow ≡ None = ap (λ (y : Landed). y.overflow) c.landed_late-landed.ensures ∙ none_overflowed l.outcome (moment_of c.args.scene.now).overflow c.requires.out in
    let f : x.fault ≡ None = ap (λ (y : Landed). y.fault) c.landed_late-landed.ensures in
    let k : Kept = record { told = c.late_told.result; from = c.len-from.result; mid = c.len-mid.result; to = c.len-to.result } in
    let tells = late_tells old mid new c.args.number x k e f c.late_told.ensures c.len-from.ensures.value c.len-mid.ensures.value c.len-to.ensures.value c.in_ok-late.ensures c.in_ok-reason.ensures c.len-from.ensures.utf8 c.len-mid.ensures.utf8 c.len-to.ensures.utf8 in
    let begins : k.from ≤ k.mid = omega (arith, c.len-from.ensures.value, c.len-mid.ensures.value, ap length c.in_ok-late.ensures, length-append {A = ℕ}) in
    let ends : k.mid ≤ k.to = omega (arith, c.len-mid.ensures.value, c.len-to.ensures.value, ap length c.in_ok-reason.ensures, length-append {A = ℕ}) in
    let is = late_kept new c.args.number x k c.late_told.ensures begins ends tells in
    let lines = line (late_text c.args.number x.landing) in
    let why = behind_commas (reason_data (reasons.Landed x) ∷ []) in
    let grows : Grows old new = (lines ++ why, c.in_ok-reason.ensures ∙ (ap (λ (t : List ℕ). t ++ why) c.in_ok-late.ensures ∙ append_assoc old lines why)) in
    on_ok c.parts.result (lates_put old new k c.args.kepts.now.items c.settle.new.kepts.items grows c.requires.kept is c.in_ok-settle.ensures)

pub returns-clause-told : goal.returns-clause-told
returns-clause-told c =
    let old = c.args.draft.now in
    let mid = c.late.new.self in
    let new = c.reason.new.self in
    let x : Landed = landed_given c.landed_late-landed.result in
    let l = c.args.landing.now in
    let e : x.overflow ≡ None = ap (λ (y : Landed). y.overflow) c.landed_late-landed.ensures ∙ none_overflowed l.outcome (moment_of c.args.scene.now).overflow c.requires.out in
    let f : x.fault ≡ None = ap (λ (y : Landed). y.fault) c.landed_late-landed.ensures in
    let k : Kept = record { told = c.late_told.result; from = c.len-from.result; mid = c.len-mid.result; to = c.len-to.result } in
    let tells = late_tells old mid new c.args.number x k e f c.late_told.ensures c.len-from.ensures.value c.len-mid.ensures.value c.len-to.ensures.value c.in_ok-late.ensures c.in_ok-reason.ensures c.len-from.ensures.utf8 c.len-mid.ensures.utf8 c.len-to.ensures.utf8 in
    IfOk-weaker c.parts.result _ _ (λ t is. subst (λ (y : Landed). Tells new (late_object (late_told c.args.number y)) t) c.landed_late-landed.ensures (subst (Tells new (late_object (late_told c.args.number x))) (sym is) tells)) c.parts.ensures
