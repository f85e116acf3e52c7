use Rattle.std.proofs.Common.{rules, ◌∙◌, ◌<◌, ◌++◌, ◌∷◌, [], ℕ, List, ap, get_or, length}
use Rattle.std.proofs.lemmas.Result.{on_err_weaker, on_ok_weaker}
use Rattle.gs_script.specs.Unread.{said_line}
use Rattle.gs_explain.specs.declared.outline.Outline.{Outline}
use Rattle.gs_explain.specs.declared.outline.Told.{Told}
use Rattle.gs_explain.specs.declared.outline.Told.TheVariants as tolds
use Rattle.gs_explain.specs.Outlined.{all_events, untold}
use Rattle.gs_explain.proofs.Aside.{notes_same, same_outlines, still_told}
use Rattle.gs_explain.proofs.Retelling.{on_err}
use Rattle.gs_explain.proofs.outlines.Outlines.push_refused.Goals as goal

pub returns-in_err-place-clause-kept : goal.returns-in_err-place-clause-kept
returns-in_err-place-clause-kept c = on_err c.from_residual-in_err-place.result (same_outlines c.self.inside.asides.items c.put_refused.new.asides.items c.self.inside.shorts.items c.put_refused.ensures.grown c.self.invariant ∙ c.self.view_is)

pub invariant_of-self-2 : goal.invariant_of-self-2
invariant_of-self-2 c =
    let asides : List Told = c.put_refused.new.asides.items in
    let there : c.aside.result.at < length asides = search rules in
    c.push_short.ensures.told (length asides) (still_told c.self.inside.asides.items asides c.self.inside.shorts.items c.put_refused.ensures.grown c.self.invariant) (λ e. there)

pub returns-clause-added : goal.returns-clause-added
returns-clause-added c =
    let asides : List Told = c.put_refused.new.asides.items in
    let bytes = c.args.said.now.bytes in
    let same = same_outlines c.self.inside.asides.items asides c.self.inside.shorts.items c.put_refused.ensures.grown c.self.invariant ∙ c.self.view_is in
    let w : Outline = record { line = bytes; number = c.in_ok-number.number; first = c.in_ok-first.first; told = get_or asides c.in_ok-place.place untold } in
    let line = ap (λ (n : ℕ). (n, bytes.now)) c.in_ok-number.ensures in
    on_ok_weaker c.push_short.result
    (λ (o, (noted, added)). (o, (notes_same asides c.aside.result w o (said_line c.args.said.now) c.args.first (tolds.Refused c.args.at c.args.tail.now) (c.aside.ensures.told asides) line c.in_ok-first.ensures c.in_ok-place.ensures.told noted, added ∙ ap (λ (os : List Outline). os ++ o ∷ []) same)))
    (c.push_short.ensures.added asides)

pub returns-clause-kept : goal.returns-clause-kept
returns-clause-kept c =
    let asides : List Told = c.put_refused.new.asides.items in
    let same = same_outlines c.self.inside.asides.items asides c.self.inside.shorts.items c.put_refused.ensures.grown c.self.invariant ∙ c.self.view_is in
    on_err_weaker c.push_short.result (λ kept. ap (all_events asides) kept ∙ same) c.push_short.ensures.kept
