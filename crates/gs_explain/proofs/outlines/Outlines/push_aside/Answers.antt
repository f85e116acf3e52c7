use Rattle.std.proofs.Common.{rules, ◌≡◌, ◌∙◌, ◌<◌, ◌∷◌, [], ◌++◌, List, ap, length, subst, sym}
use Rattle.std.specs.List.{All}
use Rattle.gs_explain.specs.declared.outline.Outline.{Outline}
use Rattle.gs_explain.specs.declared.outline.Told.{Told}
use Rattle.gs_explain.specs.declared.outlines.Short.{Short}
use Rattle.gs_explain.specs.Outlined.{HasTold, all_events}
use Rattle.gs_explain.proofs.Aside.{all_with, event_more, same_outlines, still_told}
use Rattle.gs_explain.proofs.Retelling.{on_err}
use Rattle.gs_explain.proofs.outlines.Outlines.push_aside.Goals as goal

pub returns-in_err-place-clause-kept : goal.returns-in_err-place-clause-kept
returns-in_err-place-clause-kept c = on_err c.from_residual.result (same_outlines c.self.inside.asides.items c.put_aside.new.asides.items c.self.inside.shorts.items c.put_aside.ensures.grown c.self.invariant ∙ c.self.view_is)

pub returns-in_err-push-clause-kept : goal.returns-in_err-push-clause-kept
returns-in_err-push-clause-kept c =
    let asides : List Told = c.put_aside.new.asides.items in
    let shorts : List Short = c.self.inside.shorts.items in
    let after : c.push.new.self.items ≡ shorts = search rules in
    on_err c.from_residual-in_err-push.result (ap (λ (all : List Short). all_events asides all) after ∙ (same_outlines c.self.inside.asides.items asides shorts c.put_aside.ensures.grown c.self.invariant ∙ c.self.view_is))

pub invariant_of-self-2 : goal.invariant_of-self-2
invariant_of-self-2 c =
    let asides : List Told = c.put_aside.new.asides.items in
    let shorts : List Short = c.self.inside.shorts.items in
    let after : c.push.new.self.items ≡ shorts ++ c.aside.result ∷ [] = search rules in
    let there : c.aside.result.at < length asides = search rules in
    subst (λ (all : List Short). All (HasTold (length asides)) all) (sym after) (all_with asides shorts c.aside.result (still_told c.self.inside.asides.items asides shorts c.put_aside.ensures.grown c.self.invariant) (λ e. there))

pub returns-clause-added : goal.returns-clause-added
returns-clause-added c =
    let asides : List Told = c.put_aside.new.asides.items in
    let shorts : List Short = c.self.inside.shorts.items in
    let after : c.push.new.self.items ≡ shorts ++ c.aside.result ∷ [] = search rules in
    let same = same_outlines c.self.inside.asides.items asides shorts c.put_aside.ensures.grown c.self.invariant ∙ c.self.view_is in
    let o : Outline = record { line = c.args.line; number = c.args.number; first = c.args.first; told = c.args.told.now } in
    let here = c.aside.ensures.told asides ∙ ap (λ (t : Told). record { line = c.args.line; number = c.args.number; first = c.args.first; told = t }) c.in_ok-place.ensures.told in
    ap (λ (all : List Short). all_events asides all) after ∙ (event_more asides shorts c.aside.result o c.aside.ensures.once here ∙ (λ i. same i ++ o ∷ []))
