use Rattle.std.proofs.Common.{◌∙◌, ◌++◌, ◌∷◌, [], ℕ, List, ap, length, refl}
use Rattle.std.proofs.lemmas.Result.{on_ok_weaker}
use Rattle.gs_script.specs.Unread.{said_line}
use Rattle.gs_explain.specs.declared.outline.Outline.{Outline}
use Rattle.gs_explain.proofs.Aside.{notes_same}
use Rattle.gs_explain.proofs.outlines.Outlines.push_told.Goals as goal

pub invariant_of-self : goal.invariant_of-self
invariant_of-self c = c.push_short.ensures.told (length c.self.inside.asides.items) c.self.invariant (c.in-Some.ensures.alone (length c.self.inside.asides.items))

pub returns-in-Some-clause-added : goal.returns-in-Some-clause-added
returns-in-Some-clause-added c =
    let asides = c.self.inside.asides.items in
    let bytes = c.args.said.now.bytes in
    let w : Outline = record { line = bytes; number = c.in_ok-number.number; first = c.in_ok-first.first; told = c.args.told.now } in
    let line = ap (λ (n : ℕ). (n, bytes.now)) c.in_ok-number.ensures in
    on_ok_weaker c.push_short.result
    (λ (o, (noted, added)). (o, (notes_same asides c.in-Some.short w o (said_line c.args.said.now) c.args.first c.args.told.now (c.in-Some.ensures.told asides) line c.in_ok-first.ensures refl noted, added ∙ ap (λ (os : List Outline). os ++ o ∷ []) c.self.view_is)))
    (c.push_short.ensures.added asides)
