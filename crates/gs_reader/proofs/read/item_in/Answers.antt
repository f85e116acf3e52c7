use Rattle.std.proofs.Common.{◌≡◌, true, Some, subst, sym, ◌∙◌, arith}
use Rattle.gs_reader.specs.Reading.{IsWhole, fields_fit}
use Rattle.gs_reader.proofs.Sound.{sound}
use Rattle.gs_reader.proofs.read.item_in.Goals as goal

pub over-requires : goal.over-requires
over-requires c =
    let kind = c.in-Some.kind in
    let text = c.args.text.now in
    let whole : IsWhole (Some kind) text = subst (λ o. IsWhole o text) c.in-Some.is c.requires in
    let fit : fields_fit kind text ≡ true = sym c.fields_fit.ensures ∙ c.if-fields_fit.true in
    sound kind text (λ i. omega (arith, c.type_inv.text i)) whole fit
