use Rattle.std.proofs.Common.{◌≡◌, ◌∙◌, ap, sym, arith, true, false, Some}
use Rattle.std.proofs.lemmas.Grind.{get_or_default_zero}
use Rattle.gs_sets.specs.Bits.{is_in}
use Rattle.gs_sets.proofs.Laws.{in_within}
use Rattle.gs_view.specs.Index.{key_of}
use Rattle.gs_view.proofs.Indexed.{has_key, has_no_key}
use Rattle.gs_view.proofs.index.KeyIndex.get.Goals as goal

pub index-requires : goal.index-requires
index-requires c =
    let live = c.self.inside.live in
    let there : is_in live c.args.tid ≡ true = sym c.has.ensures ∙ c.if-has.true in
    omega (arith, in_within live c.args.tid there, c.self.invariant.0, c.self.inside.keys.ok)

pub returns-then-has : goal.returns-then-has
returns-then-has c =
    let live = c.self.inside.live in
    let keys = c.self.inside.keys in
    let there : is_in live c.args.tid ≡ true = sym c.has.ensures ∙ c.if-has.true in
    ap (λ key. Some key) (c.index.ensures ∙ get_or_default_zero keys.items c.args.tid c.index.result.now
    (omega (arith, in_within live c.args.tid there, c.self.invariant.0, keys.ok)))
    ∙ (sym (has_key live keys.items c.args.tid there) ∙ ap (λ i. key_of i c.args.tid) c.self.view_is)

pub returns-else-has : goal.returns-else-has
returns-else-has c =
    let none : is_in c.args.self.now.live c.args.tid ≡ false = ap (λ i. is_in i.live c.args.tid) (sym c.self.view_is) ∙ (sym c.has.ensures ∙ c.if-has.false) in
    sym (has_no_key c.args.self.now c.args.tid none)
