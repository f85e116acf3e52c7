use Rattle.std.proofs.Common.{◌∙◌, ap, refl, arith}
use Rattle.gs_view.specs.Index.{key_of}
use Rattle.gs_view.proofs.Indexed.{keys_grown}
use Rattle.gs_view.proofs.index.KeyIndex.reserve_word.Goals as goal

pub returns-in_err-lengthen-clause-same : goal.returns-in_err-lengthen-clause-same
returns-in_err-lengthen-clause-same c t =
    keys_grown (record { live = c.self.inside.live; keys = c.self.inside.keys.items }) c.self.inside.live c.lengthen.new.keys.items
    (λ u. refl) (λ k lt. c.lengthen.ensures.kept k (omega (arith, lt, c.self.invariant.0))) t
    ∙ ap (λ i. key_of i t) c.self.view_is

pub returns-clause-same : goal.returns-clause-same
returns-clause-same c t =
    keys_grown (record { live = c.self.inside.live; keys = c.self.inside.keys.items }) c.reserve.new.self c.lengthen.new.keys.items
    c.reserve.ensures.same (λ k lt. c.lengthen.ensures.kept k (omega (arith, lt, c.self.invariant.0))) t
    ∙ ap (λ i. key_of i t) c.self.view_is

pub returns-in_err-reserve-clause-same : goal.returns-in_err-reserve-clause-same
returns-in_err-reserve-clause-same c t =
    keys_grown (record { live = c.self.inside.live; keys = c.self.inside.keys.items }) c.reserve.new.self c.lengthen.new.keys.items
    c.reserve.ensures.same (λ k lt. c.lengthen.ensures.kept k (omega (arith, lt, c.self.invariant.0))) t
    ∙ ap (λ i. key_of i t) c.self.view_is
