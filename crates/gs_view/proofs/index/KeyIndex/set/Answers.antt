use Rattle.std.proofs.Common.{◌∙◌, ap, arith, length}
use Rattle.gs_view.specs.Index.{key_of}
use Rattle.gs_view.proofs.Indexed.{key_here, key_others}
use Rattle.gs_view.proofs.index.KeyIndex.set.Goals as goal

pub returns-clause-here : goal.returns-clause-here
returns-clause-here c =
    let keys = c.self.inside.keys in
    key_here c.set.new.self keys.items c.args.tid c.args.key
    (omega (arith, c.requires, ap (λ i. length i.live) c.self.view_is, c.self.invariant.0, keys.ok)) c.set.ensures.here

pub returns-clause-others : goal.returns-clause-others
returns-clause-others c t differs =
    key_others c.self.inside.live c.set.new.self c.self.inside.keys.items c.args.tid c.args.key t differs (c.set.ensures.others t differs)
    ∙ ap (λ i. key_of i t) c.self.view_is
