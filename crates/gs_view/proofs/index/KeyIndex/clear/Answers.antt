use Rattle.std.proofs.Common.{◌∙◌, ap}
use Rattle.gs_view.specs.Index.{key_of}
use Rattle.gs_view.proofs.Indexed.{has_no_key, key_kept}
use Rattle.gs_view.proofs.index.KeyIndex.clear.Goals as goal

pub returns-clause-here : goal.returns-clause-here
returns-clause-here c = has_no_key (record { live = c.set.new.self; keys = c.self.inside.keys.items }) c.args.tid c.set.ensures.here

pub returns-clause-others : goal.returns-clause-others
returns-clause-others c t differs =
    key_kept c.self.inside.live c.set.new.self c.self.inside.keys.items t (c.set.ensures.others t differs) ∙ ap (λ i. key_of i t) c.self.view_is
