use Rattle.std.proofs.Common.{◌≡◌, ◌∙◌, ap, sym, ℕ}
use Rattle.gs_sets.specs.Bits.{is_in}
use Rattle.gs_sets.proofs.Laws.{first_alike}
use Rattle.gs_view.specs.Index.{has_key}
use Rattle.gs_view.proofs.Indexed.{key_there}
use Rattle.gs_view.proofs.index.KeyIndex.next_from.Goals as goal

pub returns-clause-first : goal.returns-clause-first
returns-clause-first c =
    let same : (t : ℕ) → has_key c.args.self.now t ≡ is_in c.self.inside.live t =
    λ t. sym (ap (λ i. is_in i.live t) c.self.view_is ∙ key_there c.args.self.now t) in
    first_alike (is_in c.self.inside.live) (has_key c.args.self.now) c.args.from same c.next_from.result c.next_from.ensures.first
