use Rattle.std.proofs.Common.{◌∙◌, Some, ap, sym}
use Rattle.gs_layout.specs.View.{look_up}
use Rattle.gs_view.specs.Records.{record_under, with_known}
use Rattle.gs_view.proofs.Agreed.{look_known, renewed}
use Rattle.gs_view.proofs.records.Records.put.Goals as goal

pub index_mut-requires : goal.index_mut-requires
index_mut-requires c = c.self.invariant.present c.args.tid c.in-Some.key (sym c.in-Some.ensures)

pub invariant_of-self : goal.invariant_of-self
invariant_of-self c = (renewed c.self.inside.index c.self.inside.slab c.args.tid c.in-Some.key c.args.known c.self.invariant (sym c.in-Some.ensures)).agree

pub returns-in-Some-clause-known : goal.returns-in-Some-clause-known
returns-in-Some-clause-known c t =
    (renewed c.self.inside.index c.self.inside.slab c.args.tid c.in-Some.key c.args.known c.self.invariant (sym c.in-Some.ensures)).known t
    ∙ ap (λ r. with_known c.args.tid (Some c.args.known) (look_up r.entries) t) c.self.view_is

pub insert-requires-clause-unknown : goal.insert-requires-clause-unknown
insert-requires-clause-unknown c =
    ap (λ r. look_up r.entries c.args.tid) (sym c.self.view_is)
    ∙ (look_known c.self.inside.index c.self.inside.slab c.args.tid ∙ ap (record_under c.self.inside.slab) (sym c.in_default.ensures))
