use Rattle.std.proofs.Common.{◌∙◌, ap, sym}
use Rattle.gs_layout.specs.View.{look_up}
use Rattle.gs_view.specs.Records.{record_under}
use Rattle.gs_view.proofs.Agreed.{look_known}
use Rattle.gs_view.proofs.records.Records.get.Goals as goal

pub returns-in_err-key : goal.returns-in_err-key
returns-in_err-key c =
    let known = ap (λ r. look_up r.entries c.args.tid) (sym c.self.view_is) ∙ look_known c.self.inside.index c.self.inside.slab c.args.tid in
    rw c.from_residual.ensures (ap (record_under c.self.inside.slab) c.in_err-key.ensures ∙ sym known)

pub returns : goal.returns
returns c =
    let known = ap (λ r. look_up r.entries c.args.tid) (sym c.self.view_is) ∙ look_known c.self.inside.index c.self.inside.slab c.args.tid in
    c.get-2.ensures ∙ (ap (record_under c.self.inside.slab) c.in_ok-key.ensures ∙ sym known)
