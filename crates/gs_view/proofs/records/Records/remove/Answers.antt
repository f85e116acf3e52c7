use Rattle.std.proofs.Common.{◌∙◌, None, ap, sym}
use Rattle.std.specs.Prelude.{is_some}
use Rattle.gs_layout.specs.View.{look_up}
use Rattle.gs_view.specs.Records.{with_known}
use Rattle.gs_view.proofs.Agreed.{removed, unknown}
use Rattle.gs_view.proofs.Indexed.{key_within}
use Rattle.gs_view.proofs.records.Records.remove.Goals as goal

pub clear-requires : goal.clear-requires
clear-requires c = key_within c.self.inside.index c.args.tid (ap is_some (sym c.in-Some.ensures))

pub remove-requires : goal.remove-requires
remove-requires c = c.self.invariant.present c.args.tid c.in-Some.key (sym c.in-Some.ensures)

pub invariant_of-self : goal.invariant_of-self
invariant_of-self c =
    (removed c.self.inside.index c.clear.new.self c.self.inside.slab c.remove.new.self c.args.tid c.in-Some.key c.self.invariant (sym c.in-Some.ensures)
    c.remove.ensures.updates c.remove.ensures.len c.clear.ensures.here c.clear.ensures.others c.clear.ensures.places).agree

pub returns-in-Some : goal.returns-in-Some
returns-in-Some c t =
    (removed c.self.inside.index c.clear.new.self c.self.inside.slab c.remove.new.self c.args.tid c.in-Some.key c.self.invariant (sym c.in-Some.ensures)
    c.remove.ensures.updates c.remove.ensures.len c.clear.ensures.here c.clear.ensures.others c.clear.ensures.places).known t
    ∙ ap (λ r. with_known c.args.tid None (look_up r.entries) t) c.self.view_is

pub returns-in_default : goal.returns-in_default
returns-in_default c t =
    ap (λ r. look_up r.entries t) (sym c.self.view_is)
    ∙ (unknown c.self.inside.index c.self.inside.slab c.args.tid (sym c.in_default.ensures) t
    ∙ ap (λ r. with_known c.args.tid None (look_up r.entries) t) c.self.view_is)
