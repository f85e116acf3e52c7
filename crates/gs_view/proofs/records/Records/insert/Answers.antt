use Rattle.std.proofs.Common.{◌≡◌, ◌∙◌, None, Some, ap, arith}
use Rattle.gs_layout.specs.View.{look_up}
use Rattle.gs_view.specs.Index.{key_of}
use Rattle.gs_view.specs.Records.{with_known}
use Rattle.gs_view.proofs.Agreed.{inserted, no_key}
use Rattle.gs_view.proofs.records.Records.insert.Goals as goal

pub invariant_of-self : goal.invariant_of-self
invariant_of-self c =
    let added = c.insert_reserved-key in
    let free : key_of c.self.inside.index c.args.tid ≡ None = no_key c.self.inside.index c.self.inside.slab c.args.tid c.self.invariant (ap (λ r. look_up r.entries c.args.tid) c.self.view_is ∙ c.requires.unknown) in
    (inserted c.self.inside.index c.set.new.self c.self.inside.slab added.new.self c.args.tid added.result c.args.known c.self.invariant
    (omega (arith, c.requires.place, ap (λ r. r.tids) c.self.view_is)) free added.ensures.was_vacant added.ensures.updates
    added.ensures.len c.set.ensures.here c.set.ensures.others c.set.ensures.places).agree

pub returns-clause-known : goal.returns-clause-known
returns-clause-known c t =
    let added = c.insert_reserved-key in
    let free : key_of c.self.inside.index c.args.tid ≡ None = no_key c.self.inside.index c.self.inside.slab c.args.tid c.self.invariant (ap (λ r. look_up r.entries c.args.tid) c.self.view_is ∙ c.requires.unknown) in
    (inserted c.self.inside.index c.set.new.self c.self.inside.slab added.new.self c.args.tid added.result c.args.known c.self.invariant
    (omega (arith, c.requires.place, ap (λ r. r.tids) c.self.view_is)) free added.ensures.was_vacant added.ensures.updates
    added.ensures.len c.set.ensures.here c.set.ensures.others c.set.ensures.places).known t
    ∙ ap (λ r. with_known c.args.tid (Some c.args.known) (look_up r.entries) t) c.self.view_is
