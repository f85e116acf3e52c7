use Rattle.std.proofs.Common.{◌≡◌, ◌∙◌, Option, None, Some, ap, sym}
use Rattle.std.specs.Prelude.{is_some}
use Rattle.std.proofs.lemmas.Bool.{false≢true}
use Rattle.gs_layout.specs.declared.known.Known.{Known}
use Rattle.gs_layout.specs.View.{learnt, look_up}
use Rattle.gs_view.specs.News.{ready_of}
use Rattle.gs_view.specs.Records.{record_under, state_of, with_known}
use Rattle.gs_view.proofs.Agreed.{look_known, renewed}
use Rattle.gs_view.proofs.records.Records.renew.Goals as goal

pub invariant_of-self : goal.invariant_of-self
invariant_of-self c = (renewed c.self.inside.index c.self.inside.slab c.args.tid c.in_ok-place.place c.renew.new.known c.self.invariant (sym c.in_ok-place.ensures)).agree

pub returns-clause-known : goal.returns-clause-known
returns-clause-known c t =
    let index = c.self.inside.index in
    let slab = c.self.inside.slab in
    let was : look_up c.args.self.now.entries c.args.tid ≡ Some c.index_mut-known.result.now =
    ap (λ r. look_up r.entries c.args.tid) (sym c.self.view_is)
    ∙ (look_known index slab c.args.tid ∙ (ap (record_under slab) (sym c.in_ok-place.ensures) ∙ c.index_mut-known.ensures.value))
    in
    (renewed index slab c.args.tid c.in_ok-place.place c.renew.new.known c.self.invariant (sym c.in_ok-place.ensures)).known t
    ∙ (ap (λ o. with_known c.args.tid o (look_up (state_of index slab).entries) t) (c.renew.ensures ∙ ap (λ o. learnt o c.args.message.now) (sym was))
    ∙ ap (λ r. with_known c.args.tid (learnt (look_up c.args.self.now.entries c.args.tid) c.args.message.now) (look_up r.entries) t) c.self.view_is)

pub returns-clause-ready : goal.returns-clause-ready
returns-clause-ready c =
    let index = c.self.inside.index in
    let slab = c.self.inside.slab in
    let was : look_up c.args.self.now.entries c.args.tid ≡ Some c.index_mut-known.result.now =
    ap (λ r. look_up r.entries c.args.tid) (sym c.self.view_is)
    ∙ (look_known index slab c.args.tid ∙ (ap (record_under slab) (sym c.in_ok-place.ensures) ∙ c.index_mut-known.ensures.value))
    in
    c.ready.ensures c.renew.new.known.tseq ∙ ap (λ (o : Option Known). ready_of o) (c.renew.ensures ∙ ap (λ o. learnt o c.args.message.now) (sym was))

pub returns-in_err-place-clause-known : goal.returns-in_err-place-clause-known
returns-in_err-place-clause-known c =
    let gone : look_up c.args.self.now.entries c.args.tid ≡ None =
    ap (λ r. look_up r.entries c.args.tid) (sym c.self.view_is)
    ∙ (look_known c.self.inside.index c.self.inside.slab c.args.tid ∙ ap (record_under c.self.inside.slab) (sym c.in_err-place.ensures))
    in
    absurd (false≢true (sym (ap is_some gone) ∙ c.requires.known))

pub returns-in_err-place-clause-ready : goal.returns-in_err-place-clause-ready
returns-in_err-place-clause-ready c =
    let gone : look_up c.args.self.now.entries c.args.tid ≡ None =
    ap (λ r. look_up r.entries c.args.tid) (sym c.self.view_is)
    ∙ (look_known c.self.inside.index c.self.inside.slab c.args.tid ∙ ap (record_under c.self.inside.slab) (sym c.in_err-place.ensures))
    in
    absurd (false≢true (sym (ap is_some gone) ∙ c.requires.known))
