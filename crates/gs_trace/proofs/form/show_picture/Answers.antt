use Rattle.std.proofs.Common.{◌≡◌, ◌∙◌, subst, ap, ℕ, List, length}
use Rattle.gs_core.specs.Machine.{planning}
use Rattle.gs_script.specs.Unread.{events_unread}
use Rattle.gs_journal.specs.History.{History}
use Rattle.gs_kernel.specs.declared.settings.Settings.{Settings}
use Rattle.gs_timeline.specs.Counts.{decisions}
use Rattle.gs_timeline.specs.Places.{scale_of}
use Rattle.gs_trace.specs.declared.answering.Unanswered.TheVariants.{WriteFailed}
use Rattle.gs_trace.specs.declared.form.Form.TheVariants.{Timeline}
use Rattle.gs_trace.specs.Output.{IsPicture, shown_as}
use Rattle.gs_trace.specs.Streams.{Leaves}
use Rattle.gs_trace.proofs.Adding.{all_added}
use Rattle.gs_trace.proofs.Writing.{begins_picture, begins_weaker, if_error_is, pictures}
use Rattle.gs_trace.proofs.Telling.{told_none}
use Rattle.gs_trace.proofs.form.show_picture.Goals as goal

pub run_into-requires : goal.run_into-requires
run_into-requires g c = told_none c.in_ok-new.field-0.marks.items c.in_ok-new.ensures

-- a picture of the machine's history
same_picture : (from to cpus end : ℕ) (h last : History) (out : List ℕ) → cpus ≡ end → h ≡ last → IsPicture from to cpus h out → IsPicture from to end last out
same_picture from to cpus end h last out e f t = subst (λ (n : ℕ). IsPicture from to n last out) e (subst (λ (h : History). IsPicture from to cpus h out) f t)

pub returns-in_err-write-clause-left : goal.returns-in_err-write-clause-left
returns-in_err-write-clause-left g c =
    let end = planning g.P.Policy.chosen c.run_into.new.machine in
    let history : c.journal.result.now.entries ≡ end.history = c.journal.ensures.entries ∙ c.kernel-kernel.ensures.history in
    let cpus : c.settings-cpus.result.cpus ≡ end.settings.cpus = ap (λ (s : Settings). s.cpus) (c.settings-cpus.ensures.value ∙ c.kernel-kernel.ensures.settings) in
    if_error_is _ WriteFailed (Leaves (events_unread g.P.NamedPolicy.naming c.args.script) _ _ _) c.from_residual-in_err-write.ensures.1
    (begins_weaker (IsPicture c.args.from c.args.to c.settings-cpus.result.cpus c.journal.result.now.entries) _ _ _
    (λ out t. all_added g.P.Policy.chosen _ (shown_as (Timeline c.args.from c.args.to c.args.listed)) (planning g.P.Policy.chosen c.args.machine.now) (events_unread g.P.NamedPolicy.naming c.args.script) end c.in_ok-noting.noting out c.in_ok-noting.ensures.added (λ rs h. same_picture _ _ _ _ _ _ out cpus history t))
    (begins_picture c.args.from c.args.to c.settings-cpus.result.cpus c.journal.result.now.entries (decisions (scale_of (length c.journal.result.now.entries) c.args.from c.args.to) c.notes-notes.result.marks.now) c.in_ok-picture.picture _ _ c.in_ok-picture.ensures c.in_err-write.ensures.stuck))

pub returns-clause-shown : goal.returns-clause-shown
returns-clause-shown g c =
    let end = planning g.P.Policy.chosen c.run_into.new.machine in
    let history : c.journal.result.now.entries ≡ end.history = c.journal.ensures.entries ∙ c.kernel-kernel.ensures.history in
    let cpus : c.settings-cpus.result.cpus ≡ end.settings.cpus = ap (λ (s : Settings). s.cpus) (c.settings-cpus.ensures.value ∙ c.kernel-kernel.ensures.settings) in
    let (out, written, has) = c.in_ok-write.ensures.written in
    let picture : IsPicture c.args.from c.args.to c.settings-cpus.result.cpus c.journal.result.now.entries out = pictures c.args.from c.args.to c.settings-cpus.result.cpus c.journal.result.now.entries (decisions (scale_of (length c.journal.result.now.entries) c.args.from c.args.to) c.notes-notes.result.marks.now) c.in_ok-picture.picture out c.in_ok-picture.ensures has in (
      out,
      all_added g.P.Policy.chosen _ (shown_as (Timeline c.args.from c.args.to c.args.listed)) (planning g.P.Policy.chosen c.args.machine.now) (events_unread g.P.NamedPolicy.naming c.args.script) end c.in_ok-noting.noting out c.in_ok-noting.ensures.added (λ rs h. same_picture _ _ _ _ _ _ out cpus history picture),
      written,
    )
