use Rattle.std.proofs.Common.{◌≡◌, ◌∙◌, ◌++◌, List, ℕ, ap, length}
use Rattle.gs_script.specs.Unread.{said_line}
use Rattle.gs_sentences.specs.Refused.{refused_text}
use Rattle.gs_explain.specs.declared.outline.Told.TheVariants as tolds
use Rattle.gs_explain.specs.Moment.{moment_of}
use Rattle.gs_explain.specs.Refusals.{why_refused}
use Rattle.gs_explain.specs.Tailed.{refused_object}
use Rattle.gs_explain.proofs.Outlining.{adds_outlined, adds_shown, refused_tells}
use Rattle.gs_explain.proofs.Tailing.{refused_row}
use Rattle.gs_explain.proofs.objects.Objects.add_refused.Goals as goal

pub invariant_of-self-in-Some : goal.invariant_of-self-in-Some
invariant_of-self-in-Some c =
    let x = moment_of c.args.scene.now in
    let text : List ℕ = c.self.inside.draft in
    let tells = refused_tells c.in-Some.at c.in-Some.tail c.args.refusal (refused_text (why_refused x c.args.refusal)) text c.in-Some.ensures.told in
    adds_outlined c.self.inside.outlines c.push_refused.new.self c.self.inside.nothing c.self.inside.kepts.items (tolds.Refused c.in-Some.at c.in-Some.tail) (said_line c.args.said.now) c.len.result (λ said first. refused_object said first c.in-Some.at c.in-Some.tail) text c.in_ok-push_refused-in-Some.ensures.added tells c.requires.text c.self.invariant

pub returns-in_ok-push_refused-in-Some-clause-told : goal.returns-in_ok-push_refused-in-Some-clause-told
returns-in_ok-push_refused-in-Some-clause-told c = λ yes.
    let x = moment_of c.args.scene.now in
    let text : List ℕ = c.self.inside.draft in
    let said = said_line c.args.said.now in
    let at = c.in-Some.at in
    let tail = c.in-Some.tail in
    let tells = refused_tells at tail c.args.refusal (refused_text (why_refused x c.args.refusal)) text c.in-Some.ensures.told in
    let here : refused_object said c.len.result at tail ≡ refused_object said (length x.history) at tail = ap (λ (n : ℕ). refused_object said n at tail) c.len.ensures.value in
    adds_shown c.self.inside.outlines c.push_refused.new.self (tolds.Refused at tail) said c.len.result (λ said first. refused_object said first at tail) text _ c.in_ok-push_refused-in-Some.ensures.added tells c.self.invariant.events c.self.view_is
    ∙ ap (λ (t : List ℕ). c.args.self.now ++ t) (here ∙ refused_row tail at x c.args.refusal said c.in-Some.ensures.refusal c.in-Some.ensures.told c.in-Some.ensures.at)
