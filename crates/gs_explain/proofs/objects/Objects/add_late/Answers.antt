use Rattle.std.proofs.Common.{◌≡◌, ◌∙◌, ◌++◌, ap, false, length, refl, sym, true, ℕ, List, None}
use Rattle.gs_script.specs.Unread.{said_line}
use Rattle.gs_replies.specs.declared.reply.Reply.TheVariants as replies
use Rattle.gs_explain.specs.Objects.{object_row}
use Rattle.gs_explain.specs.Landings.{landed}
use Rattle.gs_explain.specs.Moment.{moment_of}
use Rattle.gs_explain.specs.Outlined.{late_object}
use Rattle.gs_explain.specs.ToldAgain.{late_told}
use Rattle.gs_explain.proofs.Outlining.{adds_outlined, adds_shown}
use Rattle.gs_explain.proofs.Repeating.{late_shown}
use Rattle.gs_explain.proofs.objects.Objects.add_late.Goals as goal

pub invariant_of-self-2 : goal.invariant_of-self-2
invariant_of-self-2 c =
    let x = moment_of c.args.scene.now in
    let row = late_object (late_told c.args.late.now.number (landed x None true (length x.history) c.args.late.now.landing.now)) in
    adds_outlined c.tell_again.new.outlines c.push_told.new.self c.tell_again.new.nothing c.tell_again.new.kepts.items c.in_ok-told.told (said_line c.args.said.now) c.len.result row c.tell_again.new.draft c.in_ok-push_told.ensures.added c.in_ok-told.ensures.told c.requires.text c.tell_again.ensures.outlined

pub returns : goal.returns
returns c =
    let said = said_line c.args.said.now in
    let x = moment_of c.args.scene.now in
    let n = c.args.late.now.number in
    let l = c.args.late.now.landing.now in
    let row = late_object (late_told n (landed x None true (length x.history) l)) in
    let here : row said c.len.result ≡ row said (length x.history) = ap (row said) c.len.ensures.value in
    let same : row said (length x.history) ≡ object_row said x (length x.history) (replies.Late n l false) = sym (late_shown said x (length x.history) n l c.requires.kept refl) in
    adds_shown c.tell_again.new.outlines c.push_told.new.self c.in_ok-told.told said c.len.result row c.tell_again.new.draft _ c.in_ok-push_told.ensures.added c.in_ok-told.ensures.told c.tell_again.ensures.outlined.events (c.in_ok-told.ensures.same ∙ c.self.view_is)
    ∙ ap (λ (t : List ℕ). c.args.self.now ++ t) (here ∙ same)
