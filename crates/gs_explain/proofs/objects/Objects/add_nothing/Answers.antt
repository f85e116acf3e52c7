use Rattle.std.proofs.Common.{◌∙◌}
use Rattle.gs_script.specs.Unread.{said_line}
use Rattle.gs_explain.specs.Outlined.{nothing_object}
use Rattle.gs_explain.proofs.Outlining.{adds_outlined, adds_shown}
use Rattle.gs_explain.proofs.objects.Objects.add_nothing.Goals as goal

pub invariant_of-self-2 : goal.invariant_of-self-2
invariant_of-self-2 c =
    adds_outlined c.tell_nothing.new.outlines c.push_told.new.self c.tell_nothing.new.nothing c.tell_nothing.new.kepts.items c.in_ok-told.told (said_line c.args.said.now) c.args.first nothing_object c.tell_nothing.new.draft c.in_ok-push_told.ensures.added c.in_ok-told.ensures.told c.requires.text c.tell_nothing.ensures.outlined

pub returns : goal.returns
returns c =
    adds_shown c.tell_nothing.new.outlines c.push_told.new.self c.in_ok-told.told (said_line c.args.said.now) c.args.first nothing_object c.tell_nothing.new.draft _ c.in_ok-push_told.ensures.added c.in_ok-told.ensures.told c.tell_nothing.ensures.outlined.events (c.in_ok-told.ensures.same ∙ c.self.view_is)
