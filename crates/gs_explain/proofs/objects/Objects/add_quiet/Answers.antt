use Rattle.std.proofs.Common.{◌∙◌}
use Rattle.gs_script.specs.Unread.{said_line}
use Rattle.gs_explain.specs.Quiet.{quiet_object}
use Rattle.gs_explain.proofs.Outlining.{adds_outlined, adds_shown}
use Rattle.gs_explain.proofs.objects.Objects.add_quiet.Goals as goal

pub invariant_of-self-2 : goal.invariant_of-self-2
invariant_of-self-2 c =
    adds_outlined c.tell_quiet.new.outlines c.push_told.new.self c.tell_quiet.new.nothing c.tell_quiet.new.kepts.items c.in_ok-told.told (said_line c.args.said.now) c.args.first (quiet_object c.args.quiet.now) c.tell_quiet.new.draft c.in_ok-push_told.ensures.added c.in_ok-told.ensures.told c.requires.text c.tell_quiet.ensures.outlined

pub returns : goal.returns
returns c =
    adds_shown c.tell_quiet.new.outlines c.push_told.new.self c.in_ok-told.told (said_line c.args.said.now) c.args.first (quiet_object c.args.quiet.now) c.tell_quiet.new.draft _ c.in_ok-push_told.ensures.added c.in_ok-told.ensures.told c.tell_quiet.ensures.outlined.events (c.in_ok-told.ensures.same ∙ c.self.view_is)
