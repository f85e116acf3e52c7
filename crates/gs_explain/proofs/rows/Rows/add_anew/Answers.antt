use Rattle.std.proofs.Common.{◌∙◌, ◌++◌, ap}
use Rattle.gs_script.specs.Unread.{said_line}
use Rattle.gs_sentences.specs.Given.{landed_given}
use Rattle.gs_sentences.specs.Told.{Landed}
use Rattle.gs_explain.specs.Rows.{heading}
use Rattle.gs_explain.specs.ToldAgain.{late_told, told_text}
use Rattle.gs_explain.proofs.Keeping.{text_told, within_then}
use Rattle.gs_explain.proofs.rows.Rows.add_anew.Goals as goal

pub invariant_of-self : goal.invariant_of-self
invariant_of-self c =
    let more = heading (said_line c.args.said.now) ++ told_text (late_told c.args.number (landed_given c.landed_late-landed.result)) in
    record { told = within_then c.self.inside.page more c.tell_late.new.page c.self.inside.pieces.items c.in-Ok.ensures.shown c.self.invariant.told; kept = c.in-Ok.ensures.kept }

pub returns-in-Ok : goal.returns-in-Ok
returns-in-Ok c =
    let head = heading (said_line c.args.said.now) in
    let more = head ++ told_text (late_told c.args.number (landed_given c.landed_late-landed.result)) in
    text_told c.self.inside.page more c.tell_late.new.page c.self.inside.pieces.items c.in-Ok.ensures.shown c.self.invariant.told ∙ (ap (λ t. t ++ more) c.self.view_is ∙ ap (λ (y : Landed). c.args.self.now ++ (head ++ told_text (late_told c.args.number y))) c.landed_late-landed.ensures)
