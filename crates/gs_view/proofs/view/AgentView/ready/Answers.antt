use Rattle.std.proofs.Common.{◌∙◌, Option, ap}
use Rattle.gs_layout.specs.declared.known.Known.{Known}
use Rattle.gs_view.specs.News.{ready_of}
use Rattle.gs_view.proofs.view.AgentView.ready.Goals as goal

pub returns : goal.returns
returns c = c.ready.ensures c.in_ok-facts.field-0-1 ∙ ap (λ (o : Option Known). ready_of o) c.in_ok-facts.ensures
