use Rattle.std.proofs.Common.{◌≡◌, Some, All, subst}
use Rattle.gs_layout.specs.View.{look_up}
use Rattle.gs_view.specs.Records.{RecordsState}
use Rattle.gs_view.proofs.view.AgentView.walk.Goals as goal

pub returns-clause-found : goal.returns-clause-found
returns-clause-found c =
    subst (λ (r : RecordsState). All (λ entry. look_up r.entries entry.0 ≡ Some entry.1) r.entries) c.self.view_is c.walk.ensures.found
