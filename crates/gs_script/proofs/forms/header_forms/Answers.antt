use Rattle.std.proofs.Common.{◌≡◌, ◌∙◌, ◌++◌, List, ap}
use Rattle.gs_script.specs.Grammar.{Form}
use Rattle.gs_script.specs.Naming.{forms_named}
use Rattle.gs_script.specs.Spot.{forms_of}
use Rattle.gs_script.proofs.Fronts.{blocks, blocks_are}
use Rattle.gs_script.proofs.forms.header_forms.Goals as goal

pub returns : goal.returns
returns g c =
    let all : forms_of c.add_fronts.new.forms.items ≡ blocks (forms_named c.forms.result.now) = c.in_ok-add_fronts.ensures ∙ ap (λ (fs : List Form). fs ++ blocks (forms_named c.forms.result.now)) (ap forms_of c.new-forms.ensures.items) in
    all ∙ ap blocks c.forms.ensures ∙ blocks_are g.P.NamedPolicy.naming
