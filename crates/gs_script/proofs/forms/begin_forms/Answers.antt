use Rattle.std.proofs.Common.{◌≡◌, ◌∙◌, ◌++◌, ◌∷◌, [], List, ap, map}
use Rattle.gs_script.specs.Grammar.{Form}
use Rattle.gs_script.specs.Naming.{forms_named}
use Rattle.gs_script.specs.Spot.{forms_of}
use Rattle.gs_script.proofs.Fronts.{unchanged}
use Rattle.gs_script.proofs.forms.begin_forms.Goals as goal

pub returns : goal.returns
returns g c =
    let front : forms_of c.add_plain.new.forms.items ≡ [] ∷ [] = c.in_ok-add_plain.ensures ∙ ap (λ (fs : List Form). fs ++ [] ∷ []) (ap forms_of c.new-forms.ensures.items) in
    let named : map (λ (form : Form). form) (forms_named c.forms.result.now) ≡ g.P.NamedPolicy.naming.forms = ap (map (λ (form : Form). form)) c.forms.ensures ∙ unchanged g.P.NamedPolicy.naming.forms in
    c.in_ok-add_named.ensures ∙ (λ i. front i ++ named i)
