use Rattle.gs_beside.proofs.LastForm.{last_form}
use Rattle.gs_beside.proofs.own_policy.own_form.Goals as goal

pub returns-in-len1-up : goal.returns-in-len1-up
returns-in-len1-up g c = last_form c.forms.result.now _ _ _ c.forms.ensures
