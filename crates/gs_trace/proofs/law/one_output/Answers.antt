use Rattle.gs_trace.proofs.One.{one_output}
use Rattle.gs_trace.proofs.law.one_output.Goals as goal

pub returns : goal.returns
returns g c = λ show input ended other_ended out other first second. one_output g.P.NamedPolicy.naming g.P.Policy.chosen show input ended other_ended out other first second
