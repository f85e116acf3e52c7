use Rattle.std.proofs.Common.{◌≡◌, ◌++◌, map, take}
use Rattle.gs_script.specs.Naming.{forms_named}
use Rattle.gs_script.specs.Spot.{forms_of, kind_of}
use Rattle.gs_script.proofs.forms.add_named.Given as goal

abbrev pub invariant-loop-policy : goal.invariant-loop-policy
invariant-loop-policy l = forms_of l.forms.items ≡ forms_of l.fn.forms.items ++ map (λ form. map kind_of l.front ++ form) (forms_named (take l.policy-index l.named))
