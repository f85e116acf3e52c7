use Rattle.std.proofs.Common.{◌≡◌, ◌++◌, take}
use Rattle.gs_script.specs.Spot.{forms_of, kinds_of}
use Rattle.gs_script.proofs.forms.add_plain.Given as goal

abbrev pub invariant-loop-front : goal.invariant-loop-front
invariant-loop-front l = forms_of l.forms.items ≡ forms_of l.fn.forms.items ++ kinds_of (take l.front-index l.plain)
