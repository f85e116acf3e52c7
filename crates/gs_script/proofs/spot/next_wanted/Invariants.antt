use Rattle.std.proofs.Common.{◌≡◌, map, take}
use Rattle.gs_script.specs.Spot.{forms_of, kind_of, next_kinds}
use Rattle.gs_script.proofs.spot.next_wanted.Given as goal

abbrev pub invariant-loop-form : goal.invariant-loop-form
invariant-loop-form l = map kind_of l.wanted.items ≡ next_kinds (forms_of (take l.form-index l.forms))
