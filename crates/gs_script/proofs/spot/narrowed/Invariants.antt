use Rattle.std.proofs.Common.{◌≡◌, take}
use Rattle.std.specs.Prelude.{flat_map}
use Rattle.gs_script.specs.Grammar.{after_word}
use Rattle.gs_script.specs.Spot.{forms_of}
use Rattle.gs_script.proofs.spot.narrowed.Given as goal

abbrev pub invariant-loop-form : goal.invariant-loop-form
invariant-loop-form l = forms_of l.left.items ≡ flat_map (after_word l.word) (forms_of (take l.form-index l.forms))
