use Rattle.std.proofs.Common.{◌≡◌, map, take}
use Rattle.std.specs.Prelude.{filter_map}
use Rattle.gs_arguments.specs.Arguments.{number_of}
use Rattle.gs_arguments.proofs.values.numbers_of.Given as goal

abbrev pub invariant-loop-word : goal.invariant-loop-word
invariant-loop-word l = l.numbers.items ≡ filter_map number_of (map (λ word. word.now) (take l.word-index l.words))
