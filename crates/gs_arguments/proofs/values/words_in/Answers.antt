use Rattle.std.proofs.Common.{◌∙◌, List, Option, [], ap, map}
use Rattle.std.specs.Prelude.{unwrap_or}
use Rattle.std.proofs.lemmas.Result.{IfOk-weaker}
use Rattle.clap.specs.Words.{Text, found_of}
use Rattle.clap.proofs.WalkLemmas.{raw_values-rows}
use Rattle.gs_arguments.proofs.values.words_in.Goals as goal

-- the words of an option that were found, or none
abbrev or_none : Option (List Text) → List Text
or_none words = unwrap_or words []

pub returns-in-Some : goal.returns-in-Some
returns-in-Some c = IfOk-weaker c.from_slice.result _ _ (λ words same. ap (map (λ word. word.now)) same ∙ ap or_none (c.in-Some.ensures ∙ raw_values-rows (found_of c.args.given.now) c.args.name.now)) c.from_slice.ensures.items

pub returns-in-None : goal.returns-in-None
returns-in-None c = ap (map (λ word. word.now)) c.new.ensures.items ∙ ap or_none (c.in-None.ensures ∙ raw_values-rows (found_of c.args.given.now) c.args.name.now)
