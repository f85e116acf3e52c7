use Rattle.std.proofs.Common.{◌∙◌, ap}
use Rattle.std.specs.Prelude.{option_and_then}
use Rattle.std.specs.Str.Parse.{ParsesBool}
use Rattle.clap.specs.Words.{found_of, one_text}
use Rattle.clap.proofs.WalkLemmas.{one_text-rows}
use Rattle.gs_arguments.specs.Arguments.{flag_of}
use Rattle.gs_arguments.proofs.Given.{flag_read}
use Rattle.gs_arguments.proofs.values.flag_in.Goals as goal

pub returns : goal.returns
returns c =
    flag_read (λ bs r. ParsesBool bs r) (one_text (found_of c.args.given.now) (c.args.name.now)) c.get_one.result (λ t x g. g) c.get_one.ensures.none c.get_one.ensures.value
    ∙ ap (option_and_then flag_of) (one_text-rows (found_of c.args.given.now) (c.args.name.now))
