use Rattle.std.proofs.Common.{◌∙◌}
use Rattle.gs_arguments.proofs.Given.{number_parsed}
use Rattle.gs_arguments.proofs.values.number_word.Goals as goal

pub returns : goal.returns
returns c = c.ok.ensures.value ∙ number_parsed c.args.word.now c.parse.result c.parse.ensures.value.0
