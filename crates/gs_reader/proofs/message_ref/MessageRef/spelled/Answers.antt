use Rattle.std.proofs.Common.{◌∙◌}
use Rattle.gs_reader.proofs.Refs.{spelled_is, spelled_ref}
use Rattle.gs_reader.proofs.message_ref.MessageRef.spelled.Goals as goal

pub over-requires : goal.over-requires
over-requires c = spelled_ref c.args.bytes.now c.requires.0 c.requires.1 c.requires.2

pub returns : goal.returns
returns c = λ m fits e. c.over.ensures ∙ spelled_is c.args.bytes.now m fits e
