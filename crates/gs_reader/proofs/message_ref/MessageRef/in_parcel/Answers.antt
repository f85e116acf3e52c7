use Rattle.std.proofs.Common.{◌∙◌}
use Rattle.gs_reader.proofs.Refs.{spelled_is, spelled_ref}
use Rattle.gs_reader.proofs.message_ref.MessageRef.in_parcel.Goals as goal

pub over-requires : goal.over-requires
over-requires c = spelled_ref c.as_bytes.result.now c.args.parcel.now c.as_bytes.ensures.spellable c.as_bytes.ensures.value

pub returns : goal.returns
returns c = c.over.ensures ∙ spelled_is c.as_bytes.result.now c.args.parcel.now c.as_bytes.ensures.spellable c.as_bytes.ensures.value
