use Rattle.gs_layout.proofs.Laws.{spelled_begins}
use Rattle.gs_reader.proofs.message_ref.MessageRef.message.Goals as goal

pub returns : goal.returns
returns c = c.message_of.ensures c.args.self.now (spelled_begins c.as_bytes.result.now c.args.self.now c.as_bytes.ensures.spellable c.as_bytes.ensures.value)
