-- The messages of a batch.
use Rattle.std.specs.Prelude.{List, [], ◌∷◌}
use Rattle.gs_layout.specs.declared.message.Message.{Message}
use Rattle.gs_ring.specs.declared.batch.Batch.{Batch}
use Rattle.gs_ring.specs.declared.batch.Batch.TheVariants as batches
use Rattle.gs_ring.specs.Peek.{message_of}

abbrev pub messages_of : Batch → List Message
messages_of (batches.Ring ring) = ring.now.unread
messages_of (batches.One p) = message_of p ∷ []
messages_of batches.Empty = []
