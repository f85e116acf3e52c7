-- The message that was peeked at.
use Rattle.gs_layout.specs.declared.message.Message.{Message}
use Rattle.gs_layout.specs.Reading.{message_in}
use Rattle.gs_ring.specs.declared.peeked.Peeked.{Peeked}

-- the message that was peeked at
unfoldable pub message_of : Peeked → Message
message_of p = message_in p.bytes.now
