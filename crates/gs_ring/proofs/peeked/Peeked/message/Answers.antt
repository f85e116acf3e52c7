use Rattle.gs_layout.specs.Reading.{message_in}
use Rattle.gs_ring.specs.Peek.{message_of}
use Rattle.gs_ring.proofs.peeked.Peeked.message.Goals as goal

pub spelled-requires : goal.spelled-requires
spelled-requires c = let r = c.args.self.now in (message_in r.bytes.now, r.whole.spellable, r.whole.whole)

pub returns : goal.returns
unfolding message_of
returns c = let r = c.args.self.now in c.spelled.ensures (message_in r.bytes.now) r.whole.spellable r.whole.whole
