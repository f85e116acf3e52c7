use Rattle.std.proofs.Common.{◌≡◌, ◌+◌, ◌-◌, take, drop, arith}
use Rattle.gs_layout.specs.declared.message.Message.{Message}
use Rattle.gs_layout.specs.Spelling.{spelling}
use Rattle.gs_ring.specs.Block.{Lies}
use Rattle.gs_ring.proofs.Next.{names_touched, spelled_touched}
use Rattle.gs_ring.proofs.Pads.{record_size}
use Rattle.gs_ring.proofs.block.message_at.Goals as goal
use Rattle.gs_ring.proofs.block.message_at.Goals.{After-u16_at-len}

-- the bytes of the record
spells : (c : After-u16_at-len) (m : Message) → Lies c.args.block.now c.args.place.count m
    → take (c.record_index-start.result + c.u16_at-len.result - c.record_index-start.result) (drop c.record_index-start.result c.touched-bytes.result.now) ≡ spelling m
spells c m h =
    let text = c.touched-bytes.result.now in
    let len = names_touched c.args.block.now c.args.place.count m text c.record_index-start.result c.u16_at-len.result h c.touched-bytes.ensures.value c.touched-bytes.ensures.len c.record_index-start.ensures c.u16_at-len.ensures in
    spelled_touched c.args.block.now c.args.place.count m text c.record_index-start.result c.u16_at-len.result h c.touched-bytes.ensures.value c.touched-bytes.ensures.len c.record_index-start.ensures len

pub record_index-start-requires-clause-room : goal.record_index-start-requires-clause-room
record_index-start-requires-clause-room c = c.requires.lies.1.room

pub u16_at-len-requires : goal.u16_at-len-requires
u16_at-len-requires c =
    let h = c.requires.lies.1 in
    omega (arith, h.fits, (record_size c.requires.lies.0 h.spellable).least, c.record_index-start.ensures, c.touched-bytes.ensures.len)

pub new-requires : goal.new-requires
new-requires c =
    let at = (goal.at.new-requires c).After-u16_at-len in
    (c.requires.lies.0, c.requires.lies.1.spellable, spells at c.requires.lies.0 c.requires.lies.1)

pub returns : goal.returns
returns c = λ m h. c.new.ensures m h.spellable (spells (goal.at.returns c).After-u16_at-len m h)
