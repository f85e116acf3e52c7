use Rattle.std.proofs.Common.{◌-◌, length, drop, arith, length-take, length-drop}
use Rattle.gs_layout.specs.Spelling.{spelling}
use Rattle.gs_ring.proofs.Written.{put_front_at}
use Rattle.gs_ring.proofs.block.write_record.Goals as goal

pub encode_message-requires : goal.encode_message-requires
encode_message-requires c =
    let b = c.args.block.now in
    let room = c.requires in
    omega (arith, room, length-take (length b - c.args.at) (drop c.args.at b), length-drop c.args.at b)

pub returns : goal.returns
returns c = put_front_at c.args.at c.args.block.now (spelling c.args.message.now) c.encode_message.new.out c.requires c.encode_message.ensures.written
