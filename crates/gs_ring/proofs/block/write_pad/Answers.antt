use Rattle.std.proofs.Common.{◌≡◌, ◌+◌, ◌-◌, ◌<◌, length, take, drop, ap, sym, ◌∙◌, arith, length-take, length-drop}
use Rattle.gs_layout.specs.Pad.{pad}
use Rattle.gs_ring.specs.Places.{pad_bytes}
use Rattle.gs_ring.proofs.Pads.{pad_bytes_some, length-pad_bytes}
use Rattle.gs_ring.proofs.Written.{put_mid_at}
use Rattle.gs_ring.proofs.block.write_pad.Goals as goal

pub returns : goal.returns
returns c =
    let b = c.args.block.now in
    let size : length (take (c.args.at + c.args.len - c.args.at) (drop c.args.at b)) ≡ c.args.len =
    omega (arith, length-take (c.args.at + c.args.len - c.args.at) (drop c.args.at b), length-drop c.args.at b) in
    let some : 0 < c.args.len = omega arith in
    put_mid_at c.args.at (c.args.at + c.args.len - c.args.at) b c.fill_pad.new.out (pad_bytes c.args.len)
    (c.fill_pad.ensures ∙ ap pad size ∙ sym (pad_bytes_some c.args.len some))
    (length-pad_bytes c.args.len c.requires.whole ∙ omega arith)
