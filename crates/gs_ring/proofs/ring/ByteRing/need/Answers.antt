use Rattle.std.proofs.Common.{length, arith, ap, ◌∙◌}
use Rattle.gs_ring.specs.Places.{pad_len}
use Rattle.gs_ring.proofs.Held.{need_in}
use Rattle.gs_ring.proofs.Pads.{IsWide, wide}
use Rattle.gs_ring.proofs.ring.ByteRing.need.Goals as goal

pub overflow_add-result : goal.overflow_add-result
overflow_add-result c =
    let w : IsWide (length c.self.inside.block.items) = wide (length c.self.inside.block.items) c.self.invariant.ring.size in
    omega (arith, w.most, c.pad_len.ensures.within, c.size.ensures)

pub returns : goal.returns
returns c =
    need_in c.self.inside.block.items c.self.inside.read.count c.self.inside.written.count c.self.inside.consumed c.self.inside.posts c.args.self.now c.pad_len.result c.args.len
    c.self.invariant.ring
    c.self.view_is
    (c.pad_len.ensures.value ∙ ap (λ n. pad_len n c.self.inside.written.count c.args.len) c.size.ensures)
