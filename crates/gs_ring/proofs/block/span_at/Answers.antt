use Rattle.std.proofs.Common.{length, ap, sym, ◌+◌, ◌∙◌, arith}
use Rattle.gs_ring.specs.Places.{pad_len, record_len}
use Rattle.gs_ring.proofs.Next.{names_touched}
use Rattle.gs_ring.proofs.Pads.{need_is, record_size}
use Rattle.gs_ring.proofs.block.span_at.Goals as goal

pub u16_at-len-requires : goal.u16_at-len-requires
u16_at-len-requires c =
    let h = c.requires.lies.1 in
    omega (arith, h.fits, (record_size c.requires.lies.0 h.spellable).least, c.record_index.ensures, c.touched.ensures.len)

pub returns : goal.returns
returns c = λ m h.
    let b = c.args.block.now in
    let len = names_touched b c.args.place.count m c.touched.result.now c.record_index.result c.u16_at-len.result h c.touched.ensures.value c.touched.ensures.len c.record_index.ensures c.u16_at-len.ensures in
    ap (λ k. k + c.u16_at-len.result) (c.pad_len.ensures.value ∙ ap (λ n. pad_len n c.args.place.count c.u16_at-len.result) c.size.ensures)
    ∙ ap (λ n. pad_len (length b.items) c.args.place.count n + n) len
    ∙ sym (need_is (length b.items) c.args.place.count (record_len m))
