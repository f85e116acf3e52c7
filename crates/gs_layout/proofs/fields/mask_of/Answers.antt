use Rattle.std.proofs.Common.{Some, ap, ◌∙◌}
use Rattle.gs_layout.proofs.ReadBack.{mask_begun}
use Rattle.gs_layout.proofs.fields.mask_of.Goals as goal

pub returns-in-Created : goal.returns-in-Created
returns-in-Created c = λ m h.
    ap (λ n. Some n) (c.new.ensures ∙ c.u128_at.ensures)
    ∙ mask_begun c.args.bytes.now m c.kind_of.result h (c.kind_of.ensures m h) c.in-Created.is
