use Rattle.std.proofs.Common.{◌<◌, Bool, List, ℕ, length, get_or, ap, sym, ◌∙◌, arith}
use Rattle.std.specs.Prelude.{◌&&◌, slice_set}
use Rattle.std.proofs.lemmas.List.Folds.{list_all_more}
use Rattle.gs_layout.specs.Name.{is_name_byte}
use Rattle.gs_layout.proofs.Names.{kept_more}
use Rattle.gs_layout.proofs.name.Name.new.Goals as goal

pub loop-n-preserved : goal.loop-n-preserved
loop-n-preserved c =
    let text : List ℕ = c.args.text.now in
    let n : ℕ = c.loop-n.n in
    let low : n < length text = omega arith in
    record {
      few = c.loop-n.invariant.few;
      kept = ap (λ (bytes : List ℕ). slice_set bytes n (get_or text n 0)) c.loop-n.invariant.kept ∙ kept_more text n low c.loop-n.invariant.few;
      all =
          list_all_more is_name_byte text n 0 low
          ∙ (ap (λ (b : Bool). b && is_name_byte (get_or text n 0)) c.loop-n.invariant.all ∙ (sym c.is_name_byte.ensures ∙ c.if-not-is_name_byte.false));
    }
