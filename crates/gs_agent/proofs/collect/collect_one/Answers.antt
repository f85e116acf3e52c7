use Rattle.std.proofs.Common.{◌∙◌, Bool, List, ℕ, ap, cond, slice_set, sym}
use Rattle.gs_slots.specs.Reading.{collected_in}
use Rattle.gs_slots.proofs.Laws.{set_as_it_was}
use Rattle.gs_agent.proofs.collect.collect_one.Goals as goal

pub returns-else-is_wanted-clause-region : goal.returns-else-is_wanted-clause-region
returns-else-is_wanted-clause-region c bytes found =
    let region : List (List ℕ) = c.args.region.now in
    let k : ℕ = c.args.cpu in
    sym (ap (λ (b : Bool). slice_set region k (cond b (collected_in k bytes) bytes)) (sym (c.is_wanted.ensures bytes found) ∙ c.if-is_wanted.false) ∙ set_as_it_was region k bytes found)
