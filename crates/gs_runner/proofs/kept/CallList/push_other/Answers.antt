use Rattle.std.proofs.Common.{◌≡◌, ℕ, [], ◌∷◌, ◌++◌, length, ap, ◌∙◌}
use Rattle.gs_runner.specs.declared.kept.Kept.TheVariants.{Other}
use Rattle.gs_runner.specs.Kept.{calls_kept}
use Rattle.gs_runner.proofs.Keeping.{other_pushed}
use Rattle.gs_runner.proofs.kept.CallList.push_other.Goals as goal

pub returns-clause-calls : goal.returns-clause-calls
returns-clause-calls c = λ h n w.
    let old = c.args.self.now in
    let kept : c.push_reserved-2.new.self.items ≡ old.kept.items ++ Other (length old.others.items) ∷ [] = c.push_reserved-2.ensures.items ∙ ap (λ (k : ℕ). old.kept.items ++ Other k ∷ []) (c.len-index.ensures ∙ old.others.ok.0) in
    let same : calls_kept h c.push_reserved.new.self.items c.push_reserved-2.new.self.items ≡ calls_kept h (old.others.items ++ c.args.call ∷ []) (old.kept.items ++ Other (length old.others.items) ∷ []) = λ i. calls_kept h (c.push_reserved.ensures.items i) (kept i) in
    same ∙ other_pushed h old.others.items old.kept.items c.args.call n w
