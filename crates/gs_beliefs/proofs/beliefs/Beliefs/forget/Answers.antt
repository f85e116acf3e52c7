use Rattle.std.proofs.Common.{◌≡◌, ℕ, Option, None, length, replicate, rules, ap, ◌∙◌}
use Rattle.std.proofs.lemmas.List.{length-map}
use Rattle.gs_beliefs.specs.Held.{thread_of}
use Rattle.gs_beliefs.proofs.Found.{cpus_unknown}
use Rattle.gs_beliefs.proofs.beliefs.Beliefs.forget.Goals as goal

pub invariant_of-self : goal.invariant_of-self
invariant_of-self c =
    let n : ℕ = length c.self.inside.beliefs.items in
    let begun : c.fill.new.self.items ≡ replicate n None = search rules in
    let of : ◌≡◌ {A = ℕ} (length c.self.inside.running) n = ap length c.self.invariant.found ∙ length-map c.self.inside.beliefs.items thread_of in
    cpus_unknown n c.fill.new.self.items c.clear.new.self c.clear-2.new.self c.self.invariant.most begun
    (c.clear.ensures ∙ ap (λ (k : ℕ). replicate {A = Option ℕ} k None) of)
    (c.clear-2.ensures ∙ ap (λ (k : ℕ). replicate {A = Option ℕ} k None) c.self.invariant.even)
