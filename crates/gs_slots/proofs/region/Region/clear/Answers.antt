use Rattle.std.proofs.Common.{◌≡◌, ◌∙◌, ◌++◌, ◌<◌, ◌^◌, List, ℕ, ap, drop, length, replicate, subst, sym, take}
use Rattle.std.proofs.lemmas.List.{length-replicate}
use Rattle.gs_slots.specs.Busy.{is_busy_at, is_flagged_at}
use Rattle.gs_slots.specs.Spelling.{idle_bytes}
use Rattle.gs_slots.proofs.Busy.{all_cleared, none_busy, none_flagged}
use Rattle.gs_slots.proofs.region.Region.clear.Goals as goal

pub invariant_of-self : goal.invariant_of-self
invariant_of-self c =
    let blocks = c.self.inside.blocks in
    let n : ℕ = blocks.len in
    let left : List (List ℕ) = c.clear_all.new.blocks in
    let size : length blocks.items ≡ n = ap length (sym c.deref_mut.ensures.value) ∙ c.deref_mut.ensures.len in
    let idle : take n (left ++ drop (length left) blocks.items) ≡ replicate n idle_bytes =
    all_cleared blocks.items left n size (c.clear_all.ensures ∙ ap (λ (m : ℕ). replicate m idle_bytes) c.deref_mut.ensures.len) in
    record {
      few = subst (λ (m : ℕ). m < 2 ^ 16) (sym (ap length idle ∙ (length-replicate n idle_bytes ∙ sym size))) c.self.invariant.few;
      covered = λ k lt free. ap (λ (xs : List (List ℕ)). is_busy_at xs k) idle ∙ none_busy n k;
      single = λ e k lt. ap (λ (xs : List (List ℕ)). is_flagged_at xs k) idle ∙ none_flagged n k;
    }
