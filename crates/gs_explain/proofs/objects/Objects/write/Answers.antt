use Rattle.std.proofs.Common.{ℕ, List, subst, sym}
use Rattle.std.specs.List.{All}
use Rattle.gs_explain.specs.declared.outline.Outline.{Outline}
use Rattle.gs_explain.specs.Outlined.{IsOutlined, all_events}
use Rattle.gs_explain.proofs.objects.Objects.write.Goals as goal

pub write_objects-requires-clause-outlined : goal.write_objects-requires-clause-outlined
write_objects-requires-clause-outlined g c =
    subst (λ (text : List ℕ). All (IsOutlined text) (all_events c.as_slices.result.1.now c.as_slices.result.0.now)) (sym c.as_bytes.ensures.value) (subst (λ (os : List Outline). All (IsOutlined c.self.inside.draft) os) (sym c.as_slices.ensures.value) c.self.invariant.events)
