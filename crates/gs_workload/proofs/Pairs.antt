-- A list that is to have two numbers, and has not two items.
use Rattle.std.proofs.Common.{◌≡◌, ◌<◌, ◌≤◌, ℕ, List, [], ◌∷◌, length, Option, Some, Result, Err, refl, arith}
use Rattle.toml.specs.Data.{Data, Items}
use Rattle.toml.specs.View.{items_view}
use Rattle.toml.specs.declared.value.Value.{Value}
use Rattle.gs_workload.specs.declared.fault.Kind.TheVariants as kind
use Rattle.gs_workload.specs.declared.fault.Reason.{Reason}
use Rattle.gs_workload.specs.declared.fault.Reason.TheVariants.{NotOfKind}
use Rattle.gs_workload.specs.declared.workload.Span.{Span}
use Rattle.gs_workload.specs.Values.{span_in}

abbrev no_span : Result Span Reason
no_span = Err (NotOfKind kind.Span)

few : (least most : ℕ) (d : Data) (vs : List Value) → length vs < 2 → no_span ≡ span_in least most d (Some (items_view vs))
few least most d [] short = refl
few least most d (v ∷ []) short = refl
few least most d (v ∷ w ∷ vs) short = absurd (omega (arith, short))

many : (least most : ℕ) (d : Data) (vs : List Value) → 3 ≤ length vs → no_span ≡ span_in least most d (Some (items_view vs))
many least most d [] long = absurd (omega (arith, long))
many least most d (v ∷ []) long = absurd (omega (arith, long))
many least most d (v ∷ w ∷ []) long = absurd (omega (arith, long))
many least most d (v ∷ w ∷ x ∷ vs) long = refl

pub few_items : (least most : ℕ) (d : Data) (vs : List Value) (found : Option Items) → Some (items_view vs) ≡ found → length vs < 2 → no_span ≡ span_in least most d found
few_items least most d vs found is short = rw (← is) (few least most d vs short)

pub many_items : (least most : ℕ) (d : Data) (vs : List Value) (found : Option Items) → Some (items_view vs) ≡ found → 3 ≤ length vs → no_span ≡ span_in least most d found
many_items least most d vs found is long = rw (← is) (many least most d vs long)
