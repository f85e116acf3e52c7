-- What a test gave.
use Rattle.std.proofs.Common.{◌≡◌, Bool, true, false, cond, not, refl, Ok, Err}
use Rattle.gs_script.specs.declared.fault.Reason.{Reason}

pub failed : {A : Type 0} (b : Bool) (x : A) (e f : Reason) → Err e ≡ cond b (Ok x) (Err f) → (b ≡ false) × (f ≡ e)
failed true x e f h = absurd (cc)
failed false x e f h = (refl, cc)

pub went : {A : Type 0} (b : Bool) (x y : A) (f : Reason) → Ok x ≡ cond b (Ok y) (Err f) → (b ≡ true) × (x ≡ y)
went true x y f h = (refl, cc)
went false x y f h = absurd (cc)

pub not_not : (b : Bool) → false ≡ not b → b ≡ true
not_not true h = refl
not_not false h = absurd (cc)

pub not_yes : (b : Bool) → true ≡ not b → b ≡ false
not_yes true h = absurd (cc)
not_yes false h = refl
