-- An agent is active, or one attaches, or there is none: never both of them.
use Rattle.std.proofs.Common.{◌≡◌, refl, ap, sym, ◌∙◌, ℕ, true, false, Option, None, Some}
use Rattle.std.specs.Option.{is_some}
use Rattle.std.proofs.lemmas.Bool.{false≢true}
use Rattle.gs_journal.specs.History.{History, active, attaching}
use Rattle.gs_kernel.specs.declared.settings.Settings.{Settings}
use Rattle.gs_kernel.specs.Landing.{is_generation, verdict}
use Rattle.gs_kernel.proofs.Laws.{one_agent}
use Rattle.gs_core.specs.Safe.{DisplacesAll}

pub none_there : {A : Type 0} (o : Option A) → o ≡ None → is_some o ≡ true → ⊥
none_there o e p = false≢true (sym (ap (λ x. is_some x) e) ∙ p)

-- while one is active none attaches
pub not_both : (h : History) → is_some (active h) ≡ true → is_some (attaching h) ≡ true → ⊥
not_both h p q = by_active (active h) refl p
  where
    by_active : (o : Option (ℕ × ℕ)) → active h ≡ o → is_some o ≡ true → ⊥
    by_active None e p = absurd cc
    by_active (Some a) e p = none_there (attaching h) (one_agent h a e) q

-- and while one attaches none is active
pub none_active : (h : History) → is_some (attaching h) ≡ true → active h ≡ None
none_active h q = by_active (active h) refl
  where
    by_active : (o : Option (ℕ × ℕ)) → active h ≡ o → o ≡ None
    by_active None e = refl
    by_active (Some a) e = absurd (none_there (attaching h) (one_agent h a e) q)

-- so whatever lands is displaced
pub displaces_all : (s : Settings) (h : History) → DisplacesAll s h
unfolding verdict
displaces_all s h up none c b = let no_agent : is_generation b.generation (active h) ≡ false = ap (is_generation b.generation) none in rw (up, no_agent) refl
