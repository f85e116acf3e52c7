-- Which entries a landing met.
use Rattle.std.specs.Prelude.{Bool, true, false, ◌≡◌, ℕ, List, [], ◌∷◌, take}
use Rattle.gs_layout.specs.declared.outcome.Outcome.{Outcome}
use Rattle.gs_layout.specs.declared.outcome.Outcome.TheVariants as outcomes
use Rattle.gs_slots.specs.declared.state.Stamp.{Stamp}
use Rattle.gs_journal.specs.History.{History}
use Rattle.gs_kernel.specs.declared.settings.Settings.{Settings}
use Rattle.gs_kernel.specs.declared.landing.Landing.{Landing}
use Rattle.gs_kernel.specs.Landing.{verdict}
use Rattle.gs_explain.specs.Landings.{after_landing}

-- whether an outcome is a verdict that speaks of what stood before the landing: it was not placed, not gone, and not failed with its group
abbrev pub is_judged : Outcome → Bool
is_judged outcomes.Displaced = true
is_judged outcomes.NoThread = true
is_judged outcomes.Stale = true
is_judged outcomes.NotRunnable = true
is_judged outcomes.AlreadyPlaced = true
is_judged outcomes.NotAllowed = true
is_judged outcomes.CpuIsAgent = true
is_judged outcomes.CpuTaken = true
is_judged outcomes.CpuBusy = true
is_judged outcomes.SeqSpent = true
is_judged _ = false

-- a landing is as the verdict on its transaction says, on this history
pub record IsJudged (s : Settings) (h : History) (l : Landing) : Type 0 where
  pub stamp : Stamp
  pub tid : stamp.tid ≡ l.tid
  pub as_said : verdict s h l.cpu stamp ≡ l.outcome

-- each of these landings, on the entries of a history for which its reason is asked: there were so many before the first of them
abbrev pub AreJudged : Settings → History → ℕ → List Landing → Type 0
AreJudged s h n [] = Unit {0}
AreJudged s h n (l ∷ ls) = (is_judged l.outcome ≡ true → IsJudged s (take (after_landing l.outcome h n) h) l) × AreJudged s h (after_landing l.outcome h n) ls
