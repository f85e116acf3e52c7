-- Plans that go through the waiting threads in the order of a key.
use Rattle.std.proofs.Common.{sym, ◌∙◌, List, [], ◌∷◌}
use Rattle.gs_keyed.specs.Order.{Keying, in_order}
use Rattle.gs_keyed.specs.Ordered.{order_apart, order_in}
use Rattle.gs_policy.specs.declared.choice.Choice.{Choice}
use Rattle.gs_policy.specs.Plan.{nobody, plan}
use Rattle.gs_policy.specs.Safe.{AreSafe, IsSafePlan}
use Rattle.gs_policy.specs.Safety.{nobody_taking, plan_safe}
use Rattle.gs_policy.specs.Shown.{Shown}
use Rattle.gs_runq.specs.Queue.{Apart}

-- what is shown, with those that wait in the order of a key
abbrev pub reordered : Keying → Shown → Shown
reordered key s = record s { queue = in_order key s }

-- the plan: the waiting threads, in the order of a key, each on the least free CPU of its mask
abbrev pub keyed : Keying → Shown → List Choice
keyed key s = plan nobody (reordered key s)

choices_safe : (key : Keying) (s : Shown) (xs : List Choice) → AreSafe (reordered key s) xs → AreSafe s xs
choices_safe key s [] safe = tt
choices_safe key s (x ∷ xs) safe =
    (record { waits = sym (order_in key s x.tid) ∙ safe.0.waits; usable = safe.0.usable; allowed = safe.0.allowed; preempts = safe.0.preempts }, choices_safe key s xs safe.1)

-- what is safe in the order of a key is safe
pub reordered-safe : (key : Keying) (s : Shown) (xs : List Choice) → IsSafePlan (reordered key s) xs → IsSafePlan s xs
reordered-safe key s xs safe = record { choices = choices_safe key s xs safe.choices; threads_apart = safe.threads_apart; cpus_apart = safe.cpus_apart }

-- so the plan is safe
pub keyed-safe : (key : Keying) (s : Shown) → Apart s.queue → IsSafePlan s (keyed key s)
keyed-safe key s apart = reordered-safe key s (keyed key s) (plan_safe nobody (reordered key s) (nobody_taking (reordered key s)) (order_apart key s apart))
