-- What a run of workers leaves, and why it has no end.
use Rattle.std.proofs.Common.{◌≡◌, refl, inl, inr, subst, ℕ, ◌+◌, ◌≤◌, ◌<◌, List, map, length, arith, Option, None}
use Rattle.std.specs.Global.{Vec}
use Rattle.gs_policy.specs.declared.first_come.FirstCome.{FirstCome}
use Rattle.gs_replies.specs.declared.config.ConfigFault.{ConfigFault}
use Rattle.gs_runner.specs.Ends.{WhyNotRun}
use Rattle.gs_runner.specs.declared.command.Command.{Command}
use Rattle.gs_runner.specs.declared.finished.RunFault.{RunFault}
use Rattle.gs_runner.specs.declared.finished.RunFault.TheVariants as runs
use Rattle.gs_runner.specs.declared.start.StartFault.TheVariants as starts
use Rattle.gs_runner.specs.declared.start.TheConstants.{MOST_PARCELS}
use Rattle.gs_runner.specs.declared.step.Shift.{Shift}
use Rattle.gs_workers.specs.Work.{IsAllowed, all_creations, turns}
use Rattle.gs_workers.specs.Written.{IsPossible}
use Rattle.gs_workers.specs.declared.work.Work.{Work}
use Rattle.gs_workers.proofs.Few.{few_threads}

-- the numbers have no fault, and there are passes enough
possible : (p : ℕ) (lists : List (Vec Command)) (n : ℕ) (fault : RunFault) → 0 < p → p ≤ MOST_PARCELS → n ≤ 32 → WhyNotRun None p lists n fault → IsPossible fault
possible p lists n (runs.Start (starts.BadConfig f)) some most few why = absurd cc
possible p lists n (runs.Start starts.BadParcels) some most few (same, inl none) = absurd (omega (arith, none, some))
possible p lists n (runs.Start starts.BadParcels) some most few (same, inr many) = absurd (omega (arith, many, most))
possible p lists n (runs.Start starts.OutOfMemory) some most few why = refl
possible p lists n runs.TooMany some most few (same, least, greatest, many) = absurd (omega (arith, many, few))
possible p lists n runs.OutOfMemory some most few why = tt
possible p lists n runs.Close some most few (same, least, greatest, never) = absurd never
possible p lists n runs.Astray some most few why = tt

pub why_possible : (w : Work) (lists : List (Vec Command)) (shifts : List (Shift FirstCome)) (config : Option ConfigFault) (p n : ℕ) (fault : RunFault) → IsAllowed w
    → map (λ l. l.items) lists ≡ all_creations w → map (λ s. s.steps.items) shifts ≡ turns w → config ≡ None → 0 < p → p ≤ MOST_PARCELS → n ≡ length lists + length shifts
    → (ran : List (Vec Command)) → WhyNotRun config p ran n fault → IsPossible fault
why_possible w lists shifts config p n fault allowed commands steps fine some most is ran why =
    let few : n ≤ 32 = omega (arith, is, few_threads w lists shifts allowed commands steps) in
    possible p ran n fault some most few (subst (λ (o : Option ConfigFault). WhyNotRun o p ran n fault) fine why)
