-- How much workers do.
use Rattle.std.proofs.Common.{◌≡◌, sym, ◌∙◌, ap, ◌+◌, ◌≤◌, List, map, length, arith}
use Rattle.std.proofs.lemmas.List.{length-map}
use Rattle.std.proofs.lemmas.List.FromFn.{length-map-range_with_len}
use Rattle.std.specs.Global.{Vec}
use Rattle.gs_policy.specs.declared.first_come.FirstCome.{FirstCome}
use Rattle.gs_runner.specs.declared.command.Command.{Command}
use Rattle.gs_runner.specs.declared.step.Shift.{Shift}
use Rattle.gs_workers.specs.Work.{IsAllowed, all_creations, creations, turns}
use Rattle.gs_workers.specs.declared.work.Work.{Work}

pub two_shifts : (w : Work) (shifts : List (Shift FirstCome)) → map (λ s. s.steps.items) shifts ≡ turns w → length shifts ≡ 2
two_shifts w shifts steps = sym (length-map shifts (λ s. s.steps.items)) ∙ ap length steps

a_list_each : (w : Work) (lists : List (Vec Command)) → map (λ l. l.items) lists ≡ all_creations w → length lists ≡ w.workers
a_list_each w lists commands = sym (length-map lists (λ l. l.items)) ∙ ap length commands ∙ length-map-range_with_len (creations w.each) 0 w.workers

-- there are passes for all lists and shifts
pub few_threads : (w : Work) (lists : List (Vec Command)) (shifts : List (Shift FirstCome)) → IsAllowed w → map (λ l. l.items) lists ≡ all_creations w → map (λ s. s.steps.items) shifts ≡ turns w
    → length lists + length shifts ≤ 32
few_threads w lists shifts allowed commands steps = omega (arith, a_list_each w lists commands, two_shifts w shifts steps, allowed.few)
