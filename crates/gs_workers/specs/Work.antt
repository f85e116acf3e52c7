-- What workers and agent do.
use Rattle.std.specs.Prelude.{◌≤◌, ℕ, ◌+◌, ◌*◌, ◌/◌, true, List, [], ◌∷◌, ◌++◌, map, codes, decimal}
use Rattle.std.specs.List.{range_with_len}
use Rattle.gs_layout.specs.declared.facts.Class.TheVariants.{Zero}
use Rattle.gs_kernel.specs.declared.command.Command.TheVariants.{Create}
use Rattle.gs_policy.specs.declared.first_come.FirstCome.{FirstCome}
use Rattle.gs_runner.specs.declared.command.Command.{Command}
use Rattle.gs_runner.specs.declared.command.Command.TheVariants.{Kernel}
use Rattle.gs_runner.specs.declared.step.Step.{Step}
use Rattle.gs_runner.specs.declared.step.Step.TheVariants.{Drain, HandOff}
use Rattle.gs_workers.specs.declared.work.Work.{Work}
use Rattle.gs_workers.specs.declared.work.TheConstants.{MOST_EACH, MOST_WORKERS, SPARE_PARCELS}

-- there are not too many workers, and each creates not too many threads
pub record IsAllowed (w : Work) : Type 0 where
  pub few : w.workers ≤ MOST_WORKERS
  pub bounded : w.each ≤ MOST_EACH

-- how many threads are created
abbrev pub creations_in : Work → ℕ
creations_in w = w.workers * w.each

-- how many parcels the ring has: one for each creation, and some to spare
abbrev pub parcels : Work → ℕ
parcels w = creations_in w + SPARE_PARCELS

-- the name of a thread: its worker, and the turn in which that created it, both counted from 0
abbrev pub name_of : ℕ → ℕ → List ℕ
name_of worker turn = codes "w" ++ decimal worker ++ codes "." ++ decimal turn

-- a worker's command of a turn: a thread is created that may run, on either CPU
abbrev pub creation : ℕ → ℕ → Command
creation worker turn = Kernel (Create (record { mask = 3; runnable = true; class = Zero; name = name_of worker turn }))

-- all commands of a worker, if it creates so many threads
abbrev pub creations : ℕ → ℕ → List Command
creations each worker = map (creation worker) (range_with_len 0 each)

-- the commands of all workers
abbrev pub all_creations : Work → List (List Command)
all_creations w = map (creations w.each) (range_with_len 0 w.workers)

-- the agent's first turn, on CPU 0: it takes in half of the messages at most, and is handed off to CPU 1
abbrev pub first_turn : Work → List (Step FirstCome)
first_turn w = Drain (creations_in w / 2) ∷ HandOff 1 ∷ []

-- its second one, on CPU 1: it takes in what waits
abbrev pub second_turn : List (Step FirstCome)
second_turn = Drain 4294967295 ∷ []

abbrev pub turns : Work → List (List (Step FirstCome))
turns w = first_turn w ∷ second_turn ∷ []
