-- How an outcome is told in a picture.
use Rattle.std.specs.Prelude.{ℕ, List, codes}
use Rattle.gs_layout.specs.declared.outcome.Outcome.{Outcome}
use Rattle.gs_layout.specs.declared.outcome.Outcome.TheVariants.{Placed, Gone, Displaced, NoThread, Stale, NotRunnable, AlreadyPlaced, NotAllowed, CpuIsAgent, CpuTaken, CpuBusy, SeqSpent, HistoryFull, Malformed, GroupFailed}

-- in words
abbrev pub outcome_words : Outcome → List ℕ
outcome_words Placed = codes "placed"
outcome_words Gone = codes "gone"
outcome_words Displaced = codes "displaced"
outcome_words NoThread = codes "no thread"
outcome_words Stale = codes "stale"
outcome_words NotRunnable = codes "not runnable"
outcome_words AlreadyPlaced = codes "already placed"
outcome_words NotAllowed = codes "not allowed"
outcome_words CpuIsAgent = codes "CPU is agent"
outcome_words CpuTaken = codes "CPU taken"
outcome_words CpuBusy = codes "CPU busy"
outcome_words SeqSpent = codes "seq spent"
outcome_words HistoryFull = codes "history full"
outcome_words Malformed = codes "malformed"
outcome_words GroupFailed = codes "group failed"

-- by a shape, as the data of a path: no two have the same
abbrev pub outcome_shape : Outcome → List ℕ
outcome_shape Placed = codes "m-4 0h8"
outcome_shape Stale = codes "m-5-5l10 10m0-10l-10 10"
outcome_shape Displaced = codes "m0-6l6 6l-6 6l-6-6z"
outcome_shape NoThread = codes "m0-5l5 9h-10z"
outcome_shape NotRunnable = codes "m0 5l5-9h-10z"
outcome_shape AlreadyPlaced = codes "m5 0l-9 5v-10z"
outcome_shape NotAllowed = codes "m-5-5h10v10h-10zl10 10"
outcome_shape CpuIsAgent = codes "m-5-5h10v10h-10zm5 0v10"
outcome_shape CpuTaken = codes "m-5-5h10v10h-10zm0 5h10"
outcome_shape CpuBusy = codes "m-5-5h10v10h-10z"
outcome_shape SeqSpent = codes "m-5 5h10m-10-10h10"
outcome_shape HistoryFull = codes "m-3-5v10m6-10v10"
outcome_shape Gone = codes "m-5-5h10l-10 10h10z"
outcome_shape Malformed = codes "m-5-5l10 10m0-10l-10 10m5-11v12"
outcome_shape GroupFailed = codes "m5-5h-10v10h10m-3-5h-3"
