-- How what an agent has in mind is kept.
use Rattle.std.specs.Prelude.{ℕ, ◌≤◌, ◌≡◌, true, is_some}
use Rattle.gs_layout.specs.declared.message.TheConstants.{MOST_TIDS}
use Rattle.gs_layout.specs.View.{Look, look_up}
use Rattle.gs_beliefs.specs.Cpus.{Cpus}
use Rattle.gs_runq.specs.Queue.{Queue}
use Rattle.gs_agent.specs.Mind.{MindState, bare}
use Rattle.gs_agent.specs.Picture.{HoldsWaiting}
use Rattle.gs_agent.specs.declared.mind.Mind.TheInside.{Inside}

-- a thread of which something is known has a tid, and if there is one, the queue has room for all that there can be
pub record HasRoom (v : Look) (q : Queue) : Type 0 where
  pub least : (t : ℕ) → is_some (v t) ≡ true → 1 ≤ t
  pub most : (t : ℕ) → is_some (v t) ≡ true → t ≤ MOST_TIDS
  pub room : (t : ℕ) → is_some (v t) ≡ true → MOST_TIDS ≤ q.room

-- the queue holds just who waits, and has room for whoever may begin to
pub record IsKept (v : Look) (s : Cpus) (q : Queue) : Type 0 where
  pub waiting : HoldsWaiting v s q
  pub room : HasRoom v q

-- what a mind is to its callers
abbrev pub mind_view : Inside → MindState
mind_view i = record { records = i.view.entries; cpus = i.cpus; queue = bare i.queue }

-- what a mind keeps
abbrev pub IsMind : Inside → Type 0
IsMind i = IsKept (look_up i.view.entries) i.cpus i.queue
