-- What becomes of a simulated thread.
use Rattle.std.specs.Prelude.{ℕ, ◌-◌, nat_le, ◌==◌, Bool, true, false, ◌&&◌, if◌then◌else◌, Option, Some, None}
use Rattle.std.specs.Option.{option_map}
use Rattle.gs_workload.specs.declared.workload.Leaving.{Leaving}
use Rattle.gs_workload.specs.declared.workload.Leaving.TheVariants.{Die}
use Rattle.gs_simulate.specs.declared.thread.Stance.{Stance}
use Rattle.gs_simulate.specs.declared.thread.Stance.TheVariants.{Asleep, Ready, Running, Dead}
use Rattle.gs_simulate.specs.declared.thread.Thread.{Thread}

abbrev pub runs : Stance → Bool
runs Running = true
runs Ready = false
runs (Asleep until) = false
runs Dead = false

abbrev pub is_running : Thread → Bool
is_running t = runs t.stance

-- a thread that runs has a tick less left of its burst
abbrev pub after_tick : Thread → Thread
after_tick t = if is_running t then record t { left = t.left - 1 } else t

-- whether one that stands so is to be woken now
abbrev pub wakes_at : ℕ → Stance → Bool
wakes_at now (Asleep until) = nat_le until now
wakes_at now Ready = false
wakes_at now Running = false
wakes_at now Dead = false

abbrev pub is_due : ℕ → Thread → Bool
is_due now t = wakes_at now t.stance

-- a burst ends so, if so many are left with it
abbrev pub last_or : Option ℕ → Leaving → Leaving
last_or None leaving = leaving
last_or (Some n) leaving = if nat_le n 1 then Die else leaving

-- the burst of a thread that runs ends when no tick of it is left
abbrev pub ending : Leaving → Thread → Option Leaving
ending leaving t = if is_running t && t.left == 0 then Some (last_or t.bursts leaving) else None

abbrev pub after_placing : Thread → Thread
after_placing t = record t { stance = Running }

-- the rest of its burst is still to come
abbrev pub after_preemption : Thread → Thread
after_preemption t = record t { stance = Ready }

abbrev pub after_waking : ℕ → Thread → Thread
after_waking run t = record t { stance = Ready; left = run }

-- its burst ended
abbrev pub left_for : Stance → ℕ → Thread → Thread
left_for stance run t = record t { stance = stance; left = run; bursts = option_map (λ n. n - 1) t.bursts }
