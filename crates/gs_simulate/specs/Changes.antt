-- What a thread becomes by a change that the kernel posted, and what is drawn then.
use Rattle.std.specs.Prelude.{ℕ, ◌+◌}
use Rattle.rand_pcg.specs.Lcg.{Lcg}
use Rattle.rand_pcg.specs.Pcg.{pcg32}
use Rattle.gs_layout.specs.declared.message.Change.{Change}
use Rattle.gs_layout.specs.declared.message.Change.TheVariants as changes
use Rattle.gs_workload.specs.declared.workload.Group.{Group}
use Rattle.gs_workload.specs.declared.workload.Span.{Span}
use Rattle.gs_simulate.specs.declared.thread.Stance.TheVariants.{Asleep, Ready, Dead}
use Rattle.gs_simulate.specs.declared.thread.Thread.{Thread}
use Rattle.gs_simulate.specs.Chance.{drawn}
use Rattle.gs_simulate.specs.Threads.{after_preemption, after_waking, left_for}

-- the number of a span that is drawn next
abbrev pub next_of : Lcg → Span → ℕ
next_of g span = drawn span (pcg32 g).0

-- one that blocked sleeps as long as is drawn; one that is woken, or yielded, has a new burst
abbrev pub changed : Lcg → ℕ → Group → Change → Thread → Thread
changed g now group (changes.Blocked cpu) t = left_for (Asleep (now + next_of g group.sleep)) 0 t
changed g now group changes.Wakeup t = after_waking (next_of g group.run) t
changed g now group (changes.Yield cpu) t = left_for Ready (next_of g group.run) t
changed g now group (changes.Dead cpu) t = left_for Dead 0 t
changed g now group (changes.Preempted cpu) t = after_preemption t
changed g now group (changes.Created facts) t = t
changed g now group (changes.Affinity cpu off mask) t = t

-- what is left to draw from: a number was drawn, or none
abbrev pub left_chance : Change → Lcg → Lcg
left_chance (changes.Blocked cpu) g = (pcg32 g).1
left_chance changes.Wakeup g = (pcg32 g).1
left_chance (changes.Yield cpu) g = (pcg32 g).1
left_chance (changes.Dead cpu) g = g
left_chance (changes.Preempted cpu) g = g
left_chance (changes.Created facts) g = g
left_chance (changes.Affinity cpu off mask) g = g
