-- What an agent keeps in mind.
use Rattle.std.specs.Prelude.{Bool, ℕ, Option, Some, List, []}
use Rattle.gs_layout.specs.declared.known.Known.{Known}
use Rattle.gs_layout.specs.View.{look_up}
use Rattle.gs_beliefs.specs.Cpus.{Cpus, unknown}
use Rattle.gs_runq.specs.Queue.{Queue, order}
use Rattle.gs_policy.specs.Shown.{Shown}
use Rattle.gs_agent.specs.Picture.{Picture}

-- what is known of each thread, in increasing order of tid, what is believed of each CPU, and the queue without its room
pub record MindState : Type 0 where
  pub records : List (ℕ × Known)
  pub cpus : Cpus
  pub queue : Queue

-- a queue without its room, which changes nothing of who waits
abbrev pub bare : Queue → Queue
bare q = record q { room = 0 }

-- the picture that this is
abbrev pub picture_of : MindState → Picture
picture_of s = record { view = look_up s.records; cpus = s.cpus; queue = s.queue }

-- what is known of each thread as it is, with the beliefs and the queue of a picture
abbrev pub thinks : MindState → Picture → MindState
thinks s p = record { records = s.records; cpus = p.cpus; queue = p.queue }

-- what a policy is shown of this, if the other class holds these CPUs
abbrev pub shown_in : MindState → (ℕ → Bool) → Shown
shown_in s taken = record { view = look_up s.records; cpus = s.cpus; taken = taken; queue = order s.queue }

-- the same, of an agent whose own CPU is this one
abbrev pub moved : ℕ → MindState → MindState
moved c s = record s { cpus = record s.cpus { agent = Some c } }

-- nothing is known, nobody is believed to run on so many CPUs, and nobody waits
abbrev pub nothing : ℕ → Option ℕ → MindState
nothing cpus agent = record { records = []; cpus = unknown cpus agent; queue = record { zero_class = []; one_class = []; room = 0 } }
