-- What a message is about.
use Rattle.std.specs.Prelude.{Bool, true, false, ℕ, ◌==◌, if◌then◌else◌}
use Rattle.gs_layout.specs.declared.message.Change.{Change}
use Rattle.gs_layout.specs.declared.message.Change.TheVariants.{Created, Blocked, Wakeup, Preempted, Yield, Dead, Affinity}
use Rattle.gs_layout.specs.declared.message.Message.{Message}
use Rattle.gs_layout.specs.declared.message.Message.TheVariants.{Thread, TimerTick}

-- whether a message is about a thread: a tick is about none
abbrev pub is_about : ℕ → Message → Bool
is_about t (Thread u s c) = u == t
is_about t (TimerTick c) = false

abbrev pub is_creation : Message → Bool
is_creation (Thread t s (Created f)) = true
is_creation _ = false

abbrev pub is_death : Message → Bool
is_death (Thread t s (Dead c)) = true
is_death _ = false

-- the sequence number that a message carries
abbrev pub tseq_of : Message → ℕ
tseq_of (Thread t s c) = s
tseq_of (TimerTick c) = 0

-- whether a change takes its thread off its CPU
abbrev pub takes_off_cpu : Change → Bool
takes_off_cpu (Created f) = false
takes_off_cpu (Blocked c) = true
takes_off_cpu Wakeup = false
takes_off_cpu (Preempted c) = true
takes_off_cpu (Yield c) = true
takes_off_cpu (Dead c) = true
takes_off_cpu (Affinity c off m) = off

-- whether a message takes a thread off its CPU
abbrev pub takes_off : ℕ → Message → Bool
takes_off t (TimerTick c) = false
takes_off t (Thread u s c) = if takes_off_cpu c then u == t else false
