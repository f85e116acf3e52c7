-- What a command names.
use Rattle.std.specs.Prelude.{ℕ}
use Rattle.gs_kernel.specs.declared.command.Command.{Command}
use Rattle.gs_kernel.specs.declared.command.Command.TheVariants as commands
use Rattle.gs_kernel.specs.declared.thread_event.ThreadEvent.TheVariants.{Affinity}

-- the thread that a command names, 0 if it names none
abbrev pub tid_by : Command → ℕ
tid_by (commands.Thread t e) = t
tid_by _ = 0

-- the CPU that it names, 0 if it names none
abbrev pub cpu_by : Command → ℕ
cpu_by (commands.Take k) = k
cpu_by (commands.Give k) = k
cpu_by (commands.Tick k) = k
cpu_by (commands.HandOff k) = k
cpu_by (commands.Activate k) = k
cpu_by _ = 0

-- it names a thread, of which this holds
abbrev pub OfThread : (ℕ → Type 0) → Command → Type 0
OfThread P (commands.Thread t e) = P t
OfThread P _ = ⊥

-- it names a CPU, of which this holds
abbrev pub OfCpu : (ℕ → Type 0) → Command → Type 0
OfCpu P (commands.Take k) = P k
OfCpu P (commands.Give k) = P k
OfCpu P (commands.Tick k) = P k
OfCpu P (commands.HandOff k) = P k
OfCpu P (commands.Activate k) = P k
OfCpu P _ = ⊥

-- it takes a CPU from whoever is there, and this holds of the CPU
abbrev pub OfTaken : (ℕ → Type 0) → Command → Type 0
OfTaken P (commands.Take k) = P k
OfTaken P (commands.HandOff k) = P k
OfTaken P (commands.Activate k) = P k
OfTaken P _ = ⊥

-- it names a mask, of which this holds
abbrev pub OfMask : (ℕ → Type 0) → Command → Type 0
OfMask P (commands.Create f) = P f.mask
OfMask P (commands.Thread t (Affinity m)) = P m
OfMask P _ = ⊥
