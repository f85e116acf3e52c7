-- Why the program did not do what it was called for.
use Rattle.std.specs.Prelude.{◌≡◌, ◌≢◌, ◌⊎◌, ⊤}
use Rattle.std.specs.declared.io.ErrorKind.{ErrorKind}
use Rattle.std.specs.declared.io.ErrorKind.TheVariants as io
use Rattle.clap.specs.Values.{kind_of}
use Rattle.clap.specs.Kinds.{IsAmong, Kinds}
use Rattle.clap.specs.declared.error.Error.{Error}
use Rattle.clap.specs.declared.error.kind.ErrorKind.TheVariants as kinds
use Rattle.gs_serve.specs.Served.{IsOfWriting as IsOfServing}
use Rattle.gs_trace.specs.declared.run.TraceFault.TheVariants.{OutOfMemory, WriteFailed}
use Rattle.gs_workbench.specs.Written.{IsOfWriting as IsOfWriting-Workbench}
use Rattle.gs_workers.specs.Written.{WhyUntold}
use Rattle.gs_workers.specs.declared.fault.WorkFault.TheVariants as works
use Rattle.gs_commands.specs.declared.asked.Task.{Task}
use Rattle.gs_commands.specs.declared.asked.Task.TheVariants as tasks
use Rattle.gs_commands.specs.declared.failure.Failure.{Failure}
use Rattle.gs_commands.specs.declared.failure.Failure.TheVariants.{Arguments, NearWord, NotText, Script, Serve, UnknownWord, Unopened, Work, Workbench}

-- reading the arguments failed with this kind of error: out of memory, or they are not text
abbrev pub IsUnreadBy : ErrorKind → Failure → Type 0
IsUnreadBy kind failure = ((kind ≡ io.OutOfMemory) × (failure ≡ Script OutOfMemory)) ⊎ ((kind ≢ io.OutOfMemory) × (failure ≡ NotText))

-- clap's error is told as it is, unless out of memory
abbrev pub IsToldBy : Error → Failure → Type 0
IsToldBy error failure = ((kind_of error ≡ kinds.OutOfMemory) × (failure ≡ Script OutOfMemory)) ⊎ ((kind_of error ≢ kinds.OutOfMemory) × (failure ≡ Arguments error))

-- one of these faults of the arguments is told, or out of memory
abbrev pub TellsOneOf : Kinds → Failure → Type 0
TellsOneOf kinds (Arguments error) = IsAmong (kind_of error) kinds
TellsOneOf kinds (Script fault) = fault ≡ OutOfMemory
TellsOneOf kinds _ = ⊥

-- nothing was begun: the words are told what is wrong with them, the help or the version, or out of memory
abbrev pub IsOfWords : Failure → Type 0
IsOfWords (Arguments error) = ⊤
IsOfWords (Script fault) = fault ≡ OutOfMemory
IsOfWords _ = ⊥

-- the arguments are not at fault
abbrev pub IsOfTask : Failure → Type 0
IsOfTask (Unopened file error) = ⊤
IsOfTask (Script fault) = ⊤
IsOfTask (Serve fault) = ⊤
IsOfTask (Workbench fault) = ⊤
IsOfTask (Work fault) = ⊤
IsOfTask _ = ⊥

-- the file that is to have the script cannot be opened, or out of memory
abbrev pub IsUnopened : Failure → Type 0
IsUnopened (Unopened file error) = ⊤
IsUnopened (Script fault) = fault ≡ OutOfMemory
IsUnopened _ = ⊥

-- nothing is said of a word, or out of memory
abbrev pub IsUnknown : Failure → Type 0
IsUnknown UnknownWord = ⊤
IsUnknown (NearWord near) = ⊤
IsUnknown (Script fault) = fault ≡ OutOfMemory
IsUnknown _ = ⊥

-- a write failed
abbrev pub IsOfWriting : Failure → Type 0
IsOfWriting (Script fault) = fault ≡ WriteFailed
IsOfWriting (Serve fault) = IsOfServing fault
IsOfWriting (Workbench fault) = IsOfWriting-Workbench fault
IsOfWriting (Work fault) = fault ≡ works.WriteFailed
IsOfWriting _ = ⊥

-- what may be said of a task: of workers, that their agent did not settle only if a run of theirs ended so
abbrev pub SaidOf : {A : Type 0} → Task A → Failure → Type 0
SaidOf (tasks.Script wanted) (Script fault) = ⊤
SaidOf (tasks.Serve explained) (Serve fault) = ⊤
SaidOf (tasks.Simulation how) (Workbench fault) = ⊤
SaidOf (tasks.Comparison how) (Workbench fault) = ⊤
SaidOf (tasks.Workers work shown) (Work fault) = WhyUntold work fault
SaidOf _ _ = ⊥
