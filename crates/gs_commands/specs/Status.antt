-- The exit status of the program.
use Rattle.std.specs.Prelude.{◌≡◌, ◌≢◌, ◌⊎◌, ℕ, Result, Ok, Err}
use Rattle.clap.specs.Values.{kind_of}
use Rattle.clap.specs.declared.error.kind.ErrorKind.{ErrorKind}
use Rattle.clap.specs.declared.error.kind.ErrorKind.TheVariants.{DisplayHelp, DisplayVersion}
use Rattle.gs_serve.specs.declared.fault.ServeFault.{ServeFault}
use Rattle.gs_serve.specs.declared.fault.ServeFault.TheVariants as serves
use Rattle.gs_trace.specs.declared.run.Ended.{Ended}
use Rattle.gs_trace.specs.declared.run.Ended.TheVariants.{Ran, Faulted}
use Rattle.gs_trace.specs.declared.run.TraceFault.{TraceFault}
use Rattle.gs_trace.specs.declared.run.TraceFault.TheVariants.{ReadFailed, OutOfMemory, WriteFailed}
use Rattle.gs_workbench.specs.declared.fault.WorkbenchFault.{WorkbenchFault}
use Rattle.gs_workbench.specs.declared.fault.WorkbenchFault.TheVariants as workbench
use Rattle.gs_workers.specs.declared.fault.WorkFault.{WorkFault}
use Rattle.gs_workers.specs.declared.fault.WorkFault.TheVariants as works
use Rattle.gs_commands.specs.declared.failure.Failure.{Failure}
use Rattle.gs_commands.specs.declared.failure.Failure.TheVariants.{Arguments, NearWord, NoPolicy, NotText, Script, Serve, UnknownWord, Unopened, Work, Workbench}

-- 0 if a script ran, 2 if it has a fault
abbrev pub ended_status : Ended → ℕ
ended_status Ran = 0
ended_status Faulted = 2

-- 4 if a read or a write failed, 5 if out of memory
abbrev pub fault_status : TraceFault → ℕ
fault_status ReadFailed = 4
fault_status OutOfMemory = 5
fault_status WriteFailed = 4

-- the same of lines that are answered, and 0 if nobody reads the answers any more
abbrev pub serve_status : ServeFault → ℕ
serve_status serves.ReadFailed = 4
serve_status serves.OutOfMemory = 5
serve_status serves.WriteFailed = 4
serve_status serves.ReaderGone = 0

-- 2 if what was read is no workload, and 4 and 5 as ever
abbrev pub workbench_status : WorkbenchFault → ℕ
workbench_status (workbench.Workload fault) = 2
workbench_status (workbench.Unreadable fault) = 2
workbench_status workbench.ReadFailed = 4
workbench_status workbench.WriteFailed = 4
workbench_status workbench.OutOfMemory = 5

-- 4 and 5 for the same of workers, and 6 if their run came to another end than it is to
abbrev pub work_status : WorkFault → ℕ
work_status works.OutOfMemory = 5
work_status works.WriteFailed = 4
work_status _ = 6

-- 3 if the arguments are wrong. If the help or the version was asked for, 0, or 4 if it could not be written
abbrev pub IsArgumentsStatus : ErrorKind → ℕ → Type 0
IsArgumentsStatus kind status = (kind ≢ DisplayHelp → kind ≢ DisplayVersion → status ≡ 3) × ((kind ≡ DisplayHelp) ⊎ (kind ≡ DisplayVersion) → (status ≡ 0) ⊎ (status ≡ 4))

-- the exit status of a failure
abbrev pub IsFailureStatus : Failure → ℕ → Type 0
IsFailureStatus (Arguments error) status = IsArgumentsStatus (kind_of error) status
IsFailureStatus NotText status = status ≡ 3
IsFailureStatus UnknownWord status = status ≡ 3
IsFailureStatus (NearWord near) status = status ≡ 3
IsFailureStatus (NoPolicy named told) status = status ≡ 3
IsFailureStatus (Unopened file error) status = status ≡ 4
IsFailureStatus (Script fault) status = status ≡ fault_status fault
IsFailureStatus (Serve fault) status = status ≡ serve_status fault
IsFailureStatus (Workbench fault) status = status ≡ workbench_status fault
IsFailureStatus (Work fault) status = status ≡ work_status fault

-- the exit status of what was done
abbrev pub IsStatus : Result Ended Failure → ℕ → Type 0
IsStatus (Ok ended) status = status ≡ ended_status ended
IsStatus (Err failure) status = IsFailureStatus failure status
