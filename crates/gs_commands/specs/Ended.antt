-- How a program ends, by its arguments.
use Rattle.std.specs.Prelude.{◌≡◌, ◌≢◌, ◌⊎◌, ℕ, List, Option, Result}
use Rattle.std.specs.Io.KnownBytes.{Keeps}
use Rattle.std.specs.declared.io.ErrorKind.{ErrorKind}
use Rattle.std.specs.declared.io.ErrorKind.TheVariants as io
use Rattle.clap.specs.Words.{Text}
use Rattle.gs_core.specs.Machine.{Plan}
use Rattle.gs_script.specs.Naming.{Naming}
use Rattle.gs_trace.specs.declared.run.Ended.{Ended}
use Rattle.gs_commands.specs.Asked.{Obeys}
use Rattle.gs_commands.specs.Status.{IsStatus}
use Rattle.gs_commands.specs.declared.failure.Failure.{Failure}

-- what the words ask for was done, and the exit status is that of what came of it
abbrev pub EndsAs : {A : Type 0} → Naming A → (A → Plan) → List Text → Option (List ℕ) → Option (List ℕ) → Option (List ℕ) → Option (List ℕ) → ℕ → Type 0
EndsAs naming plans words had left before after status = (done : Result Ended Failure) × Obeys naming plans words had left before after done × IsStatus done status

-- 5 if out of memory for the arguments, 3 if they are not text
abbrev pub IsUnreadStatus : ErrorKind → ℕ → Type 0
IsUnreadStatus kind status = ((kind ≡ io.OutOfMemory) × (status ≡ 5)) ⊎ ((kind ≢ io.OutOfMemory) × (status ≡ 3))

-- the arguments were not read, for an error of this kind: nothing was read and written
abbrev pub EndsUnread : ErrorKind → Option (List ℕ) → Option (List ℕ) → Option (List ℕ) → Option (List ℕ) → ℕ → Type 0
EndsUnread kind had left before after status = Keeps had left × Keeps before after × IsUnreadStatus kind status
