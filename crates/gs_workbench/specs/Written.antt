-- The script of a workload's simulation, as it is written.
use Rattle.std.specs.Prelude.{◌≢◌, ◌<◌, ⊤, ℕ, List, Option, length, take}
use Rattle.std.specs.Io.KnownBytes.{Appends}
use Rattle.gs_core.specs.Machine.{Plan}
use Rattle.gs_script.specs.Naming.{Naming}
use Rattle.gs_session.specs.Session.{Session}
use Rattle.gs_simulate.specs.Heard.{IsHeaded, IsHeard}
use Rattle.gs_simulate.specs.declared.fault.SimulateFault.{SimulateFault}
use Rattle.gs_simulate.specs.declared.fault.SimulateFault.TheVariants as simulations
use Rattle.gs_trace.specs.Streams.{IsRead}
use Rattle.gs_workbench.specs.Settings.{policy_of}
use Rattle.gs_workbench.specs.declared.asked.Asked.{Asked}
use Rattle.gs_workbench.specs.declared.fault.WorkbenchFault.{WorkbenchFault}
use Rattle.gs_workbench.specs.declared.fault.WorkbenchFault.TheVariants.{Workload as NoWorkload, ReadFailed, OutOfMemory, Unreadable, WriteFailed}
use Rattle.gs_workload.specs.Read.{IsTextFault, Says}
use Rattle.gs_workload.specs.declared.fault.WorkloadFault.{WorkloadFault}
use Rattle.gs_workload.specs.declared.fault.WorkloadFault.TheVariants as faults
use Rattle.gs_workload.specs.declared.workload.Workload.{Workload}

-- an input says a workload, whose policy is named so, and a new session heard the lines of a text one after another, none of them with a fault. The text has the header of
-- this workload, with the policy that is asked for. Of its ticks, of the seed and of what threads do nothing is said here
pub record IsSimulated {A : Type 0} (naming : Naming A) (plans : A → Plan) (asked : Asked A) (input text : List ℕ) : Type 0 where
  pub workload : Workload A
  pub says : Says naming input workload
  pub session : Session A
  pub heard : IsHeard naming plans text session
  pub headed : IsHeaded naming workload.cpus workload.ring (policy_of naming asked.policy workload.policy) text

-- the script of the simulation of a workload that an input says was written
pub record WritesOf {A : Type 0} (naming : Naming A) (plans : A → Plan) (asked : Asked A) (input : List ℕ) (before after : Option (List ℕ)) : Type 0 where
  pub text : List ℕ
  pub simulated : IsSimulated naming plans asked input text
  pub written : Appends before after text

-- and if a beginning of it was written, short of the whole
pub record BeginsOf {A : Type 0} (naming : Naming A) (plans : A → Plan) (asked : Asked A) (input : List ℕ) (before after : Option (List ℕ)) : Type 0 where
  pub text : List ℕ
  pub count : ℕ
  pub simulated : IsSimulated naming plans asked input text
  pub short : count < length text
  pub written : Appends before after (take count text)

-- a workload was read, and the script of its simulation was written
pub record WritesScript {A : Type 0} (naming : Naming A) (plans : A → Plan) (asked : Asked A) (had left before after : Option (List ℕ)) : Type 0 where
  pub input : List ℕ
  pub read : IsRead had left input
  pub writes : WritesOf naming plans asked input before after

-- and if a beginning of it was written, short of the whole
pub record BeginsScript {A : Type 0} (naming : Naming A) (plans : A → Plan) (asked : Asked A) (had left before after : Option (List ℕ)) : Type 0 where
  pub input : List ℕ
  pub read : IsRead had left input
  pub begins : BeginsOf naming plans asked input before after

-- a fault of a workload, as one of its simulation
abbrev pub of_workload : WorkloadFault → WorkbenchFault
of_workload faults.OutOfMemory = OutOfMemory
of_workload fault = NoWorkload fault

-- a fault of a simulation, as one of its workload
abbrev pub of_simulation : SimulateFault → WorkbenchFault
of_simulation simulations.OutOfMemory = OutOfMemory
of_simulation (simulations.Unreadable fault) = Unreadable fault

-- an input has this fault, and not that memory ran out
abbrev pub IsInputFault : {A : Type 0} → Naming A → List ℕ → WorkloadFault → Type 0
IsInputFault naming input fault = (fault ≢ faults.OutOfMemory) × IsTextFault naming input fault

-- an input does not come to a script for this reason: it has this fault
abbrev pub IsRefusalOf : {A : Type 0} → Naming A → List ℕ → WorkbenchFault → Type 0
IsRefusalOf naming input (NoWorkload fault) = IsInputFault naming input fault
IsRefusalOf naming input OutOfMemory = ⊤
IsRefusalOf naming input (Unreadable fault) = ⊤
IsRefusalOf naming input ReadFailed = ⊥
IsRefusalOf naming input WriteFailed = ⊥

-- what was read has this fault, if the fault is one of what was read
abbrev pub IsRefusal : {A : Type 0} → Naming A → Option (List ℕ) → Option (List ℕ) → WorkbenchFault → Type 0
IsRefusal naming had left (NoWorkload fault) = (input : List ℕ) × IsRead had left input × IsInputFault naming input fault
IsRefusal naming had left _ = ⊤

-- nothing was read, since a read failed, or out of memory
abbrev pub IsOfReading : WorkbenchFault → Type 0
IsOfReading ReadFailed = ⊤
IsOfReading OutOfMemory = ⊤
IsOfReading _ = ⊥

-- a write failed
abbrev pub IsOfWriting : WorkbenchFault → Type 0
IsOfWriting WriteFailed = ⊤
IsOfWriting _ = ⊥
