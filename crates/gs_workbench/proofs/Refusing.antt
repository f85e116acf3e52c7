-- Why an input comes to no script.
use Rattle.std.proofs.Common.{◌≡◌, ℕ, List, Option}
use Rattle.gs_script.specs.Naming.{Naming}
use Rattle.gs_trace.specs.Streams.{IsRead}
use Rattle.gs_workload.specs.Read.{IsTextFault}
use Rattle.gs_workload.specs.declared.fault.WorkloadFault.{WorkloadFault}
use Rattle.gs_workload.specs.declared.fault.WorkloadFault.TheVariants as faults
use Rattle.gs_simulate.specs.declared.fault.SimulateFault.{SimulateFault}
use Rattle.gs_simulate.specs.declared.fault.SimulateFault.TheVariants as simulations
use Rattle.gs_workbench.specs.Written.{IsOfReading, IsOfWriting, IsRefusal, IsRefusalOf, of_simulation, of_workload}
use Rattle.gs_workbench.specs.declared.fault.WorkbenchFault.{WorkbenchFault}
use Rattle.gs_workbench.specs.declared.fault.WorkbenchFault.TheVariants.{Workload as NoWorkload, ReadFailed, OutOfMemory, Unreadable, WriteFailed}

-- a fault of a workload is why an input comes to no script
pub refused_so : {A : Type 0} (naming : Naming A) (input : List ℕ) (f : WorkloadFault) → IsTextFault naming input f → IsRefusalOf naming input (of_workload f)
refused_so naming input faults.TooLong is = (λ (short : faults.TooLong ≡ faults.OutOfMemory). absurd cc, is)
refused_so naming input (faults.NotToml line error) is = (λ (short : faults.NotToml line error ≡ faults.OutOfMemory). absurd cc, is)
refused_so naming input (faults.UnknownKey line key meant) is = (λ (short : faults.UnknownKey line key meant ≡ faults.OutOfMemory). absurd cc, is)
refused_so naming input (faults.Wrong line wrong policies) is = (λ (short : faults.Wrong line wrong policies ≡ faults.OutOfMemory). absurd cc, is)
refused_so naming input faults.OutOfMemory is = tt

pub refused_by : {A : Type 0} (naming : Naming A) (input : List ℕ) (f : SimulateFault) → IsRefusalOf naming input (of_simulation f)
refused_by naming input simulations.OutOfMemory = tt
refused_by naming input (simulations.Unreadable fault) = tt

pub unread : {A : Type 0} (naming : Naming A) (had left : Option (List ℕ)) (e : WorkbenchFault) → IsOfReading e → IsRefusal naming had left e
unread naming had left (NoWorkload fault) reading = absurd reading
unread naming had left ReadFailed reading = tt
unread naming had left OutOfMemory reading = tt
unread naming had left (Unreadable fault) reading = absurd reading
unread naming had left WriteFailed reading = absurd reading

pub no_reading : (e : WorkbenchFault) → IsOfReading e → IsOfWriting e → ⊥
no_reading (NoWorkload fault) reading writing = writing
no_reading ReadFailed reading writing = writing
no_reading OutOfMemory reading writing = writing
no_reading (Unreadable fault) reading writing = writing
no_reading WriteFailed reading writing = reading

pub refusal_in : {A : Type 0} (naming : Naming A) (had left : Option (List ℕ)) (input : List ℕ) (e : WorkbenchFault) → IsRead had left input → ((IsOfWriting e → ⊥) → IsRefusalOf naming input e) → IsRefusal naming had left e
refusal_in naming had left input (NoWorkload fault) read is = (input, read, is (λ writing. writing))
refusal_in naming had left input ReadFailed read is = tt
refusal_in naming had left input OutOfMemory read is = tt
refusal_in naming had left input (Unreadable fault) read is = tt
refusal_in naming had left input WriteFailed read is = tt

-- and no fault of a write is
pub no_writing : {A : Type 0} (naming : Naming A) (input : List ℕ) (e : WorkbenchFault) → IsRefusalOf naming input e → IsOfWriting e → ⊥
no_writing naming input (NoWorkload fault) is writing = writing
no_writing naming input ReadFailed is writing = writing
no_writing naming input OutOfMemory is writing = writing
no_writing naming input (Unreadable fault) is writing = writing
no_writing naming input WriteFailed is writing = is
