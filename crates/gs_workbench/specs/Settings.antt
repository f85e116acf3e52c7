-- How a workload is simulated.
use Rattle.std.specs.Prelude.{[], Option, None, Some, unwrap_or}
use Rattle.gs_script.specs.Naming.{Naming}
use Rattle.gs_simulate.specs.declared.settings.Settings.{Settings}
use Rattle.gs_workbench.specs.declared.asked.Asked.{Asked}
use Rattle.gs_workload.specs.declared.workload.Workload.{Workload}

-- the policy that is asked for, else that of the workload, else that of a header that names none
abbrev pub policy_of : {A : Type 0} → Naming A → Option A → Option A → A
policy_of naming (Some asked) own = asked
policy_of naming None (Some own) = own
policy_of naming None None = naming.named []

abbrev pub settings_of : {A : Type 0} → Naming A → Asked A → Workload A → Settings A
settings_of naming asked workload = record { policy = policy_of naming asked.policy workload.policy; ticks = unwrap_or asked.ticks workload.ticks; seed = asked.seed }
