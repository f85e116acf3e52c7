-- What comes of a task, and that it comes of the words that ask for it.
use Rattle.std.proofs.Common.{◌≡◌, refl, sym, inl, inr, subst, ℕ, List, Option, None, Some, Result, Ok, Err}
use Rattle.std.specs.Prelude.{◌⊎◌, IfErr, IsSomeAnd}
use Rattle.std.specs.Io.KnownBytes.{Keeps}
use Rattle.clap.specs.Words.{Text}
use Rattle.gs_arguments.specs.Arguments.{command_in, file_in, policies_in, seeds_in}
use Rattle.gs_arguments.specs.declared.command.Command.{Command}
use Rattle.gs_trace.specs.declared.run.Ended.{Ended}
use Rattle.gs_commands.specs.Asked.{Does, DoesFrom, ObeysAsked}
use Rattle.gs_commands.specs.Policies.{AreUnnamed}
use Rattle.gs_core.specs.Machine.{Plan}
use Rattle.gs_script.specs.Naming.{Naming}
use Rattle.gs_commands.specs.Failures.{IsOfTask, IsUnopened, SaidOf}
use Rattle.gs_commands.specs.declared.asked.Task.{Task}
use Rattle.gs_commands.specs.declared.asked.Task.TheVariants.{Script, Serve, Simulation, Comparison, Workers}
use Rattle.gs_commands.specs.declared.failure.Failure.{Failure}
use Rattle.gs_commands.specs.declared.failure.Failure.TheVariants as failures

-- what is left as it was
pub kept : (x : Option (List ℕ)) → Keeps x x
kept None = tt
kept (Some xs) = refl

-- what was asked for is what the words ask for
pub asked_for : {A : Type 0} (naming : Naming A) (plans : A → Plan) (words : List Text) (command : Command) (texts : List Text) (seeds : List ℕ) (file : Option Text) (had left before after : Option (List ℕ)) (result : Result Ended Failure)
    → command_in words ≡ Some command → texts ≡ policies_in words → seeds ≡ seeds_in words → file ≡ file_in words → ObeysAsked naming plans command texts seeds file had left before after result
    → IsSomeAnd (command_in words) (λ command. ObeysAsked naming plans command (policies_in words) (seeds_in words) (file_in words) had left before after result)
asked_for naming plans words command texts seeds file had left before after result given names numbers of obeys =
    let by_names : ObeysAsked naming plans command (policies_in words) seeds file had left before after result = subst (λ (ts : List Text). ObeysAsked naming plans command ts seeds file had left before after result) names obeys in
    let by_numbers : ObeysAsked naming plans command (policies_in words) (seeds_in words) file had left before after result = subst (λ (ns : List ℕ). ObeysAsked naming plans command (policies_in words) ns file had left before after result) numbers by_names in
    let by_file : ObeysAsked naming plans command (policies_in words) (seeds_in words) (file_in words) had left before after result = subst (λ (f : Option Text). ObeysAsked naming plans command (policies_in words) (seeds_in words) f had left before after result) of by_numbers in
    subst (λ (o : Option Command). IsSomeAnd o (λ x. ObeysAsked naming plans x (policies_in words) (seeds_in words) (file_in words) had left before after result)) (sym given) by_file

-- what is said of a task is not that the arguments are at fault
pub of_task : {A : Type 0} (task : Task A) (failure : Failure) → SaidOf task failure → IsOfTask failure
of_task task (failures.Work fault) said = tt
of_task task (failures.Script fault) said = tt
of_task task (failures.Serve fault) said = tt
of_task task (failures.Workbench fault) said = tt
of_task task (failures.Unopened file error) said = tt
of_task (Script w) (failures.Arguments error) said = said
of_task (Script w) failures.NotText said = said
of_task (Script w) failures.UnknownWord said = said
of_task (Script w) (failures.NearWord near) said = said
of_task (Script w) (failures.NoPolicy named told) said = said
of_task (Serve explained) (failures.Arguments error) said = said
of_task (Serve explained) failures.NotText said = said
of_task (Serve explained) failures.UnknownWord said = said
of_task (Serve explained) (failures.NearWord near) said = said
of_task (Serve explained) (failures.NoPolicy named told) said = said
of_task (Simulation how) (failures.Arguments error) said = said
of_task (Simulation how) failures.NotText said = said
of_task (Simulation how) failures.UnknownWord said = said
of_task (Simulation how) (failures.NearWord near) said = said
of_task (Simulation how) (failures.NoPolicy named told) said = said
of_task (Comparison how) (failures.Arguments error) said = said
of_task (Comparison how) failures.NotText said = said
of_task (Comparison how) failures.UnknownWord said = said
of_task (Comparison how) (failures.NearWord near) said = said
of_task (Comparison how) (failures.NoPolicy named told) said = said
of_task (Workers work shown) (failures.Arguments error) said = said
of_task (Workers work shown) failures.NotText said = said
of_task (Workers work shown) failures.UnknownWord said = said
of_task (Workers work shown) (failures.NearWord near) said = said
of_task (Workers work shown) (failures.NoPolicy named told) said = said

pub none_at_fault : {A : Type 0} (naming : Naming A) (plans : A → Plan) (task : Task A) (had left before after : Option (List ℕ)) (result : Result Ended Failure) → Does naming plans task had left before after result → IfErr result IsOfTask
none_at_fault naming plans task had left before after (Ok ended) does = tt
none_at_fault naming plans task had left before after (Err failure) does = of_task task failure does.said

unopened_of_task : (failure : Failure) → IsUnopened failure → IsOfTask failure
unopened_of_task (failures.Unopened file error) is = tt
unopened_of_task (failures.Script fault) is = tt
unopened_of_task (failures.Serve fault) is = tt
unopened_of_task (failures.Workbench fault) is = tt
unopened_of_task (failures.Work fault) is = tt
unopened_of_task (failures.Arguments error) is = is
unopened_of_task failures.NotText is = is
unopened_of_task failures.UnknownWord is = is
unopened_of_task (failures.NearWord near) is = is
unopened_of_task (failures.NoPolicy named told) is = is

pub none_at_fault_from : {A : Type 0} (naming : Naming A) (plans : A → Plan) (file : Option Text) (task : Task A) (had left before after : Option (List ℕ)) (result : Result Ended Failure) → DoesFrom naming plans file task had left before after result → IfErr result IsOfTask
none_at_fault_from naming plans None task had left before after result does = none_at_fault naming plans task had left before after result does
none_at_fault_from naming plans (Some file) task had left before after result (kept, inl (h, l, does)) = none_at_fault naming plans task h l before after result does
none_at_fault_from naming plans (Some file) task had left before after (Ok ended) (kept, inr (is, same)) = tt
none_at_fault_from naming plans (Some file) task had left before after (Err failure) (kept, inr (is, same)) = unopened_of_task failure is

-- what comes of what was asked for is no fault of the arguments, unless a policy has no name
pub none_at_fault_asked : {A : Type 0} (naming : Naming A) (plans : A → Plan) (command : Command) (texts : List Text) (seeds : List ℕ) (file : Option Text) (had left before after : Option (List ℕ)) (result : Result Ended Failure)
    → ObeysAsked naming plans command texts seeds file had left before after result → IfErr result (λ failure. IsOfTask failure ⊎ AreUnnamed naming texts failure)
none_at_fault_asked naming plans command texts seeds file had left before after (Ok ended) obeys = tt
none_at_fault_asked naming plans command texts seeds file had left before after (Err failure) (inl does) = inl (none_at_fault_from naming plans file does.task had left before after (Err failure) does.does)
none_at_fault_asked naming plans command texts seeds file had left before after (Err failure) (inr (is, unread, unwritten)) = inr is
