-- What the definitions say of the arguments at their edge.
use Rattle.std.proofs.Common.{◌≡◌, ℕ, List, [], ◌∷◌, codes, refl, true, false, Option, None, Some}
use Rattle.clap.proofs.OnLiterals.{clap_on_literals}
use Rattle.clap.specs.Faults.{fault_of}
use Rattle.clap.specs.Kinds.{Kinds}
use Rattle.clap.specs.declared.error.kind.ErrorKind.TheVariants as kinds
use Rattle.gs_arguments.specs.declared.command.Command.{Command}
use Rattle.gs_arguments.specs.declared.command.Command.TheVariants.{Explain}
use Rattle.gs_arguments.specs.Arguments.{ghost_program, command_in, file_in}

abbrev given : List (List ℕ) → Option Command
given words = command_in (codes "ghost" ∷ words)

abbrev wrong : List (List ℕ) → Kinds
wrong words = fault_of ghost_program (codes "ghost" ∷ words)

no_words : command_in [] ≡ None
unfolding clap_on_literals
no_words = refl

no_command : wrong [] ≡ kinds.MissingSubcommand ∷ []
unfolding clap_on_literals
no_command = refl

no_command_given : given [] ≡ None
unfolding clap_on_literals
no_command_given = refl

other_command : wrong (codes "walk" ∷ []) ≡ kinds.UnknownArgument ∷ kinds.InvalidSubcommand ∷ []
unfolding clap_on_literals
other_command = refl

beginning_of_command : given (codes "ru" ∷ []) ≡ None
unfolding clap_on_literals
beginning_of_command = refl

too_many : wrong (codes "run" ∷ codes "fast" ∷ codes "slow" ∷ []) ≡ kinds.UnknownArgument ∷ []
unfolding clap_on_literals
too_many = refl

asks_for_help : wrong (codes "--help" ∷ []) ≡ kinds.DisplayHelp ∷ []
unfolding clap_on_literals
asks_for_help = refl

asks_for_version : wrong (codes "-V" ∷ []) ≡ kinds.DisplayVersion ∷ []
unfolding clap_on_literals
asks_for_version = refl

run_then_dashes : wrong (codes "run" ∷ codes "--" ∷ []) ≡ []
unfolding clap_on_literals
run_then_dashes = refl

-- a file
abbrev file : List (List ℕ) → Option (List ℕ)
file words = file_in (codes "ghost" ∷ words)

no_file : file (codes "run" ∷ []) ≡ None
unfolding clap_on_literals
no_file = refl

one_file : file (codes "journal" ∷ codes "a.script" ∷ codes "--json" ∷ []) ≡ Some (codes "a.script")
unfolding clap_on_literals
one_file = refl

standard_input : file (codes "run" ∷ codes "-" ∷ []) ≡ None
unfolding clap_on_literals
standard_input = refl

no_file_of_threads : wrong (codes "threads" ∷ codes "--workers" ∷ codes "1" ∷ codes "--each" ∷ codes "1" ∷ codes "a.script" ∷ []) ≡ kinds.UnknownArgument ∷ []
unfolding clap_on_literals
no_file_of_threads = refl

-- the flag of a command that explains
abbrev explains : List (List ℕ) → Option Command
explains words = given (codes "explain" ∷ words)

explain_is_lines : explains [] ≡ Some (Explain false)
unfolding clap_on_literals
explain_is_lines = refl

explain_as_json : explains (codes "--json" ∷ []) ≡ Some (Explain true)
unfolding clap_on_literals
explain_as_json = refl
