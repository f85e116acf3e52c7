-- What a command comes to that a locked enclave is told.
use Rattle.std.specs.Prelude.{◌≡◌, Bool, true, false, ℕ, ◌+◌, [], ◌∷◌, ◌++◌, length}
use Rattle.gs_runner.specs.declared.command.Command.{Command}
use Rattle.gs_runner.specs.declared.command.Command.TheVariants as commands
use Rattle.gs_runner.specs.declared.call.Called.TheVariants.{Served}
use Rattle.gs_runner.specs.declared.call.Receipt.{Receipt}
use Rattle.gs_runner.specs.Calls.{GoesOnBy, LegalCall, ThreadRoom, is_refused}
use Rattle.gs_runner.specs.Enclaves.{EnclaveOf}

-- whether the kernel is told it as it is
abbrev pub is_told : Command → Bool
is_told (commands.Kernel c) = true
is_told _ = false

-- the receipt, and enclave and share then
pub record Serves (parcels : ℕ) (c : Command) (a : EnclaveOf) (n : ℕ) (r : Receipt) (b : EnclaveOf) (n' : ℕ) : Type 0 where
  pub legal : LegalCall (ThreadRoom parcels) a.settings a.history a.given (Served c) r.reply b.history
  pub at : r.at ≡ length a.history
  pub entries : GoesOnBy r.entries a.history b.history
  pub accepted : is_refused r.reply ≡ false → b.calls ≡ a.calls ++ record { called = Served c; at = r.at; entries = r.entries; reply = r.reply } ∷ []
  pub counted : is_refused r.reply ≡ false → (n' ≡ n + 1) × (b.counted ≡ a.counted + 1)
  pub refused : is_refused r.reply ≡ true → (b ≡ a) × (n' ≡ n)
  pub settings : b.settings ≡ a.settings
