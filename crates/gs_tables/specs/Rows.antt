-- Rows of threads, in two texts: of their waits, and of what became of slots that name them.
use Rattle.std.specs.Prelude.{◌≡◌, ℕ, List, ◌++◌}
use Rattle.std.specs.List.{AllZip, flat_map}
use Rattle.gs_trace.specs.declared.form.Notation.{Notation}
use Rattle.gs_tallies.specs.Accounts.{IsAccountOfThread}
use Rattle.gs_tallies.specs.Each.{Grounds}
use Rattle.gs_tallies.specs.declared.account.Account.{Account}
use Rattle.gs_tables.specs.Latency.{account_shown, landings_shown}
use Rattle.gs_tables.specs.declared.rows.Rows.{Rows}

-- a thread was told of behind what there was: by an account of it
pub record TellsOne (notation : Notation) (g : Grounds) (tid : ℕ) (old new : Rows) : Type 0 where
  pub account : Account
  pub is : IsAccountOfThread g.known g.turns g.landings tid account
  pub waits : new.waits ≡ old.waits ++ account_shown notation account
  pub slots : new.slots ≡ old.slots ++ landings_shown notation account

-- these threads were told of behind what there was, in this order: by an account of each
pub record TellsAll (notation : Notation) (g : Grounds) (tids : List ℕ) (old new : Rows) : Type 0 where
  pub accounts : List Account
  pub are : AllZip (IsAccountOfThread g.known g.turns g.landings) tids accounts
  pub waits : new.waits ≡ old.waits ++ flat_map (account_shown notation) accounts
  pub slots : new.slots ≡ old.slots ++ flat_map (landings_shown notation) accounts
