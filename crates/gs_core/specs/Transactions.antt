-- What was ever stamped, as a machine keeps it.
use Rattle.std.specs.Prelude.{ℕ, List}
use Rattle.gs_core.specs.declared.transaction.Transaction.{Transaction}

-- the transactions in the order in which they were stamped, and how many more fit without allocating
pub record TransactionList : Type 0 where
  pub items : List Transaction
  pub room : ℕ
