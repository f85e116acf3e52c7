-- Receipts, one after another.
use Rattle.std.proofs.Common.{ℕ, List, [], ◌∷◌, ◌++◌}
use Rattle.gs_runner.specs.declared.command.Command.{Command}
use Rattle.gs_runner.specs.declared.call.Receipt.{Receipt}
use Rattle.gs_runner.specs.Receipts.{AreReceipts, IsReceipt}

pub receipts_more : (parcels : ℕ) (cs : List Command) (rs : List Receipt) (c : Command) (r : Receipt) → AreReceipts parcels cs rs → IsReceipt parcels c r → AreReceipts parcels (cs ++ c ∷ []) (rs ++ r ∷ [])
receipts_more parcels [] [] c r so one = (one, tt)
receipts_more parcels (x ∷ cs) (y ∷ rs) c r so one = (so.0, receipts_more parcels cs rs c r so.1 one)
receipts_more parcels [] (y ∷ rs) c r so one = absurd so
receipts_more parcels (x ∷ cs) [] c r so one = absurd so
