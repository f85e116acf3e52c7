-- Why an event came out as it did, or a part of it.
use Rattle.std.specs.Prelude.{ℕ}
use Rattle.gs_agent.specs.declared.drained.Stop.{Stop}
use Rattle.gs_sentences.specs.declared.landed.Overflow.{Overflow}
use Rattle.gs_sentences.specs.Told as told

pub data Reason : Type 0 where
  Landed : told.Landed → Reason
  Refused : told.Refused → Reason
  Torn : Overflow → Reason
  Skipped : ℕ → Reason
  Orphans : ℕ → Reason
  Stopped : Stop → Reason
