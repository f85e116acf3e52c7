-- What is known of the CPUs of a block, as a history is walked.
use Rattle.std.specs.Prelude.{ℕ}
use Rattle.gs_journal.specs.History.{History}
use Rattle.gs_usage.specs.Facts.{AreFacts}
use Rattle.gs_usage.specs.Tallies.{IsTally}
use Rattle.gs_usage.specs.Waiting.{AreThreads}
use Rattle.gs_usage.specs.declared.board.Board.{Board}
use Rattle.gs_usage.specs.declared.usage.Use.TheVariants.{Other, Agent, Busy, Wanted, Idle}

-- this is what is known of them behind the first n entries
pub record IsBoard (h : History) (n : ℕ) (b : Board) : Type 0 where
  pub waits : AreThreads h n b.threads
  pub are : AreFacts h n b.first b.threads b.facts
  pub others : IsTally h n b.first Other b.other
  pub agents : IsTally h n b.first Agent b.agent
  pub runs : IsTally h n b.first Busy b.busy
  pub wants : IsTally h n b.first Wanted b.wanted
  pub idles : IsTally h n b.first Idle b.idle
