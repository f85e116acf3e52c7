use Rattle.std.proofs.Common.{◌<◌, ◌^◌, sym, subst, ℕ, length}
use Rattle.gs_status.proofs.Laws.{nobody}
use Rattle.gs_usage.specs.Facts.{AreFacts}
use Rattle.gs_usage.specs.Tallies.{HasRoom}
use Rattle.gs_usage.specs.Waiting.{AreThreads, ThreadsOf}
use Rattle.gs_usage.specs.declared.usage.Use.TheVariants.{Other, Agent, Busy, Wanted, Idle}
use Rattle.gs_usage.proofs.Boarding.{facts_none, tally_none}
use Rattle.gs_usage.proofs.Hearing.{threads_none}
use Rattle.gs_usage.proofs.board.Board.new.Goals as goal

pub returns-clause-board : goal.returns-clause-board
returns-clause-board c =
    let h = c.args.journal.now.entries in
    let first = c.args.first in
    let made = c.in_ok-new.ensures in
    let none = sym c.new.ensures in
    let long = c.len-most.ensures.value in
    record {
      waits = subst (AreThreads h 0) none (threads_none h);
      are = subst (λ (ts : ThreadsOf). AreFacts h 0 first ts c.in_ok-new.field-0) none (facts_none h first c.in_ok-new.field-0 made.taken made.agent made.busy made.kept made.waiting made.wanted (subst (λ (n : ℕ). n < 2 ^ length c.in_ok-new.field-0.waiting.words) long made.room));
      others = tally_none h first 0 Other c.in_ok-new-2.field-0 c.in_ok-new-2.ensures.set c.in_ok-new-2.ensures.entries c.in_ok-new-2.ensures.ticks c.in_ok-new-2.ensures.since (subst (λ (n : ℕ). HasRoom n c.in_ok-new-2.field-0) long c.in_ok-new-2.ensures.room) (λ i small. nobody i);
      agents = tally_none h first 0 Agent c.in_ok-new-3.field-0 c.in_ok-new-3.ensures.set c.in_ok-new-3.ensures.entries c.in_ok-new-3.ensures.ticks c.in_ok-new-3.ensures.since (subst (λ (n : ℕ). HasRoom n c.in_ok-new-3.field-0) long c.in_ok-new-3.ensures.room) (λ i small. nobody i);
      runs = tally_none h first 0 Busy c.in_ok-new-4.field-0 c.in_ok-new-4.ensures.set c.in_ok-new-4.ensures.entries c.in_ok-new-4.ensures.ticks c.in_ok-new-4.ensures.since (subst (λ (n : ℕ). HasRoom n c.in_ok-new-4.field-0) long c.in_ok-new-4.ensures.room) (λ i small. nobody i);
      wants = tally_none h first 0 Wanted c.in_ok-new-5.field-0 c.in_ok-new-5.ensures.set c.in_ok-new-5.ensures.entries c.in_ok-new-5.ensures.ticks c.in_ok-new-5.ensures.since (subst (λ (n : ℕ). HasRoom n c.in_ok-new-5.field-0) long c.in_ok-new-5.ensures.room) (λ i small. nobody i);
      idles = tally_none h first c.all.result Idle c.in_ok-new-6.field-0 c.in_ok-new-6.ensures.set c.in_ok-new-6.ensures.entries c.in_ok-new-6.ensures.ticks c.in_ok-new-6.ensures.since (subst (λ (n : ℕ). HasRoom n c.in_ok-new-6.field-0) long c.in_ok-new-6.ensures.room) (λ i small. c.all.ensures i small);
    }
