use Rattle.std.proofs.Common.{◌≡◌, ◌<◌, ◌∙◌, ◌+◌, ap, sym, ℕ, Some, slice_get, take}
use Rattle.std.proofs.lemmas.Option.{slice_get-get_or}
use Rattle.gs_status.specs.declared.mask.TheConstants.{MOST_CPUS}
use Rattle.gs_status.specs.Masks.{has}
use Rattle.gs_turns.specs.Ticked.{is_of, is_tick_there}
use Rattle.gs_usage.specs.Facts.{AreFacts}
use Rattle.gs_usage.specs.Uses.{same_use, use_of}
use Rattle.gs_usage.specs.Waiting.{AreThreads}
use Rattle.gs_usage.specs.declared.usage.Use.TheVariants.{Other, Agent, Busy, Wanted, Idle}
use Rattle.gs_usage.proofs.Boarding.{facts_still, tally_more, threads_still, ticks_fit, use_is}
use Rattle.gs_usage.proofs.board.Board.tick.Goals as goal

pub stay-requires : goal.stay-requires
stay-requires c = λ i small. ticks_fit c.args.journal.now.entries c.args.place c.args.self.now.first Other c.args.self.now.other c.requires.place c.requires.board.others i small

pub stay-requires-2 : goal.stay-requires-2
stay-requires-2 c = λ i small. ticks_fit c.args.journal.now.entries c.args.place c.args.self.now.first Agent c.args.self.now.agent c.requires.place c.requires.board.agents i small

pub stay-requires-3 : goal.stay-requires-3
stay-requires-3 c = λ i small. ticks_fit c.args.journal.now.entries c.args.place c.args.self.now.first Busy c.args.self.now.busy c.requires.place c.requires.board.runs i small

pub stay-requires-4 : goal.stay-requires-4
stay-requires-4 c = λ i small. ticks_fit c.args.journal.now.entries c.args.place c.args.self.now.first Wanted c.args.self.now.wanted c.requires.place c.requires.board.wants i small

pub stay-requires-5 : goal.stay-requires-5
stay-requires-5 c = λ i small. ticks_fit c.args.journal.now.entries c.args.place c.args.self.now.first Idle c.args.self.now.idle c.requires.place c.requires.board.idles i small

pub returns-clause-board : goal.returns-clause-board
returns-clause-board c =
    let h = c.args.journal.now.entries in
    let n = c.args.place in
    let first = c.args.self.now.first in
    let x = c.args.entry.now in
    let ts = c.args.self.now.threads in
    let f = c.args.self.now.facts in
    let was = c.requires.board in
    let lt = c.requires.place in
    let is = c.requires.entry in
    let threads : AreThreads h (n + 1) ts = threads_still h n c.args.cpu x ts lt is c.requires.tick was.waits in
    let facts : AreFacts h (n + 1) first ts f = facts_still h n first c.args.cpu x ts f lt is c.requires.tick was.are in
    let same : (i : ℕ) → i < MOST_CPUS → use_of (take n h) (first + i) ≡ use_of (take (n + 1) h) (first + i) = λ i small. sym (use_is h n first ts f i small was.are was.waits) ∙ use_is h (n + 1) first ts f i small facts threads in
    let tick : (i : ℕ) → i < MOST_CPUS → has c.only-ticked.result i ≡ is_tick_there (first + i) (slice_get h n) =
    λ i small. c.only-ticked.ensures i small ∙ (sym (ap (is_of (first + i)) c.requires.tick) ∙ sym (ap (is_tick_there (first + i)) (slice_get-get_or h n x lt ∙ ap Some (sym is)))) in
    record {
      waits = threads;
      are = facts;
      others = tally_more h n first c.args.self.now.other.set c.only-ticked.result Other c.args.self.now.other c.stay.new.self lt was.others (c.stay.ensures n was.others.since) (λ i small. was.others.is i small ∙ ap (same_use Other) (same i small)) tick;
      agents = tally_more h n first c.args.self.now.agent.set c.only-ticked.result Agent c.args.self.now.agent c.stay-2.new.self lt was.agents (c.stay-2.ensures n was.agents.since) (λ i small. was.agents.is i small ∙ ap (same_use Agent) (same i small)) tick;
      runs = tally_more h n first c.args.self.now.busy.set c.only-ticked.result Busy c.args.self.now.busy c.stay-3.new.self lt was.runs (c.stay-3.ensures n was.runs.since) (λ i small. was.runs.is i small ∙ ap (same_use Busy) (same i small)) tick;
      wants = tally_more h n first c.args.self.now.wanted.set c.only-ticked.result Wanted c.args.self.now.wanted c.stay-4.new.self lt was.wants (c.stay-4.ensures n was.wants.since) (λ i small. was.wants.is i small ∙ ap (same_use Wanted) (same i small)) tick;
      idles = tally_more h n first c.args.self.now.idle.set c.only-ticked.result Idle c.args.self.now.idle c.stay-5.new.self lt was.idles (c.stay-5.ensures n was.idles.since) (λ i small. was.idles.is i small ∙ ap (same_use Idle) (same i small)) tick;
    }
