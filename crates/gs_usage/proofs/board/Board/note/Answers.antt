use Rattle.std.proofs.Common.{◌≡◌, ◌≤◌, ◌∙◌, ◌+◌, ap, sym, subst, ℕ, Some, cond, slice_get}
use Rattle.std.proofs.lemmas.Option.{slice_get-get_or}
use Rattle.gs_status.specs.Masks.{has}
use Rattle.gs_status.proofs.Laws.{nobody}
use Rattle.gs_turns.specs.Ticked.{is_of, is_tick_there}
use Rattle.gs_usage.specs.Facts.{AreFacts}
use Rattle.gs_usage.specs.Uses.{same_use}
use Rattle.gs_usage.specs.Waiting.{AreThreads}
use Rattle.gs_usage.specs.declared.usage.Use.TheVariants.{Other, Agent, Busy, Wanted, Idle}
use Rattle.gs_usage.proofs.Boarding.{entries_fit, facts_more, tally_more, use_is}
use Rattle.gs_usage.proofs.Hearing.{threads_more}
use Rattle.gs_usage.proofs.board.Board.note.Goals as goal

pub hear-requires-2-clause-covers : goal.hear-requires-2-clause-covers
hear-requires-2-clause-covers c = λ i small.
    subst (λ (w : ℕ). cond (has c.in_ok-change.change.before (c.args.self.now.first + i)) 1 0 ≤ w + cond (has c.in_ok-change.change.after (c.args.self.now.first + i)) 1 0)
    (sym (c.requires.board.are.waiting i small)) (c.in_ok-change.ensures.covers (c.args.self.now.first + i))

pub hear-requires-3-clause-fits : goal.hear-requires-3-clause-fits
hear-requires-3-clause-fits c = λ i small. entries_fit c.args.journal.now.entries c.args.place c.args.self.now.first Other c.args.self.now.other c.requires.place c.requires.board.others i small

pub hear-requires-4-clause-fits : goal.hear-requires-4-clause-fits
hear-requires-4-clause-fits c = λ i small. entries_fit c.args.journal.now.entries c.args.place c.args.self.now.first Agent c.args.self.now.agent c.requires.place c.requires.board.agents i small

pub hear-requires-5-clause-fits : goal.hear-requires-5-clause-fits
hear-requires-5-clause-fits c = λ i small. entries_fit c.args.journal.now.entries c.args.place c.args.self.now.first Busy c.args.self.now.busy c.requires.place c.requires.board.runs i small

pub hear-requires-6-clause-fits : goal.hear-requires-6-clause-fits
hear-requires-6-clause-fits c = λ i small. entries_fit c.args.journal.now.entries c.args.place c.args.self.now.first Wanted c.args.self.now.wanted c.requires.place c.requires.board.wants i small

pub hear-requires-7-clause-fits : goal.hear-requires-7-clause-fits
hear-requires-7-clause-fits c = λ i small. entries_fit c.args.journal.now.entries c.args.place c.args.self.now.first Idle c.args.self.now.idle c.requires.place c.requires.board.idles i small

pub returns-clause-board : goal.returns-clause-board
returns-clause-board c =
    let h = c.args.journal.now.entries in
    let n = c.args.place in
    let first = c.args.self.now.first in
    let x = c.args.entry.now in
    let s = c.in_ok-change.change in
    let was = c.requires.board in
    let lt = c.requires.place in
    let is = c.requires.entry in
    let told = c.in_ok-change.ensures in
    let threads : AreThreads h (n + 1) c.hear.new.self = threads_more h n x c.args.self.now.threads c.hear.new.self lt is was.waits told.ready told.masks told.past in
    let facts : AreFacts h (n + 1) first c.hear.new.self c.hear-2.new.self = facts_more h n first x s c.args.self.now.threads c.hear.new.self c.args.self.now.facts c.hear-2.new.self lt is was.are c.in_ok-hear.ensures told.counts in
    let tick : (i : ℕ) → has 0 i ≡ is_tick_there (first + i) (slice_get h n) = λ i. nobody i ∙ (sym (ap (is_of (first + i)) c.requires.no_tick) ∙ sym (ap (is_tick_there (first + i)) (slice_get-get_or h n x lt ∙ ap Some (sym is)))) in
    record {
      waits = threads;
      are = facts;
      others = tally_more h n first c.sets-sets.result.other 0 Other c.args.self.now.other c.hear-3.new.self lt was.others c.hear-3.ensures
          (λ i small. c.sets-sets.ensures.other i small ∙ ap (same_use Other) (use_is h (n + 1) first c.hear.new.self c.hear-2.new.self i small facts threads)) (λ i small. tick i);
      agents = tally_more h n first c.sets-sets.result.agent 0 Agent c.args.self.now.agent c.hear-4.new.self lt was.agents c.hear-4.ensures
          (λ i small. c.sets-sets.ensures.agent i small ∙ ap (same_use Agent) (use_is h (n + 1) first c.hear.new.self c.hear-2.new.self i small facts threads)) (λ i small. tick i);
      runs = tally_more h n first c.sets-sets.result.busy 0 Busy c.args.self.now.busy c.hear-5.new.self lt was.runs c.hear-5.ensures
          (λ i small. c.sets-sets.ensures.busy i small ∙ ap (same_use Busy) (use_is h (n + 1) first c.hear.new.self c.hear-2.new.self i small facts threads)) (λ i small. tick i);
      wants = tally_more h n first c.sets-sets.result.wanted 0 Wanted c.args.self.now.wanted c.hear-6.new.self lt was.wants c.hear-6.ensures
          (λ i small. c.sets-sets.ensures.wanted i small ∙ ap (same_use Wanted) (use_is h (n + 1) first c.hear.new.self c.hear-2.new.self i small facts threads)) (λ i small. tick i);
      idles = tally_more h n first c.sets-sets.result.idle 0 Idle c.args.self.now.idle c.hear-7.new.self lt was.idles c.hear-7.ensures
          (λ i small. c.sets-sets.ensures.idle i small ∙ ap (same_use Idle) (use_is h (n + 1) first c.hear.new.self c.hear-2.new.self i small facts threads)) (λ i small. tick i);
    }
