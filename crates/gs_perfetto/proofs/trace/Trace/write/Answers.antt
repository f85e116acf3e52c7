use Rattle.std.proofs.Common.{subst, ap, ◌∙◌, ℕ, List, ◌++◌, map, Option}
use Rattle.std.proofs.lemmas.Result.{on_err_weaker, on_ok_weaker}
use Rattle.std.specs.Io.KnownBytes.{Appends}
use Rattle.gs_timeline.specs.Pieces.{HasEach}
use Rattle.gs_timeline.specs.declared.stay.Stay.{Stay}
use Rattle.gs_timeline.proofs.Sent.{grows_more, sends_grows, sends_last}
use Rattle.gs_perfetto.specs.Events.{slice_front}
use Rattle.gs_perfetto.proofs.trace.Trace.write.Goals as goal

abbrev HasText : Option (List ℕ) → Option (List ℕ) → List Stay → Type 0
HasText a b slices = (text : List ℕ) × Appends a b text × HasEach (map slice_front slices) text

pub returns-clause-written : goal.returns-clause-written
returns-clause-written g c =
    let end = c.push_str-2.new.self in
    let events = c.in_ok-write_events.ensures.sent in
    let first = g.W.Write.contents c.args.writer.now in
    let last = g.W.Write.contents c.send.new.writer in
    on_ok_weaker c.send.result
    (λ sent.
    let all = sends_last (map slice_front c.as_slice.result.now) first (g.W.Write.contents c.write_events.new.writer) last c.begin.new.out.settled c.write_events.new.out.settled end.told (end.settled ++ end.told) events sent (ap (λ (t : List ℕ). t ++ end.told) c.push_str-2.ensures.settled) in
    subst (λ (ss : List Stay). HasText first last ss) (c.as_slice.ensures.value ∙ c.self.view_is) all)
    c.send.ensures.sent

pub returns-clause-stuck : goal.returns-clause-stuck
returns-clause-stuck g c =
    on_err_weaker c.send.result
    (λ more. grows_more _ _ _ (sends_grows (map slice_front c.as_slice.result.now) _ _ _ _ c.in_ok-write_events.ensures.sent) more)
    c.send.ensures.stuck
