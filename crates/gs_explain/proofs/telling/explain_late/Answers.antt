use Rattle.std.proofs.Common.{◌≡◌, ◌∙◌, ap, refl, sym, length}
use Rattle.gs_core.specs.declared.event.Event.TheVariants as events
use Rattle.gs_core.specs.Machine.{Step, planned, planning}
use Rattle.gs_script.specs.Unread.{said_line}
use Rattle.gs_trace.specs.NotedLines.{noted_of}
use Rattle.gs_explain.specs.Moment.{bare}
use Rattle.gs_explain.proofs.Happened.{explains_one, stood}
use Rattle.gs_explain.proofs.telling.explain_late.Goals as goal

pub explain_came-requires : goal.explain_came-requires
explain_came-requires g c = λ κs.
    let m = planning g.P.Policy.chosen c.args.machine.now in
    let next = planning g.P.Policy.chosen c.step.new.self in
    let first : c.len-first.result ≡ length m.history = c.len-first.ensures.value ∙ ap length (c.journal.ensures.entries ∙ c.kernel.ensures.history) in
    let stamped : length c.transactions-stamped.result.now ≡ length m.transactions = ap length c.transactions-stamped.ensures in
    let step : Step m (planned g.P.Policy.chosen c.args.event.now) c.step.result next = c.step.ensures.step in
    ((refl, tt), (c.requires.text, stood m (planned g.P.Policy.chosen c.args.event.now) c.step.result next c.len-first.result (length c.transactions-stamped.result.now) c.args.index.now c.args.last.now.places.items step first stamped c.requires.heard c.requires.marked))

pub returns-in-Late : goal.returns-in-Late
returns-in-Late g c =
    let m = planning g.P.Policy.chosen c.args.machine.now in
    let next = planning g.P.Policy.chosen c.step.new.self in
    let first : c.len-first.result ≡ length m.history = c.len-first.ensures.value ∙ ap length (c.journal.ensures.entries ∙ c.kernel.ensures.history) in
    let stamped : length c.transactions-stamped.result.now ≡ length m.transactions = ap length c.transactions-stamped.ensures in
    let step : Step m (planned g.P.Policy.chosen c.args.event.now) c.step.result next = c.step.ensures.step in
    explains_one g.P.Policy.chosen g.T.Teller.show (noted_of c.args.lines.now) m (said_line c.args.said.now) c.args.event.now (events.Late c.args.number) c.step.result next c.len-first.result (noted_of c.explain_came.new.lines) c.explain_came.new.index c.explain_came.new.last.places.items (g.T.Teller.bytes c.args.out.now) (g.T.Teller.bytes c.explain_came.new.out) c.explain_came.result
    step c.step.ensures.safe c.step.ensures.faithful (sym (ap bare c.requires.late)) first c.explain_came.ensures

pub explain_seldom-requires : goal.explain_seldom-requires
explain_seldom-requires g c = λ κs.
    let m = planning g.P.Policy.chosen c.args.machine.now in
    let next = planning g.P.Policy.chosen c.step.new.self in
    let first : c.len-first.result ≡ length m.history = c.len-first.ensures.value ∙ ap length (c.journal.ensures.entries ∙ c.kernel.ensures.history) in
    let stamped : length c.transactions-stamped.result.now ≡ length m.transactions = ap length c.transactions-stamped.ensures in
    let step : Step m (planned g.P.Policy.chosen c.args.event.now) c.step.result next = c.step.ensures.step in
    ((refl, tt), (c.requires.text, stood m (planned g.P.Policy.chosen c.args.event.now) c.step.result next c.len-first.result (length c.transactions-stamped.result.now) c.args.index.now c.args.last.now.places.items step first stamped c.requires.heard c.requires.marked))

pub returns : goal.returns
returns g c =
    let m = planning g.P.Policy.chosen c.args.machine.now in
    let next = planning g.P.Policy.chosen c.step.new.self in
    let first : c.len-first.result ≡ length m.history = c.len-first.ensures.value ∙ ap length (c.journal.ensures.entries ∙ c.kernel.ensures.history) in
    let stamped : length c.transactions-stamped.result.now ≡ length m.transactions = ap length c.transactions-stamped.ensures in
    let step : Step m (planned g.P.Policy.chosen c.args.event.now) c.step.result next = c.step.ensures.step in
    explains_one g.P.Policy.chosen g.T.Teller.show (noted_of c.args.lines.now) m (said_line c.args.said.now) c.args.event.now (events.Late c.args.number) c.step.result next c.len-first.result (noted_of c.explain_seldom.new.lines) c.explain_seldom.new.index c.explain_seldom.new.last.places.items (g.T.Teller.bytes c.args.out.now) (g.T.Teller.bytes c.explain_seldom.new.out) c.explain_seldom.result
    step c.step.ensures.safe c.step.ensures.faithful (sym (ap bare c.requires.late)) first c.explain_seldom.ensures
