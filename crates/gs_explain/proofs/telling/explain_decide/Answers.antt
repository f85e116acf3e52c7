use Rattle.std.proofs.Common.{◌≡◌, ◌∙◌, ap, refl, subst, sym, length, List}
use Rattle.gs_policy.specs.declared.choice.Choice.{Choice}
use Rattle.gs_core.specs.declared.event.Event.TheVariants as events
use Rattle.gs_core.specs.Machine.{Step, planning}
use Rattle.gs_replies.specs.declared.reply.Reply.TheVariants as replies
use Rattle.gs_replies.specs.Replies.{replied_as}
use Rattle.gs_script.specs.Unread.{said_line}
use Rattle.gs_trace.specs.NotedLines.{noted_of}
use Rattle.gs_explain.proofs.Happened.{explains_one, stood}
use Rattle.gs_explain.proofs.telling.explain_decide.Goals as goal

pub explain_came-requires : goal.explain_came-requires
explain_came-requires g c = λ κs.
    let m = planning g.P.Policy.chosen c.args.machine.now in
    let next = planning g.P.Policy.chosen c.decide.new.self in
    let first : c.len-first.result ≡ length m.history = c.len-first.ensures.value ∙ ap length (c.journal.ensures.entries ∙ c.kernel.ensures.history) in
    let stamped : length c.transactions-stamped.result.now ≡ length m.transactions = ap length c.transactions-stamped.ensures in
    let stepped = subst (λ (r : _). Step m events.Decide (replied_as (λ n. replies.Decided n c.decide.new.choices.items) r) next) c.in-Ok.is c.decide.ensures.step in
    let step : Step m events.Decide (replies.Decided c.in-Ok.number c.as_slice.result.now) next = subst (λ (xs : List Choice). Step m events.Decide (replies.Decided c.in-Ok.number xs) next) (sym c.as_slice.ensures.value) stepped in
    ((refl, tt), (c.requires.text, stood m events.Decide (replies.Decided c.in-Ok.number c.as_slice.result.now) next c.len-first.result (length c.transactions-stamped.result.now) c.args.index.now c.args.last.now.places.items step first stamped c.requires.heard c.requires.marked))

pub returns-in-Ok : goal.returns-in-Ok
returns-in-Ok g c =
    let m = planning g.P.Policy.chosen c.args.machine.now in
    let next = planning g.P.Policy.chosen c.decide.new.self in
    let first : c.len-first.result ≡ length m.history = c.len-first.ensures.value ∙ ap length (c.journal.ensures.entries ∙ c.kernel.ensures.history) in
    let stamped : length c.transactions-stamped.result.now ≡ length m.transactions = ap length c.transactions-stamped.ensures in
    let stepped = subst (λ (r : _). Step m events.Decide (replied_as (λ n. replies.Decided n c.decide.new.choices.items) r) next) c.in-Ok.is c.decide.ensures.step in
    let step : Step m events.Decide (replies.Decided c.in-Ok.number c.as_slice.result.now) next = subst (λ (xs : List Choice). Step m events.Decide (replies.Decided c.in-Ok.number xs) next) (sym c.as_slice.ensures.value) stepped in
    explains_one g.P.Policy.chosen g.T.Teller.show (noted_of c.args.lines.now) m (said_line c.args.said.now) events.Decide events.Decide (replies.Decided c.in-Ok.number c.as_slice.result.now) next c.len-first.result (noted_of c.explain_came.new.lines) c.explain_came.new.index c.explain_came.new.last.places.items (g.T.Teller.bytes c.args.out.now) (g.T.Teller.bytes c.explain_came.new.out) c.explain_came.result
    step c.decide.ensures.safe c.decide.ensures.faithful refl first c.explain_came.ensures

pub explain_other_refusal-requires : goal.explain_other_refusal-requires
explain_other_refusal-requires g c = λ κs.
    let m = planning g.P.Policy.chosen c.args.machine.now in
    let next = planning g.P.Policy.chosen c.decide.new.self in
    let first : c.len-first.result ≡ length m.history = c.len-first.ensures.value ∙ ap length (c.journal.ensures.entries ∙ c.kernel.ensures.history) in
    let stamped : length c.transactions-stamped.result.now ≡ length m.transactions = ap length c.transactions-stamped.ensures in
    let step : Step m events.Decide (replies.Refused c.in-Err.refusal) next = subst (λ (r : _). Step m events.Decide (replied_as (λ n. replies.Decided n c.decide.new.choices.items) r) next) c.in-Err.is c.decide.ensures.step in
    ((refl, tt), (c.requires.text, stood m events.Decide (replies.Refused c.in-Err.refusal) next c.len-first.result (length c.transactions-stamped.result.now) c.args.index.now c.args.last.now.places.items step first stamped c.requires.heard c.requires.marked))

pub returns-in-Err : goal.returns-in-Err
returns-in-Err g c =
    let m = planning g.P.Policy.chosen c.args.machine.now in
    let next = planning g.P.Policy.chosen c.decide.new.self in
    let first : c.len-first.result ≡ length m.history = c.len-first.ensures.value ∙ ap length (c.journal.ensures.entries ∙ c.kernel.ensures.history) in
    let stamped : length c.transactions-stamped.result.now ≡ length m.transactions = ap length c.transactions-stamped.ensures in
    let step : Step m events.Decide (replies.Refused c.in-Err.refusal) next = subst (λ (r : _). Step m events.Decide (replied_as (λ n. replies.Decided n c.decide.new.choices.items) r) next) c.in-Err.is c.decide.ensures.step in
    explains_one g.P.Policy.chosen g.T.Teller.show (noted_of c.args.lines.now) m (said_line c.args.said.now) events.Decide events.Decide (replies.Refused c.in-Err.refusal) next c.len-first.result (noted_of c.explain_other_refusal.new.lines) c.explain_other_refusal.new.index c.explain_other_refusal.new.last.places.items (g.T.Teller.bytes c.args.out.now) (g.T.Teller.bytes c.explain_other_refusal.new.out) c.explain_other_refusal.result
    step c.decide.ensures.safe c.decide.ensures.faithful refl first c.explain_other_refusal.ensures
