use Rattle.std.proofs.Common.{◌≡◌, ◌∙◌, ap, refl, subst, sym, length}
use Rattle.gs_core.specs.declared.event.Event.TheVariants as events
use Rattle.gs_core.specs.Machine.{Step, planning}
use Rattle.gs_replies.specs.declared.reply.Reply.TheVariants as replies
use Rattle.gs_replies.specs.Replies.{replied_as}
use Rattle.gs_script.specs.Unread.{said_line}
use Rattle.gs_trace.specs.NotedLines.{noted_of}
use Rattle.gs_explain.proofs.Happened.{explains_one, stood}
use Rattle.gs_explain.proofs.telling.explain_drain.Goals as goal

pub explain_quiet-requires : goal.explain_quiet-requires
explain_quiet-requires g c = λ κs.
    let m = planning g.P.Policy.chosen c.args.machine.now in
    let next = planning g.P.Policy.chosen c.drain.new.self in
    let first : c.len-first.result ≡ length m.history = c.len-first.ensures.value ∙ ap length (c.journal.ensures.entries ∙ c.kernel.ensures.history) in
    let stamped : length c.transactions-stamped.result.now ≡ length m.transactions = ap length c.transactions-stamped.ensures in
    let step : Step m (events.Drain c.args.max) (replies.Drained c.drain.new.drained) next = subst (λ (r : _). Step m (events.Drain c.args.max) (replied_as (λ _. replies.Drained c.drain.new.drained) r) next) c.in-Ok.is c.drain.ensures.step in
    let all : length next.history ≡ c.len-first.result = sym (c.len.ensures.value ∙ ap length (c.journal-in-Ok.ensures.entries ∙ c.kernel-in-Ok.ensures.history)) ∙ c.if-len-first.true in
    ((refl, tt), (c.requires.text, (stood m (events.Drain c.args.max) (replies.Drained c.drain.new.drained) next c.len-first.result (length c.transactions-stamped.result.now) c.args.index.now c.args.last.now.places.items step first stamped c.requires.heard c.requires.marked, (all, sym c.is_short.ensures ∙ c.if-is_short.false))))

pub returns-then-len-first : goal.returns-then-len-first
returns-then-len-first g c =
    let m = planning g.P.Policy.chosen c.args.machine.now in
    let next = planning g.P.Policy.chosen c.drain.new.self in
    let first : c.len-first.result ≡ length m.history = c.len-first.ensures.value ∙ ap length (c.journal.ensures.entries ∙ c.kernel.ensures.history) in
    let stamped : length c.transactions-stamped.result.now ≡ length m.transactions = ap length c.transactions-stamped.ensures in
    let step : Step m (events.Drain c.args.max) (replies.Drained c.drain.new.drained) next = subst (λ (r : _). Step m (events.Drain c.args.max) (replied_as (λ _. replies.Drained c.drain.new.drained) r) next) c.in-Ok.is c.drain.ensures.step in
    explains_one g.P.Policy.chosen g.T.Teller.show (noted_of c.args.lines.now) m (said_line c.args.said.now) (events.Drain c.args.max) (events.Drain c.args.max) (replies.Drained c.drain.new.drained) next c.len-first.result (noted_of c.explain_quiet.new.lines) c.args.index.now c.explain_quiet.new.last.places.items (g.T.Teller.bytes c.args.out.now) (g.T.Teller.bytes c.explain_quiet.new.out) c.explain_quiet.result
    step c.drain.ensures.safe c.drain.ensures.faithful refl first (c.explain_quiet.ensures (events.Drain c.args.max))

pub explain_came-requires : goal.explain_came-requires
explain_came-requires g c = λ κs.
    let m = planning g.P.Policy.chosen c.args.machine.now in
    let next = planning g.P.Policy.chosen c.drain.new.self in
    let first : c.len-first.result ≡ length m.history = c.len-first.ensures.value ∙ ap length (c.journal.ensures.entries ∙ c.kernel.ensures.history) in
    let stamped : length c.transactions-stamped.result.now ≡ length m.transactions = ap length c.transactions-stamped.ensures in
    let step : Step m (events.Drain c.args.max) (replies.Drained c.drain.new.drained) next = subst (λ (r : _). Step m (events.Drain c.args.max) (replied_as (λ _. replies.Drained c.drain.new.drained) r) next) c.in-Ok.is c.drain.ensures.step in
    ((refl, tt), (c.requires.text, stood m (events.Drain c.args.max) (replies.Drained c.drain.new.drained) next c.len-first.result (length c.transactions-stamped.result.now) c.args.index.now c.args.last.now.places.items step first stamped c.requires.heard c.requires.marked))

pub returns-else-len-first : goal.returns-else-len-first
returns-else-len-first g c =
    let m = planning g.P.Policy.chosen c.args.machine.now in
    let next = planning g.P.Policy.chosen c.drain.new.self in
    let first : c.len-first.result ≡ length m.history = c.len-first.ensures.value ∙ ap length (c.journal.ensures.entries ∙ c.kernel.ensures.history) in
    let stamped : length c.transactions-stamped.result.now ≡ length m.transactions = ap length c.transactions-stamped.ensures in
    let step : Step m (events.Drain c.args.max) (replies.Drained c.drain.new.drained) next = subst (λ (r : _). Step m (events.Drain c.args.max) (replied_as (λ _. replies.Drained c.drain.new.drained) r) next) c.in-Ok.is c.drain.ensures.step in
    explains_one g.P.Policy.chosen g.T.Teller.show (noted_of c.args.lines.now) m (said_line c.args.said.now) (events.Drain c.args.max) (events.Drain c.args.max) (replies.Drained c.drain.new.drained) next c.len-first.result (noted_of c.explain_came.new.lines) c.explain_came.new.index c.explain_came.new.last.places.items (g.T.Teller.bytes c.args.out.now) (g.T.Teller.bytes c.explain_came.new.out) c.explain_came.result
    step c.drain.ensures.safe c.drain.ensures.faithful refl first c.explain_came.ensures

pub explain_refusal-requires : goal.explain_refusal-requires
explain_refusal-requires g c = λ κs.
    let m = planning g.P.Policy.chosen c.args.machine.now in
    let next = planning g.P.Policy.chosen c.drain.new.self in
    let first : c.len-first.result ≡ length m.history = c.len-first.ensures.value ∙ ap length (c.journal.ensures.entries ∙ c.kernel.ensures.history) in
    let stamped : length c.transactions-stamped.result.now ≡ length m.transactions = ap length c.transactions-stamped.ensures in
    let step : Step m (events.Drain c.args.max) (replies.Refused c.in-Err.refusal) next = subst (λ (r : _). Step m (events.Drain c.args.max) (replied_as (λ _. replies.Drained c.drain.new.drained) r) next) c.in-Err.is c.drain.ensures.step in
    ((refl, tt), (c.requires.text, stood m (events.Drain c.args.max) (replies.Refused c.in-Err.refusal) next c.len-first.result (length c.transactions-stamped.result.now) c.args.index.now c.args.last.now.places.items step first stamped c.requires.heard c.requires.marked))

pub returns-in-Err : goal.returns-in-Err
returns-in-Err g c =
    let m = planning g.P.Policy.chosen c.args.machine.now in
    let next = planning g.P.Policy.chosen c.drain.new.self in
    let first : c.len-first.result ≡ length m.history = c.len-first.ensures.value ∙ ap length (c.journal.ensures.entries ∙ c.kernel.ensures.history) in
    let stamped : length c.transactions-stamped.result.now ≡ length m.transactions = ap length c.transactions-stamped.ensures in
    let step : Step m (events.Drain c.args.max) (replies.Refused c.in-Err.refusal) next = subst (λ (r : _). Step m (events.Drain c.args.max) (replied_as (λ _. replies.Drained c.drain.new.drained) r) next) c.in-Err.is c.drain.ensures.step in
    explains_one g.P.Policy.chosen g.T.Teller.show (noted_of c.args.lines.now) m (said_line c.args.said.now) (events.Drain c.args.max) (events.Drain c.args.max) (replies.Refused c.in-Err.refusal) next c.len-first.result (noted_of c.explain_refusal.new.lines) c.explain_refusal.new.index c.explain_refusal.new.last.places.items (g.T.Teller.bytes c.args.out.now) (g.T.Teller.bytes c.explain_refusal.new.out) c.explain_refusal.result
    step c.drain.ensures.safe c.drain.ensures.faithful refl first c.explain_refusal.ensures
