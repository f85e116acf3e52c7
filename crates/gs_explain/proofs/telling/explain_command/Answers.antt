use Rattle.std.proofs.Common.{◌≡◌, ◌∙◌, ap, refl, sym, subst, length, Ok}
use Rattle.gs_journal.specs.Last.{entry_lent}
use Rattle.gs_journal.specs.declared.entry.Entry.{Entry}
use Rattle.gs_kernel.specs.Kernel.{last_entry}
use Rattle.gs_kernel.specs.declared.executed.Executed.{Executed}
use Rattle.gs_core.specs.declared.event.Event.TheVariants as events
use Rattle.gs_core.specs.Machine.{Step, planning}
use Rattle.gs_replies.specs.declared.reply.Reply.TheVariants as replies
use Rattle.gs_replies.specs.Replies.{reply_of}
use Rattle.gs_script.specs.Unread.{said_line}
use Rattle.gs_trace.specs.NotedLines.{noted_of}
use Rattle.gs_explain.proofs.Happened.{explains_one, stood}
use Rattle.gs_explain.proofs.telling.explain_command.Goals as goal

pub explain_refusal-requires : goal.explain_refusal-requires
explain_refusal-requires g c = λ κs.
    let m = planning g.P.Policy.chosen c.args.machine.now in
    let next = planning g.P.Policy.chosen c.command.new.self in
    let first : c.len-first.result ≡ length m.history = c.len-first.ensures.value ∙ ap length (c.journal.ensures.entries ∙ c.kernel.ensures.history) in
    let stamped : length c.transactions-stamped.result.now ≡ length m.transactions = ap length c.transactions-stamped.ensures in
    let step : Step m (events.Kernel c.args.command.now) (replies.Refused c.in-Err.refusal) next = subst (λ (r : _). Step m (events.Kernel c.args.command.now) (reply_of r (last_entry next.history)) next) c.in-Err.is c.command.ensures.step in
    ((refl, tt), (c.requires.text, stood m (events.Kernel c.args.command.now) (replies.Refused c.in-Err.refusal) next c.len-first.result (length c.transactions-stamped.result.now) c.args.index.now c.args.last.now.places.items step first stamped c.requires.heard c.requires.marked))

pub returns-in-Err : goal.returns-in-Err
returns-in-Err g c =
    let m = planning g.P.Policy.chosen c.args.machine.now in
    let next = planning g.P.Policy.chosen c.command.new.self in
    let first : c.len-first.result ≡ length m.history = c.len-first.ensures.value ∙ ap length (c.journal.ensures.entries ∙ c.kernel.ensures.history) in
    let stamped : length c.transactions-stamped.result.now ≡ length m.transactions = ap length c.transactions-stamped.ensures in
    let step : Step m (events.Kernel c.args.command.now) (replies.Refused c.in-Err.refusal) next = subst (λ (r : _). Step m (events.Kernel c.args.command.now) (reply_of r (last_entry next.history)) next) c.in-Err.is c.command.ensures.step in
    explains_one g.P.Policy.chosen g.T.Teller.show (noted_of c.args.lines.now) m (said_line c.args.said.now) (events.Kernel c.args.command.now) c.bare_command-event.result (replies.Refused c.in-Err.refusal) next c.len-first.result (noted_of c.explain_refusal.new.lines) c.explain_refusal.new.index c.explain_refusal.new.last.places.items (g.T.Teller.bytes c.args.out.now) (g.T.Teller.bytes c.explain_refusal.new.out) c.explain_refusal.result
    step c.command.ensures.safe c.command.ensures.faithful c.bare_command-event.ensures first c.explain_refusal.ensures

pub explain_done-requires : goal.explain_done-requires
explain_done-requires g c = λ κs.
    let m = planning g.P.Policy.chosen c.args.machine.now in
    let next = planning g.P.Policy.chosen c.command.new.self in
    let first : c.len-first.result ≡ length m.history = c.len-first.ensures.value ∙ ap length (c.journal.ensures.entries ∙ c.kernel.ensures.history) in
    let stamped : length c.transactions-stamped.result.now ≡ length m.transactions = ap length c.transactions-stamped.ensures in
    let step : Step m (events.Kernel c.args.command.now) (replies.Done (last_entry next.history)) next = subst (λ (e : Executed). Step m (events.Kernel c.args.command.now) (reply_of (Ok e) (last_entry next.history)) next) c.in-Ok-Done.field-0-is c.in-Ok-Done.ensures.step in
    ((refl, tt), (c.requires.text, stood m (events.Kernel c.args.command.now) (replies.Done (last_entry next.history)) next c.len-first.result (length c.transactions-stamped.result.now) c.args.index.now c.args.last.now.places.items step first stamped c.requires.heard c.requires.marked))

pub explain_torn-requires : goal.explain_torn-requires
explain_torn-requires g c = λ κs.
    let m = planning g.P.Policy.chosen c.args.machine.now in
    let next = planning g.P.Policy.chosen c.command.new.self in
    let first : c.len-first.result ≡ length m.history = c.len-first.ensures.value ∙ ap length (c.journal.ensures.entries ∙ c.kernel.ensures.history) in
    let stamped : length c.transactions-stamped.result.now ≡ length m.transactions = ap length c.transactions-stamped.ensures in
    let step : Step m (events.Kernel c.args.command.now) replies.Torn next = subst (λ (e : Executed). Step m (events.Kernel c.args.command.now) (reply_of (Ok e) (last_entry next.history)) next) c.in-Ok-Torn.field-0-is c.in-Ok-Torn.ensures.step in
    ((refl, tt), (c.requires.text, stood m (events.Kernel c.args.command.now) replies.Torn next c.len-first.result (length c.transactions-stamped.result.now) c.args.index.now c.args.last.now.places.items step first stamped c.requires.heard c.requires.marked))

pub returns-in-Ok-Done : goal.returns-in-Ok-Done
returns-in-Ok-Done g c =
    let m = planning g.P.Policy.chosen c.args.machine.now in
    let next = planning g.P.Policy.chosen c.command.new.self in
    let first : c.len-first.result ≡ length m.history = c.len-first.ensures.value ∙ ap length (c.journal.ensures.entries ∙ c.kernel.ensures.history) in
    let last : (entry_lent c.last-entry.result) ≡ last_entry next.history = c.last-entry.ensures ∙ ap last_entry c.kernel-in-Ok-Done.ensures.history in
    let done : Step m (events.Kernel c.args.command.now) (replies.Done (last_entry next.history)) next = subst (λ (e : Executed). Step m (events.Kernel c.args.command.now) (reply_of (Ok e) (last_entry next.history)) next) c.in-Ok-Done.field-0-is c.in-Ok-Done.ensures.step in
    let step : Step m (events.Kernel c.args.command.now) (replies.Done (entry_lent c.last-entry.result)) next = subst (λ (y : Entry). Step m (events.Kernel c.args.command.now) (replies.Done y) next) (sym last) done in
    explains_one g.P.Policy.chosen g.T.Teller.show (noted_of c.args.lines.now) m (said_line c.args.said.now) (events.Kernel c.args.command.now) (events.Kernel c.args.command.now) (replies.Done (entry_lent c.last-entry.result)) next c.len-first.result (noted_of c.explain_done.new.lines) c.explain_done.new.index c.explain_done.new.last.places.items (g.T.Teller.bytes c.args.out.now) (g.T.Teller.bytes c.explain_done.new.out) c.explain_done.result
    step c.in-Ok-Done.ensures.safe c.in-Ok-Done.ensures.faithful refl first (c.explain_done.ensures (events.Kernel c.args.command.now))
