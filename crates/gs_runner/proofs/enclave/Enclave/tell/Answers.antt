use Rattle.std.proofs.Common.{◌≡◌, ℕ, ◌-◌, Ok, List, [], ◌∷◌, ◌++◌, length, sym, ap, subst, ◌∙◌, arith}
use Rattle.gs_journal.specs.declared.entry.Entry.{Entry}
use Rattle.gs_kernel.specs.Kernel.{last_entry}
use Rattle.gs_replies.specs.declared.reply.Reply.{Reply}
use Rattle.gs_replies.specs.declared.reply.Reply.TheVariants.{Refused}
use Rattle.gs_replies.specs.Replies.{reply_of}
use Rattle.gs_runner.specs.declared.command.Command.{Command}
use Rattle.gs_runner.specs.declared.command.Command.TheVariants.{Kernel}
use Rattle.gs_runner.specs.declared.call.Called.TheVariants.{Served}
use Rattle.gs_runner.specs.declared.call.Call.{Call}
use Rattle.gs_runner.specs.declared.call.Receipt.{Receipt}
use Rattle.gs_runner.specs.Enclaves.{EnclaveOf, enclave_of}
use Rattle.gs_runner.specs.Kept.{AllWithin, calls_kept, told_call}
use Rattle.gs_runner.specs.Serving.{Serves}
use Rattle.gs_runner.proofs.Enclaving.{executed_accepted, may_publish, shown_posted, serves_accepted, serves_refused, told_kept, told_longer}
use Rattle.gs_runner.proofs.Keeping.{calls_then, roomier, within_then}
use Rattle.gs_runner.proofs.enclave.Enclave.tell.Goals as goal

pub returns-then-is_err : goal.returns-then-is_err
returns-then-is_err g c =
    let a = c.self.inside.kernel in
    let log = c.self.inside.log in
    let command : Command = Kernel c.args.command.now in
    let before : EnclaveOf = enclave_of a (calls_kept a.history log.list.others.items log.list.kept.items) log.book.total log.seat in
    let after : EnclaveOf = enclave_of a (calls_kept a.history c.reserve.new.self.others.items c.reserve.new.self.kept.items) log.book.total log.seat in
    let same : after ≡ before = roomier a log.list.others.items c.reserve.new.self.others.items log.list.kept.items c.reserve.new.self.kept.items log.book.total log.seat c.reserve.ensures.others c.reserve.ensures.kept in
    subst (λ (e : EnclaveOf). Serves g.L.Site.parcels command e c.args.share.now c.refused.result after c.args.share.now) c.self.view_is
    (serves_refused g.L.Site.parcels command before after c.args.share.now c.refused.result c.short_refusal.result
    (c.refused.ensures ∙ ap (λ (n : ℕ). record { at = n; entries = 0; reply = Refused c.short_refusal.result }) c.entries-at.ensures) same (c.short_refusal.ensures g.L.Site.parcels))

pub accept_told-requires-clause-order : goal.accept_told-requires-clause-order
accept_told-requires-clause-order g c =
    let b = c.execute.new.kernel in
    let longer = told_longer c.self.inside.kernel b (Served (Kernel c.args.command.now)) (reply_of (Ok c.in-Ok.executed) (last_entry b.history)) c.in-Ok.ensures.told in
    omega (arith, longer, c.entries-at.ensures, c.entries-end.ensures)

pub accept_told-requires-clause-within : goal.accept_told-requires-clause-within
accept_told-requires-clause-within g c =
    let b = c.execute.new.kernel in
    let list = c.self.inside.log.list in
    subst (λ (n : ℕ). AllWithin n (length c.reserve.new.self.others.items) c.reserve.new.self.kept.items) (sym c.entries-end.ensures)
    (within_then c.self.inside.kernel b (Served (Kernel c.args.command.now)) (reply_of (Ok c.in-Ok.executed) (last_entry b.history)) list.others.items c.reserve.new.self.others.items list.kept.items c.reserve.new.self.kept.items c.in-Ok.ensures.told c.reserve.ensures.others c.reserve.ensures.kept c.self.invariant.1)

pub accept_told-requires-clause-rises : goal.accept_told-requires-clause-rises
accept_told-requires-clause-rises g c =
    let b = c.execute.new.kernel in
    may_publish c.self.inside.kernel b (Served (Kernel c.args.command.now)) (reply_of (Ok c.in-Ok.executed) (last_entry b.history)) c.self.inside.log.seat c.in-Ok.ensures.told c.self.invariant.0.kept.shown

pub accept_told-requires-clause-quiet : goal.accept_told-requires-clause-quiet
accept_told-requires-clause-quiet g c = λ done alone. shown_posted c.self.inside.log.seat c.self.inside.kernel.history c.execute.new.kernel.history (c.in-Ok.ensures.quiet (ap Ok done) alone) c.self.invariant.0.kept.shown

pub invariant_of-self-2 : goal.invariant_of-self-2
invariant_of-self-2 g c =
    let a = c.self.inside.kernel in
    let b = c.execute.new.kernel in
    let log = c.self.inside.log in
    let told = c.in-Ok.ensures.told in
    let r : Reply = reply_of (Ok c.in-Ok.executed) (last_entry b.history) in
    let longer = told_longer a b (Served (Kernel c.args.command.now)) r told in
    let call : Call = told_call c.args.command.now c.in-Ok.executed (last_entry b.history) c.entries-at.result c.entries-end.result in
    let calls : List Call = calls_kept a.history log.list.others.items log.list.kept.items in
    let now : List Call = calls_kept b.history c.accept_told.new.self.list.others.items c.accept_told.new.self.list.kept.items in
    let shown = calls_then a b (Served (Kernel c.args.command.now)) r log.list.others.items c.reserve.new.self.others.items log.list.kept.items c.reserve.new.self.kept.items told c.reserve.ensures.others c.reserve.ensures.kept c.self.invariant.1 in
    let items : now ≡ calls ++ call ∷ [] = c.accept_told.ensures.calls ∙ ap (λ (l : List Call). l ++ call ∷ []) shown in (
      told_kept g.L.Site.is_ring g.L.Site.parcels g.L.Ledger.parts a b calls now log.book.total c.accept_told.new.self.book.total log.seat c.accept_told.new.self.seat call
          g.L.Site.stays c.self.invariant.0 told (executed_accepted c.in-Ok.executed (last_entry b.history)) c.entries-at.ensures (omega (arith, longer, c.entries-at.ensures, c.entries-end.ensures)) items c.accept_told.ensures.counted.0 c.accept_told.ensures.shown,
      subst (λ (n : ℕ). AllWithin n (length c.accept_told.new.self.list.others.items) c.accept_told.new.self.list.kept.items) c.entries-end.ensures c.accept_told.ensures.within,
    )

pub returns : goal.returns
returns g c =
    let a = c.self.inside.kernel in
    let b = c.execute.new.kernel in
    let log = c.self.inside.log in
    let told = c.in-Ok.ensures.told in
    let command : Command = Kernel c.args.command.now in
    let r : Reply = reply_of (Ok c.in-Ok.executed) (last_entry b.history) in
    let longer = told_longer a b (Served command) r told in
    let more : ℕ = c.entries-end.result - c.entries-at.result in
    let call : Call = told_call c.args.command.now c.in-Ok.executed (last_entry b.history) c.entries-at.result c.entries-end.result in
    let calls : List Call = calls_kept a.history log.list.others.items log.list.kept.items in
    let now : List Call = calls_kept b.history c.accept_told.new.self.list.others.items c.accept_told.new.self.list.kept.items in
    let shown = calls_then a b (Served command) r log.list.others.items c.reserve.new.self.others.items log.list.kept.items c.reserve.new.self.kept.items told c.reserve.ensures.others c.reserve.ensures.kept c.self.invariant.1 in
    let items : now ≡ calls ++ call ∷ [] = c.accept_told.ensures.calls ∙ ap (λ (l : List Call). l ++ call ∷ []) shown in
    let after : EnclaveOf = enclave_of b now c.accept_told.new.self.book.total c.accept_told.new.self.seat in
    let receipt : c.executed.result ≡ record { at = c.entries-at.result; entries = more; reply = r } = c.executed.ensures ∙ ap (λ (e : Entry). record { at = c.entries-at.result; entries = more; reply = reply_of (Ok c.in-Ok.executed) e }) c.last.ensures in
    subst (λ (x : Receipt). Serves g.L.Site.parcels command c.args.self.now c.args.share.now x after c.accept_told.new.share) (sym receipt)
    (subst (λ (e : EnclaveOf). Serves g.L.Site.parcels command e c.args.share.now (record { at = c.entries-at.result; entries = more; reply = r }) after c.accept_told.new.share) c.self.view_is
    (serves_accepted g.L.Site.parcels a b command r calls now log.book.total c.accept_told.new.self.book.total c.args.share.now c.accept_told.new.share c.entries-at.result more log.seat c.accept_told.new.self.seat
    c.self.invariant.0.capacity told (executed_accepted c.in-Ok.executed (last_entry b.history)) c.entries-at.ensures (omega (arith, longer, c.entries-at.ensures, c.entries-end.ensures)) items c.accept_told.ensures.counted.0 c.accept_told.ensures.counted.1))
