use Rattle.std.proofs.Common.{◌≡◌, ℕ, ◌-◌, List, [], ◌∷◌, ◌++◌, refl, ap, subst, ◌∙◌, arith}
use Rattle.gs_replies.specs.declared.reply.Reply.TheVariants.{Refused}
use Rattle.gs_runner.specs.declared.call.Called.TheVariants.{Served}
use Rattle.gs_runner.specs.declared.call.Call.{Call}
use Rattle.gs_runner.specs.Enclaves.{EnclaveOf, enclave_of}
use Rattle.gs_runner.specs.Kept.{calls_kept}
use Rattle.gs_runner.specs.Serving.{Serves}
use Rattle.gs_runner.proofs.Enclaving.{accepted, may_publish, same_call, serves_accepted, serves_refused, told_kept, told_longer}
use Rattle.gs_runner.proofs.Keeping.{calls_then, roomier, within_then}
use Rattle.gs_runner.proofs.enclave.Enclave.serve_other.Goals as goal

pub returns-then-is_err-clause-serves : goal.returns-then-is_err-clause-serves
returns-then-is_err-clause-serves g c =
    let a = c.self.inside.kernel in
    let log = c.self.inside.log in
    let before : EnclaveOf = enclave_of a (calls_kept a.history log.list.others.items log.list.kept.items) log.book.total log.seat in
    let after : EnclaveOf = enclave_of a (calls_kept a.history c.reserve.new.self.others.items c.reserve.new.self.kept.items) log.book.total log.seat in
    let same : after ≡ before = roomier a log.list.others.items c.reserve.new.self.others.items log.list.kept.items c.reserve.new.self.kept.items log.book.total log.seat c.reserve.ensures.others c.reserve.ensures.kept in
    subst (λ (e : EnclaveOf). Serves g.L.Site.parcels c.args.command.now e c.args.share.now c.refused.result after c.args.share.now) c.self.view_is
    (serves_refused g.L.Site.parcels c.args.command.now before after c.args.share.now c.refused.result c.short_refusal.result
    (c.refused.ensures ∙ ap (λ (n : ℕ). record { at = n; entries = 0; reply = Refused c.short_refusal.result }) c.entries-at.ensures) same (c.short_refusal.ensures g.L.Site.parcels))

pub overflow_sub-more : goal.overflow_sub-more
overflow_sub-more g c =
    let longer = told_longer c.self.inside.kernel c.carry_out-reply.new.kernel (Served c.args.command.now) c.carry_out-reply.result.0 c.carry_out-reply.ensures.told in
    omega (arith, longer, c.entries-at.ensures, c.entries.ensures)

pub accept-requires-clause-within : goal.accept-requires-clause-within
accept-requires-clause-within g c =
    let list = c.self.inside.log.list in
    within_then c.self.inside.kernel c.carry_out-reply.new.kernel (Served c.args.command.now) c.carry_out-reply.result.0 list.others.items c.reserve.new.self.others.items list.kept.items c.reserve.new.self.kept.items c.carry_out-reply.ensures.told c.reserve.ensures.others c.reserve.ensures.kept c.self.invariant.1

pub accept-requires-clause-rises : goal.accept-requires-clause-rises
accept-requires-clause-rises g c = may_publish c.self.inside.kernel c.carry_out-reply.new.kernel (Served c.args.command.now) c.carry_out-reply.result.0 c.self.inside.log.seat c.carry_out-reply.ensures.told c.self.invariant.0.kept.shown

pub invariant_of-self-2 : goal.invariant_of-self-2
invariant_of-self-2 g c =
    let a = c.self.inside.kernel in
    let b = c.carry_out-reply.new.kernel in
    let list = c.self.inside.log.list in
    let told = c.carry_out-reply.ensures.told in
    let more : ℕ = c.entries.result - c.entries-at.result in
    let call : Call = record { called = Served c.args.command.now; at = c.entries-at.result; entries = more; reply = c.carry_out-reply.result.0 } in
    let longer = told_longer a b (Served c.args.command.now) c.carry_out-reply.result.0 told in
    let calls : List Call = calls_kept a.history list.others.items list.kept.items in
    let now : List Call = calls_kept b.history c.accept.new.self.list.others.items c.accept.new.self.list.kept.items in
    let shown = calls_then a b (Served c.args.command.now) c.carry_out-reply.result.0 list.others.items c.reserve.new.self.others.items list.kept.items c.reserve.new.self.kept.items told c.reserve.ensures.others c.reserve.ensures.kept c.self.invariant.1 in
    let items : now ≡ calls ++ call ∷ [] =
    c.accept.ensures.calls ∙ same_call (calls_kept b.history c.reserve.new.self.others.items c.reserve.new.self.kept.items) calls (Served c.args.command.now) (Served c.args.command.now) c.entries-at.result more c.carry_out-reply.result.1 c.carry_out-reply.result.0 shown refl c.carry_out-reply.ensures.same in (
      told_kept g.L.Site.is_ring g.L.Site.parcels g.L.Ledger.parts a b calls now c.self.inside.log.book.total c.accept.new.self.book.total c.self.inside.log.seat c.accept.new.self.seat call
          g.L.Site.stays c.self.invariant.0 told (accepted c.carry_out-reply.result.0 c.in_default.not-Refused) c.entries-at.ensures (omega (arith, longer, c.entries-at.ensures, c.entries.ensures)) items c.accept.ensures.counted.0 c.accept.ensures.shown,
      c.accept.ensures.within,
    )

pub returns-clause-serves : goal.returns-clause-serves
returns-clause-serves g c =
    let a = c.self.inside.kernel in
    let b = c.carry_out-reply.new.kernel in
    let log = c.self.inside.log in
    let told = c.carry_out-reply.ensures.told in
    let more : ℕ = c.entries.result - c.entries-at.result in
    let r = c.carry_out-reply.result.0 in
    let call : Call = record { called = Served c.args.command.now; at = c.entries-at.result; entries = more; reply = r } in
    let longer = told_longer a b (Served c.args.command.now) r told in
    let calls : List Call = calls_kept a.history log.list.others.items log.list.kept.items in
    let now : List Call = calls_kept b.history c.accept.new.self.list.others.items c.accept.new.self.list.kept.items in
    let shown = calls_then a b (Served c.args.command.now) r log.list.others.items c.reserve.new.self.others.items log.list.kept.items c.reserve.new.self.kept.items told c.reserve.ensures.others c.reserve.ensures.kept c.self.invariant.1 in
    let items : now ≡ calls ++ call ∷ [] =
    c.accept.ensures.calls ∙ same_call (calls_kept b.history c.reserve.new.self.others.items c.reserve.new.self.kept.items) calls (Served c.args.command.now) (Served c.args.command.now) c.entries-at.result more c.carry_out-reply.result.1 r shown refl c.carry_out-reply.ensures.same in
    subst (λ (e : EnclaveOf). Serves g.L.Site.parcels c.args.command.now e c.args.share.now (record { at = c.entries-at.result; entries = more; reply = r }) (enclave_of b now c.accept.new.self.book.total c.accept.new.self.seat) c.accept.new.share) c.self.view_is
    (serves_accepted g.L.Site.parcels a b c.args.command.now r calls now log.book.total c.accept.new.self.book.total c.args.share.now c.accept.new.share c.entries-at.result more log.seat c.accept.new.self.seat
    c.self.invariant.0.capacity told (accepted r c.in_default.not-Refused) c.entries-at.ensures (omega (arith, longer, c.entries-at.ensures, c.entries.ensures)) items c.accept.ensures.counted.0 c.accept.ensures.counted.1)
