use Rattle.std.proofs.Common.{◌≡◌, ℕ, ◌-◌, List, [], ◌∷◌, ◌++◌, ap, subst, ◌∙◌, arith}
use Rattle.gs_runner.specs.declared.call.Called.{Called}
use Rattle.gs_runner.specs.declared.call.Called.TheVariants.{Committed}
use Rattle.gs_runner.specs.declared.call.Call.{Call}
use Rattle.gs_runner.specs.Calls.{GoesOnBy, landed_slots}
use Rattle.gs_runner.specs.Enclaves.{EnclaveOf}
use Rattle.gs_runner.specs.Kept.{calls_kept}
use Rattle.gs_runner.proofs.Keeping.{calls_then, within_then}
use Rattle.gs_runner.proofs.Enclaving.{may_publish, same_call, told_kept, told_longer, told_on}
use Rattle.gs_runner.proofs.enclave.Enclave.commit.Goals as goal

pub overflow_sub-more : goal.overflow_sub-more
overflow_sub-more g c =
    let longer = told_longer c.self.inside.kernel c.try_commit.new.kernel (Committed (landed_slots c.args.mask 0 c.args.region.now)) c.in-Ok.commit.reply c.in-Ok.ensures.told in
    omega (arith, longer, c.entries-at.ensures, c.entries.ensures)

pub accept-requires-clause-rises : goal.accept-requires-clause-rises
accept-requires-clause-rises g c =
    may_publish c.self.inside.kernel c.try_commit.new.kernel (Committed (landed_slots c.args.mask 0 c.args.region.now)) c.in-Ok.commit.reply c.self.inside.log.seat c.in-Ok.ensures.told c.self.invariant.0.kept.shown

pub accept-requires-clause-within : goal.accept-requires-clause-within
accept-requires-clause-within g c =
    let list = c.self.inside.log.list in
    within_then c.self.inside.kernel c.try_commit.new.kernel (Committed (landed_slots c.args.mask 0 c.args.region.now)) c.in-Ok.commit.reply list.others.items c.reserve.new.self.others.items list.kept.items c.reserve.new.self.kept.items c.in-Ok.ensures.told c.reserve.ensures.others c.reserve.ensures.kept c.self.invariant.1

pub invariant_of-self-2 : goal.invariant_of-self-2
invariant_of-self-2 g c =
    let a = c.self.inside.kernel in
    let b = c.try_commit.new.kernel in
    let called : Called = Committed (landed_slots c.args.mask 0 c.args.region.now) in
    let told = c.in-Ok.ensures.told in
    let more : ℕ = c.entries.result - c.entries-at.result in
    let longer = told_longer a b called c.in-Ok.commit.reply told in
    let call : Call = record { called = called; at = c.entries-at.result; entries = more; reply = c.in-Ok.commit.reply } in
    let made : Committed c.new.result ≡ called = ap (λ xs. Committed xs) (c.new.ensures ∙ c.in-Ok.ensures.slots) in
    let list = c.self.inside.log.list in
    let calls : List Call = calls_kept a.history list.others.items list.kept.items in
    let now : List Call = calls_kept b.history c.accept.new.self.list.others.items c.accept.new.self.list.kept.items in
    let shown = calls_then a b called c.in-Ok.commit.reply list.others.items c.reserve.new.self.others.items list.kept.items c.reserve.new.self.kept.items told c.reserve.ensures.others c.reserve.ensures.kept c.self.invariant.1 in
    let items : now ≡ calls ++ call ∷ [] =
    c.accept.ensures.calls ∙ same_call (calls_kept b.history c.reserve.new.self.others.items c.reserve.new.self.kept.items) calls (Committed c.new.result) called c.entries-at.result more c.in-Ok.commit.again c.in-Ok.commit.reply shown made c.in-Ok.ensures.again in (
      told_kept g.L.Site.is_ring g.L.Site.parcels g.L.Ledger.parts a b calls now c.self.inside.log.book.total c.accept.new.self.book.total c.self.inside.log.seat c.accept.new.self.seat call
          g.L.Site.stays c.self.invariant.0 told c.in-Ok.ensures.done c.entries-at.ensures (omega (arith, longer, c.entries-at.ensures, c.entries.ensures)) items c.accept.ensures.counted.0 c.accept.ensures.shown,
      c.accept.ensures.within,
    )

pub returns-clause-entries : goal.returns-clause-entries
returns-clause-entries g c =
    let a = c.self.inside.kernel in
    let b = c.try_commit.new.kernel in
    let called : Called = Committed (landed_slots c.args.mask 0 c.args.region.now) in
    let more : ℕ = c.entries.result - c.entries-at.result in
    let longer = told_longer a b called c.in-Ok.commit.reply c.in-Ok.ensures.told in
    subst (λ (e : EnclaveOf). GoesOnBy more e.history b.history) c.self.view_is (told_on a b called c.in-Ok.commit.reply c.entries-at.result more c.in-Ok.ensures.told c.entries-at.ensures (omega (arith, longer, c.entries-at.ensures, c.entries.ensures)))

pub returns-clause-accepted : goal.returns-clause-accepted
returns-clause-accepted g c = λ _.
    let a = c.self.inside.kernel in
    let b = c.try_commit.new.kernel in
    let called : Called = Committed (landed_slots c.args.mask 0 c.args.region.now) in
    let more : ℕ = c.entries.result - c.entries-at.result in
    let call : Call = record { called = called; at = c.entries-at.result; entries = more; reply = c.in-Ok.commit.reply } in
    let made : Committed c.new.result ≡ called = ap (λ xs. Committed xs) (c.new.ensures ∙ c.in-Ok.ensures.slots) in
    let list = c.self.inside.log.list in
    let calls : List Call = calls_kept a.history list.others.items list.kept.items in
    let shown = calls_then a b called c.in-Ok.commit.reply list.others.items c.reserve.new.self.others.items list.kept.items c.reserve.new.self.kept.items c.in-Ok.ensures.told c.reserve.ensures.others c.reserve.ensures.kept c.self.invariant.1 in
    c.accept.ensures.calls
    ∙ (same_call (calls_kept b.history c.reserve.new.self.others.items c.reserve.new.self.kept.items) calls (Committed c.new.result) called c.entries-at.result more c.in-Ok.commit.again c.in-Ok.commit.reply shown made c.in-Ok.ensures.again
    ∙ ap (λ (e : EnclaveOf). e.calls ++ call ∷ []) c.self.view_is)
