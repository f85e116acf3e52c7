use Rattle.std.proofs.Common.{◌≡◌, ◌∷◌, [], List, length, ap, subst, arith}
use Rattle.std.specs.List.Sorted.{IsNonDecreasingBy}
use Rattle.std.proofs.lemmas.List.Elements.{All-rest}
use Rattle.gs_runner.proofs.Places.{none_exactly, rest_rises}
use Rattle.gs_runner.proofs.Standings.{answered_later, stands_exactly}
use Rattle.gs_runner.specs.declared.kept.Kept.{Kept}
use Rattle.gs_runner.specs.Kept.{IsWithin, call_kept, calls_kept, kept_at}
use Rattle.gs_runner.proofs.calls.+stands.Goals as goal

pub stands-requires : goal.stands-requires
stands-requires t c =
    let whole : c.args.kept.now ≡ c.in-Some.first.now ∷ c.in-Some.rest.now = c.in-Some.ensures.cases.0 in (
      omega (arith, ap length whole),
      (
        All-rest (IsWithin (length c.args.journal.now.entries) (length c.args.others.now)) c.in-Some.first.now c.in-Some.rest.now c.args.kept.now whole c.requires.within,
        (
          answered_later c.args.journal.now.entries c.args.others.now c.in-Some.first.now c.in-Some.rest.now c.args.kept.now whole c.requires.answered,
          rest_rises c.args.others.now (c.in-Some.first.now ∷ []) c.in-Some.rest.now (subst (λ (l : List Kept). IsNonDecreasingBy (kept_at c.args.others.now) l) whole c.requires.order),
        ),
      ),
    )

pub returns-then-place-receipt : goal.returns-then-place-receipt
returns-then-place-receipt t c =
    let whole : c.args.kept.now ≡ c.in-Some.first.now ∷ c.in-Some.rest.now = c.in-Some.ensures.cases.0 in
    stands_exactly (call_kept c.args.journal.now.entries c.args.others.now c.in-Some.first.now) (calls_kept c.args.journal.now.entries c.args.others.now c.in-Some.rest.now) (calls_kept c.args.journal.now.entries c.args.others.now c.args.kept.now)
    c.args.command.now c.args.receipt.now c.is_call.result c.stands.result (ap (calls_kept c.args.journal.now.entries c.args.others.now) whole) c.is_call.ensures c.if-is_call.false c.stands.ensures

pub returns-else-place-receipt : goal.returns-else-place-receipt
returns-else-place-receipt t c =
    let whole : c.args.kept.now ≡ c.in-Some.first.now ∷ c.in-Some.rest.now = c.in-Some.ensures.cases.0 in
    none_exactly c.args.journal.now.entries c.args.others.now c.in-Some.first.now c.in-Some.rest.now c.args.kept.now c.args.command.now c.args.receipt.now c.place.result whole c.requires.order c.place.ensures (omega (arith, c.if-place-receipt.false))
