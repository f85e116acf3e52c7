use Rattle.std.proofs.Common.{◌≡◌, ◌∙◌, ap, sym, subst, ℕ, length, map}
use Rattle.std.specs.List.{All}
use Rattle.std.specs.List.Sorted.{IsNonDecreasingBy}
use Rattle.std.proofs.lemmas.List.Sorted.{All-permutation}
use Rattle.std.proofs.lemmas.Result.{IfOk-weaker}
use Rattle.gs_timeline.specs.declared.stay.Stay.{Stay}
use Rattle.gs_timeline.specs.Stays.{all_stays}
use Rattle.gs_turns.specs.Turns.{IsTurns, turn_of}
use Rattle.gs_turns.proofs.Ordering.{IsIn, all_in}
use Rattle.gs_turns.proofs.walk.turns.Goals as goal

pub turns_of-requires-clause-rising : goal.turns_of-requires-clause-rising
turns_of-requires-clause-rising c = subst (IsNonDecreasingBy (λ (s : Stay). s.from)) (sym c.deref-2.ensures.value) c.in_ok-order.ensures.rising

pub turns_of-requires-clause-within : goal.turns_of-requires-clause-within
turns_of-requires-clause-within c =
    let h = c.args.journal.now.entries in
    let n : length c.deref.result.now ≡ c.args.cpus = ap length c.deref.ensures.value ∙ c.in_ok-ticks.ensures.count in
    subst (λ (m : ℕ). All (IsIn (length h) m) c.deref-2.result.now) (sym n)
    (subst (All (IsIn (length h) c.args.cpus)) (sym c.deref-2.ensures.value)
    (All-permutation (IsIn (length h) c.args.cpus) (all_stays h c.args.cpus) c.in_ok-order.order.items c.in_ok-order.ensures.permutation (all_in h c.args.cpus)))

pub returns-clause-turns : goal.returns-clause-turns
returns-clause-turns c =
    let h = c.args.journal.now.entries in
    IfOk-weaker c.turns_of.result (λ told. told.turns.items ≡ map (turn_of h) c.deref-2.result.now) (λ told. IsTurns c.args.cpus h told.turns.items)
    (λ told is. record {
      order = c.in_ok-order.order.items;
      all = c.in_ok-order.ensures.permutation;
      rising = c.in_ok-order.ensures.rising;
      is = is ∙ ap (map (turn_of h)) c.deref-2.ensures.value;
    })
    c.turns_of.ensures.turns
