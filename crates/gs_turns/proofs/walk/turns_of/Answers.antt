use Rattle.std.proofs.Common.{◌≡◌, ◌∙◌, ◌++◌, ◌∷◌, ◌<◌, ◌≤◌, ap, ap₂, sym, [], List, length, get_or, arith}
use Rattle.std.proofs.lemmas.List.{get_or_default, map_more}
use Rattle.std.proofs.lemmas.Option.{get_or_from_slice_get}
use Rattle.gs_timeline.specs.declared.stay.Stay.{Stay}
use Rattle.gs_turns.specs.declared.stance.Known.{Known}
use Rattle.gs_turns.specs.declared.turn.Turn.{Turn}
use Rattle.gs_turns.specs.Knowing.{known_in}
use Rattle.gs_turns.specs.Ticked.{tick_places}
use Rattle.gs_turns.specs.Turns.{turn_of}
use Rattle.gs_turns.proofs.Knowing.{known_none}
use Rattle.gs_turns.proofs.walk.turns_of.Goals as goal

pub loop-stay-init : goal.loop-stay-init
loop-stay-init c = record {
  known = λ t. ap (λ (ks : List Known). known_in ks t) c.new-threads.ensures ∙ sym (known_none c.args.journal.now.entries t);
  turns = c.in_ok-turns.ensures.items;
  within = omega arith;
  behind = λ i d le lt. omega arith;
}

-- the place of the loop
abbrev first : Stay
first = record { cpu = 0; tid = 0; from = 0; to = 0 }

pub turn_of-requires-clause-ticks : goal.turn_of-requires-clause-ticks
turn_of-requires-clause-ticks c =
    let s : Stay = get_or c.args.order.now c.loop-stay.stay-index first in
    let within : s.cpu < length c.args.ticks.now = (c.requires.within c.loop-stay.stay-index first c.loop-stay-test.true).1 in
    c.index-ticks-stay.is ∙ get_or_from_slice_get c.args.ticks.now s.cpu (tick_places c.args.journal.now.entries s.cpu (length c.args.journal.now.entries)) c.index-ticks-stay.result (c.requires.ticks s.cpu within)

pub loop-stay-preserved : goal.loop-stay-preserved
loop-stay-preserved c =
    let h = c.args.journal.now.entries in
    let s : Stay = get_or c.args.order.now c.loop-stay.stay-index first in
    record {
      known = c.in_ok-hear_up_to.ensures;
      turns =
          c.in_ok-push.ensures.items
          ∙ (ap₂ (λ (xs : List Turn) (t : Turn). xs ++ t ∷ []) c.loop-stay.invariant.turns c.turn_of.ensures
          ∙ sym (map_more (turn_of h) c.args.order.now c.loop-stay.stay-index first c.loop-stay-test.true));
      within = (c.requires.within c.loop-stay.stay-index first c.loop-stay-test.true).0;
      behind =
          λ i d le lt.
          let up : (get_or c.args.order.now c.loop-stay.stay-index d).from ≤ (get_or c.args.order.now i d).from = c.requires.rising c.loop-stay.stay-index i d (omega (arith, le)) lt in
          let same : (get_or c.args.order.now c.loop-stay.stay-index d).from ≡ s.from = ap (λ (x : Stay). x.from) (get_or_default c.args.order.now c.loop-stay.stay-index d first c.loop-stay-test.true) in
          omega (arith, up, same);
    }
