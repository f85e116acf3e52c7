use Rattle.std.proofs.Common.{◌≡◌, ◌∙◌, ◌<◌, ap, sym, ℕ, Some, List, [], length, replicate, slice_get, arith}
use Rattle.std.proofs.lemmas.List.{length-replicate, get_or-replicate}
use Rattle.std.proofs.lemmas.Option.{slice_get-get_or}
use Rattle.gs_turns.specs.Ticked.{tick_places}
use Rattle.gs_turns.proofs.Ticking.{places_more, places_none}
use Rattle.gs_turns.proofs.ticks.ticks_of.Goals as goal

none_of : (n c : ℕ) (all : List (List ℕ)) → all ≡ replicate n [] → c < n → slice_get all c ≡ Some []
none_of n c all is lt =
    ap (λ (ls : List (List ℕ)). slice_get ls c) is
    ∙ (slice_get-get_or (replicate n []) c [] (let len : length {A = List ℕ} (replicate n []) ≡ n = length-replicate n [] in omega (arith, len, lt)) ∙ ap Some (get_or-replicate n c [] [] lt))

pub loop-place-init : goal.loop-place-init
loop-place-init c = record {
  count = ap length c.in_ok-all.ensures ∙ length-replicate c.args.cpus [];
  ticks = λ d lt. none_of c.args.cpus d c.in_ok-all.all.items c.in_ok-all.ensures lt ∙ ap Some (sym (places_none c.args.journal.now.entries d));
}

pub loop-place-preserved : goal.loop-place-preserved
loop-place-preserved c = record {
  count = c.in_ok-hear_tick.ensures.count ∙ c.loop-place.invariant.count;
  ticks =
      λ d lt.
      c.in_ok-hear_tick.ensures.each d (tick_places c.args.journal.now.entries d c.loop-place.place) (c.loop-place.invariant.ticks d lt)
      ∙ ap Some (sym (places_more c.args.journal.now.entries d c.loop-place.place c.entry.result (omega (arith, c.loop-place-test.true, c.len-place-end.ensures.value)) c.entry.ensures.item));
}
