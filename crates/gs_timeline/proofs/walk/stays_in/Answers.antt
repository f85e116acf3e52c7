use Rattle.std.proofs.Common.{◌≡◌, ◌+◌, ◌<◌, ◌++◌, ℕ, Some, refl, List, sym, subst, ap, ◌∙◌, get_or, length, take, drop, slice_get, arith}
use Rattle.std.specs.Option.{option_map}
use Rattle.std.proofs.lemmas.List.{get_or_default, length-replicate}
use Rattle.gs_journal.specs.declared.entry.Entry.{Entry}
use Rattle.gs_journal.specs.declared.entry.Entry.TheVariants.{Torn}
use Rattle.gs_timeline.specs.Homes.{AreHome}
use Rattle.gs_timeline.specs.Lanes.{LaneOf, each_then, lane_then, left, vacant}
use Rattle.gs_timeline.specs.Stays.{stays}
use Rattle.gs_timeline.proofs.Housed.{vacant_home}
use Rattle.gs_timeline.proofs.Walked.{AreLanes, in_place, lanes_ended, lanes_more, lanes_none, length_each}
use Rattle.gs_timeline.proofs.walk.stays_in.Goals as goal

-- what stands in the place of all lanes, once each has changed
changed : (f : ℕ → LaneOf → LaneOf) (n : ℕ) (xs ys seen : List LaneOf) → seen ≡ xs → length seen ≡ n → ys ≡ each_then f 0 seen → take n (ys ++ drop (length ys) xs) ≡ each_then f 0 xs
changed f n xs ys seen value len is =
    let same : ys ≡ each_then f 0 xs = is ∙ ap (each_then f 0) value in
    in_place n ys xs (ap length same ∙ (length_each f 0 xs ∙ (sym (ap length value) ∙ len))) ∙ same

-- and that is what the slice was left as
in_turn : (f : ℕ → LaneOf → LaneOf) (n : ℕ) (xs ys seen : List LaneOf) → seen ≡ xs → length seen ≡ n → ys ≡ each_then f 0 seen → ys ≡ take n (ys ++ drop (length ys) xs)
in_turn f n xs ys seen value len is = is ∙ (ap (each_then f 0) value ∙ sym (changed f n xs ys seen value len is))

pub loop-place-init : goal.loop-place-init
loop-place-init c = (
  subst (AreLanes c.args.journal.now.entries 0 0) (sym c.in_ok-lanes.ensures) (lanes_none c.args.journal.now.entries c.args.cpus 0),
  ap length c.in_ok-lanes.ensures ∙ length-replicate c.args.cpus vacant,
  λ f. subst (AreHome c.new-homes.result.cpus.items 0) (sym c.in_ok-lanes.ensures) (vacant_home c.new-homes.result.cpus.items c.args.cpus 0),
)

pub hear_at-requires-clause-home : goal.hear_at-requires-clause-home
hear_at-requires-clause-home c = λ f. subst (AreHome c.loop-place.homes.cpus.items 0) (sym c.as_mut_slice.ensures.value) (c.loop-place.invariant.2 f)

pub loop-place-preserved : goal.loop-place-preserved
loop-place-preserved c =
    let n = c.loop-place.place in
    let lt : n < length c.args.journal.now.entries = omega (arith, c.loop-place-test.true, c.len-place-end.ensures.value) in
    let x : Entry = get_or c.args.journal.now.entries n Torn in
    let xs = c.loop-place.lanes.items in
    let s = c.as_mut_slice.ensures in
    let whole = changed (lane_then n x) c.loop-place.lanes.len xs c.hear_at.new.lanes c.as_mut_slice.result.now s.value s.len c.in_ok-hear_at.ensures.lanes in (
      subst (AreLanes c.args.journal.now.entries (n + 1) 0) (sym whole) (lanes_more c.args.journal.now.entries n x lt (get_or_default c.args.journal.now.entries n Torn x lt) 0 xs c.loop-place.invariant.0),
      ap length whole ∙ (length_each (lane_then n x) 0 xs ∙ c.loop-place.invariant.1),
      λ f. subst (AreHome c.hear_at.new.homes.cpus.items 0) (in_turn (lane_then n x) c.loop-place.lanes.len xs c.hear_at.new.lanes c.as_mut_slice.result.now s.value s.len c.in_ok-hear_at.ensures.lanes) (c.in_ok-hear_at.ensures.home f),
    )

pub returns-clause-stays : goal.returns-clause-stays
returns-clause-stays c = λ d lt.
    let h = c.args.journal.now.entries in
    let xs = c.loop-place.lanes.items in
    let s = c.as_mut_slice-2.ensures in
    let whole = changed (λ e. left e (length h)) c.loop-place.lanes.len xs c.end_each.new.lanes c.as_mut_slice-2.result.now s.value s.len (c.in_ok-end_each.ensures ∙ ap (λ (e : ℕ). each_then (λ (k : ℕ). left k e) 0 c.as_mut_slice-2.result.now) c.len-end.ensures.value) in
    let all : c.loop-place.place ≡ length h = omega (arith, c.loop-place-test.false, c.loop-place.auto.place-end, c.len-place-end.ensures.value) in
    ap (λ (ls : List LaneOf). option_map (λ (l : LaneOf). l.ended) (slice_get ls d)) whole
    ∙ lanes_ended h (length h) 0 xs refl (subst (λ (m : ℕ). AreLanes h m 0 xs) all c.loop-place.invariant.0) d (omega (arith, lt, c.loop-place.invariant.1))
    ∙ ap (λ (e : ℕ). Some (stays h e)) (omega arith)
