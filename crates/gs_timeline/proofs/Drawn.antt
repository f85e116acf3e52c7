-- What is drawn of stays, CPU by CPU.
use Rattle.std.proofs.Common.{◌≡◌, ◌<◌, ◌∙◌, ◌++◌, ℕ, suc, ◌+◌, List, Option, Some, add-one, ap, refl, subst, sym, arith, flat_map, get_or, length, map, slice_get}
use Rattle.std.specs.Option.{option_map}
use Rattle.std.proofs.lemmas.Grind.{flat_map-append}
use Rattle.std.proofs.lemmas.Option.{same_Some, slice_get-get_or}
use Rattle.gs_journal.specs.History.{History}
use Rattle.gs_layout.specs.declared.facts.Class.{Class}
use Rattle.gs_timeline.specs.Bars.{bars, pieces_of}
use Rattle.gs_timeline.specs.Lanes.{LaneOf}
use Rattle.gs_timeline.specs.Lives.{born, class_among, creations}
use Rattle.gs_timeline.specs.Counts.{decisions}
use Rattle.gs_timeline.specs.Places.{Scale}
use Rattle.gs_timeline.specs.Sent.{Sends}
use Rattle.gs_timeline.specs.declared.notes.Mark.{Mark}
use Rattle.gs_timeline.specs.declared.lives.Life.{Life}
use Rattle.gs_timeline.specs.Stays.{all_stays, stays}
use Rattle.gs_timeline.specs.declared.stay.Stay.{Stay}
use Rattle.gs_timeline.proofs.Sent.{sends_none, sends_then}

pub rows_none : (f : Stay → List (List ℕ)) (h : History) (a : Option (List ℕ)) (text : List ℕ) → Sends (flat_map f (all_stays h 0)) a a text text
unfolding all_stays
rows_none f h a text = sends_none a text text refl

rows_more : (f : Stay → List (List ℕ)) (h : History) (n : ℕ) (a b c : Option (List ℕ)) (old now new : List ℕ) → Sends (flat_map f (all_stays h n)) a b old now → Sends (flat_map f (stays h n)) b c now new → Sends (flat_map f (all_stays h (suc n))) a c old new
unfolding all_stays
rows_more f h n a b c old now new first row = subst (λ ps. Sends ps a c old new) (sym (flat_map-append f (all_stays h n) (stays h n))) (sends_then (flat_map f (all_stays h n)) (flat_map f (stays h n)) a b c old now new first row)

pub rows_next : (f : Stay → List (List ℕ)) (h : History) (n : ℕ) (a b c : Option (List ℕ)) (old now new : List ℕ) → Sends (flat_map f (all_stays h n)) a b old now → Sends (flat_map f (stays h n)) b c now new → Sends (flat_map f (all_stays h (n + 1))) a c old new
rows_next f h n a b c old now new first row = subst (λ m. Sends (flat_map f (all_stays h m)) a c old new) (sym (add-one n)) (rows_more f h n a b c old now new first row)

-- the stays of a lane
pub lane_stays : (ls : List LaneOf) (i n : ℕ) (l : LaneOf) (ss : List Stay) → length ls ≡ n → i < n → l ≡ get_or ls i l → option_map (λ (k : LaneOf). k.ended) (slice_get ls i) ≡ Some ss → l.ended ≡ ss
lane_stays ls i n l ss count lt is at =
    let there = slice_get-get_or ls i l (omega (arith, count, lt)) in
    ap (λ (k : LaneOf). k.ended) is ∙ same_Some (get_or ls i l).ended ss (sym (ap (option_map (λ (k : LaneOf). k.ended)) there) ∙ at)

-- what is drawn by the lives of threads is drawn by their classes, below what is told of decisions
pub pieces_drawn : (v w : Scale) (told : List (List ℕ)) (ms : List Mark) (ls : List Life) (h : History) (cpus : ℕ) → v ≡ w → told ≡ decisions v ms → map born ls ≡ creations h
    → told ++ flat_map (pieces_of v (class_among (map born ls)) h) (all_stays h cpus) ≡ decisions w ms ++ bars w h cpus
pieces_drawn v w told ms ls h cpus scaled decided lived =
    ap (λ (ps : List (List ℕ)). ps ++ flat_map (pieces_of v (class_among (map born ls)) h) (all_stays h cpus)) decided
    ∙ (ap (λ (cs : List (ℕ × Class)). decisions v ms ++ flat_map (pieces_of v (class_among cs) h) (all_stays h cpus)) lived
    ∙ ap (λ (u : Scale). decisions u ms ++ bars u h cpus) scaled)
