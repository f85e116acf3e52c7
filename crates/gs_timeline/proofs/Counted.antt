-- How a count of what is of a kind goes on.
use Rattle.std.proofs.Common.{◌≡◌, ◌∙◌, ◌∷◌, [], ap, sym, append-nil, arith, map, ◌<◌, ◌+◌, Bool, true, false, List, ◌++◌, flat_map, get_or, length, take, ℕ, if◌then◌else◌}
use Rattle.std.specs.List.{count_by, range_with_len}
use Rattle.std.proofs.lemmas.Grind.{flat_map-append}
use Rattle.std.proofs.lemmas.List.{map-id}
use Rattle.std.proofs.lemmas.List.FromFn.{map-range_with_len_more}
use Rattle.gs_layout.specs.declared.outcome.TheConstants.{OUTCOMES}
use Rattle.gs_timeline.specs.Bars.{scale}
use Rattle.gs_timeline.specs.Counts.{count_of, decisions, told_of}
use Rattle.gs_timeline.specs.Places.{Scale}
use Rattle.gs_timeline.specs.declared.counts.Which.TheVariants.{Failed, Numbered, Placed, Stamped}
use Rattle.gs_timeline.specs.declared.notes.Mark.{Mark}
use Rattle.gs_timeline.specs.declared.part.Part.{Part}
use Rattle.std.proofs.lemmas.List.Sums.{count_by_more_no, count_by_more_yes}

pub count_more : {X : Type 0} (q : X → Bool) (xs : List X) (i : ℕ) (d : X) (b : Bool) → q (get_or xs i d) ≡ b → i < length xs → count_by q (take (i + 1) xs) ≡ (if b then count_by q (take i xs) + 1 else count_by q (take i xs))
count_more q xs i d true e h = count_by_more_yes q xs i d h e
count_more q xs i d false e h = count_by_more_no q xs i d h e

-- what each of some numbers gives, one number more
pub numbers_more : {X : Type 0} (f : ℕ → List X) (n : ℕ) → flat_map f (range_with_len 0 n) ++ f n ≡ flat_map f (range_with_len 0 (n + 1))
numbers_more f n =
    let more : range_with_len 0 (n + 1) ≡ range_with_len 0 n ++ n ∷ [] = sym (map-id (range_with_len 0 (n + 1))) ∙ (map-range_with_len_more (λ (k : ℕ). k) 0 n n (omega arith) ∙ ap (λ ns. ns ++ n ∷ []) (map-id (range_with_len 0 n))) in
    sym (ap (flat_map f) more ∙ (flat_map-append f (range_with_len 0 n) (n ∷ []) ∙ ap (λ xs. flat_map f (range_with_len 0 n) ++ xs) (append-nil (f n))))

-- what is told by counts that were made is told of the decisions that a picture shows
pub same_told : (v : Scale) (p : Part) (ms : List Mark) (stamped placed failed : ℕ) (came : List ℕ) → scale p ≡ v → stamped ≡ count_of p Stamped ms → placed ≡ count_of p Placed ms → failed ≡ count_of p Failed ms
    → came ≡ map (λ n. count_of p (Numbered n) ms) (range_with_len 0 OUTCOMES) → told_of stamped placed failed (λ n. get_or came n 0) ≡ decisions v ms
same_told v p ms stamped placed failed came e f g h i =
    ap (λ x. told_of x placed failed (λ n. get_or came n 0)) f
    ∙ (ap (λ x. told_of (count_of p Stamped ms) x failed (λ n. get_or came n 0)) g
    ∙ (ap (λ x. told_of (count_of p Stamped ms) (count_of p Placed ms) x (λ n. get_or came n 0)) h
    ∙ (ap (λ xs. told_of (count_of p Stamped ms) (count_of p Placed ms) (count_of p Failed ms) (λ n. get_or xs n 0)) i
    ∙ ap (λ w. decisions w ms) e)))
