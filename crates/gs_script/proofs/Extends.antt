-- What a list is once it was emptied and took what an iterator gives.
use Rattle.std.proofs.Common.{◌≡◌, ap, ◌∙◌, List, map, Option, Result, OnOk, MatchResult}
use Rattle.std.specs.Iterator.{Yields, Drains}
use Rattle.std.proofs.lemmas.Iterator.{YieldsList}
use Rattle.std.proofs.lemmas.Iterator.Adapters.{fact_from_extend}
use Rattle.std.proofs.lemmas.Iterator.Consumers.{YieldsList-at}

pub map_from_extend : {S A B E : Type 0} {steps : S → Option A → S → Type 0} {v : A → B} {s : S} {all : List B} {P : List A → Type 0} (w : List A) (r : Result (Unit {0}) E)
    → ((it : S) × (xs : List A) × (it ≡ s) × P xs × MatchResult r (λ _. Drains steps it xs) (λ _. (t : S) × Yields steps it xs t))
    → ((xs : List A) → P xs → w ≡ xs)
    → YieldsList steps v s all
    → OnOk r (map v w ≡ all)
map_from_extend {v = v} w r ran is road = fact_from_extend v r ran (λ it same. YieldsList-at same road) (λ xs e p. ap (map v) (is xs p) ∙ e)
