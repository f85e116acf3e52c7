-- What is counted of replies, one reply longer.
use Rattle.std.proofs.Common.{◌≡◌, ◌∙◌, refl, ℕ, ◌+◌, List, [], ◌∷◌, ◌++◌, length, arith, sum_by, count_by, length-append, Bool, true, false, cond, ◌||◌}
use Rattle.std.specs.List.{list_any}
use Rattle.std.proofs.lemmas.List.Folds.{list_any-append}
use Rattle.std.proofs.lemmas.Grind.{common_steps}
use Rattle.gs_replies.specs.declared.reply.Reply.{Reply}
use Rattle.gs_report.specs.Counts.{counts_more, counts_of, is_refusal, placed_in, tears_down, unplaced_in}

sums : (f : Reply → ℕ) (rs : List Reply) (r : Reply) → sum_by f (rs ++ r ∷ []) ≡ sum_by f rs + f r
sums f rs r = grind (arith, common_steps)

or_last : (a b : Bool) → (a || (b || false)) ≡ (a || b)
or_last true b = refl
or_last false true = refl
or_last false false = refl

pub counts_one_more : (rs : List Reply) (r : Reply) → counts_of (rs ++ r ∷ []) ≡ counts_more (counts_of rs) r
counts_one_more rs r =
    let events : length (rs ++ r ∷ []) ≡ length rs + 1 = length-append rs (r ∷ []) in
    let placed = sums placed_in rs r in
    let refused : count_by is_refusal (rs ++ r ∷ []) ≡ count_by is_refusal rs + cond (is_refusal r) 1 0 = sums (λ x. cond (is_refusal x) 1 0) rs r in
    let torn = list_any-append tears_down rs (r ∷ []) ∙ or_last (list_any tears_down rs) (tears_down r) in
    let unplaced = sums unplaced_in rs r in
    λ i. record { events = events i; placed = placed i; refused = refused i; torn = torn i; unplaced = unplaced i }
