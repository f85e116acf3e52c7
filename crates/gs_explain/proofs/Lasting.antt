-- The last transaction for each CPU, one more transaction marked.
use Rattle.std.proofs.Common.{◌≡◌, ◌==◌, ◌∙◌, ◌&&◌, ap, sym, subst, ℕ, ◌+◌, ◌<◌, ◌≤◌, true, refl, Option, Some, List, [], cond, get_or, length, take}
use Rattle.std.proofs.lemmas.List.{take_all}
use Rattle.gs_core.specs.declared.transaction.Transaction.{Transaction}
use Rattle.gs_reasons.specs.Marks.{mark_at, place_then}
use Rattle.gs_reasons.proofs.Laws.{and_true, place_more, place_nil, place_within, test_eq}
use Rattle.gs_explain.specs.Marked.{IsMarked}

-- the place of a mark that is set if a number is this one
set_or : (a k n : ℕ) (o : Option ℕ) → place_then ((k == a) && true) n o ≡ cond (a == k) (Some n) o
set_or a k n o = ap (λ b. cond b (Some n) o) (and_true (k == a) ∙ sym (test_eq k a (k == a) refl))

pub one_marked : (old new : List (Option ℕ)) (xs : List Transaction) (n : ℕ) (d : Transaction) → n < length xs → ((k : ℕ) → mark_at new k ≡ place_then ((k == (get_or xs n d).cpu) && true) n (mark_at old k)) → IsMarked old (take n xs) → IsMarked new (take (n + 1) xs)
one_marked old new xs n d lt sets marked =
    λ k. sets k ∙ set_or (get_or xs n d).cpu k n (mark_at old k) ∙ ap (λ o. cond ((get_or xs n d).cpu == k) (Some n) o) (marked k) ∙ sym (place_more (λ (x : Transaction). x.cpu == k) xs n d lt)

pub all_marked : (marks : List (Option ℕ)) (xs : List Transaction) (n : ℕ) → length xs ≤ n → IsMarked marks (take n xs) → IsMarked marks xs
all_marked marks xs n le marked = subst (IsMarked marks) (take_all n xs le) marked

-- nothing was stamped, and nothing is marked
pub none_marked : (marks : List (Option ℕ)) → marks ≡ [] → IsMarked marks []
none_marked marks e = λ k. ap (λ (l : List (Option ℕ)). mark_at l k) e ∙ sym (place_nil (λ (x : Transaction). x.cpu == k))

-- a place that is marked is one of a transaction
pub marked_within : (marks : List (Option ℕ)) (xs : List Transaction) (k i : ℕ) → IsMarked marks xs → mark_at marks k ≡ Some i → i < length xs
marked_within marks xs k i marked e = place_within (λ (x : Transaction). x.cpu == k) xs i (sym (marked k) ∙ e)
