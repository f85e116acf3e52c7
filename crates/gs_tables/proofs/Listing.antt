-- What is written of CPUs, one more of them.
use Rattle.std.proofs.Common.{◌≡◌, ◌∙◌, ap, sym, ℕ, ◌+◌, ◌<◌, List, [], ◌∷◌, ◌++◌, append-nil, append_assoc, get_or, length, take, arith}
use Rattle.std.proofs.lemmas.List.{length-take-le, take_more}
use Rattle.gs_trace.specs.declared.form.Notation.{Notation}
use Rattle.gs_usage.specs.declared.usage.Usage.{Usage}
use Rattle.gs_tables.specs.Latency.{usage_shown, usages_shown}

usages_push : (n : Notation) (c : ℕ) (xs : List Usage) (x : Usage) → usages_shown n c (xs ++ x ∷ []) ≡ usages_shown n c xs ++ usage_shown n (c + length xs) x
usages_push n c [] x = append-nil (usage_shown n c x) ∙ ap (λ d. usage_shown n d x) (omega arith)
usages_push n c (y ∷ xs) x =
    ap (λ rest. usage_shown n c y ++ rest) (usages_push n (c + 1) xs x)
    ∙ (sym (append_assoc (usage_shown n c y) (usages_shown n (c + 1) xs) (usage_shown n (c + 1 + length xs) x)) ∙ ap (λ d. (usage_shown n c y ++ usages_shown n (c + 1) xs) ++ usage_shown n d x) (omega arith))

-- behind one more CPU
pub usages_more : (n : Notation) (xs : List Usage) (i : ℕ) (d : Usage) → i < length xs → usages_shown n 0 (take (i + 1) xs) ≡ usages_shown n 0 (take i xs) ++ usage_shown n i (get_or xs i d)
usages_more n xs i d lt =
    ap (usages_shown n 0) (take_more xs i d lt)
    ∙ (usages_push n 0 (take i xs) (get_or xs i d) ∙ ap (λ c. usages_shown n 0 (take i xs) ++ usage_shown n c (get_or xs i d)) (let long = length-take-le i xs (omega (arith, lt)) in omega (arith, long)))
