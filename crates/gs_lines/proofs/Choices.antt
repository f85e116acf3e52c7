-- The lines of choices, one after another.
use Rattle.std.proofs.Common.{◌≡◌, ℕ, zero, suc, ◌+◌, ◌<◌, List, [], ◌∷◌, ◌++◌, refl, ap, sym, ◌∙◌, take, length, get_or, append-nil, append_assoc, add-one, arith}
use Rattle.gs_policy.specs.declared.choice.Choice.{Choice}
use Rattle.gs_lines.specs.Lines.{choice_lines, choice_text, line}

one_more : (n i j : ℕ) (xs : List Choice) (d : Choice) → j ≡ n + i → i < length xs → choice_lines n (take (suc i) xs) ≡ choice_lines n (take i xs) ++ line (choice_text j (get_or xs i d))
one_more n i j [] d e h = absurd (omega arith)
one_more n zero j (x ∷ xs) d e h =
    let here : n ≡ j = omega arith in
    append-nil (line (choice_text n x)) ∙ ap (λ k. line (choice_text k x)) here
one_more n (suc i) j (x ∷ xs) d e h =
    ap (λ text. line (choice_text n x) ++ text) (one_more (n + 1) i j xs d (omega arith) (omega arith))
    ∙ sym (append_assoc (line (choice_text n x)) (choice_lines (n + 1) (take i xs)) (line (choice_text j (get_or xs i d))))

-- the lines of the first choices and of one more
choices_more : (n i : ℕ) (xs : List Choice) (d : Choice) → i < length xs → choice_lines n (take (i + 1) xs) ≡ choice_lines n (take i xs) ++ line (choice_text (n + i) (get_or xs i d))
choices_more n i xs d h = rw (add-one) (one_more n i (n + i) xs d refl h)

-- what is written is the lines of the first choices, and then of one more
pub written_more : (start old out : List ℕ) (n i : ℕ) (xs : List Choice) (d : Choice) → i < length xs → old ≡ start ++ choice_lines n (take i xs) → out ≡ old ++ line (choice_text (n + i) (get_or xs i d)) → out ≡ start ++ choice_lines n (take (i + 1) xs)
written_more start old out n i xs d h k e =
    let last = line (choice_text (n + i) (get_or xs i d)) in
    e ∙ ap (λ text. text ++ last) k ∙ append_assoc start (choice_lines n (take i xs)) last ∙ ap (λ text. start ++ text) (sym (choices_more n i xs d h))
