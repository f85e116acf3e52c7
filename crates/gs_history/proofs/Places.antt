-- What is written of entries, one after another.
use Rattle.std.proofs.Common.{◌≡◌, ℕ, zero, suc, ◌+◌, ◌<◌, List, [], ◌∷◌, ◌++◌, ap, sym, ◌∙◌, take, length, get_or, append-nil, append_assoc, add-one, arith}
use Rattle.gs_journal.specs.declared.entry.Entry.{Entry}
use Rattle.gs_history.specs.Journal.{each_from}

one_more : (write : ℕ → Entry → List ℕ) (n i j : ℕ) (es : List Entry) (d : Entry) → j ≡ n + i → i < length es → each_from write n (take (suc i) es) ≡ each_from write n (take i es) ++ write j (get_or es i d)
one_more write n i j [] d e h = absurd (omega arith)
one_more write n zero j (x ∷ xs) d e h =
    let here : n ≡ j = omega arith in
    append-nil (write n x) ∙ ap (λ k. write k x) here
one_more write n (suc i) j (x ∷ xs) d e h =
    ap (λ text. write n x ++ text) (one_more write (n + 1) i j xs d (omega arith) (omega arith))
    ∙ sym (append_assoc (write n x) (each_from write (n + 1) (take i xs)) (write j (get_or xs i d)))

-- what is written of the first entries, and then of one more
pub written_more : (write : ℕ → Entry → List ℕ) (i : ℕ) (es : List Entry) (x : Entry) (old out : List ℕ) → i < length es → x ≡ get_or es i x → old ≡ each_from write 0 (take i es) → out ≡ old ++ write i x → out ≡ each_from write 0 (take (i + 1) es)
written_more write i es x old out h is k e =
    e ∙ ap (λ y. old ++ write i y) is ∙ ap (λ text. text ++ write i (get_or es i x)) k ∙ sym (rw add-one (one_more write 0 i i es x (omega arith) h))
