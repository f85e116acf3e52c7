-- The longest runs, one entry more.
use Rattle.std.proofs.Common.{◌≡◌, refl, ap, sym, ◌∙◌, subst, ℕ, zero, suc, ◌+◌, ◌==◌, ◌&&◌, Bool, true, false, cond, Option, None, Some, List, [], ◌∷◌, ◌++◌, length, length-append, append_assoc, take, add-one, zero-add, arith}
use Rattle.std.proofs.lemmas.Bool.{and_parts, eqb-true}
use Rattle.gs_journal.specs.History.{History, on}
use Rattle.gs_timeline.specs.declared.stay.Stay.{Stay}
use Rattle.gs_timeline.specs.Stays.{stay, goes_on, joined, grown, then_stay, seats, runs}

-- a stay in front of one and no more, and one more behind it
joined_one : (c t n : ℕ) (s next : Stay) → joined s (joined next (stay c t n (n + 1) ∷ [])) ≡ grown c t n (joined s (next ∷ []))
joined_one c t n s next = first (goes_on next (stay c t n (n + 1))) ∙ (same (goes_on s next) (goes_on next (stay c t n (n + 1))) (goes_on (record s { to = next.to }) (stay c t n (n + 1))) alike ∙ sym (second (goes_on s next)))
  where
    first : (q : Bool) → joined s (cond q (record next { to = n + 1 } ∷ []) (next ∷ stay c t n (n + 1) ∷ [])) ≡ cond q (joined s (record next { to = n + 1 } ∷ [])) (joined s (next ∷ stay c t n (n + 1) ∷ []))
    first true = refl
    first false = refl

    second : (p : Bool) → grown c t n (cond p (record s { to = next.to } ∷ []) (s ∷ next ∷ [])) ≡ cond p (grown c t n (record s { to = next.to } ∷ [])) (grown c t n (s ∷ next ∷ []))
    second true = refl
    second false = refl

    same : (p q r : Bool) → (p ≡ true → q ≡ r)
        → cond q (cond p (record s { to = n + 1 } ∷ []) (s ∷ record next { to = n + 1 } ∷ [])) (cond p (record s { to = next.to } ∷ stay c t n (n + 1) ∷ []) (s ∷ next ∷ stay c t n (n + 1) ∷ []))
        ≡ cond p (cond r (record s { to = n + 1 } ∷ []) (record s { to = next.to } ∷ stay c t n (n + 1) ∷ [])) (s ∷ cond q (record next { to = n + 1 } ∷ []) (next ∷ stay c t n (n + 1) ∷ []))
    same true true true h = refl
    same true false false h = refl
    same true true false h = let e : true ≡ false = h refl in absurd cc
    same true false true h = let e : false ≡ true = h refl in absurd cc
    same false true r h = refl
    same false false r h = refl

    alike : goes_on s next ≡ true → goes_on next (stay c t n (n + 1)) ≡ goes_on (record s { to = next.to }) (stay c t n (n + 1))
    alike h = ap (λ x. (x == t) && (next.to == n)) (sym (eqb-true s.tid next.tid (and_parts (s.tid == next.tid) (s.to == next.from) h).0))

joined_grown : (c t n : ℕ) (s : Stay) (later : List Stay) → joined s (grown c t n later) ≡ grown c t n (joined s later)
joined_grown c t n s [] = refl
joined_grown c t n s (next ∷ []) = joined_one c t n s next
joined_grown c t n s (next ∷ more ∷ later) = by_test (goes_on s next)
  where
    by_test : (b : Bool) → cond b (record s { to = next.to } ∷ grown c t n (more ∷ later)) (s ∷ next ∷ grown c t n (more ∷ later)) ≡ grown c t n (cond b (record s { to = next.to } ∷ more ∷ later) (s ∷ next ∷ more ∷ later))
    by_test true = refl
    by_test false = refl

-- nobody is on the CPU behind the next entry
runs_none : (c n : ℕ) (xs : List (Option ℕ)) → runs c n (xs ++ None ∷ []) ≡ runs c n xs
unfolding runs
runs_none c n [] = refl
runs_none c n (None ∷ xs) = runs_none c (n + 1) xs
runs_none c n (Some t ∷ xs) = ap (joined (stay c t n (n + 1))) (runs_none c (n + 1) xs)

-- a thread is
runs_some : (c n k t : ℕ) (xs : List (Option ℕ)) → k ≡ n + length xs → runs c n (xs ++ Some t ∷ []) ≡ grown c t k (runs c n xs)
unfolding runs
runs_some c n k t [] e = let same : n ≡ k = omega arith in ap (λ m. stay c t m (m + 1) ∷ []) same
runs_some c n k t (None ∷ xs) e = runs_some c (n + 1) k t xs (omega arith)
runs_some c n k t (Some u ∷ xs) e = ap (joined (stay c u n (n + 1))) (runs_some c (n + 1) k t xs (omega arith)) ∙ joined_grown c t k (stay c u n (n + 1)) (runs c (n + 1) xs)

-- the stays after one entry more
seats_length : (h : History) (c n : ℕ) → length (seats h c n) ≡ n
unfolding seats
seats_length h c zero = refl
seats_length h c (suc n) = length-append (seats h c n) (on (take (suc n) h) c ∷ []) ∙ ap (λ m. m + 1) (seats_length h c n) ∙ add-one n

-- the stays of the first entries
abbrev pub first_stays : History → ℕ → ℕ → List Stay
first_stays h c n = runs c 0 (seats h c n)

pub stays_more : (h : History) (c n : ℕ) → first_stays h c (suc n) ≡ then_stay c n (on (take (suc n) h) c) (first_stays h c n)
unfolding seats
stays_more h c n = by_seat (on (take (suc n) h) c)
  where
    by_seat : (o : Option ℕ) → runs c 0 (seats h c n ++ o ∷ []) ≡ then_stay c n o (runs c 0 (seats h c n))
    by_seat None = runs_none c 0 (seats h c n)
    by_seat (Some t) = runs_some c 0 n t (seats h c n) (sym (zero-add n) ∙ ap (λ m. 0 + m) (sym (seats_length h c n)))

pub stays_none : (h : History) (c : ℕ) → first_stays h c 0 ≡ []
unfolding seats runs
stays_none h c = refl

pub stays_at : (h : History) (c n m : ℕ) → m ≡ suc n → first_stays h c m ≡ then_stay c n (on (take m h) c) (first_stays h c n)
stays_at h c n m e = subst (λ k. first_stays h c k ≡ then_stay c n (on (take k h) c) (first_stays h c n)) (sym e) (stays_more h c n)

-- the last stay goes on or not, and then stands in front of the new one
grown_push : (c t n : ℕ) (xs : List Stay) (s : Stay) → grown c t n (xs ++ s ∷ []) ≡ xs ++ joined s (stay c t n (n + 1) ∷ [])
grown_push c t n [] s = refl
grown_push c t n (x ∷ []) s = refl
grown_push c t n (x ∷ y ∷ xs) s = ap (λ l. x ∷ l) (grown_push c t n (y ∷ xs) s)

pub grown_goes : (c t n : ℕ) (xs ys : List Stay) (s : Stay) → ys ≡ xs ++ s ∷ [] → ((s.tid == t) && (s.to == n)) ≡ true → xs ++ record s { to = n + 1 } ∷ [] ≡ grown c t n ys
grown_goes c t n xs ys s is goes = ap (λ l. xs ++ l) (sym (by_test ((s.tid == t) && (s.to == n)) goes)) ∙ (sym (grown_push c t n xs s) ∙ ap (grown c t n) (sym is))
  where
    by_test : (b : Bool) → b ≡ true → cond b (record s { to = n + 1 } ∷ []) (s ∷ stay c t n (n + 1) ∷ []) ≡ record s { to = n + 1 } ∷ []
    by_test true p = refl
    by_test false p = absurd cc

pub grown_begins : (c t n : ℕ) (xs ys : List Stay) (s : Stay) → ys ≡ xs ++ s ∷ [] → ((s.tid == t) && (s.to == n)) ≡ false → (xs ++ s ∷ []) ++ stay c t n (n + 1) ∷ [] ≡ grown c t n ys
grown_begins c t n xs ys s is not = append_assoc xs (s ∷ []) (stay c t n (n + 1) ∷ []) ∙ (ap (λ l. xs ++ l) (sym (by_test ((s.tid == t) && (s.to == n)) not)) ∙ (sym (grown_push c t n xs s) ∙ ap (grown c t n) (sym is)))
  where
    by_test : (b : Bool) → b ≡ false → cond b (record s { to = n + 1 } ∷ []) (s ∷ stay c t n (n + 1) ∷ []) ≡ s ∷ stay c t n (n + 1) ∷ []
    by_test false p = refl
    by_test true p = absurd cc
