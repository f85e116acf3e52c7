-- The ticks of a CPU, counted by their places.
use Rattle.std.proofs.Common.{◌≡◌, refl, ap, sym, ◌∙◌, ℕ, zero, suc, ◌+◌, ◌-◌, ◌<◌, ◌≤◌, ◌⊎◌, inl, inr, nat_lt, Bool, true, false, cond, Option, Some, List, [], ◌∷◌, ◌++◌, length, get_or, take, drop, slice_get, arith}
use Rattle.std.specs.List.{All, AllWithin, count_by}
use Rattle.std.specs.List.Sorted.{IsNonDecreasingBy, IsPartitionPoint}
use Rattle.std.proofs.lemmas.Bool.Decides.{nat_tests}
use Rattle.std.proofs.lemmas.Bool.{cases_lt}
use Rattle.std.proofs.lemmas.List.{length-take-le, take_all, take_more, take-append-le, take-take, length-append}
use Rattle.std.proofs.lemmas.List.Elements.{All-push}
use Rattle.std.proofs.lemmas.List.Sorted.{IsNonDecreasingBy-push}
use Rattle.std.proofs.lemmas.List.Sums.{count_by_more_no, count_by_more_yes, sum_by_push, sum_by-take-drop, sum_by-take-le}
use Rattle.std.proofs.lemmas.Option.{slice_get-get_or}
use Rattle.gs_journal.specs.declared.entry.Entry.{Entry}
use Rattle.gs_journal.specs.declared.entry.Entry.TheVariants.{Torn}
use Rattle.gs_journal.specs.History.{History}
use Rattle.gs_turns.specs.Ticked.{is_tick, is_tick_there, tick_places, tick_then, ticked}

-- the places behind one entry more
pub places_none : (h : History) (c : ℕ) → tick_places h c 0 ≡ []
unfolding tick_places
places_none h c = refl

pub places_more : (h : History) (c n : ℕ) (x : Entry) → n < length h → x ≡ get_or h n x → tick_places h c (n + 1) ≡ tick_then c n x (tick_places h c n)
unfolding tick_places
places_more h c n x lt is =
    let e : n + 1 ≡ suc n = omega arith in
    rw e (ap (λ (o : Option Entry). cond (is_tick_there c o) (tick_places h c n ++ n ∷ []) (tick_places h c n)) (slice_get-get_or h n x lt ∙ ap Some (sym is)))

-- they rise
below_push : (b : Bool) (n : ℕ) (ps : List ℕ) → All (λ (p : ℕ). p < n) ps → All (λ (p : ℕ). p < suc n) (cond b (ps ++ n ∷ []) ps)
below_push true n ps all = All-push (λ (p : ℕ). p < suc n) ps n (λ k d lt. let a : get_or ps k d < n = all k d lt in omega arith) (omega arith)
below_push false n ps all = λ k d lt. let a : get_or ps k d < n = all k d lt in omega arith

places_below : (h : History) (c n : ℕ) → All (λ (p : ℕ). p < n) (tick_places h c n)
unfolding tick_places
places_below h c zero = λ k d lt. absurd (omega arith)
places_below h c (suc n) = below_push (is_tick_there c (slice_get h n)) n (tick_places h c n) (places_below h c n)

rising_push : (b : Bool) (n : ℕ) (ps : List ℕ) → All (λ (p : ℕ). p < n) ps → IsNonDecreasingBy (λ (p : ℕ). p) ps → IsNonDecreasingBy (λ (p : ℕ). p) (cond b (ps ++ n ∷ []) ps)
rising_push true n ps all up = IsNonDecreasingBy-push (λ (p : ℕ). p) ps n up (λ d some. let a : get_or ps (length ps - 1) d < n = all (length ps - 1) d (omega arith) in omega arith)
rising_push false n ps all up = up

pub rising_places : (h : History) (c n : ℕ) → IsNonDecreasingBy (λ (p : ℕ). p) (tick_places h c n)
unfolding tick_places
rising_places h c zero = λ i j d le lt. absurd (omega arith)
rising_places h c (suc n) = rising_push (is_tick_there c (slice_get h n)) n (tick_places h c n) (places_below h c n) (rising_places h c n)

-- a partition point counts those that pass
low_count : (p : ℕ → Bool) (xs : List ℕ) (i k : ℕ) → i ≤ length xs → AllWithin (λ (y : ℕ). p y ≡ true) xs 0 i → k ≤ i → count_by p (take k xs) ≡ k
low_count p xs i zero len all le = refl
low_count p xs i (suc k) len all le =
    let e : suc k ≡ k + 1 = omega arith in
    rw e (count_by_more_yes p xs k 0 (omega arith) (all k 0 (omega arith) (omega arith)) ∙ ap (λ m. m + 1) (low_count p xs i k len all (omega arith)))

high_count : (p : ℕ → Bool) (xs : List ℕ) (i k : ℕ) → i + k ≤ length xs → AllWithin (λ (y : ℕ). p y ≡ false) xs i (length xs) → count_by p (take i xs) ≡ i → count_by p (take (i + k) xs) ≡ i
high_count p xs i zero len none here = let e : i + 0 ≡ i = omega arith in rw e here
high_count p xs i (suc k) len none here =
    let e : i + suc k ≡ (i + k) + 1 = omega arith in
    rw e (count_by_more_no p xs (i + k) 0 (omega arith) (none (i + k) 0 (omega arith) (omega arith)) ∙ high_count p xs i k (omega arith) none here)

pub counted : (p : ℕ → Bool) (xs : List ℕ) (i : ℕ) → i ≤ length xs → IsPartitionPoint (λ (y : ℕ). p y ≡ true) (λ (y : ℕ). p y ≡ false) xs i → i ≡ count_by p xs
counted p xs i len parts =
    let e : i + (length xs - i) ≡ length xs = omega arith in
    sym (high_count p xs i (length xs - i) (omega arith) parts.1 (low_count p xs i i len parts.0 (omega arith)))
    ∙ ap (λ m. count_by p (take m xs)) e ∙ ap (count_by p) (take_all (length xs) xs (omega arith))

-- so many places are before an entry as ticks
before_push : (b : Bool) (k n m : ℕ) (ps : List ℕ) → count_by (λ (p : ℕ). nat_lt p k) ps ≡ m → count_by (λ (p : ℕ). nat_lt p k) (cond b (ps ++ n ∷ []) ps) ≡ m + cond b (cond (nat_lt n k) 1 0) 0
before_push true k n m ps e = sum_by_push (λ (p : ℕ). cond (nat_lt p k) 1 0) ps n ∙ ap (λ q. q + cond (nat_lt n k) 1 0) e
before_push false k n m ps e = e ∙ (let z : m ≡ m + 0 = omega arith in z)

more_far : (b : Bool) (m : ℕ) → m + cond b (cond true 1 0) 0 ≡ m + cond b 1 0
more_far true m = refl
more_far false m = refl

more_near : (b : Bool) (m : ℕ) → m + cond b (cond false 1 0) 0 ≡ m
more_near true m = omega arith
more_near false m = omega arith

-- how many ticks are among the first entries before another, one entry more
abbrev CountedTo : History → ℕ → ℕ → ℕ → Type 0
CountedTo h c k n = count_by (λ (p : ℕ). nat_lt p k) (tick_places h c n) ≡ count_by (is_tick c) (take k (take n h))

counted_more : (h : History) (c k n : ℕ) → suc n ≤ length h → CountedTo h c k n → CountedTo h c k (suc n)
unfolding tick_places
counted_more h c k n len so_far = by_order (cases_lt n k)
  where
    x : Entry
    x = get_or h n Torn

    more : take (suc n) h ≡ take n h ++ x ∷ []
    more = let e : suc n ≡ n + 1 = omega arith in rw e (take_more h n Torn (omega arith))

    there : is_tick_there c (slice_get h n) ≡ is_tick c x
    there = ap (is_tick_there c) (slice_get-get_or h n Torn (omega arith))

    front : length (take n h) ≡ n
    front = length-take-le n h (omega arith)

    first : count_by (λ (p : ℕ). nat_lt p k) (cond (is_tick_there c (slice_get h n)) (tick_places h c n ++ n ∷ []) (tick_places h c n)) ≡ count_by (is_tick c) (take k (take n h)) + cond (is_tick c x) (cond (nat_lt n k) 1 0) 0
    first = before_push (is_tick_there c (slice_get h n)) k n (count_by (is_tick c) (take k (take n h))) (tick_places h c n) so_far ∙ ap (λ b. count_by (is_tick c) (take k (take n h)) + cond b (cond (nat_lt n k) 1 0) 0) there

    by_order : (n < k) ⊎ (k ≤ n) → count_by (λ (p : ℕ). nat_lt p k) (cond (is_tick_there c (slice_get h n)) (tick_places h c n ++ n ∷ []) (tick_places h c n)) ≡ count_by (is_tick c) (take k (take (suc n) h))
    by_order (inr le) =
        let near : nat_lt n k ≡ false = grind (arith, nat_tests) in
        first ∙ (ap (λ b. count_by (is_tick c) (take k (take n h)) + cond (is_tick c x) (cond b 1 0) 0) near
        ∙ (more_near (is_tick c x) (count_by (is_tick c) (take k (take n h)))
        ∙ ap (count_by (is_tick c)) (sym (take-append-le k (take n h) (x ∷ []) (omega (arith, front, le))) ∙ ap (take k) (sym more))))
    by_order (inl lt) =
        let far : nat_lt n k ≡ true = grind (arith, nat_tests) in
        let whole : length (take n h ++ x ∷ []) ≡ n + 1 = length-append (take n h) (x ∷ []) ∙ ap (λ m. m + 1) front in
        first ∙ (ap (λ b. count_by (is_tick c) (take k (take n h)) + cond (is_tick c x) (cond b 1 0) 0) far
        ∙ (more_far (is_tick c x) (count_by (is_tick c) (take k (take n h)))
        ∙ (ap (λ es. count_by (is_tick c) es + cond (is_tick c x) 1 0) (take_all k (take n h) (omega (arith, front, lt)))
        ∙ (sym (sum_by_push (λ (e : Entry). cond (is_tick c e) 1 0) (take n h) x)
        ∙ ap (count_by (is_tick c)) (sym (take_all k (take n h ++ x ∷ []) (omega (arith, whole, lt))) ∙ ap (take k) (sym more))))))

places_counted : (h : History) (c k n : ℕ) → n ≤ length h → CountedTo h c k n
unfolding tick_places
places_counted h c k zero len = sym (ap (count_by (is_tick c)) (take_all k (take 0 h) (omega arith)))
places_counted h c k (suc n) len = counted_more h c k n len (places_counted h c k n (omega arith))

pub before_is : (h : History) (c k : ℕ) → count_by (λ (p : ℕ). nat_lt p k) (tick_places h c (length h)) ≡ count_by (is_tick c) (take k h)
before_is h c k = places_counted h c k (length h) (omega arith) ∙ ap (λ es. count_by (is_tick c) (take k es)) (take_all (length h) h (omega arith))

-- and between two as the difference
short : (m n : ℕ) (xs : History) → m < n → length (take m xs) ≤ n
short m n xs lt = elim (cases_lt m (length xs)) [ inl in' ↦ omega (arith, length-take-le m xs (omega (arith, in'))) | inr past ↦ omega (arith, ap length (take_all m xs past), past) ]

pub between_is : (h : History) (c from to : ℕ) → count_by (is_tick c) (take to h) - count_by (is_tick c) (take from h) ≡ ticked h c from to
between_is h c from to = by_order (cases_lt to from)
  where
    parts : count_by (is_tick c) (take from (take to h)) + count_by (is_tick c) (drop from (take to h)) ≡ count_by (is_tick c) (take to h)
    parts = sum_by-take-drop (λ (e : Entry). cond (is_tick c e) 1 0) (take to h) from

    by_order : (to < from) ⊎ (from ≤ to) → count_by (is_tick c) (take to h) - count_by (is_tick c) (take from h) ≡ count_by (is_tick c) (drop from (take to h))
    by_order (inr le) =
        let same : count_by (is_tick c) (take from (take to h)) ≡ count_by (is_tick c) (take from h) = ap (count_by (is_tick c)) (take-take from to h le) in
        omega (arith, parts, same)
    by_order (inl lt) =
        let same : count_by (is_tick c) (take to (take from h)) ≡ count_by (is_tick c) (take to h) = ap (count_by (is_tick c)) (take-take to from h (omega (arith, lt))) in
        let fewer : count_by (is_tick c) (take to (take from h)) ≤ count_by (is_tick c) (take from h) = sum_by-take-le (λ (e : Entry). cond (is_tick c e) 1 0) (take from h) to in
        let all : count_by (is_tick c) (take from (take to h)) ≡ count_by (is_tick c) (take to h) = ap (count_by (is_tick c)) (take_all from (take to h) (short to from h lt)) in
        omega (arith, parts, same, fewer, all)
