-- What is known of threads, as a list: what it has of each thread, that its tids increase, and what a change of one thread makes of it.
use Rattle.std.proofs.Common.{◌≡◌, ◌≢◌, refl, ap, sym, ◌∙◌, ℕ, zero, suc, ◌+◌, ◌-◌, ◌<◌, ◌≤◌, ◌⊎◌, inl, inr, true, false, Option, None, Some, [], arith, All}
use Rattle.std.specs.BTreeMap.{is_at}
use Rattle.std.specs.Ordering.{nat_cmp}
use Rattle.std.specs.List.{AllByRecursion}
use Rattle.std.specs.List.Sorted.{IsStrictlyIncreasing, IsStrictlySortedBy}
use Rattle.std.specs.declared.cmp.Ordering.TheVariants.{Less}
use Rattle.std.proofs.lemmas.Map.Keys.{IsStrictlyIncreasing-from_sorted}
use Rattle.std.proofs.lemmas.Bool.{cases_lt}
use Rattle.std.proofs.lemmas.Bool.Decides.{nat_tests}
use Rattle.std.proofs.lemmas.List.Elements.{All-nil, All-cons}
use Rattle.gs_layout.specs.declared.known.Known.{Known}
use Rattle.gs_layout.specs.View.{Look, look_up}
use Rattle.gs_view.specs.Listed.{listed, listed_one}
use Rattle.gs_view.specs.Shown.{tids}

-- nothing is known from a tid on
abbrev pub NoneFrom : Look → ℕ → Type 0
NoneFrom v n = (t : ℕ) → n ≤ t → v t ≡ None

at_same : (t : ℕ) → is_at (nat_cmp t) t ≡ true
at_same t = grind (arith, nat_tests)

at_other : (t u : ℕ) → t ≢ u → is_at (nat_cmp t) u ≡ false
at_other t u differs = grind (arith, nat_tests)

-- of a tid that is none of its own the list has nothing
outside_listed : (v : Look) (t n u : ℕ) → ((w : ℕ) → t ≤ w → w < t + n → w ≢ u) → look_up (listed v t n) u ≡ None
unfolding listed
outside_listed v t zero u apart = refl
outside_listed v t (suc n) u apart =
    by_known (v t) (outside_listed v (t + 1) n u (λ w le lt. apart w (omega (arith, le)) (omega (arith, lt))))
    (at_other u t (λ e. apart t (omega arith) (omega arith) (sym e)))
  where
    by_known : (o : Option Known) → look_up (listed v (t + 1) n) u ≡ None → is_at (nat_cmp u) t ≡ false
        → look_up (listed_one t o (listed v (t + 1) n)) u ≡ None
    by_known None later away = later
    by_known (Some k) later away = rw away later

-- of each of its tids it has what is known
within_listed : (v : Look) (t n u : ℕ) → t ≤ u → u < t + n → look_up (listed v t n) u ≡ v u
unfolding listed
within_listed v t zero u le lt = absurd (omega arith)
within_listed v t (suc n) u le lt = by_place (cases_lt t u) (within_listed v (t + 1) n u)
  where
    by_known : (o : Option Known) → v t ≡ o → t ≡ u → look_up (listed_one t o (listed v (t + 1) n)) u ≡ v u
    by_known None is e = outside_listed v (t + 1) n u (λ w le' _ e'. omega (arith, e, le', e')) ∙ (sym is ∙ ap v e)
    by_known (Some k) is e = rw (ap (is_at (nat_cmp u)) e ∙ at_same u) (sym is ∙ ap v e)

    passed : (o : Option Known) → t < u → look_up (listed_one t o (listed v (t + 1) n)) u ≡ look_up (listed v (t + 1) n) u
    passed None lt' = refl
    passed (Some k) lt' = rw (at_other u t (λ e. omega (arith, e, lt'))) refl

    by_place : (t < u) ⊎ (u ≤ t) → (t + 1 ≤ u → u < t + 1 + n → look_up (listed v (t + 1) n) u ≡ v u)
        → look_up (listed_one t (v t) (listed v (t + 1) n)) u ≡ v u
    by_place (inl lt') later = passed (v t) lt' ∙ later (omega (arith, lt')) (omega (arith, lt))
    by_place (inr ge) later = by_known (v t) refl (omega (arith, le, ge))

-- the list has of each thread what is known, if nothing is known past its end
pub look_listed : (v : Look) (n : ℕ) → NoneFrom v n → (t : ℕ) → look_up (listed v 0 n) t ≡ v t
look_listed v n none t = by_place (cases_lt t n)
  where
    by_place : (t < n) ⊎ (n ≤ t) → look_up (listed v 0 n) t ≡ v t
    by_place (inl lt) = within_listed v 0 n t (omega arith) (omega (arith, lt))
    by_place (inr ge) = outside_listed v 0 n t (λ w _ lt e. omega (arith, lt, e, ge)) ∙ sym (none t ge)

-- the same list, if the same is known
pub same_listed : (v w : Look) (t n : ℕ) → ((u : ℕ) → t ≤ u → v u ≡ w u) → listed v t n ≡ listed w t n
unfolding listed
same_listed v w t zero same = refl
same_listed v w t (suc n) same =
    ap (λ (o : Option Known). listed_one t o (listed v (t + 1) n)) (same t (omega arith))
    ∙ ap (listed_one t (w t)) (same_listed v w (t + 1) n (λ u le. same u (omega (arith, le))))

-- if nothing is known from a tid on, there is nothing to list from there
pub none_listed : (v : Look) (t n : ℕ) → NoneFrom v t → listed v t n ≡ []
unfolding listed
none_listed v t zero none = refl
none_listed v t (suc n) none = ap (λ (o : Option Known). listed_one t o (listed v (t + 1) n)) (none t (omega arith)) ∙ none_listed v (t + 1) n (λ u le. none u (omega (arith, le)))

-- tids past the last one of which something is known change nothing
longer_listed : (v : Look) (t n more : ℕ) → NoneFrom v (t + n) → listed v t (n + more) ≡ listed v t n
unfolding listed
longer_listed v t zero more none = ap (listed v t) (let e : zero + more ≡ more = omega arith in e) ∙ none_listed v t more (λ u le. none u (omega (arith, le)))
longer_listed v t (suc n) more none =
    ap (listed v t) (let e : suc n + more ≡ suc (n + more) = omega arith in e)
    ∙ ap (listed_one t (v t)) (longer_listed v (t + 1) n more (λ u le. none u (omega (arith, le))))

-- the same is listed, if the same is known, by any two counts past which nothing is known
pub listed_alike : (v w : Look) (n m : ℕ) → n ≤ m → ((t : ℕ) → v t ≡ w t) → NoneFrom v n → listed v 0 n ≡ listed w 0 m
listed_alike v w n m le same none =
    let e : n + (m - n) ≡ m = omega arith in
    sym (longer_listed v 0 n (m - n) (λ u ge. none u (omega (arith, ge)))) ∙ (ap (listed v 0) e ∙ same_listed v w 0 m (λ u _. same u))

-- each tid of a list is above a number, if the tid that it begins with is
all_above : (v : Look) (s t n : ℕ) → s < t → AllByRecursion (λ (y : ℕ). nat_cmp s y ≡ Less) (tids (listed v t n))
unfolding listed
all_above v s t zero lt = tt
all_above v s t (suc n) lt = by_known (v t) (grind (arith, nat_tests)) (all_above v s (t + 1) n (omega (arith, lt)))
  where
    by_known : (o : Option Known) → nat_cmp s t ≡ Less → AllByRecursion (λ (y : ℕ). nat_cmp s y ≡ Less) (tids (listed v (t + 1) n))
        → AllByRecursion (λ (y : ℕ). nat_cmp s y ≡ Less) (tids (listed_one t o (listed v (t + 1) n)))
    by_known None first later = later
    by_known (Some k) first later = (first, later)

sorted_listed : (v : Look) (t n : ℕ) → IsStrictlySortedBy nat_cmp (tids (listed v t n))
unfolding listed IsStrictlySortedBy
sorted_listed v t zero = tt
sorted_listed v t (suc n) = by_known (v t) (all_above v t (t + 1) n (omega arith)) (sorted_listed v (t + 1) n)
  where
    by_known : (o : Option Known) → AllByRecursion (λ (y : ℕ). nat_cmp t y ≡ Less) (tids (listed v (t + 1) n))
        → IsStrictlySortedBy nat_cmp (tids (listed v (t + 1) n)) → IsStrictlySortedBy nat_cmp (tids (listed_one t o (listed v (t + 1) n)))
    by_known None above later = later
    by_known (Some k) above later = (above, later)

-- the tids of a list increase
pub rising_listed : (v : Look) (t n : ℕ) → IsStrictlyIncreasing (tids (listed v t n))
rising_listed v t n = IsStrictlyIncreasing-from_sorted _ (sorted_listed v t n)

-- what holds of each thread with what is known of it holds of each record
all_listed : (P : ℕ × Known → Type 0) (v : Look) (t n : ℕ) → ((u : ℕ) (k : Known) → v u ≡ Some k → P (u, k)) → All P (listed v t n)
unfolding listed
all_listed P v t zero holds = All-nil P
all_listed P v t (suc n) holds = by_known (v t) (holds t) (all_listed P v (t + 1) n holds)
  where
    by_known : (o : Option Known) → ((k : Known) → o ≡ Some k → P (t, k)) → All P (listed v (t + 1) n) → All P (listed_one t o (listed v (t + 1) n))
    by_known None here later = later
    by_known (Some k) here later = All-cons P (t, k) (listed v (t + 1) n) (here k refl) later

-- each record is what a look-up finds
pub found_listed : (v : Look) (n : ℕ) → NoneFrom v n → All (λ entry. look_up (listed v 0 n) entry.0 ≡ Some entry.1) (listed v 0 n)
found_listed v n none = all_listed (λ entry. look_up (listed v 0 n) entry.0 ≡ Some entry.1) v 0 n (λ u k e. look_listed v n none u ∙ e)
