-- Beliefs and the threads that they are of.
use Rattle.std.proofs.Common.{Bool, true, false, cond, ◌≡◌, ◌≢◌, ℕ, ◌<◌, ◌≤◌, ◌⊎◌, inl, inr, ◌||◌, Option, None, Some, List, [], ◌∷◌, length, map, set, get_or, replicate, zero, suc, ap, sym, subst, ◌∙◌, refl}
use Rattle.gs_beliefs.proofs.Believed.{nothing_on}
use Rattle.std.specs.Prelude.{◌==◌}
use Rattle.std.specs.List.{list_any}
use Rattle.std.proofs.Math.ListN as listn
use Rattle.std.proofs.Math.Seq.{map-set_same}
use Rattle.std.proofs.lemmas.Bool.{cases_lt, cases_eq, cases_Bool, cond-true, cond-false, eqb-true, eqb-false, false_from_ne_true}
use Rattle.std.proofs.lemmas.List.{length-set, length-map, length-replicate, get_or-set_same, get_or-set_other, get_or_past, map-set, ext_get_or}
use Rattle.gs_beliefs.specs.declared.running.Running.{Running}
use Rattle.gs_beliefs.specs.ByThread.{StandApart, stands}
use Rattle.gs_beliefs.specs.Cpus.{Cpus, cleared_at, clears, is_just, raised_at, raises, runs, running, ticked}
use Rattle.gs_beliefs.specs.Held.{IsCpus, thread_of}
use Rattle.gs_beliefs.proofs.Index.{stands_within}

-- a belief is of a thread if its thread is this one
pub runs_thread : (t : ℕ) (o : Option Running) → is_just t (thread_of o) ≡ runs t o
runs_thread t None = refl
runs_thread t (Some r) = refl

pub any_thread : (t : ℕ) (xs : List (Option Running)) → list_any (is_just t) (map thread_of xs) ≡ list_any (runs t) xs
any_thread t [] = refl
any_thread t (None ∷ xs) = any_thread t xs
any_thread t (Some r ∷ xs) = ap (λ (b : Bool). (r.tid == t) || b) (any_thread t xs)

-- neither a new number nor a tick changes whom a belief is of
ticked_thread : (o : Option Running) → thread_of (ticked o) ≡ thread_of o
ticked_thread None = refl
ticked_thread (Some r) = refl

raised_by : (b : Bool) (n : ℕ) (r : Running) → thread_of (cond b (Some (record r { tseq = n })) (Some r)) ≡ Some r.tid
raised_by true n r = refl
raised_by false n r = refl

raised_thread : (t n : ℕ) (o : Option Running) → thread_of (raised_at t n o) ≡ thread_of o
raised_thread t n None = refl
raised_thread t n (Some r) = raised_by (r.tid == t) n r

-- the thread on a CPU is that of the belief there
stands_of : (xs : List (Option Running)) (c : ℕ) → stands (map thread_of xs) c ≡ thread_of (get_or xs c None)
stands_of xs c = listn.get_or-map thread_of xs c None

-- a belief of the same thread in the place of one
pub cpus_kept : (xs : List (Option Running)) (ts ss : List (Option ℕ)) (c : ℕ) (o : Option Running) → IsCpus xs ts ss → thread_of o ≡ thread_of (get_or xs c None) → IsCpus (set xs c o) ts ss
cpus_kept xs ts ss c o is same =
    record {
      most = subst (λ k. k ≤ 128) (sym (length-set xs c o)) is.most;
      even = is.even ∙ sym (length-set xs c o);
      found = is.found ∙ sym (map-set_same thread_of xs c o None same);
      apart = is.apart;
    }

pub cpus_ticked : (xs : List (Option Running)) (ts ss : List (Option ℕ)) (c : ℕ) (y : Option Running) → y ≡ ticked (get_or xs c None) → IsCpus xs ts ss → IsCpus (set xs c y) ts ss
cpus_ticked xs ts ss c y e is = cpus_kept xs ts ss c y is (ap thread_of e ∙ ticked_thread (get_or xs c None))

pub cpus_raised : (xs : List (Option Running)) (ts ss : List (Option ℕ)) (c t n : ℕ) (y : Option Running) → y ≡ raised_at t n (get_or xs c None) → IsCpus xs ts ss → IsCpus (set xs c y) ts ss
cpus_raised xs ts ss c t n y e is = cpus_kept xs ts ss c y is (ap thread_of e ∙ raised_thread t n (get_or xs c None))

-- a CPU on which the thread stands, by the belief there
runs_at : (xs : List (Option Running)) (ts ss : List (Option ℕ)) (t c : ℕ) → IsCpus xs ts ss → is_just t (stands ts c) ≡ runs t (get_or xs c None)
runs_at xs ts ss t c is = ap (λ (us : List (Option ℕ)). is_just t (stands us c)) is.found ∙ (ap (is_just t) (stands_of xs c) ∙ runs_thread t (get_or xs c None))

pub runs_found : (xs : List (Option Running)) (ts ss : List (Option ℕ)) (t : ℕ) → IsCpus xs ts ss → list_any (is_just t) ts ≡ list_any (runs t) xs
runs_found xs ts ss t is = ap (list_any (is_just t)) is.found ∙ any_thread t xs

just_some : (t : ℕ) (o : Option ℕ) → is_just t o ≡ true → o ≡ Some t
just_some t None e = absurd cc
just_some t (Some k) e = ap (λ (n : ℕ). Some n) (eqb-true k t e)

-- a thread is believed to run on one CPU
only_one : (xs : List (Option Running)) (ts ss : List (Option ℕ)) (t c : ℕ) → IsCpus xs ts ss → is_just t (stands ts c) ≡ true → (d : ℕ) → d ≢ c → runs t (get_or xs d None) ≡ false
only_one xs ts ss t c is here d other = false_from_ne_true (runs t (get_or xs d None)) (λ e.
    other (is.apart d c t (just_some t (stands ts d) (runs_at xs ts ss t d is ∙ e)) (just_some t (stands ts c) here)))

-- a list that a function changes at one place alone, or nowhere
changed_one : (f : Option Running → Option Running) → f None ≡ None → (xs : List (Option Running)) (c : ℕ) (y : Option Running) → f (get_or xs c None) ≡ y
    → ((d : ℕ) → d ≢ c → f (get_or xs d None) ≡ get_or xs d None) → set xs c y ≡ map f xs
changed_one f none xs c y here others =
    ext_get_or None (set xs c y) (map f xs) (length-set xs c y ∙ sym (length-map xs f)) (λ d lt. at d lt (cases_eq d c))
  where
    mapped : (d : ℕ) → get_or (map f xs) d None ≡ f (get_or xs d None)
    mapped d = ap (get_or (map f xs) d) (sym none) ∙ listn.get_or-map f xs d None

    at : (d : ℕ) → d < length (set xs c y) → (d ≡ c) ⊎ (d ≢ c) → get_or (set xs c y) d None ≡ get_or (map f xs) d None
    at d lt (inl e) =
        let inside : c < length xs = subst (λ k. k < length xs) e (subst (λ n. d < n) (length-set xs c y) lt) in
        subst (λ k. get_or (set xs c y) k None ≡ get_or (map f xs) k None) (sym e)
        (get_or-set_same xs c y None inside ∙ (sym here ∙ sym (mapped c)))
    at d lt (inr other) = get_or-set_other xs c d y None other ∙ (sym (others d other) ∙ sym (mapped d))

changed_nowhere : (f : Option Running → Option Running) → f None ≡ None → (xs : List (Option Running)) → ((d : ℕ) → f (get_or xs d None) ≡ get_or xs d None) → xs ≡ map f xs
changed_nowhere f none xs same =
    ext_get_or None xs (map f xs) (sym (length-map xs f)) (λ d lt. sym (same d) ∙ sym (ap (get_or (map f xs) d) (sym none) ∙ listn.get_or-map f xs d None))

cleared_other : (t : ℕ) (o : Option Running) → runs t o ≡ false → cleared_at t o ≡ o
cleared_other t o e = cond-false (runs t o) None o e

raised_other : (t n : ℕ) (o : Option Running) → runs t o ≡ false → raised_at t n o ≡ o
raised_other t n None e = refl
raised_other t n (Some r) e = cond-false (r.tid == t) (Some (record r { tseq = n })) (Some r) e

-- a CPU on which a thread stands is one that there is
pub within_beliefs : (xs : List (Option Running)) (ts ss : List (Option ℕ)) (t c : ℕ) → IsCpus xs ts ss → is_just t (stands ts c) ≡ true → c < length xs
within_beliefs xs ts ss t c is here = subst (λ n. c < n) (ap length is.found ∙ length-map xs thread_of) (stands_within ts t c here (cases_lt c (length ts)))

-- the beliefs that these are parts of
abbrev cpus_of : List (Option Running) → List (Option ℕ) → Option ℕ → Cpus
cpus_of xs ss a = record { believed = xs; stamped = ss; agent = a }

-- a thread that stands on a CPU stands nowhere any more, or has another number. One that stands nowhere changes nothing
pub clears_one : (xs : List (Option Running)) (ts ss : List (Option ℕ)) (a : Option ℕ) (t c : ℕ) → IsCpus xs ts ss → is_just t (stands ts c) ≡ true
    → cpus_of (set xs c None) ss a ≡ clears t (cpus_of xs ss a)
clears_one xs ts ss a t c is here =
    ap (λ (ys : List (Option Running)). cpus_of ys ss a)
    (changed_one (cleared_at t) refl xs c None (cond-true (runs t (get_or xs c None)) None (get_or xs c None) (sym (runs_at xs ts ss t c is) ∙ here))
    (λ d other. cleared_other t (get_or xs d None) (only_one xs ts ss t c is here d other)))

pub clears_nobody : (xs : List (Option Running)) (ts ss : List (Option ℕ)) (a : Option ℕ) (t : ℕ) → IsCpus xs ts ss → ((c : ℕ) → is_just t (stands ts c) ≡ false)
    → cpus_of xs ss a ≡ clears t (cpus_of xs ss a)
clears_nobody xs ts ss a t is none =
    ap (λ (ys : List (Option Running)). cpus_of ys ss a)
    (changed_nowhere (cleared_at t) refl xs (λ d. cleared_other t (get_or xs d None) (sym (runs_at xs ts ss t d is) ∙ none d)))

pub raises_one : (xs : List (Option Running)) (ts ss : List (Option ℕ)) (a : Option ℕ) (t n c : ℕ) (y : Option Running) → IsCpus xs ts ss → is_just t (stands ts c) ≡ true → y ≡ raised_at t n (get_or xs c None)
    → cpus_of (set xs c y) ss a ≡ raises t n (cpus_of xs ss a)
raises_one xs ts ss a t n c y is here e =
    ap (λ (ys : List (Option Running)). cpus_of ys ss a)
    (changed_one (raised_at t n) refl xs c y (sym e) (λ d other. raised_other t n (get_or xs d None) (only_one xs ts ss t c is here d other)))

pub raises_nobody : (xs : List (Option Running)) (ts ss : List (Option ℕ)) (a : Option ℕ) (t n : ℕ) → IsCpus xs ts ss → ((c : ℕ) → is_just t (stands ts c) ≡ false)
    → cpus_of xs ss a ≡ raises t n (cpus_of xs ss a)
raises_nobody xs ts ss a t n is none =
    ap (λ (ys : List (Option Running)). cpus_of ys ss a)
    (changed_nowhere (raised_at t n) refl xs (λ d. raised_other t n (get_or xs d None) (sym (runs_at xs ts ss t d is) ∙ none d)))

-- threads stay apart if whoever comes to a CPU stands on no other
apart_set : (ts : List (Option ℕ)) (c : ℕ) (o : Option ℕ) → StandApart ts → ((d t : ℕ) → d ≢ c → o ≡ Some t → stands ts d ≡ Some t → ⊥) → StandApart (set ts c o)
apart_set ts c o apart alone d e t one two = at (cases_eq d c) (cases_eq e c)
  where
    there : (k : ℕ) → k ≡ c → stands (set ts c o) k ≡ Some t → (c < length ts) ⊎ (length ts ≤ c) → o ≡ Some t
    there k is found (inl lt) = sym (get_or-set_same ts c o None lt) ∙ subst (λ i. stands (set ts c o) i ≡ Some t) is found
    there k is found (inr past) =
        absurd (let none : Some t ≡ None = sym (subst (λ i. stands (set ts c o) i ≡ Some t) is found) ∙ get_or_past (set ts c o) c None (subst (λ n. n ≤ c) (sym (length-set ts c o)) past) in cc)

    elsewhere : (k : ℕ) → k ≢ c → stands (set ts c o) k ≡ Some t → stands ts k ≡ Some t
    elsewhere k other found = sym (get_or-set_other ts c k o None other) ∙ found

    at : (d ≡ c) ⊎ (d ≢ c) → (e ≡ c) ⊎ (e ≢ c) → d ≡ e
    at (inl p) (inl q) = p ∙ sym q
    at (inl p) (inr q) = absurd (alone e t q (there d p one (cases_lt c (length ts))) (elsewhere e q two))
    at (inr p) (inl q) = absurd (alone d t p (there e q two (cases_lt c (length ts))) (elsewhere d p one))
    at (inr p) (inr q) = apart d e t (elsewhere d p one) (elsewhere e q two)

-- a belief of another thread, or of none, in the place of one
cpus_set : (xs : List (Option Running)) (ts ss us : List (Option ℕ)) (c : ℕ) (o : Option Running) → IsCpus xs ts ss → us ≡ set ts c (thread_of o)
    → ((d t : ℕ) → d ≢ c → thread_of o ≡ Some t → stands ts d ≡ Some t → ⊥) → IsCpus (set xs c o) us ss
cpus_set xs ts ss us c o is e alone =
    record {
      most = subst (λ k. k ≤ 128) (sym (length-set xs c o)) is.most;
      even = is.even ∙ sym (length-set xs c o);
      found = e ∙ (ap (λ (vs : List (Option ℕ)). set vs c (thread_of o)) is.found ∙ sym (map-set thread_of xs c o));
      apart = subst StandApart (sym e) (apart_set ts c (thread_of o) is.apart alone);
    }

pub cpus_cleared : (xs : List (Option Running)) (ts ss us : List (Option ℕ)) (c : ℕ) → IsCpus xs ts ss → us ≡ set ts c None → IsCpus (set xs c None) us ss
cpus_cleared xs ts ss us c is e = cpus_set xs ts ss us c None is e (λ d t other none there. cc)

-- once a thread is believed to run nowhere, it may be believed to run on a CPU
not_cleared : (t : ℕ) (o : Option Running) → thread_of (cleared_at t o) ≡ Some t → ⊥
not_cleared t None e = cc
not_cleared t (Some r) e = at (cases_Bool (r.tid == t))
  where
    at : ((r.tid == t) ≡ true) ⊎ ((r.tid == t) ≡ false) → ⊥
    at (inl same) = let none : None ≡ Some t = ap thread_of (sym (cond-true (r.tid == t) None (Some r) same)) ∙ e in cc
    at (inr differs) = let some : Some r.tid ≡ Some t = ap thread_of (sym (cond-false (r.tid == t) None (Some r) differs)) ∙ e in eqb-false r.tid t differs cc

pub cpus_placed : (xs ys : List (Option Running)) (ts ss us : List (Option ℕ)) (c t n : ℕ) → IsCpus xs ts ss → xs ≡ map (cleared_at t) ys → us ≡ set ts c (Some t) → IsCpus (set xs c (Some (running t n))) us ss
cpus_placed xs ys ts ss us c t n is cleared e = cpus_set xs ts ss us c (Some (running t n)) is e alone
  where
    there : (d : ℕ) → stands ts d ≡ thread_of (cleared_at t (get_or ys d None))
    there d =
        ap (λ (vs : List (Option ℕ)). stands vs d) is.found
        ∙ (stands_of xs d ∙ ap thread_of (ap (λ (zs : List (Option Running)). get_or zs d None) cleared ∙ listn.get_or-map (cleared_at t) ys d None))

    alone : (d u : ℕ) → d ≢ c → Some t ≡ Some u → stands ts d ≡ Some u → ⊥
    alone d u other same found = not_cleared t (get_or ys d None) (sym (there d) ∙ (found ∙ sym same))

found_none : (n : ℕ) → replicate n None ≡ map thread_of (replicate n None)
found_none zero = refl
found_none (suc n) = ap (λ (os : List (Option ℕ)). None ∷ os) (found_none n)

pub cpus_unknown : (n : ℕ) (xs : List (Option Running)) (ts ss : List (Option ℕ)) → n ≤ 128 → xs ≡ replicate n None → ts ≡ replicate n None → ss ≡ replicate n None → IsCpus xs ts ss
cpus_unknown n xs ts ss most x t s =
    record {
      most = subst (λ k. k ≤ 128) (sym count) most;
      even = ap length s ∙ (length-replicate n None ∙ sym count);
      found = t ∙ (found_none n ∙ sym (ap (map thread_of) x));
      apart = λ c d u one two. nowhere c u one;
    }
  where
    count : length xs ≡ n
    count = ap length x ∙ length-replicate n None

    nowhere : {A : Type 0} (c u : ℕ) → stands ts c ≡ Some u → A
    nowhere c u found =
        let none : None ≡ Some u = sym (ap (λ (vs : List (Option ℕ)). stands vs c) t ∙ nothing_on n c (cases_lt c n)) ∙ found in absurd cc
