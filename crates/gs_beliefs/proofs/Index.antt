-- How the CPUs of a thread are found.
use Rattle.std.proofs.Common.{Bool, true, false, not, ◌≡◌, ◌≢◌, ℕ, ◌%◌, ◌<◌, ◌≤◌, ◌⊎◌, inl, inr, ◌&&◌, ◌||◌, Option, None, Some, List, [], ◌∷◌, suc, length, set, get_or, replicate, ap, sym, subst, ◌∙◌, refl, arith}
use Rattle.std.proofs.Math.Bool.{and-true}
use Rattle.gs_beliefs.proofs.Believed.{nothing_on}
use Rattle.std.specs.Prelude.{nat_lt, ◌==◌, is_none}
use Rattle.std.specs.List.{list_any}
use Rattle.std.proofs.lemmas.Bool.{cases_lt, cases_eq, eqb-true, eq-eqb, both_ways, false_from_ne_true}
use Rattle.std.proofs.lemmas.Bool.Decides.{nat_tests}
use Rattle.std.proofs.lemmas.List.{length-set, length-replicate, get_or-replicate, get_or-set_same, get_or-set_other, get_or_past}
use Rattle.std.proofs.lemmas.List.Elements.{All-from_get_or}
use Rattle.std.proofs.lemmas.List.Folds.{list_any_at, list_any_none}
use Rattle.gs_status.specs.Masks.{has, has_none}
use Rattle.gs_status.proofs.Laws.{is_zero, nobody as has_nobody}
use Rattle.gs_beliefs.specs.ByThread.{IsIndexed, is_in_bucket, stands}
use Rattle.gs_beliefs.specs.Cpus.{is_just}

-- who is not in a thread's bucket is another thread
pub not_in_bucket : (t : ℕ) (o : Option ℕ) → is_in_bucket (t % 256) o ≡ false → is_just t o ≡ false
not_in_bucket t None e = refl
not_in_bucket t (Some k) e = false_from_ne_true (k == t) (λ same. both_ways (k % 256 == t % 256) e (eq-eqb (k % 256) (t % 256) (ap (λ (x : ℕ). x % 256) (eqb-true k t same))))

-- an empty mask has no CPU
pub in_no_mask : (m c : ℕ) → has_none m ≡ true → has m c ≡ false
in_no_mask m c e = ap (λ (n : ℕ). has n c) (is_zero m e) ∙ has_nobody c

pub stands_within : (xs : List (Option ℕ)) (t c : ℕ) → is_just t (stands xs c) ≡ true → (c < length xs) ⊎ (length xs ≤ c) → c < length xs
stands_within xs t c e (inl lt) = lt
stands_within xs t c e (inr past) = absurd (both_ways (is_just t (stands xs c)) (ap (is_just t) (get_or_past xs c None past)) e)

pub stands_below : (xs : List (Option ℕ)) (c t : ℕ) → stands xs c ≡ Some t → c < length xs
stands_below xs c t e = stands_within xs t c (ap (is_just t) e ∙ eq-eqb t t refl) (cases_lt c (length xs))

-- a CPU on which a thread stands settles that it stands somewhere
pub stands_somewhere : (xs : List (Option ℕ)) (t c : ℕ) → is_just t (stands xs c) ≡ true → list_any (is_just t) xs ≡ true
stands_somewhere xs t c e = list_any_at (is_just t) xs c None (stands_within xs t c e (cases_lt c (length xs))) e

pub stands_nowhere : (xs : List (Option ℕ)) (t : ℕ) → ((c : ℕ) → is_just t (stands xs c) ≡ false) → list_any (is_just t) xs ≡ false
stands_nowhere xs t none = list_any_none (is_just t) xs (All-from_get_or (λ o. is_just t o ≡ false) xs None (λ i lt. none i))

abbrev none : (X : Type 0) → Option X
none X = None

abbrev IsZero : ℕ → Type 0
IsZero n = n ≡ 0

abbrev zeros : ℕ → List ℕ
zeros n = replicate n 0

empty : (n i : ℕ) → (i < n) ⊎ (n ≤ i) → IsZero (get_or (zeros n) i 0)
empty n i (inl lt) = get_or-replicate n i 0 0 lt
empty n i (inr le) = get_or_past (zeros n) i 0 (subst (λ k. k ≤ i) (sym (length-replicate n 0)) le)

-- nobody stands on any of so many CPUs
pub indexed_none : (n : ℕ) (xs : List (Option ℕ)) (buckets : List ℕ) (vacant : ℕ) → n ≤ 128 → xs ≡ replicate n None → buckets ≡ zeros 256 → ((c : ℕ) → has vacant c ≡ nat_lt c n) → IsIndexed xs buckets vacant
indexed_none n xs buckets vacant most begun is below =
    subst (λ (ys : List (Option ℕ)). IsIndexed ys buckets vacant) (sym begun) (record {
      most = subst (λ k. k ≤ 128) (sym count) most;
      count = ap length is ∙ length-replicate {A = ℕ} 256 0;
      in_buckets = λ bucket c.
          ap (λ (ms : List ℕ). has (get_or ms bucket 0) c) is
          ∙ (ap (λ (m : ℕ). has m c) (empty 256 bucket (cases_lt bucket 256))
          ∙ (has_nobody c ∙ sym (ap (is_in_bucket bucket) (nothing_on n c (cases_lt c n)))));
      on_vacant = λ c.
          below c
          ∙ (sym (and-true (nat_lt c n))
          ∙ sym (ap (λ (k : ℕ). nat_lt c k && is_none (stands (replicate n (none ℕ)) c)) count ∙ ap (λ (o : Option ℕ). nat_lt c n && is_none o) (nothing_on n c (cases_lt c n))));
    })
  where
    count : length (replicate n (none ℕ)) ≡ n
    count = length-replicate n (none ℕ)

-- a thread stands on a CPU, or nobody does. The CPU left the bucket of whoever stood there, and went into the bucket of whoever stands there now
pub record IsMoved (xs : List (Option ℕ)) (buckets left entered : List ℕ) (vacant vacant' c : ℕ) (o : Option ℕ) : Type 0 where
  pub indexed : IsIndexed xs buckets vacant
  pub within : c < length xs
  pub count : length entered ≡ 256
  pub left_here : (bucket : ℕ) → has (get_or left bucket 0) c ≡ (has (get_or buckets bucket 0) c && not (is_in_bucket bucket (stands xs c)))
  pub left_others : (bucket d : ℕ) → d ≢ c → has (get_or left bucket 0) d ≡ has (get_or buckets bucket 0) d
  pub here : (bucket : ℕ) → has (get_or entered bucket 0) c ≡ (has (get_or left bucket 0) c || is_in_bucket bucket o)
  pub others : (bucket d : ℕ) → d ≢ c → has (get_or entered bucket 0) d ≡ has (get_or left bucket 0) d
  pub vacant_here : has vacant' c ≡ is_none o
  pub vacant_others : (d : ℕ) → d ≢ c → has vacant' d ≡ has vacant d

left_out : (a b z : Bool) → a ≡ b → ((a && not b) || z) ≡ z
left_out true b z e = ap (λ (x : Bool). not x || z) (sym e)
left_out false b z e = refl

pub indexed_set : (xs : List (Option ℕ)) (buckets left entered : List ℕ) (vacant vacant' c : ℕ) (o : Option ℕ) → IsMoved xs buckets left entered vacant vacant' c o
    → IsIndexed (set xs c o) entered vacant'
indexed_set xs buckets left entered vacant vacant' c o m =
    record {
      most = subst (λ k. k ≤ 128) (sym count) m.indexed.most;
      count = m.count;
      in_buckets = λ bucket d. in_bucket bucket d (cases_eq d c);
      on_vacant = λ d. on_vacant d (cases_eq d c);
    }
  where
    count : length (set xs c o) ≡ length xs
    count = length-set xs c o

    placed : stands (set xs c o) c ≡ o
    placed = get_or-set_same xs c o None m.within

    in_bucket : (bucket d : ℕ) → (d ≡ c) ⊎ (d ≢ c) → has (get_or entered bucket 0) d ≡ is_in_bucket bucket (stands (set xs c o) d)
    in_bucket bucket d (inl e) =
        subst (λ k. has (get_or entered bucket 0) k ≡ is_in_bucket bucket (stands (set xs c o) k)) (sym e)
        (m.here bucket
        ∙ (ap (λ (b : Bool). b || is_in_bucket bucket o) (m.left_here bucket)
        ∙ (left_out (has (get_or buckets bucket 0) c) (is_in_bucket bucket (stands xs c)) (is_in_bucket bucket o) (m.indexed.in_buckets bucket c)
        ∙ ap (is_in_bucket bucket) (sym placed))))
    in_bucket bucket d (inr other) =
        m.others bucket d other
        ∙ (m.left_others bucket d other
        ∙ (m.indexed.in_buckets bucket d ∙ ap (is_in_bucket bucket) (sym (get_or-set_other xs c d o None other))))

    on_vacant : (d : ℕ) → (d ≡ c) ⊎ (d ≢ c) → has vacant' d ≡ (nat_lt d (length (set xs c o)) && is_none (stands (set xs c o) d))
    on_vacant d (inl e) =
        let inside : c < length (set xs c o) = subst (λ k. c < k) (sym count) m.within in
        let below : nat_lt c (length (set xs c o)) ≡ true = grind (arith, nat_tests) in
        subst (λ k. has vacant' k ≡ (nat_lt k (length (set xs c o)) && is_none (stands (set xs c o) k))) (sym e)
        (m.vacant_here ∙ (ap is_none (sym placed) ∙ sym (ap (λ (b : Bool). b && is_none (stands (set xs c o) c)) below)))
    on_vacant d (inr other) =
        m.vacant_others d other
        ∙ (m.indexed.on_vacant d
        ∙ (ap (λ (k : ℕ). nat_lt d k && is_none (stands xs d)) (sym count)
        ∙ ap (λ (p : Option ℕ). nat_lt d (length (set xs c o)) && is_none p) (sym (get_or-set_other xs c d o None other))))

-- if nobody stands on any CPU, the table is that of nobody
pub vacant_all : (xs : List (Option ℕ)) → ((c : ℕ) → c < length xs → stands xs c ≡ None) → xs ≡ replicate (length xs) None
vacant_all [] none = refl
vacant_all (x ∷ xs) none = λ i. none 0 (omega arith) i ∷ vacant_all xs (λ c lt. none (suc c) (omega (arith, lt))) i
