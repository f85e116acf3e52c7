-- Pages of the threads that live.
use Rattle.std.proofs.Common.{◌≡◌, ℕ, zero, suc, ◌+◌, ◌-◌, ◌^◌, ◌<◌, ◌≤◌, ◌++◌, List, [], ◌∷◌, length, take, drop, Bool, true, nat_lt, Option, None, Some, IfSome, refl, ap, sym, subst, ◌∙◌, length-append, length-take, arith}
use Rattle.std.specs.List.{AllByRecursion, cons_option, filter_map, range_with_len}
use Rattle.std.specs.Cmp.Derive.{both_true}
use Rattle.std.proofs.lemmas.Bool.Decides.{nat_tests}
use Rattle.gs_layout.specs.declared.message.TheConstants.{MOST_TIDS}
use Rattle.gs_journal.specs.History.{History, created}
use Rattle.gs_dump.specs.Page.{Contents, IsPage, rises}
use Rattle.gs_dump.specs.declared.record.DumpRecord.{DumpRecord}
use Rattle.gs_dump.specs.Record.{IsLive}
use Rattle.gs_threads.specs.Table.{TableState}
use Rattle.gs_kernel.specs.declared.agents.Agents.{Agents}
use Rattle.gs_kernel.specs.declared.settings.Settings.{Settings}
use Rattle.gs_kernel.specs.Dumped.{IsTold, dumped, first_tid}
use Rattle.gs_kernel.specs.Inside.{IsKept}
use Rattle.gs_kernel.specs.Shown.{live_from, live_thread}
use Rattle.gs_kernel.proofs.Living.{told_at}

-- what comes next in a list of which so many were taken
pub one_more : {A : Type 0} (xs : List A) (n : ℕ) (y : A) (ys : List A) → drop n xs ≡ y ∷ ys → (take (suc n) xs ≡ take n xs ++ y ∷ []) × (drop (suc n) xs ≡ ys)
one_more [] zero y ys e = absurd cc
one_more [] (suc n) y ys e = absurd cc
one_more (x ∷ xs) zero y ys e = let p : x ≡ y = cc in let q : xs ≡ ys = cc in (ap (λ z. z ∷ []) p, q)
one_more (x ∷ xs) (suc n) y ys e = let r = one_more xs n y ys e in (ap (λ zs. x ∷ zs) r.0, r.1)

-- if nothing is left, no more can be taken
pub no_more : {A : Type 0} (xs : List A) (n m : ℕ) → drop n xs ≡ [] → n ≤ m → (take m xs ≡ take n xs) × (drop m xs ≡ [])
no_more [] zero zero e le = (refl, refl)
no_more [] zero (suc m) e le = (refl, refl)
no_more [] (suc n) zero e le = (refl, refl)
no_more [] (suc n) (suc m) e le = (refl, refl)
no_more (x ∷ xs) zero m e le = absurd cc
no_more (x ∷ xs) (suc n) zero e le = absurd (omega (arith, le))
no_more (x ∷ xs) (suc n) (suc m) e le = let r = no_more xs n m e (omega (arith, le)) in (ap (λ zs. x ∷ zs) r.0, r.1)

pub all_left : {A : Type 0} (P : A → Type 0) (xs : List A) (n : ℕ) → AllByRecursion P xs → AllByRecursion P (drop n xs)
all_left P [] zero all = tt
all_left P [] (suc n) all = tt
all_left P (x ∷ xs) zero all = all
all_left P (x ∷ xs) (suc n) all = all_left P xs n all.1

pub all_push : {A : Type 0} (P : A → Type 0) (xs : List A) (y : A) → AllByRecursion P xs → P y → AllByRecursion P (xs ++ y ∷ [])
all_push P [] y all p = (p, tt)
all_push P (x ∷ xs) y all p = (all.0, all_push P xs y all.1 p)

-- each thread that is shown from numbers is told, by its number
Tells : (ℕ → Option DumpRecord) → Type 0
Tells f = (u : ℕ) (l : DumpRecord) → f u ≡ Some l → IsTold l × (l.tid ≡ u)

all_told : (f : ℕ → Option DumpRecord) (a n : ℕ) → Tells f → AllByRecursion IsTold (filter_map f (range_with_len a n))
unfolding Tells
all_told f a zero told = tt
all_told f a (suc n) told = by_one (f a) refl (all_told f (a + 1) n told)
  where
    by_one : (o : Option DumpRecord) → f a ≡ o → AllByRecursion IsTold (filter_map f (range_with_len (a + 1) n)) → AllByRecursion IsTold (cons_option o (filter_map f (range_with_len (a + 1) n)))
    by_one None e rest = rest
    by_one (Some l) e rest = ((told a l e).0, rest)

rises_none : (last max : ℕ) (ls : List DumpRecord) → ls ≡ [] → rises last (take max ls) (first_tid (drop max ls)) ≡ true
rises_none last zero [] e = refl
rises_none last (suc max) [] e = refl
rises_none last max (l ∷ ls) e = absurd cc

-- their tids increase, the next page's too
rising : (f : ℕ → Option DumpRecord) (a n max last : ℕ) → Tells f → ((u : ℕ) (l : DumpRecord) → a ≤ u → f u ≡ Some l → last < u)
    → rises last (take max (filter_map f (range_with_len a n))) (first_tid (drop max (filter_map f (range_with_len a n)))) ≡ true
unfolding Tells
rising f a zero max last told above = rises_none last max [] refl
rising f a (suc n) max last told above = by_one (f a) refl max (λ m from up. rising f (a + 1) n m from told up)
  where
    rest : List DumpRecord
    rest = filter_map f (range_with_len (a + 1) n)

    by_one : (o : Option DumpRecord) → f a ≡ o → (k : ℕ) → ((m from : ℕ) → ((u : ℕ) (l : DumpRecord) → a + 1 ≤ u → f u ≡ Some l → from < u) → rises from (take m rest) (first_tid (drop m rest)) ≡ true)
        → rises last (take k (cons_option o rest)) (first_tid (drop k (cons_option o rest))) ≡ true
    by_one None e k later = later k last (λ u l le q. above u l (omega (arith, le)) q)
    by_one (Some l) e zero later =
        let first : last < a = above a l (omega arith) e in
        let is : l.tid ≡ a = (told a l e).1 in
        let z : nat_lt last l.tid ≡ true = grind (arith, nat_tests) in z
    by_one (Some l) e (suc m) later =
        let first : last < a = above a l (omega arith) e in
        let is : l.tid ≡ a = (told a l e).1 in
        let z : nat_lt last l.tid ≡ true = grind (arith, nat_tests) in
        both_true z (later m l.tid (λ u x le q. omega (arith, le, is)))

-- all that live from a tid on are told
pub live_told : (s : Settings) (h : History) (t : TableState) (running : List (Option ℕ)) (held : ℕ) (a : Agents) (down : Bool) (from : ℕ) → s.cpus ≤ 128 → IsKept s h t running held a down → AllByRecursion IsTold (live_from s h from)
unfolding live_from Tells
live_told s h t running held a down from most k = all_told (live_thread s h) from (suc (length (created h)) - from) (λ u l is. told_at s h t running held a down most k u l is)

next_fits : (ls : List DumpRecord) → AllByRecursion IsTold ls → IfSome (first_tid ls) (λ t. (1 ≤ t) × (t ≤ MOST_TIDS))
next_fits [] all = tt
next_fits (l ∷ ls) all = (all.0.tid_low, all.0.tid_high)

live_rises : (s : Settings) (h : History) (t : TableState) (running : List (Option ℕ)) (held : ℕ) (a : Agents) (down : Bool) (from max : ℕ) → s.cpus ≤ 128 → IsKept s h t running held a down
    → rises 0 (take max (live_from s h from)) (first_tid (drop max (live_from s h from))) ≡ true
unfolding live_from Tells
live_rises s h t running held a down from max most k =
    rising (live_thread s h) from (suc (length (created h)) - from) max 0 (λ u l is. told_at s h t running held a down most k u l is)
    (λ u l le is. let w = told_at s h t running held a down most k u l is in omega (arith, w.0.tid_low, w.1))

-- a page of them can be spelled, if each of its records can
pub page_fits : (s : Settings) (h : History) (t : TableState) (running : List (Option ℕ)) (held : ℕ) (a : Agents) (down : Bool) (from max : ℕ) → s.cpus ≤ 128 → IsKept s h t running held a down → max < 2 ^ 16
    → AllByRecursion IsLive (take max (live_from s h from)) → IsPage (dumped s h from max)
page_fits s h t running held a down from max most k few live =
    record {
      count = omega (arith, length-take max (live_from s h from), few);
      live = live;
      tid = next_fits (drop max (live_from s h from)) (all_left IsTold (live_from s h from) max (live_told s h t running held a down from most k));
      order = live_rises s h t running held a down from max most k;
    }

abbrev pub page_of : List DumpRecord → Option ℕ → Contents
page_of rs o = record { records = rs; next = o }

same_page : (rs rs' : List DumpRecord) (o o' : Option ℕ) → rs ≡ rs' → o ≡ o' → page_of rs o ≡ page_of rs' o'
same_page rs rs' o o' p q = λ i. record { records = p i; next = q i }

-- the page that these records make, at its edge or if no more live
pub page_edge : (ls : List DumpRecord) (items : List DumpRecord) (max : ℕ) (l : DumpRecord) (later : List DumpRecord) → items ≡ take (length items) ls → length items ≡ max → l ∷ later ≡ drop (length items) ls
    → page_of (take max ls) (first_tid (drop max ls)) ≡ page_of items (Some l.tid)
page_edge ls items max l later told full left =
    same_page _ _ _ _ (ap (λ n. take n ls) (sym full) ∙ sym told) (ap (λ n. first_tid (drop n ls)) (sym full) ∙ ap first_tid (sym left))

pub page_end : (ls : List DumpRecord) (items : List DumpRecord) (max : ℕ) → items ≡ take (length items) ls → length items ≤ max → [] ≡ drop (length items) ls
    → page_of (take max ls) (first_tid (drop max ls)) ≡ page_of items None
page_end ls items max told few left =
    let r = no_more ls (length items) max (sym left) few in same_page _ _ _ _ (r.0 ∙ sym told) (ap first_tid r.1)

pub page_made : (s : Settings) (h : History) (t : TableState) (running : List (Option ℕ)) (held : ℕ) (a : Agents) (down : Bool) (from max : ℕ) (items : List DumpRecord) (o : Option ℕ) → s.cpus ≤ 128 → IsKept s h t running held a down → max < 2 ^ 16
    → AllByRecursion IsLive items → dumped s h from max ≡ page_of items o → IsPage (page_of items o)
page_made s h t running held a down from max items o most k few live is =
    subst IsPage is (page_fits s h t running held a down from max most k few (subst (AllByRecursion IsLive) (sym (ap (λ (p : Contents). p.records) is)) live))

-- the next thread is told, and one record more tells of it
pub next_told : (ls : List DumpRecord) (n : ℕ) (l : DumpRecord) (later : List DumpRecord) → AllByRecursion IsTold ls → l ∷ later ≡ drop n ls → IsTold l
next_told ls n l later all left = (subst (AllByRecursion IsTold) (sym left) (all_left IsTold ls n all)).0

pub records_more : (ls : List DumpRecord) (items items' : List DumpRecord) (l : DumpRecord) (later : List DumpRecord) → items ≡ take (length items) ls → l ∷ later ≡ drop (length items) ls → items' ≡ items ++ l ∷ []
    → (items' ≡ take (length items') ls) × (later ≡ drop (length items') ls)
records_more ls items items' l later told left is =
    let r = one_more ls (length items) l later (sym left) in
    let count : suc (length items) ≡ length items' = omega (arith, ap length is, length-append items (l ∷ [])) in
    (is ∙ (ap (λ (xs : List DumpRecord). xs ++ l ∷ []) told ∙ (sym r.0 ∙ ap (λ n. take n ls) count)), sym r.1 ∙ ap (λ n. drop n ls) count)
