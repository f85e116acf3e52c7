-- The calls that were made when the journal had so many entries.
use Rattle.std.proofs.Common.{◌≡◌, ℕ, zero, suc, ◌+◌, ◌≤◌, ◌<◌, Bool, true, false, IsTrue, List, [], ◌∷◌, ◌++◌, Option, None, Some, unwrap_or, length, slice_get, refl, ap, sym, subst, ◌∙◌, arith}
use Rattle.std.specs.Prelude.{◌↔◌, ◌&&◌, All, drop, get_or, leb, ltb, take}
use Rattle.std.specs.List.{list_all}
use Rattle.std.specs.List.Sorted.{IsNonDecreasingBy}
use Rattle.std.specs.List.Sorted.{IsPartitionPoint}
use Rattle.std.proofs.lemmas.Bool.{false≢true}
use Rattle.std.proofs.lemmas.Bool.Decides.{nat_tests}
use Rattle.std.proofs.lemmas.List.{get_or-take, length-take-le, map-append, take-append-drop}
use Rattle.std.proofs.lemmas.List.Elements.{All-cons, All-head, All-map, All-more, All-nil, All-tail, All-weaker}
use Rattle.std.proofs.lemmas.List.Folds.{list_all-append, list_all-map}
use Rattle.std.proofs.Math.ListN.{get_or-map}
use Rattle.std.proofs.lemmas.List.{length-map}
use Rattle.gs_journal.specs.History.{History}
use Rattle.gs_kernel.specs.declared.settings.Settings.{Settings}
use Rattle.gs_runner.specs.declared.command.Command.{Command}
use Rattle.gs_runner.specs.declared.call.Call.{Call}
use Rattle.gs_runner.specs.declared.call.Receipt.{Receipt}
use Rattle.gs_runner.specs.declared.kept.Kept.{Kept}
use Rattle.gs_runner.specs.declared.kept.Kept.TheVariants as kept
use Rattle.gs_runner.specs.Calls.{Leads, ThreadRoom, given_by}
use Rattle.gs_runner.specs.Holds.{Stands, answers_command, call_of}
use Rattle.gs_runner.specs.Kept.{AreBefore, call_kept, calls_kept, kept_at}
use Rattle.gs_runner.proofs.Growths.{call_goes, goes_longer}

-- the place of a call that is kept so
pub at_of : (h : History) (o : List Call) (k : Kept) → (call_kept h o k).at ≡ kept_at o k
at_of h o (kept.Told at end) = refl
at_of h o (kept.Other i) = refl

-- the calls of a legal history never fall in their places
leads_from : (parcels : ℕ) (s : Settings) (h : History) (given : Bool) (cs : List Call) (h' : History) (given' : Bool) → Leads parcels s h given cs h' given' → All (λ (c : Call). length h ≤ c.at) cs
leads_from parcels s h given [] h' given' t = All-nil (λ (c : Call). length h ≤ c.at)
leads_from parcels s h given (c ∷ cs) h' given' t =
    let longer : length h ≤ length t.0 = goes_longer h t.0 (call_goes (ThreadRoom parcels) s h given c.called c.reply t.0 t.1.legal) in
    let at : c.at ≡ length h = t.1.at in
    All-cons (λ (d : Call). length h ≤ d.at) c cs (omega (arith, at)) (All-weaker (λ (d : Call). length t.0 ≤ d.at) (λ (d : Call). length h ≤ d.at) (λ d p. omega (arith, longer, p)) cs (leads_from parcels s t.0 (given_by c.reply given) cs h' given' t.2))

rising : (x : Call) (xs : List Call) → All (λ (c : Call). x.at ≤ c.at) xs → IsNonDecreasingBy (λ (c : Call). c.at) xs → IsNonDecreasingBy (λ (c : Call). c.at) (x ∷ xs)
rising x xs first later zero zero d le lt = omega arith
rising x xs first later zero (suc j) d le lt = first j d (omega (arith, lt))
rising x xs first later (suc i) zero d le lt = absurd (omega (arith, le))
rising x xs first later (suc i) (suc j) d le lt = later i j d (omega (arith, le)) (omega (arith, lt))

pub leads_rise : (parcels : ℕ) (s : Settings) (h : History) (given : Bool) (cs : List Call) (h' : History) (given' : Bool) → Leads parcels s h given cs h' given' → IsNonDecreasingBy (λ (c : Call). c.at) cs
leads_rise parcels s h given [] h' given' t = λ i j d le lt. absurd (omega (arith, lt))
leads_rise parcels s h given (c ∷ cs) h' given' t =
    let longer : length h ≤ length t.0 = goes_longer h t.0 (call_goes (ThreadRoom parcels) s h given c.called c.reply t.0 t.1.legal) in
    let at : c.at ≡ length h = t.1.at in
    rising c cs (All-weaker (λ (d : Call). length t.0 ≤ d.at) (λ (d : Call). c.at ≤ d.at) (λ d p. omega (arith, longer, at, p)) cs (leads_from parcels s t.0 (given_by c.reply given) cs h' given' t.2)) (leads_rise parcels s t.0 (given_by c.reply given) cs h' given' t.2)

pub kept_rise : (h : History) (o : List Call) (ks : List Kept) → IsNonDecreasingBy (λ (c : Call). c.at) (calls_kept h o ks) → IsNonDecreasingBy (kept_at o) ks
kept_rise h o ks rises i j d le lt =
    let long : length (calls_kept h o ks) ≡ length ks = length-map ks (call_kept h o) in
    let place : (k : ℕ) → (get_or (calls_kept h o ks) k (call_kept h o d)).at ≡ kept_at o (get_or ks k d) = λ k. ap (λ (c : Call). c.at) (get_or-map (call_kept h o) ks k d) ∙ at_of h o (get_or ks k d) in
    omega (arith, place i, place j, rises i j (call_kept h o d) le (omega (arith, long, lt)))

-- the rest of a rising list rises
pub rest_rises : (o : List Call) (xs ys : List Kept) → IsNonDecreasingBy (kept_at o) (xs ++ ys) → IsNonDecreasingBy (kept_at o) ys
rest_rises o [] ys r = r
rest_rises o (x ∷ xs) ys r = rest_rises o xs ys (λ i j d le lt. r (suc i) (suc j) d (omega (arith, le)) (omega (arith, lt)))

-- only those stand in a list that were made there
same_place : (c : Command) (r : Receipt) (x : Call) → Some x ≡ Some (call_of c r) → x.at ≡ r.at
same_place c r x e = ap (λ (o : Option Call). (unwrap_or o x).at) e

none_at : {x : Call} → None ≡ Some x → ⊥
none_at e = absurd cc

later_place : (y : Call) (ys : List Call) (c : Command) (r : Receipt) → r.at < y.at → (Stands ys c r → ⊥) → (k : ℕ) → slice_get (y ∷ ys) k ≡ Some (call_of c r) → ⊥
later_place y ys c r above none zero e = let is : y.at ≡ r.at = same_place c r y e in absurd (omega (arith, is, above))
later_place y ys c r above none (suc k) e = none (k, e)

none_later : (ys : List Call) (c : Command) (r : Receipt) → All (λ (y : Call). r.at < y.at) ys → Stands ys c r → ⊥
none_later [] c r all t = none_at t.1
none_later (y ∷ ys) c r all t = later_place y ys c r (All-head (λ (z : Call). r.at < z.at) y ys all) (none_later ys c r (All-tail (λ (z : Call). r.at < z.at) y ys all)) t.0 t.1

behind_place : (x : Call) (xs ms : List Call) (c : Command) (r : Receipt) → x.at < r.at → (Stands xs c r → Stands ms c r) → (k : ℕ) → slice_get (x ∷ xs) k ≡ Some (call_of c r) → Stands ms c r
behind_place x xs ms c r below f zero e = let is : x.at ≡ r.at = same_place c r x e in absurd (omega (arith, is, below))
behind_place x xs ms c r below f (suc k) e = f (k, e)

stands_after : (xs ys : List Call) (c : Command) (r : Receipt) → All (λ (x : Call). x.at < r.at) xs → Stands ys c r ↔ Stands (xs ++ ys) c r
stands_after [] ys c r below = ((λ t. t), (λ t. t))
stands_after (x ∷ xs) ys c r below =
    let later : Stands ys c r ↔ Stands (xs ++ ys) c r = stands_after xs ys c r (All-tail (λ (z : Call). z.at < r.at) x xs below) in
    ((λ t. let u = later.0 t in (suc u.0, u.1)), (λ t. behind_place x (xs ++ ys) ys c r (All-head (λ (z : Call). z.at < r.at) x xs below) later.1 t.0 t.1))

-- behind calls that were made before, just those stand that stand among all
pub stands_past : (h : History) (o : List Call) (ks : List Kept) (n : ℕ) (c : Command) (r : Receipt) → AreBefore o r.at ks n → Stands (calls_kept h o (drop n ks)) c r ↔ Stands (calls_kept h o ks) c r
stands_past h o ks n c r b =
    let f : Kept → Call = call_kept h o in
    let below : All (λ (x : Call). x.at < r.at) (calls_kept h o (take n ks)) = All-map (λ (x : Call). x.at < r.at) f (take n ks) (All-weaker (λ (k : Kept). kept_at o k < r.at) (λ (k : Kept). (f k).at < r.at) (λ k p. omega (arith, at_of h o k, p)) (take n ks) b.1) in
    let all : calls_kept h o (take n ks) ++ calls_kept h o (drop n ks) ≡ calls_kept h o ks = sym (map-append f (take n ks) (drop n ks)) ∙ ap (calls_kept h o) (take-append-drop n ks) in
    subst (λ (l : List Call). Stands (calls_kept h o (drop n ks)) c r ↔ Stands l c r) all (stands_after (calls_kept h o (take n ks)) (calls_kept h o (drop n ks)) c r below)

-- the calls behind so many have replies of commands too, and their places never fall
pub answered_past : (h : History) (o : List Call) (ks : List Kept) (n : ℕ) → list_all answers_command (calls_kept h o ks) ≡ true → list_all answers_command (calls_kept h o (drop n ks)) ≡ true
answered_past h o ks n e =
    let p : Kept → Bool = λ k. answers_command (call_kept h o k) in
    let all : list_all p (take n ks ++ drop n ks) ≡ true = ap (λ (l : List Kept). list_all p l) (take-append-drop n ks) ∙ (sym (list_all-map answers_command (call_kept h o) ks) ∙ e) in
    list_all-map answers_command (call_kept h o) (drop n ks) ∙ and_right (list_all p (take n ks)) (list_all p (drop n ks)) (sym (list_all-append p (take n ks) (drop n ks)) ∙ all)
  where
    and_right : (a b : Bool) → (a && b) ≡ true → b ≡ true
    and_right true b e = e
    and_right false b e = absurd (false≢true e)

pub rises_past : (o : List Call) (ks : List Kept) (n : ℕ) → IsNonDecreasingBy (kept_at o) ks → IsNonDecreasingBy (kept_at o) (drop n ks)
rises_past o ks n rises = rest_rises o (take n ks) (drop n ks) (subst (λ (l : List Kept). IsNonDecreasingBy (kept_at o) l) (sym (take-append-drop n ks)) rises)

-- if the first is made later, so are all, and none stands there
pub none_past : (h : History) (o : List Call) (k : Kept) (ks : List Kept) (c : Command) (r : Receipt) → IsNonDecreasingBy (kept_at o) (k ∷ ks) → r.at < kept_at o k → Stands (calls_kept h o (k ∷ ks)) c r → ⊥
none_past h o k ks c r rises above = none_later (calls_kept h o (k ∷ ks)) c r (All-map (λ (x : Call). r.at < x.at) (call_kept h o) (k ∷ ks) after)
  where
    after : All (λ (x : Kept). r.at < (call_kept h o x).at) (k ∷ ks)
    after j d lt = let one = rises 0 j d (omega arith) lt in let place = at_of h o (get_or (k ∷ ks) j d) in omega (arith, one, place, above)

pub none_exactly : (h : History) (o : List Call) (k : Kept) (ks all : List Kept) (c : Command) (r : Receipt) (p : ℕ) → all ≡ k ∷ ks → IsNonDecreasingBy (kept_at o) all → p ≡ kept_at o k → r.at < p → IsTrue (leb p r.at) ↔ Stands (calls_kept h o all) c r
none_exactly h o k ks all c r p whole rises is above =
    let behind : r.at < kept_at o k = omega (arith, is, above) in
    ((λ yes. absurd (never p r.at yes above)), (λ t. absurd (none_past h o k ks c r (subst (λ (l : List Kept). IsNonDecreasingBy (kept_at o) l) whole rises) behind (subst (λ (l : List Kept). Stands (calls_kept h o l) c r) whole t))))
  where
    upto : (m n : ℕ) → leb m n ≡ true → m ≤ n
    upto m n e = grind (arith, nat_tests)

    never : (m n : ℕ) → leb m n ≡ true → n < m → ⊥
    never m n e lt = let le = upto m n e in omega (arith, le, lt)

-- where the places pass one
pub before_there : (o : List Call) (at n : ℕ) (ks : List Kept) → n ≤ length ks → IsPartitionPoint (λ (k : Kept). ltb (kept_at o k) at ≡ true) (λ (k : Kept). ltb (kept_at o k) at ≡ false) ks n → AreBefore o at ks n
before_there o at n ks fits point = (fits, λ k d lt. by_ltb (kept_at o (get_or (take n ks) k d)) (subst (λ (x : Kept). ltb (kept_at o x) at ≡ true) (sym (get_or-take n ks k d (fewer_of k lt))) (point.0 k d (omega arith) (fewer_of k lt))))
  where
    fewer_of : (k : ℕ) → k < length (take n ks) → k < n
    fewer_of k lt = let m : length (take n ks) ≡ n = length-take-le n ks fits in omega (arith, m, lt)

    by_ltb : (m : ℕ) → ltb m at ≡ true → m < at
    by_ltb m e = grind (arith, nat_tests)

-- those that were made before a place were made before a later one, and so was the next if it was
pub before_later : (o : List Call) (at later : ℕ) (ks : List Kept) (n : ℕ) → at ≤ later → AreBefore o at ks n → AreBefore o later ks n
before_later o at later ks n le b = (b.0, All-weaker (λ (k : Kept). kept_at o k < at) (λ (k : Kept). kept_at o k < later) (λ k p. omega (arith, le, p)) (take n ks) b.1)

pub before_next : (o : List Call) (at n : ℕ) (ks : List Kept) (k : Kept) → n < length ks → get_or ks n k ≡ k → kept_at o k < at → AreBefore o at ks n → AreBefore o at ks (n + 1)
before_next o at n ks k lt is here b = (omega (arith, lt), All-more (λ (x : Kept). kept_at o x < at) ks n k lt b.1 (subst (λ (x : Kept). kept_at o x < at) (sym is) here))

pub none_before : (o : List Call) (at : ℕ) (ks : List Kept) → AreBefore o at ks 0
none_before o at ks = (omega arith, All-nil (λ (k : Kept). kept_at o k < at))
