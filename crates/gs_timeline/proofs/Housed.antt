-- What an entry changes where each thread is on at most one CPU.
use Rattle.std.proofs.Common.{◌≡◌, ◌≢◌, refl, ap, ap₂, sym, ◌∙◌, subst, ℕ, zero, suc, ◌+◌, ◌≤◌, ◌==◌, Bool, true, false, cond, Option, None, Some, List, [], ◌∷◌, ◌++◌, length, slice_get, slice_set, replicate, arith}
use Rattle.std.proofs.lemmas.Bool.{eqb-true}
use Rattle.std.proofs.lemmas.Option.{same_Some}
use Rattle.gs_layout.specs.declared.message.Change.{Change}
use Rattle.gs_layout.specs.declared.message.Message.TheVariants.{Thread, TimerTick}
use Rattle.gs_layout.specs.Message.{takes_off_cpu}
use Rattle.gs_journal.specs.declared.entry.Entry.{Entry}
use Rattle.gs_journal.specs.declared.entry.Entry.TheVariants.{Begin, Given, Left, Placed, Posted, Role, Taken, Torn}
use Rattle.gs_journal.specs.History.{placed_on, ends_run}
use Rattle.gs_journal.specs.Standing.{then_stands}
use Rattle.gs_timeline.specs.declared.stay.Stay.{Stay}
use Rattle.gs_timeline.specs.Stays.{stay}
use Rattle.gs_timeline.specs.Homes.{AreHome, IsApart}
use Rattle.gs_timeline.specs.Lanes.{LaneOf, each_then, empties, lane_then, placing, seat, seated, subject, vacant}
use Rattle.gs_timeline.proofs.Walked.{seat_stays}

-- ---- a message about a thread, and the CPU that has it

-- a CPU that is not the thread's is left as it is
away_stays : (n t s : ℕ) (ch : Change) (d : ℕ) (l : LaneOf) → seat l ≢ Some t → lane_then n (Posted (Thread t s ch)) d l ≡ l
away_stays n t s ch d l h = seat_stays d n (then_stands None ends_run (Posted (Thread t s ch)) (seat l)) l (same (seat l) refl)
  where
    same : (o : Option ℕ) → seat l ≡ o → then_stands None ends_run (Posted (Thread t s ch)) o ≡ o
    same None e = refl
    same (Some u) e = by_test (takes_off_cpu ch) (t == u) refl
      where
        by_test : (a b : Bool) → (t == u) ≡ b → cond (cond a b false) None (Some u) ≡ Some u
        by_test false b f = refl
        by_test true false f = refl
        by_test true true f = absurd (h (e ∙ ap Some (sym (eqb-true t u f))))

each_away : (n t s : ℕ) (ch : Change) (homes : List ℕ) (c : ℕ) (ls : List LaneOf) → AreHome homes c ls → ((d : ℕ) → c ≤ d → slice_get homes t ≢ Some d) → each_then (lane_then n (Posted (Thread t s ch))) c ls ≡ ls
each_away n t s ch homes c [] i h = refl
each_away n t s ch homes c (l ∷ ls) i h =
    ap₂ (λ (y : LaneOf) (ys : List LaneOf). y ∷ ys) (away_stays n t s ch c l (λ e. h c (omega arith) (i.0 t e))) (each_away n t s ch homes (c + 1) ls i.1 (λ d le. h d (omega (arith, le))))

home_changes : (n t s : ℕ) (ch : Change) (homes : List ℕ) (c i : ℕ) (ls : List LaneOf) (l : LaneOf) → AreHome homes c ls → slice_get homes t ≡ Some (c + i) → slice_get ls i ≡ Some l
    → slice_set ls i (lane_then n (Posted (Thread t s ch)) (c + i) l) ≡ each_then (lane_then n (Posted (Thread t s ch))) c ls
home_changes n t s ch homes c i [] l a at e = absurd cc
home_changes n t s ch homes c zero (y ∷ ys) l a at e =
    let same : c + 0 ≡ c = omega arith in
    ap₂ (λ (z : LaneOf) (zs : List LaneOf). z ∷ zs) (ap (λ (d : ℕ). lane_then n (Posted (Thread t s ch)) d l) same ∙ ap (lane_then n (Posted (Thread t s ch)) c) (sym (same_Some y l e)))
    (sym (each_away n t s ch homes (c + 1) ys a.1 (λ d le f. let is : c + 0 ≡ d = same_Some (c + 0) d (sym at ∙ f) in absurd (omega (arith, le, is)))))
home_changes n t s ch homes c (suc i) (y ∷ ys) l a at e =
    ap₂ (λ (z : LaneOf) (zs : List LaneOf). z ∷ zs)
    (sym (away_stays n t s ch c y (λ f. let is : c + suc i ≡ c = same_Some (c + suc i) c (sym at ∙ a.0 t f) in absurd (omega (arith, is)))))
    (ap (λ (d : ℕ). slice_set ys i (lane_then n (Posted (Thread t s ch)) d l)) (omega arith) ∙ home_changes n t s ch homes (c + 1) i ys l a.1 (at ∙ ap Some (omega arith)) e)

-- the same of any entry about a thread
pub none_home : (n : ℕ) (x : Entry) (t : ℕ) (homes : List ℕ) (ls : List LaneOf) → subject x ≡ Some t → AreHome homes 0 ls → slice_get homes t ≡ None → ls ≡ each_then (lane_then n x) 0 ls
none_home n (Posted (Thread u s ch)) t homes ls is a e =
    let same : u ≡ t = same_Some u t is in
    sym (each_away n u s ch homes 0 ls a (λ d le f. let both : None ≡ Some d = sym e ∙ (ap (slice_get homes) (sym same) ∙ f) in absurd cc))
none_home n (Posted (TimerTick c)) t homes ls is a e = absurd cc
none_home n (Placed u s c g) t homes ls is a e = absurd cc
none_home n (Role g c) t homes ls is a e = absurd cc
none_home n (Begin g) t homes ls is a e = absurd cc
none_home n Left t homes ls is a e = absurd cc
none_home n (Taken c) t homes ls is a e = absurd cc
none_home n (Given c) t homes ls is a e = absurd cc
none_home n Torn t homes ls is a e = absurd cc

past_away : (n t s : ℕ) (ch : Change) (homes : List ℕ) (c k : ℕ) (ls : List LaneOf) → AreHome homes c ls → slice_get homes t ≡ Some k → c + length ls ≤ k → each_then (lane_then n (Posted (Thread t s ch))) c ls ≡ ls
past_away n t s ch homes c k [] a at le = refl
past_away n t s ch homes c k (l ∷ ls) a at le =
    ap₂ (λ (y : LaneOf) (ys : List LaneOf). y ∷ ys) (away_stays n t s ch c l (λ f. let is : k ≡ c = same_Some k c (sym at ∙ a.0 t f) in absurd (omega (arith, le, is)))) (past_away n t s ch homes (c + 1) k ls a.1 at (omega (arith, le)))

pub past_home : (n : ℕ) (x : Entry) (t c : ℕ) (homes : List ℕ) (ls : List LaneOf) → subject x ≡ Some t → AreHome homes 0 ls → slice_get homes t ≡ Some c → length ls ≤ c → ls ≡ each_then (lane_then n x) 0 ls
past_home n (Posted (Thread u s ch)) t c homes ls is a at le = sym (past_away n u s ch homes 0 c ls a (ap (slice_get homes) (same_Some u t is) ∙ at) (omega (arith, le)))
past_home n (Posted (TimerTick d)) t c homes ls is a at le = absurd cc
past_home n (Placed u s d g) t c homes ls is a at le = absurd cc
past_home n (Role g d) t c homes ls is a at le = absurd cc
past_home n (Begin g) t c homes ls is a at le = absurd cc
past_home n Left t c homes ls is a at le = absurd cc
past_home n (Taken d) t c homes ls is a at le = absurd cc
past_home n (Given d) t c homes ls is a at le = absurd cc
past_home n Torn t c homes ls is a at le = absurd cc

pub one_home : (n : ℕ) (x : Entry) (t c : ℕ) (homes : List ℕ) (ls : List LaneOf) (l : LaneOf) → subject x ≡ Some t → AreHome homes 0 ls → slice_get homes t ≡ Some c → slice_get ls c ≡ Some l → slice_set ls c (lane_then n x c l) ≡ each_then (lane_then n x) 0 ls
one_home n (Posted (Thread u s ch)) t c homes ls l is a at e =
    ap (λ (d : ℕ). slice_set ls c (lane_then n (Posted (Thread u s ch)) d l)) (omega arith) ∙ home_changes n u s ch homes 0 c ls l a (ap (slice_get homes) (same_Some u t is) ∙ (at ∙ ap Some (omega arith))) e
one_home n (Posted (TimerTick d)) t c homes ls l is a at e = absurd cc
one_home n (Placed u s d g) t c homes ls l is a at e = absurd cc
one_home n (Role g d) t c homes ls l is a at e = absurd cc
one_home n (Begin g) t c homes ls l is a at e = absurd cc
one_home n Left t c homes ls l is a at e = absurd cc
one_home n (Taken d) t c homes ls l is a at e = absurd cc
one_home n (Given d) t c homes ls l is a at e = absurd cc
one_home n Torn t c homes ls l is a at e = absurd cc

-- ---- the CPUs stay known

-- an entry that takes a thread off places none
pub places_none : (x : Entry) → empties x ≡ true → placing x ≡ None
places_none (Posted m) e = refl
places_none (Placed u s d g) e = absurd cc
places_none (Role g d) e = refl
places_none (Begin g) e = refl
places_none Left e = refl
places_none (Taken d) e = refl
places_none (Given d) e = refl
places_none Torn e = refl

abbrev lane : List Stay → Option (ℕ × ℕ) → LaneOf
lane xs o = record { ended = xs; there = o }

seat_of : (c n : ℕ) (after : Option ℕ) (xs : List Stay) (o : Option (ℕ × ℕ)) → seat (seated c n after (lane xs o)) ≡ after
seat_of c n None xs None = refl
seat_of c n None xs (Some p) = refl
seat_of c n (Some t) xs None = refl
seat_of c n (Some t) xs (Some p) = by_test (t == p.0) refl
  where
    by_test : (b : Bool) → (t == p.0) ≡ b → seat (cond b (lane xs (Some p)) (lane (xs ++ stay c p.0 p.1 n ∷ []) (Some (t, n)))) ≡ Some t
    by_test true e = ap Some (sym (eqb-true t p.0 e))
    by_test false e = refl

seat_then : (n : ℕ) (x : Entry) (c : ℕ) (l : LaneOf) → seat (lane_then n x c l) ≡ then_stands (placed_on c x) ends_run x (seat l)
seat_then n x c l = seat_of c n (then_stands (placed_on c x) ends_run x (seat l)) l.ended l.there

not_placed : (x : Entry) (c : ℕ) → placing x ≡ None → placed_on c x ≡ None
not_placed (Posted m) c e = refl
not_placed (Placed u s d g) c e = absurd cc
not_placed (Role g d) c e = refl
not_placed (Begin g) c e = refl
not_placed Left c e = refl
not_placed (Taken d) c e = refl
not_placed (Given d) c e = refl
not_placed Torn c e = refl

stood : (x : Entry) (o : Option ℕ) (u : ℕ) → then_stands None ends_run x o ≡ Some u → o ≡ Some u
stood x None u e = absurd cc
stood x (Some v) u e = by_test (ends_run v x) e
  where
    by_test : (b : Bool) → cond b None (Some v) ≡ Some u → Some v ≡ Some u
    by_test true f = absurd cc
    by_test false f = f

-- where an entry places nobody
home_kept : (n : ℕ) (x : Entry) (homes : List ℕ) (c : ℕ) (ls : List LaneOf) → placing x ≡ None → AreHome homes c ls → AreHome homes c (each_then (lane_then n x) c ls)
home_kept n x homes c [] p a = tt
home_kept n x homes c (l ∷ ls) p a = (
  λ t e. a.0 t (stood x (seat l) t (ap (λ (o : Option ℕ). then_stands o ends_run x (seat l)) (sym (not_placed x c p)) ∙ (sym (seat_then n x c l) ∙ e))),
  home_kept n x homes (c + 1) ls p a.1,
)

pub still_home : (n : ℕ) (x : Entry) (homes : List ℕ) (ls new : List LaneOf) → placing x ≡ None → AreHome homes 0 ls → new ≡ each_then (lane_then n x) 0 ls → AreHome homes 0 new
still_home n x homes ls new p a e = subst (AreHome homes 0) (sym e) (home_kept n x homes 0 ls p a)

-- where it places a thread that is on no other CPU
placed_home : (n t s cpu g : ℕ) (homes later : List ℕ) (c : ℕ) (ls : List LaneOf) → slice_get later t ≡ Some cpu → ((u d : ℕ) → (u == t) ≡ false → slice_get homes u ≡ Some d → slice_get later u ≡ Some d)
    → AreHome homes c ls → IsApart cpu t c ls → AreHome later c (each_then (lane_then n (Placed t s cpu g)) c ls)
placed_home n t s cpu g homes later c [] here others a i = tt
placed_home n t s cpu g homes later c (l ∷ ls) here others a i = (
  λ u e. by_test u (cpu == c) refl (seat l) refl (ap (λ (b : Bool). then_stands (cond b (Some t) None) ends_run (Placed t s cpu g) (seat l)) refl ∙ (sym (seat_then n (Placed t s cpu g) c l) ∙ e)),
  placed_home n t s cpu g homes later (c + 1) ls here others a.1 i.1,
)
  where
    elsewhere : (u : ℕ) (b : Bool) → (u == t) ≡ b → (cpu == c) ≡ false → seat l ≡ Some u → slice_get later u ≡ Some c
    elsewhere u true f q o = absurd (i.0 q (o ∙ ap Some (eqb-true u t f)))
    elsewhere u false f q o = others u c f (a.0 u o)

    by_test : (u : ℕ) (b : Bool) → (cpu == c) ≡ b → (o : Option ℕ) → seat l ≡ o → then_stands (cond b (Some t) None) ends_run (Placed t s cpu g) o ≡ Some u → slice_get later u ≡ Some c
    by_test u true q o r e = ap (slice_get later) (sym (same_Some t u e)) ∙ (here ∙ ap Some (eqb-true cpu c q))
    by_test u false q None r e = absurd cc
    by_test u false q (Some v) r e = elsewhere u (u == t) refl q (r ∙ e)

pub then_home : (n : ℕ) (x : Entry) (t c : ℕ) (homes later : List ℕ) (ls new : List LaneOf) → placing x ≡ Some (t, c) → slice_get later t ≡ Some c → ((u d : ℕ) → (u == t) ≡ false → slice_get homes u ≡ Some d → slice_get later u ≡ Some d)
    → AreHome homes 0 ls → IsApart c t 0 ls → new ≡ each_then (lane_then n x) 0 ls → AreHome later 0 new
then_home n (Placed v s d g) t c homes later ls new p here others a i e =
    let same = same_Some (v, d) (t, c) p in
    let tid : v ≡ t = ap (λ (q : ℕ × ℕ). q.0) same in
    let cpu : d ≡ c = ap (λ (q : ℕ × ℕ). q.1) same in
    let is : new ≡ each_then (lane_then n (Placed t s c g)) 0 ls = e ∙ ap₂ (λ (w k : ℕ). each_then (lane_then n (Placed w s k g)) 0 ls) tid cpu in
    subst (AreHome later 0) (sym is) (placed_home n t s c g homes later 0 ls here others a i)
then_home n (Posted m) t c homes later ls new p here others a i e = absurd cc
then_home n (Role g d) t c homes later ls new p here others a i e = absurd cc
then_home n (Begin g) t c homes later ls new p here others a i e = absurd cc
then_home n Left t c homes later ls new p here others a i e = absurd cc
then_home n (Taken d) t c homes later ls new p here others a i e = absurd cc
then_home n (Given d) t c homes later ls new p here others a i e = absurd cc
then_home n Torn t c homes later ls new p here others a i e = absurd cc

-- nobody is on any CPU yet
pub vacant_home : (homes : List ℕ) (k c : ℕ) → AreHome homes c (replicate k vacant)
vacant_home homes zero c = tt
vacant_home homes (suc k) c = (λ t e. absurd cc, vacant_home homes k (c + 1))

-- a thread whose CPU is known is on no other, if it is not on that one
apart_from : (cpu t : ℕ) (homes : List ℕ) (c : ℕ) (ls : List LaneOf) → AreHome homes c ls → ((i : ℕ) (l : LaneOf) → slice_get ls i ≡ Some l → slice_get homes t ≡ Some (c + i) → (cpu == c + i) ≡ false → seat l ≢ Some t) → IsApart cpu t c ls
apart_from cpu t homes c [] a h = tt
apart_from cpu t homes c (l ∷ ls) a h = (
  λ q e. let same : c ≡ c + 0 = omega arith in h 0 l refl (a.0 t e ∙ ap Some same) (ap (λ (d : ℕ). cpu == d) (sym same) ∙ q) e,
  apart_from cpu t homes (c + 1) ls a.1 (λ i k at f q. let same : (c + 1) + i ≡ c + suc i = omega arith in h (suc i) k at (f ∙ ap Some same) (ap (λ (d : ℕ). cpu == d) (sym same) ∙ q)),
)

pub apart_unknown : (cpu t : ℕ) (homes : List ℕ) (ls : List LaneOf) → slice_get homes t ≡ None → AreHome homes 0 ls → IsApart cpu t 0 ls
apart_unknown cpu t homes ls e a = apart_from cpu t homes 0 ls a (λ i l at f q o. let both : None ≡ Some (0 + i) = sym e ∙ f in absurd cc)

pub apart_here : (cpu t home : ℕ) (homes : List ℕ) (ls : List LaneOf) → slice_get homes t ≡ Some home → ((i : ℕ) (l : LaneOf) → slice_get ls i ≡ Some l → home ≡ i → (cpu == i) ≡ false → seat l ≢ Some t) → AreHome homes 0 ls → IsApart cpu t 0 ls
apart_here cpu t home homes ls e h a = apart_from cpu t homes 0 ls a (λ i l at f q. let is : home ≡ i = same_Some home (0 + i) (sym e ∙ f) ∙ omega arith in let same : 0 + i ≡ i = omega arith in h i l at is (ap (λ (d : ℕ). cpu == d) (sym same) ∙ q))
