-- What a walk keeps of each CPU tells its stays, entry by entry.
use Rattle.std.proofs.Common.{◌≡◌, refl, ap, ap₂, sym, ◌∙◌, subst, ℕ, zero, suc, ◌+◌, ◌<◌, ◌==◌, ◌&&◌, Bool, true, false, cond, Option, None, Some, List, [], ◌∷◌, ◌++◌, length, add-one, append-nil, get_or, take, replicate, slice_get, slice_set, ◌≤◌, drop, arith}
use Rattle.std.specs.Prelude.{nat_eq}
use Rattle.std.specs.Option.{option_eq, option_map}
use Rattle.std.proofs.lemmas.Bool.{eqb-true}
use Rattle.std.proofs.lemmas.Bool.Decides.{nat_tests}
use Rattle.std.proofs.lemmas.Option.{same_Some}
use Rattle.std.proofs.Math.Seq.{take-append_seam}
use Rattle.gs_layout.specs.declared.message.Message.TheVariants.{Thread, TimerTick}
use Rattle.gs_journal.specs.declared.entry.Entry.{Entry}
use Rattle.gs_journal.specs.declared.entry.Entry.TheVariants.{Begin, Given, Left, Placed, Posted, Role, Taken, Torn}
use Rattle.gs_journal.specs.History.{History, on, placed_on, ends_run}
use Rattle.gs_journal.specs.Standing.{then_stands}
use Rattle.gs_journal.proofs.Laws.{on_more, on_nil}
use Rattle.gs_timeline.specs.declared.stay.Stay.{Stay}
use Rattle.gs_timeline.specs.Stays.{stay, grown, stays, then_stay}
use Rattle.gs_timeline.specs.Lanes.{LaneOf, each_then, empties, lane_then, left, placing, seat, seated, told, vacant}
use Rattle.gs_timeline.proofs.Runs.{first_stays, grown_begins, grown_goes, stays_at, stays_none}

-- the last of some stays, if there is one, ended before an entry
abbrev pub AreBefore : ℕ → List Stay → Type 0
AreBefore n [] = Unit {0}
AreBefore n (s ∷ []) = s.to < n
AreBefore n (s ∷ t ∷ ss) = AreBefore n (t ∷ ss)

before_push : (n : ℕ) (xs : List Stay) (s : Stay) → s.to < n → AreBefore n (xs ++ s ∷ [])
before_push n [] s lt = lt
before_push n (x ∷ []) s lt = lt
before_push n (x ∷ y ∷ xs) s lt = before_push n (y ∷ xs) s lt

before_more : (n : ℕ) (xs : List Stay) → AreBefore n xs → AreBefore (n + 1) xs
before_more n [] h = tt
before_more n (x ∷ []) h = omega (arith, h)
before_more n (x ∷ y ∷ xs) h = before_more n (y ∷ xs) h

-- a thread that comes to a CPU on which nobody was begins a stay
grown_new : (c t n : ℕ) (xs : List Stay) → AreBefore n xs → grown c t n xs ≡ xs ++ stay c t n (n + 1) ∷ []
grown_new c t n [] h = refl
grown_new c t n (s ∷ []) h = ap (λ (b : Bool). cond b (record s { to = n + 1 } ∷ []) (s ∷ stay c t n (n + 1) ∷ [])) (apart (s.tid == t) (s.to == n) (other s.to h))
  where
    other : (m : ℕ) → m < n → (m == n) ≡ false
    other m lt = grind (arith, nat_tests)

    apart : (a b : Bool) → b ≡ false → (a && b) ≡ false
    apart true b e = e
    apart false b e = refl
grown_new c t n (s ∷ u ∷ ss) h = ap (λ (l : List Stay). s ∷ l) (grown_new c t n (u ∷ ss) h)

-- what is kept of a CPU tells its stays behind the first entries
pub record IsLane (h : History) (n c : ℕ) (l : LaneOf) : Type 0 where
  pub seat : seat l ≡ on (take n h) c
  pub told : told c n l ≡ first_stays h c n
  pub free : l.there ≡ None → AreBefore n l.ended

abbrev lane : List Stay → Option (ℕ × ℕ) → LaneOf
lane xs o = record { ended = xs; there = o }

-- one entry more
record IsSeated (c n : ℕ) (after : Option ℕ) (l l' : LaneOf) : Type 0 where
  seat : seat l' ≡ after
  told : told c (n + 1) l' ≡ then_stay c n after (told c n l)
  free : l'.there ≡ None → AreBefore (n + 1) l'.ended

same_place : (n : ℕ) → (n == n) ≡ true
same_place n = grind (arith, nat_tests)

both : (a b : Bool) → a ≡ true → b ≡ true → (a && b) ≡ true
both true true e f = refl
both true false e f = f
both false b e f = e

first_false : (a b : Bool) → a ≡ false → (a && b) ≡ false
first_false false b e = refl
first_false true b e = absurd cc

turned : (a b : ℕ) (q : Bool) → (a == b) ≡ q → (b == a) ≡ q
turned a b true e = subst (λ (m : ℕ). (m == a) ≡ true) (eqb-true a b e) (same_place a)
turned a b false e = grind (arith, nat_tests)

by_cases : (c n : ℕ) (after : Option ℕ) (xs : List Stay) (o : Option (ℕ × ℕ)) → (o ≡ None → AreBefore n xs) → IsSeated c n after (lane xs o) (seated c n after (lane xs o))
by_cases c n None xs None free = record { seat = refl; told = refl; free = λ e. before_more n xs (free refl) }
by_cases c n None xs (Some p) free = record {
  seat = refl;
  told = append-nil (xs ++ stay c p.0 p.1 n ∷ []);
  free = λ e. before_push (n + 1) xs (stay c p.0 p.1 n) (omega arith);
}
by_cases c n (Some t) xs None free = record {
  seat = refl;
  told = sym (grown_new c t n (xs ++ []) (subst (AreBefore n) (sym (append-nil xs)) (free refl)));
  free = λ e. absurd cc;
}
by_cases c n (Some t) xs (Some p) free = by_test (t == p.0) refl
  where
    s : Stay
    s = stay c p.0 p.1 n

    by_test : (b : Bool) → (t == p.0) ≡ b → IsSeated c n (Some t) (lane xs (Some p)) (cond b (lane xs (Some p)) (lane (xs ++ s ∷ []) (Some (t, n))))
    by_test true e = record {
      seat = ap Some (sym (eqb-true t p.0 e));
      told = grown_goes c t n xs (xs ++ s ∷ []) s refl (both (p.0 == t) (n == n) (turned t p.0 true e) (same_place n));
      free = λ e. absurd cc;
    }
    by_test false e = record {
      seat = refl;
      told = grown_begins c t n xs (xs ++ s ∷ []) s refl (first_false (p.0 == t) (n == n) (turned t p.0 false e));
      free = λ e. absurd cc;
    }

lane_more : (h : History) (c n : ℕ) (x : Entry) (l : LaneOf) → n < length h → x ≡ get_or h n x → IsLane h n c l → IsLane h (n + 1) c (lane_then n x c l)
lane_more h c n x l lt is i =
    let after = then_stands (placed_on c x) ends_run x (seat l) in
    let s = by_cases c n after l.ended l.there i.free in
    let next : after ≡ on (take (n + 1) h) c = ap₂ (λ (y : Entry) (q : Option ℕ). then_stands (placed_on c y) ends_run y q) is i.seat ∙ sym (on_more h n c x lt) in
    record {
      seat = s.seat ∙ next;
      told = s.told ∙ (ap₂ (then_stay c n) next i.told ∙ sym (stays_at h c n (n + 1) (add-one n)));
      free = s.free;
    }

-- the same of CPUs from one on
abbrev pub AreLanes : History → ℕ → ℕ → List LaneOf → Type 0
AreLanes h n c [] = Unit {0}
AreLanes h n c (l ∷ ls) = IsLane h n c l × AreLanes h n (c + 1) ls

pub lanes_more : (h : History) (n : ℕ) (x : Entry) → n < length h → x ≡ get_or h n x → (c : ℕ) (ls : List LaneOf) → AreLanes h n c ls → AreLanes h (n + 1) c (each_then (lane_then n x) c ls)
lanes_more h n x lt is c [] i = tt
lanes_more h n x lt is c (l ∷ ls) i = (lane_more h c n x l lt is i.0, lanes_more h n x lt is (c + 1) ls i.1)

pub lanes_none : (h : History) (k c : ℕ) → AreLanes h 0 c (replicate k vacant)
lanes_none h zero c = tt
lanes_none h (suc k) c = (record { seat = sym (on_nil c); told = sym (stays_none h c); free = λ e. tt }, lanes_none h k (c + 1))

pub lanes_ended : (h : History) (n c : ℕ) (ls : List LaneOf) → n ≡ length h → AreLanes h n c ls → (i : ℕ) → i < length ls
    → option_map (λ (l : LaneOf). l.ended) (slice_get (each_then (λ d. left d n) c ls) i) ≡ Some (stays h (c + i))
lanes_ended h n c [] e a i lt = absurd (omega (arith, lt))
lanes_ended h n c (l ∷ ls) e a zero lt = ap Some (a.0.told ∙ ap (first_stays h c) e) ∙ (let same : c ≡ c + 0 = omega arith in ap (λ (d : ℕ). Some (stays h d)) same)
lanes_ended h n c (l ∷ ls) e a (suc i) lt = lanes_ended h n (c + 1) ls e a.1 i (omega (arith, lt)) ∙ ap (λ (d : ℕ). Some (stays h d)) (omega arith)

pub length_each : (f : ℕ → LaneOf → LaneOf) (c : ℕ) (ls : List LaneOf) → length (each_then f c ls) ≡ length ls
length_each f c [] = refl
length_each f c (l ∷ ls) = ap suc (length_each f (c + 1) ls)

-- ---- what no entry changes

-- an entry leaves whoever is on a CPU there, or nobody
abbrev Leaves : Entry → ℕ → Type 0
Leaves x c = (o : Option ℕ) → then_stands (placed_on c x) ends_run x o ≡ o

same_seat : (o : Option ℕ) → option_eq nat_eq o o ≡ true
same_seat None = refl
same_seat (Some t) = same_place t

pub seat_stays : (c n : ℕ) (o : Option ℕ) (l : LaneOf) → o ≡ seat l → seated c n o l ≡ l
seat_stays c n o l e =
    ap (λ (b : Bool). cond b l (record (left c n l) { there = option_map (λ (t : ℕ). (t, n)) o })) (ap (λ (q : Option ℕ). option_eq nat_eq q (seat l)) e ∙ same_seat (seat l))

lane_stays : (n : ℕ) (x : Entry) (c : ℕ) (l : LaneOf) → Leaves x c → lane_then n x c l ≡ l
lane_stays n x c l h = seat_stays c n (then_stands (placed_on c x) ends_run x (seat l)) l (h (seat l))

each_stays : (n : ℕ) (x : Entry) (c : ℕ) (ls : List LaneOf) → ((d : ℕ) → c ≤ d → d < c + length ls → Leaves x d) → each_then (lane_then n x) c ls ≡ ls
each_stays n x c [] h = refl
each_stays n x c (l ∷ ls) h =
    ap₂ (λ (y : LaneOf) (ys : List LaneOf). y ∷ ys) (lane_stays n x c l (h c (omega arith) (omega arith))) (each_stays n x (c + 1) ls (λ d le lt. h d (omega (arith, le)) (omega (arith, lt))))

one_changes : (n : ℕ) (x : Entry) (c i : ℕ) (ls : List LaneOf) (l : LaneOf) → slice_get ls i ≡ Some l → ((d : ℕ) → (c + i == d) ≡ false → Leaves x d)
    → slice_set ls i (lane_then n x (c + i) l) ≡ each_then (lane_then n x) c ls
one_changes n x c i [] l e h = absurd cc
one_changes n x c zero (y ∷ ys) l e h =
    let same : c + 0 ≡ c = omega arith in
    ap₂ (λ (z : LaneOf) (zs : List LaneOf). z ∷ zs) (ap (λ (d : ℕ). lane_then n x d l) same ∙ ap (lane_then n x c) (sym (same_Some y l e)))
    (sym (each_stays n x (c + 1) ys (λ d le lt. h d (let apart : c + 0 < d = omega (arith, le) in grind (arith, nat_tests)))))
one_changes n x c (suc i) (y ∷ ys) l e h =
    ap₂ (λ (z : LaneOf) (zs : List LaneOf). z ∷ zs) (sym (lane_stays n x c y (h c (grind (arith, nat_tests))))) (ap (λ (d : ℕ). slice_set ys i (lane_then n x d l)) (omega arith) ∙ one_changes n x (c + 1) i ys l e (λ d f. h d (ap (λ (m : ℕ). m == d) (omega arith) ∙ f)))

-- an entry that takes nobody off leaves each CPU but the one that it places a thread on
leaves : (x : Entry) → empties x ≡ false → (d : ℕ) → ((t c : ℕ) → placing x ≡ Some (t, c) → (c == d) ≡ false) → Leaves x d
leaves Torn e d h o = absurd cc
leaves (Posted (Thread t s c)) e d h None = refl
leaves (Posted (Thread t s c)) e d h (Some u) = ap (λ (b : Bool). cond (cond b (t == u) false) None (Some u)) e
leaves (Posted (TimerTick c)) e d h None = refl
leaves (Posted (TimerTick c)) e d h (Some u) = refl
leaves (Placed t s c g) e d h None = ap (λ (b : Bool). then_stands (cond b (Some t) None) ends_run (Placed t s c g) None) (h t c refl)
leaves (Placed t s c g) e d h (Some u) = ap (λ (b : Bool). then_stands (cond b (Some t) None) ends_run (Placed t s c g) (Some u)) (h t c refl)
leaves (Role g c) e d h None = refl
leaves (Role g c) e d h (Some u) = refl
leaves (Begin g) e d h None = refl
leaves (Begin g) e d h (Some u) = refl
leaves Left e d h None = refl
leaves Left e d h (Some u) = refl
leaves (Taken c) e d h None = refl
leaves (Taken c) e d h (Some u) = refl
leaves (Given c) e d h None = refl
leaves (Given c) e d h (Some u) = refl

-- an entry that places nobody, and takes nobody off
pub all_stay : (n : ℕ) (x : Entry) (ls : List LaneOf) → empties x ≡ false → placing x ≡ None → ls ≡ each_then (lane_then n x) 0 ls
all_stay n x ls e f = sym (each_stays n x 0 ls (λ d le lt. leaves x e d (λ t c g. absurd cc)))

same_cpu : (p q : ℕ × ℕ) → Some p ≡ Some q → p.1 ≡ q.1
same_cpu p q e = ap (λ (r : ℕ × ℕ). r.1) (same_Some p q e)

-- one that places a thread on a CPU that is none of these
pub none_there : (n : ℕ) (x : Entry) (t c : ℕ) (ls : List LaneOf) → empties x ≡ false → placing x ≡ Some (t, c) → length ls ≤ c → ls ≡ each_then (lane_then n x) 0 ls
none_there n x t c ls e f le = sym (each_stays n x 0 ls (λ d low lt. leaves x e d (λ u k g. let same : k ≡ c = same_cpu (u, k) (t, c) (sym g ∙ f) in let high : d < c = omega (arith, le, lt) in grind (arith, nat_tests))))

-- one that places a thread on one of these
pub one_there : (n : ℕ) (x : Entry) (t c : ℕ) (ls : List LaneOf) (l : LaneOf) → empties x ≡ false → placing x ≡ Some (t, c) → slice_get ls c ≡ Some l → slice_set ls c (lane_then n x c l) ≡ each_then (lane_then n x) 0 ls
one_there n x t c ls l e f at = ap (λ (d : ℕ). slice_set ls c (lane_then n x d l)) (omega arith) ∙ one_changes n x 0 c ls l at (λ d g. leaves x e d (λ u k p. ap (λ (m : ℕ). m == d) (same_cpu (u, k) (t, c) (sym p ∙ f)) ∙ ap (λ (m : ℕ). m == d) (omega arith) ∙ g))

-- a slice that is as long as the list that it was taken of stands in that list's place
pub in_place : {A : Type 0} (n : ℕ) (xs ys : List A) → length xs ≡ n → take n (xs ++ drop (length xs) ys) ≡ xs
in_place n xs ys e = ap (λ (m : ℕ). take m (xs ++ drop (length xs) ys)) (sym e) ∙ take-append_seam xs (drop (length xs) ys)
