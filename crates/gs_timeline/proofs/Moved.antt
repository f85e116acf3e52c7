-- What an entry makes of the CPU that it is about.
use Rattle.std.proofs.Common.{◌≡◌, refl, ap, ap₂, sym, ◌∙◌, ℕ, ◌==◌, Bool, true, false, cond, Option, None, Some, List, arith}
use Rattle.std.proofs.lemmas.Bool.Decides.{nat_tests}
use Rattle.std.proofs.lemmas.Option.{same_Some}
use Rattle.gs_layout.specs.declared.message.Change.{Change}
use Rattle.gs_layout.specs.declared.message.Message.TheVariants.{Thread, TimerTick}
use Rattle.gs_layout.specs.Message.{takes_off_cpu}
use Rattle.gs_journal.specs.declared.entry.Entry.{Entry}
use Rattle.gs_journal.specs.declared.entry.Entry.TheVariants.{Begin, Given, Left, Placed, Posted, Role, Taken, Torn}
use Rattle.gs_journal.specs.History.{ends_run}
use Rattle.gs_journal.specs.Standing.{then_stands}
use Rattle.gs_timeline.specs.declared.stay.Stay.{Stay}
use Rattle.gs_timeline.specs.Lanes.{LaneOf, empties, gone, lane_then, left, placing, seat, seated, subject}
use Rattle.gs_timeline.proofs.Walked.{seat_stays}

abbrev lane : List Stay → Option (ℕ × ℕ) → LaneOf
lane xs o = record { ended = xs; there = o }

goes : (c n t s : ℕ) (ch : Change) (xs : List Stay) (o : Option (ℕ × ℕ)) → takes_off_cpu ch ≡ true → gone c t n (lane xs o) ≡ lane_then n (Posted (Thread t s ch)) c (lane xs o)
goes c n t s ch xs None e = refl
goes c n t s ch xs (Some p) e = by_test (takes_off_cpu ch) (t == p.0) e
  where
    by_test : (a b : Bool) → a ≡ true → cond b (left c n (lane xs (Some p))) (lane xs (Some p)) ≡ seated c n (cond (cond a b false) None (Some p.0)) (lane xs (Some p))
    by_test true true f = refl
    by_test true false f = sym (seat_stays c n (Some p.0) (lane xs (Some p)) refl)
    by_test false b f = absurd cc

-- one that takes a thread off
pub gone_then : (c n t : ℕ) (x : Entry) (l : LaneOf) → empties x ≡ true → subject x ≡ Some t → gone c t n l ≡ lane_then n x c l
gone_then c n t (Posted (Thread u s ch)) l e is = goes c n t s ch l.ended l.there e ∙ ap (λ (v : ℕ). lane_then n (Posted (Thread v s ch)) c l) (sym (same_Some u t is))
gone_then c n t (Posted (TimerTick d)) l e is = absurd cc
gone_then c n t (Placed u s d g) l e is = absurd cc
gone_then c n t (Role g d) l e is = absurd cc
gone_then c n t (Begin g) l e is = absurd cc
gone_then c n t Left l e is = absurd cc
gone_then c n t (Taken d) l e is = absurd cc
gone_then c n t (Given d) l e is = absurd cc
gone_then c n t Torn l e is = absurd cc

same_place : (n : ℕ) → (n == n) ≡ true
same_place n = grind (arith, nat_tests)

comes : (c n t s g : ℕ) (l : LaneOf) → seated c n (Some t) l ≡ lane_then n (Placed t s c g) c l
comes c n t s g l = ap (λ (b : Bool). seated c n (then_stands (cond b (Some t) None) ends_run (Placed t s c g) (seat l)) l) (sym (same_place c))

-- one that places a thread
pub placed_then : (c n t : ℕ) (x : Entry) (l : LaneOf) → placing x ≡ Some (t, c) → seated c n (Some t) l ≡ lane_then n x c l
placed_then c n t (Placed u s d g) l is =
    let same = same_Some (u, d) (t, c) is in
    let tid : u ≡ t = ap (λ (q : ℕ × ℕ). q.0) same in
    let cpu : d ≡ c = ap (λ (q : ℕ × ℕ). q.1) same in
    comes c n t s g l ∙ sym (ap₂ (λ (v e : ℕ). lane_then n (Placed v s e g) c l) tid cpu)
placed_then c n t (Posted m) l is = absurd cc
placed_then c n t (Role g d) l is = absurd cc
placed_then c n t (Begin g) l is = absurd cc
placed_then c n t Left l is = absurd cc
placed_then c n t (Taken d) l is = absurd cc
placed_then c n t (Given d) l is = absurd cc
placed_then c n t Torn l is = absurd cc
