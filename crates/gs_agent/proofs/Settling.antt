-- Whoever has a CPU does not wait.
use Rattle.std.proofs.Common.{◌≡◌, refl, ap, sym, ◌∙◌, ℕ, zero, suc, ◌<◌, ◌==◌, not, ◌&&◌, ◌||◌, Bool, true, false, cond, length, Option, None, Some, List, [], ◌∷◌, arith}
use Rattle.std.specs.Prelude.{is_some, slice_index_or}
use Rattle.std.specs.List.{list_any}
use Rattle.std.proofs.Math.Bool.{and-false}
use Rattle.std.proofs.lemmas.Bool.{cond-false}
use Rattle.std.proofs.lemmas.Bool.Decides.{nat_tests}
use Rattle.gs_layout.specs.declared.facts.Class.{Class}
use Rattle.gs_layout.specs.declared.known.Known.{Known}
use Rattle.gs_layout.specs.View.{Look}
use Rattle.gs_beliefs.specs.declared.running.Running.{Running}
use Rattle.gs_beliefs.specs.Cpus.{Cpus, believed_on, is_believed, is_just, is_named, places, runs, stamp_on, unstamps}
use Rattle.gs_beliefs.proofs.Laws.{believed_on_places}
use Rattle.gs_runq.specs.Queue.{Queue, is_in, order, put, removed}
use Rattle.gs_runq.proofs.Laws.{in_removed, removed_absent}
use Rattle.gs_view.specs.News.{ready_of}
use Rattle.gs_agent.specs.Picture.{HoldsWaiting, displaced, goes_last, is_runnable, running_tid, settled, waits}
use Rattle.gs_agent.proofs.Followed.{settled_kept}

-- a test that holds of an element, and not of what stands for those past the end
any_where : {A : Type 0} (p : A → Bool) (d : A) (xs : List A) (c : ℕ) → p d ≡ false → p (slice_index_or xs c d) ≡ true → list_any p xs ≡ true
any_where p d [] c n h = absurd cc
any_where p d (x ∷ xs) zero n h = ap (λ (b : Bool). b || list_any p xs) h
any_where p d (x ∷ xs) (suc c) n h = by_first (p x) (list_any p xs) (any_where p d xs c n h)
  where
    by_first : (a b : Bool) → b ≡ true → (a || b) ≡ true
    by_first true b e = refl
    by_first false b e = e

same_number : (t : ℕ) → (t == t) ≡ true
same_number t = grind (arith, nat_tests)

-- whoever is named or believed to run does not wait
not_named : (r b n : Bool) → n ≡ true → (r && (not b && not n)) ≡ false
not_named false b n e = refl
not_named true true n e = refl
not_named true false true e = refl
not_named true false false e = absurd cc

not_believed : (r b n : Bool) → b ≡ true → (r && (not b && not n)) ≡ false
not_believed false b n e = refl
not_believed true true n e = refl
not_believed true false n e = absurd cc

pub named_waits_not : (v : Look) (s : Cpus) (t : ℕ) → is_named s t ≡ true → waits v s t ≡ false
named_waits_not v s t e = not_named (is_runnable (v t)) (is_believed s t) (is_named s t) e

-- whom the stamp on a CPU names
stamped_waits_not : (v : Look) (s : Cpus) (c t : ℕ) → stamp_on s c ≡ Some t → waits v s t ≡ false
stamped_waits_not v s c t e = named_waits_not v s t (any_where (is_just t) None s.stamped c refl (ap (is_just t) e ∙ same_number t))

pub settled_stamped : (v : Look) (s : Cpus) (c t : ℕ) (q : Queue) → stamp_on s c ≡ Some t → settled v s t q ≡ removed t q
settled_stamped v s c t q e = cond-false (waits v s t) _ (removed t q) (stamped_waits_not v s c t e)

-- who is believed to run where a thread was found
runs_there : (o : Option Running) (t : ℕ) → running_tid o ≡ Some t → runs t o ≡ true
runs_there None t e = absurd cc
runs_there (Some r) t e = ap (is_just t) e ∙ same_number t

found_waits_not : (v : Look) (s : Cpus) (at : Option ℕ) (t : ℕ) → displaced s at ≡ Some t → waits v s t ≡ false
found_waits_not v s None t e = absurd cc
found_waits_not v s (Some c) t e = not_believed (is_runnable (v t)) (is_believed s t) (is_named s t) (any_where (runs t) None s.believed c refl (runs_there (believed_on s c) t e))

pub settled_found : (v : Look) (s : Cpus) (at : Option ℕ) (t : ℕ) (q : Queue) → displaced s at ≡ Some t → settled v s t q ≡ removed t q
settled_found v s at t q e = cond-false (waits v s t) _ (removed t q) (found_waits_not v s at t e)

-- a thread that a stamp names, and that is then believed to run on a CPU, waits neither before nor after: the queue is settled for it as it is
placed_waits_not : (v : Look) (s : Cpus) (c p t n : ℕ) → p < length s.believed → waits v (unstamps c (places p t n s)) t ≡ false
placed_waits_not v s c p t n below = found_waits_not v (unstamps c (places p t n s)) (Some p) t (ap running_tid (believed_on_places p t n s below))

pub settled_placed : (v : Look) (s : Cpus) (c p t n : ℕ) (q : Queue) → p < length s.believed → stamp_on s c ≡ Some t → HoldsWaiting v s q → settled v (unstamps c (places p t n s)) t q ≡ q
settled_placed v s c p t n q below named h =
    settled_kept v (unstamps c (places p t n s)) t q (h t ∙ (stamped_waits_not v s c t named ∙ sym (placed_waits_not v s c p t n below)))

-- who may not run does not wait
not_ready : (o : Option Known) → ready_of o ≡ None → is_runnable o ≡ false
not_ready None e = refl
not_ready (Some k) e = by_test k.facts.runnable e
  where
    by_test : (b : Bool) → cond b (Some k.facts.class) None ≡ None → b ≡ false
    by_test true f = absurd cc
    by_test false f = refl

pub unready_waits_not : (v : Look) (s : Cpus) (t : ℕ) → ready_of (v t) ≡ None → waits v s t ≡ false
unready_waits_not v s t e = ap (λ (b : Bool). b && (not (is_believed s t) && not (is_named s t))) (not_ready (v t) e)

pub ready_known : (o : Option Known) (c : Class) → ready_of o ≡ Some c → is_some o ≡ true
ready_known None c e = absurd cc
ready_known (Some k) c e = refl

-- a thread that was taken out is out: it stays out if it does not wait, and else it goes last of its class
pub gone : (t : ℕ) (q : Queue) → is_in t (order (removed t q)) ≡ false
gone t q = in_removed t t q ∙ (ap (λ (b : Bool). is_in t (order q) && not b) (same_number t) ∙ and-false (is_in t (order q)))

pub settled_out : (v : Look) (s : Cpus) (t : ℕ) (q : Queue) → waits v s t ≡ false → settled v s t (removed t q) ≡ removed t q
settled_out v s t q e = cond-false (waits v s t) _ (removed t (removed t q)) e ∙ removed_absent t (removed t q) (gone t q)

put_by : (o : Option Known) (b n i : Bool) (t : ℕ) (q : Queue) (c : Class) → ready_of o ≡ Some c → b ≡ false → n ≡ false → i ≡ false
    → cond (is_runnable o && (not b && not n)) (cond i q (goes_last o t q)) (removed t q) ≡ put c t q
put_by None b n i t q c e x y z = absurd cc
put_by (Some k) true n i t q c e x y z = absurd cc
put_by (Some k) false true i t q c e x y z = absurd cc
put_by (Some k) false false true t q c e x y z = absurd cc
put_by (Some k) false false false t q c e x y z = by_test k.facts.runnable e
  where
    by_test : (b : Bool) → cond b (Some k.facts.class) None ≡ Some c → cond (b && true) (put k.facts.class t q) (removed t q) ≡ put c t q
    by_test true f = let same : k.facts.class ≡ c = cc in ap (λ (x : Class). put x t q) same
    by_test false f = absurd cc

pub settled_last : (v : Look) (s : Cpus) (t : ℕ) (q : Queue) (c : Class) → ready_of (v t) ≡ Some c → is_believed s t ≡ false → is_named s t ≡ false → settled v s t (removed t q) ≡ put c t (removed t q)
settled_last v s t q c ready off free = put_by (v t) (is_believed s t) (is_named s t) (is_in t (order (removed t q))) t (removed t q) c ready off free (gone t q)
