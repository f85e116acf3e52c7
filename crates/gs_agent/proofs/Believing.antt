-- Whom a change of what is believed leaves believed and named.
use Rattle.std.proofs.Common.{◌≡◌, refl, ap, sym, ◌∙◌, ℕ, zero, suc, ◌==◌, ◌||◌, Bool, true, false, cond, Option, None, Some, List, [], ◌∷◌, map, arith, slice_set}
use Rattle.std.specs.Prelude.{nat_lt, length, slice_index_or}
use Rattle.std.specs.List.{list_any}
use Rattle.std.proofs.lemmas.Bool.Decides.{nat_tests}
use Rattle.gs_layout.specs.declared.message.Change.{Change}
use Rattle.gs_layout.specs.declared.message.Change.TheVariants.{Created, Blocked, Wakeup, Preempted, Yield, Dead, Affinity}
use Rattle.gs_layout.specs.declared.message.Message.{Message}
use Rattle.gs_layout.specs.declared.message.Message.TheVariants.{Thread, TimerTick}
use Rattle.gs_layout.specs.declared.outcome.Outcome.{Outcome}
use Rattle.gs_layout.specs.Message.{is_about, takes_off_cpu}
use Rattle.gs_layout.specs.Spelling.{tid_of}
use Rattle.gs_beliefs.specs.declared.running.Running.{Running}
use Rattle.gs_beliefs.specs.Cpus.{Cpus, believed_on, cleared_at, clears, is_believed, is_just, is_named, places, raised_at, raises, running, runs, stamp_on, ticked, ticks}
use Rattle.gs_beliefs.proofs.Laws.{believed_on_clears}
use Rattle.gs_beliefs.specs.Belief.{after_outcome, hears, shows_place}
use Rattle.gs_agent.specs.Picture.{ends_own_turn, ends_turn}

-- a test that holds of as many elements as before
any_map : {A : Type 0} (p : A → Bool) (f : A → A) (xs : List A) → ((x : A) → p (f x) ≡ p x) → list_any p (map f xs) ≡ list_any p xs
any_map p f [] h = refl
any_map p f (x ∷ xs) h = ap (λ (b : Bool). b || list_any p (map f xs)) (h x) ∙ ap (λ (b : Bool). p x || b) (any_map p f xs h)

any_set : {A : Type 0} (p : A → Bool) (d y : A) (xs : List A) (c : ℕ) → p y ≡ p (slice_index_or xs c d) → list_any p (slice_set xs c y) ≡ list_any p xs
any_set p d y [] c h = refl
any_set p d y (x ∷ xs) zero h = ap (λ (b : Bool). b || list_any p xs) h
any_set p d y (x ∷ xs) (suc c) h = ap (λ (b : Bool). p x || b) (any_set p d y xs c h)

differ : (x t u : ℕ) → (x == t) ≡ true → (t == u) ≡ false → (x == u) ≡ false
differ x t u e n = grind (arith, nat_tests)

runs_cleared : (t u : ℕ) → (t == u) ≡ false → (o : Option Running) → runs u (cleared_at t o) ≡ runs u o
runs_cleared t u n None = refl
runs_cleared t u n (Some r) = by_test (r.tid == t) refl
  where
    by_test : (b : Bool) → (r.tid == t) ≡ b → runs u (cond b None (Some r)) ≡ (r.tid == u)
    by_test true e = sym (differ r.tid t u e n)
    by_test false e = refl

runs_raised : (t n u : ℕ) (o : Option Running) → runs u (raised_at t n o) ≡ runs u o
runs_raised t n u None = refl
runs_raised t n u (Some r) = by_test (r.tid == t)
  where
    by_test : (b : Bool) → runs u (cond b (Some (record r { tseq = n })) (Some r)) ≡ (r.tid == u)
    by_test true = refl
    by_test false = refl

runs_ticked : (u : ℕ) (o : Option Running) → runs u (ticked o) ≡ runs u o
runs_ticked u None = refl
runs_ticked u (Some r) = refl

pub believed_clears : (t u : ℕ) (s : Cpus) → (t == u) ≡ false → is_believed (clears t s) u ≡ is_believed s u
believed_clears t u s n = any_map (runs u) (cleared_at t) s.believed (runs_cleared t u n)

pub believed_raises : (t n u : ℕ) (s : Cpus) → is_believed (raises t n s) u ≡ is_believed s u
believed_raises t n u s = any_map (runs u) (raised_at t n) s.believed (runs_raised t n u)

believed_ticks : (c u : ℕ) (s : Cpus) → is_believed (ticks c s) u ≡ is_believed s u
believed_ticks c u s = any_set (runs u) None (ticked (believed_on s c)) s.believed c (runs_ticked u (believed_on s c))

-- a message changes nobody's belief but its own thread's
pub believed_hears : (m : Message) (u : ℕ) (s : Cpus) → is_about u m ≡ false → is_believed (hears m s) u ≡ is_believed s u
believed_hears (TimerTick c) u s n = believed_ticks c u s
believed_hears (Thread t k change) u s n = by_test (takes_off_cpu change)
  where
    by_test : (b : Bool) → is_believed (cond b (clears t s) (raises t k s)) u ≡ is_believed s u
    by_test true = believed_clears t u s n
    by_test false = believed_raises t k u s

-- a message that ends its thread's turn leaves it believed to run nowhere
runs_cleared_not : (t : ℕ) (o : Option Running) → runs t (cleared_at t o) ≡ false
runs_cleared_not t None = refl
runs_cleared_not t (Some r) = by_test (r.tid == t) refl
  where
    by_test : (b : Bool) → (r.tid == t) ≡ b → runs t (cond b None (Some r)) ≡ false
    by_test true e = refl
    by_test false e = e

any_cleared : (t : ℕ) (xs : List (Option Running)) → list_any (runs t) (map (cleared_at t) xs) ≡ false
any_cleared t [] = refl
any_cleared t (x ∷ xs) = ap (λ (b : Bool). b || list_any (runs t) (map (cleared_at t) xs)) (runs_cleared_not t x) ∙ any_cleared t xs

ends_off : (c : Change) → ends_turn c ≡ true → takes_off_cpu c ≡ true
ends_off (Preempted c) e = refl
ends_off (Yield c) e = refl
ends_off (Created f) e = absurd cc
ends_off (Blocked c) e = absurd cc
ends_off Wakeup e = absurd cc
ends_off (Dead c) e = absurd cc
ends_off (Affinity c off m) e = absurd cc

pub turn_ended : (m : Message) (s s' : Cpus) → s' ≡ hears m s → ends_own_turn m ≡ true → is_believed s' (tid_of m) ≡ false
turn_ended (TimerTick c) s s' a e = absurd cc
turn_ended (Thread t n change) s s' a e =
    ap (λ (x : Cpus). is_believed x t) (a ∙ ap (λ (b : Bool). cond b (clears t s) (raises t n s)) (ends_off change e)) ∙ any_cleared t s.believed

pub named_hears : (m : Message) (u : ℕ) (s : Cpus) → is_named (hears m s) u ≡ is_named s u
named_hears (TimerTick c) u s = refl
named_hears (Thread t k change) u s = by_test (takes_off_cpu change)
  where
    by_test : (b : Bool) → is_named (cond b (clears t s) (raises t k s)) u ≡ is_named s u
    by_test true = refl
    by_test false = refl

-- a placing changes the beliefs of two threads alone: its own, and the one that it finds there
believed_places : (c t n u : ℕ) (s : Cpus) → (t == u) ≡ false → runs u (believed_on s c) ≡ false → is_believed (places c t n s) u ≡ is_believed s u
believed_places c t n u s apart other = by_test (nat_lt c (length s.believed))
  where
    cleared : runs u (slice_index_or (map (cleared_at t) s.believed) c None) ≡ false
    cleared = ap (runs u) (believed_on_clears t s c) ∙ (runs_cleared t u apart (believed_on s c) ∙ other)

    by_test : (b : Bool) → is_believed (cond b (record s { believed = slice_set (map (cleared_at t) s.believed) c (Some (running t n)) }) s) u ≡ is_believed s u
    by_test true = any_set (runs u) None (Some (running t n)) (map (cleared_at t) s.believed) c (apart ∙ sym cleared) ∙ believed_clears t u s apart
    by_test false = refl

abbrev pub runs_at : Cpus → Option ℕ → ℕ → Bool
runs_at s None u = false
runs_at s (Some c) u = runs u (believed_on s c)

pub believed_outcome : (o : Outcome) (at : Option ℕ) (t n u : ℕ) (s : Cpus) → (t == u) ≡ false → runs_at s at u ≡ false → is_believed (after_outcome o at t n s) u ≡ is_believed s u
believed_outcome o None t n u s apart other = refl
believed_outcome o (Some c) t n u s apart other = by_test (shows_place o)
  where
    by_test : (b : Bool) → is_believed (cond b (places c t n s) s) u ≡ is_believed s u
    by_test true = believed_places c t n u s apart other
    by_test false = refl

pub stamped_outcome : (o : Outcome) (at : Option ℕ) (t n : ℕ) (s : Cpus) → (after_outcome o at t n s).stamped ≡ s.stamped
stamped_outcome o None t n s = refl
stamped_outcome o (Some c) t n s = by_place (shows_place o) (nat_lt c (length s.believed))
  where
    by_place : (b d : Bool) → (cond b (cond d (record s { believed = slice_set (map (cleared_at t) s.believed) c (Some (running t n)) }) s) s).stamped ≡ s.stamped
    by_place true true = refl
    by_place true false = refl
    by_place false d = refl

-- a stamp more, or one less, names or frees the thread that it names
pub named_set : (o : Option ℕ) (c u : ℕ) (s : Cpus) → is_just u o ≡ false → is_just u (stamp_on s c) ≡ false → list_any (is_just u) (slice_set s.stamped c o) ≡ is_named s u
named_set o c u s n m = any_set (is_just u) None o s.stamped c (n ∙ sym m)
