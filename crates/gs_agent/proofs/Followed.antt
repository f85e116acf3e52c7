-- The queue follows who waits.
use Rattle.std.proofs.Common.{◌≡◌, refl, ap, sym, ◌∙◌, ℕ, ◌==◌, ◌&&◌, ◌||◌, not, Bool, true, false, cond, Option, None, Some, List, [], ◌∷◌, ◌++◌, arith, slice_set}
use Rattle.std.specs.List.{list_any}
use Rattle.std.specs.Option.{option_to_list}
use Rattle.std.proofs.Math.Bool.{and-false, and-true, or-false, or-true}
use Rattle.std.proofs.lemmas.Bool.{and_parts, eq-eqb, eqb-true, or_from, or_parts}
use Rattle.std.proofs.lemmas.Bool.Decides.{nat_tests}
use Rattle.gs_layout.specs.declared.known.Known.{Known}
use Rattle.gs_layout.specs.declared.message.Message.{Message}
use Rattle.gs_layout.specs.declared.message.Message.TheVariants.{Thread, TimerTick}
use Rattle.gs_layout.specs.declared.outcome.Outcome.{Outcome}
use Rattle.gs_layout.specs.View.{Look, apply, next_known}
use Rattle.gs_beliefs.specs.declared.running.Running.{Running}
use Rattle.gs_beliefs.specs.Cpus.{Cpus, believed_on, is_believed, is_just, is_named, runs, stamp_on, stamps, unstamps}
use Rattle.gs_beliefs.specs.Belief.{after_outcome, hears}
use Rattle.gs_runq.specs.Queue.{Queue, is_in, order, removed}
use Rattle.gs_runq.proofs.Laws.{in_put, in_removed, not_left, not_right, removed_absent}
use Rattle.gs_agent.specs.Picture.{HoldsWaiting, displaced, ends_turn, goes_last, is_runnable, other_than, requeued, running_tid, settled, settled_all, waits}
use Rattle.gs_agent.proofs.Believing.{believed_hears, believed_outcome, named_hears, named_set, runs_at, stamped_outcome}

-- the queue holds just who waits, but for these threads
abbrev pub HoldsBut : Look → Cpus → List ℕ → Queue → Type 0
HoldsBut v s ts q = (u : ℕ) → is_in u ts ≡ false → is_in u (order q) ≡ waits v s u

runnable_known : (o : Option Known) → is_runnable o ≡ true → (k : Known) × (o ≡ Some k)
runnable_known None e = absurd cc
runnable_known (Some k) e = (k, refl)

waits_known : (v : Look) (s : Cpus) (t : ℕ) → waits v s t ≡ true → (k : Known) × (v t ≡ Some k)
waits_known v s t e = runnable_known (v t) (and_parts (is_runnable (v t)) _ e).0

-- who is in the queue once a thread is settled: it if it waits, and the others as before
in_settled : (v : Look) (s : Cpus) (t u : ℕ) (q : Queue) → is_in u (order (settled v s t q)) ≡ cond (u == t) (waits v s t) (is_in u (order q))
in_settled v s t u q = by_waits (waits v s t) refl (is_in t (order q)) refl (u == t) refl
  where
    by_waits : (w : Bool) → waits v s t ≡ w → (i : Bool) → is_in t (order q) ≡ i → (b : Bool) → (u == t) ≡ b → is_in u (order (cond w (cond i q (goes_last (v t) t q)) (removed t q))) ≡ cond b w (is_in u (order q))
    by_waits true w true i true e = ap (λ (x : ℕ). is_in x (order q)) (eqb-true u t e) ∙ i
    by_waits true w true i false e = refl
    by_waits true w false i b e = put_in b e (waits_known v s t w)
      where
        put_in : (b : Bool) → (u == t) ≡ b → (k : Known) × (v t ≡ Some k) → is_in u (order (goes_last (v t) t q)) ≡ cond b true (is_in u (order q))
        put_in true e k = ap (λ (o : Option Known). is_in u (order (goes_last o t q))) k.1 ∙ (in_put u t k.0.facts.class q ∙ (ap (λ (z : Bool). is_in u (order q) || z) e ∙ or-true (is_in u (order q))))
        put_in false e k = ap (λ (o : Option Known). is_in u (order (goes_last o t q))) k.1 ∙ (in_put u t k.0.facts.class q ∙ (ap (λ (z : Bool). is_in u (order q) || z) e ∙ or-false (is_in u (order q))))
    by_waits false w i ii true e = in_removed u t q ∙ (ap (λ (z : Bool). is_in u (order q) && not z) e ∙ and-false (is_in u (order q)))
    by_waits false w i ii false e = in_removed u t q ∙ (ap (λ (z : Bool). is_in u (order q) && not z) e ∙ and-true (is_in u (order q)))

-- a thread that is in the queue if it waits, and else not, is settled
pub settled_kept : (v : Look) (s : Cpus) (t : ℕ) (q : Queue) → is_in t (order q) ≡ waits v s t → settled v s t q ≡ q
settled_kept v s t q e = by_waits (waits v s t) e
  where
    by_waits : (w : Bool) → is_in t (order q) ≡ w → cond w (cond (is_in t (order q)) q (goes_last (v t) t q)) (removed t q) ≡ q
    by_waits true e = ap (λ (i : Bool). cond i q (goes_last (v t) t q)) e
    by_waits false e = removed_absent t q e

-- to settle a thread twice is to settle it once
pub settled_again : (v : Look) (s : Cpus) (t : ℕ) (q : Queue) → settled v s t (settled v s t q) ≡ settled v s t q
settled_again v s t q =
    settled_kept v s t (settled v s t q) (in_settled v s t t q ∙ ap (λ (b : Bool). cond b (waits v s t) (is_in t (order q))) (eq-eqb t t refl))

-- so one more is settled only if it is another
pub settled_other : (v : Look) (s : Cpus) (t : ℕ) (o : Option ℕ) (q : Queue) → settled_all v s (option_to_list (other_than t o)) (settled v s t q) ≡ settled_all v s (option_to_list o) (settled v s t q)
settled_other v s t None q = refl
settled_other v s t (Some u) q = by_test (u == t) refl
  where
    by_test : (b : Bool) → (u == t) ≡ b → settled_all v s (option_to_list (cond b None (Some u))) (settled v s t q) ≡ settled v s u (settled v s t q)
    by_test true e = sym (ap (λ (x : ℕ). settled v s x (settled v s t q)) (eqb-true u t e) ∙ settled_again v s t q)
    by_test false e = refl

-- two numbers differ either way round
turned : (x t : ℕ) → (x == t) ≡ false → (t == x) ≡ false
turned x t e = grind (arith, nat_tests)

-- one thread less is unsettled
pub holds_more : (v : Look) (s : Cpus) (t : ℕ) (ts : List ℕ) (q : Queue) → HoldsBut v s (t ∷ ts) q → HoldsBut v s ts (settled v s t q)
holds_more v s t ts q h = λ u out. in_settled v s t u q ∙ by_test u out (u == t) refl
  where
    by_test : (u : ℕ) → is_in u ts ≡ false → (b : Bool) → (u == t) ≡ b → cond b (waits v s t) (is_in u (order q)) ≡ waits v s u
    by_test u out true e = ap (waits v s) (sym (eqb-true u t e))
    by_test u out false e = h u (or_from (t == u) (is_in u ts) (turned u t e) out)

pub holds_all : (v : Look) (s : Cpus) (ts : List ℕ) (q : Queue) → HoldsBut v s ts q → HoldsWaiting v s (settled_all v s ts q)
holds_all v s [] q h = λ u. h u refl
holds_all v s (t ∷ ts) q h = holds_all v s ts (settled v s t q) (holds_more v s t ts q h)

-- who waits as before is in the queue as before
pub others_hold : (v v' : Look) (s s' : Cpus) (ts : List ℕ) (q q' : Queue) → HoldsWaiting v s q → ((u : ℕ) → is_in u ts ≡ false → is_in u (order q') ≡ is_in u (order q)) → ((u : ℕ) → is_in u ts ≡ false → waits v' s' u ≡ waits v s u)
    → HoldsBut v' s' ts q'
others_hold v v' s s' ts q q' h same alike = λ u out. same u out ∙ (h u ∙ sym (alike u out))

pub waits_alike : (v v' : Look) (s s' : Cpus) (u : ℕ) → v' u ≡ v u → is_believed s' u ≡ is_believed s u → is_named s' u ≡ is_named s u → waits v' s' u ≡ waits v s u
waits_alike v v' s s' u a b c = rw a (rw b (rw c refl))

-- who is none of one thread is another
another : (u t : ℕ) → is_in u (t ∷ []) ≡ false → (t == u) ≡ false
another u t e = (or_parts (t == u) false e).0

kept_in : (u t : ℕ) (q : Queue) → (t == u) ≡ false → is_in u (order (removed t q)) ≡ is_in u (order q)
kept_in u t q n = in_removed u t q ∙ (ap (λ (z : Bool). is_in u (order q) && not z) (turned t u n) ∙ and-true (is_in u (order q)))

-- a message that applied
pub holds_news : (v : Look) (s : Cpus) (q : Queue) (m : Message) → HoldsWaiting v s q → HoldsWaiting (apply v m) (hears m s) (requeued (apply v m) (hears m s) m q)
holds_news v s q (TimerTick c) h = λ u. h u ∙ sym (waits_alike v (apply v (TimerTick c)) s (hears (TimerTick c) s) u refl (believed_hears (TimerTick c) u s refl) refl)
holds_news v s q (Thread t n change) h = holds_all v' s' (t ∷ []) (cond (ends_turn change) (removed t q) q) (others_hold v v' s s' (t ∷ []) q (cond (ends_turn change) (removed t q) q) h (same (ends_turn change)) alike)
  where
    v' : Look
    v' = apply v (Thread t n change)

    s' : Cpus
    s' = hears (Thread t n change) s

    same : (b : Bool) (u : ℕ) → is_in u (t ∷ []) ≡ false → is_in u (order (cond b (removed t q) q)) ≡ is_in u (order q)
    same true u out = kept_in u t q (another u t out)
    same false u out = refl

    other_view : (u : ℕ) → (t == u) ≡ false → v' u ≡ v u
    other_view u e = ap (λ (b : Bool). cond b (next_known (v u) (Thread t n change)) (v u)) e

    alike : (u : ℕ) → is_in u (t ∷ []) ≡ false → waits v' s' u ≡ waits v s u
    alike u out = waits_alike v v' s s' u (other_view u (another u t out)) (believed_hears (Thread t n change) u s (another u t out)) (named_hears (Thread t n change) u s)

-- other beliefs: those for whom they change who waits are settled
holds_with : (v : Look) (s s' : Cpus) (ts : List ℕ) (q : Queue) → HoldsWaiting v s q → ((u : ℕ) → is_in u ts ≡ false → waits v s' u ≡ waits v s u) → HoldsWaiting v s' (settled_all v s' ts q)
holds_with v s s' ts q h alike = holds_all v s' ts q (others_hold v v s s' ts q q h (λ u out. refl) alike)

out_option : (u : ℕ) (o : Option ℕ) → is_in u (option_to_list o) ≡ false → is_just u o ≡ false
out_option u None e = refl
out_option u (Some t) e = another u t e

pub holds_stamp : (v : Look) (s : Cpus) (q : Queue) (c t : ℕ) → HoldsWaiting v s q → HoldsWaiting v (stamps c t s) (settled_all v (stamps c t s) (t ∷ option_to_list (stamp_on s c)) q)
holds_stamp v s q c t h = holds_with v s (stamps c t s) (t ∷ option_to_list (stamp_on s c)) q h alike
  where
    alike : (u : ℕ) → is_in u (t ∷ option_to_list (stamp_on s c)) ≡ false → waits v (stamps c t s) u ≡ waits v s u
    alike u out =
        let both = or_parts (t == u) (is_in u (option_to_list (stamp_on s c))) out in
        waits_alike v v s (stamps c t s) u refl refl (named_set (Some t) c u s both.0 (out_option u (stamp_on s c) both.1))

pub displaced_out : (s : Cpus) (at : Option ℕ) (u : ℕ) → is_in u (option_to_list (displaced s at)) ≡ false → runs_at s at u ≡ false
displaced_out s None u e = refl
displaced_out s (Some c) u e = by_belief (believed_on s c) e
  where
    by_belief : (o : Option Running) → is_in u (option_to_list (running_tid o)) ≡ false → runs u o ≡ false
    by_belief None f = refl
    by_belief (Some r) f = another u r.tid f

-- whom a collected slot may make wait, or wait no more
abbrev pub touched : Cpus → ℕ → Option ℕ → ℕ → List ℕ
touched s c at t = t ∷ option_to_list (stamp_on s c) ++ option_to_list (displaced s at)

pub holds_slot : (v : Look) (s : Cpus) (q : Queue) (c : ℕ) (o : Outcome) (at : Option ℕ) (t n : ℕ) → HoldsWaiting v s q
    → HoldsWaiting v (unstamps c (after_outcome o at t n s)) (settled_all v (unstamps c (after_outcome o at t n s)) (touched s c at t) q)
holds_slot v s q c o at t n h = holds_with v s s' (touched s c at t) q h alike
  where
    s' : Cpus
    s' = unstamps c (after_outcome o at t n s)

    alike : (u : ℕ) → is_in u (touched s c at t) ≡ false → waits v s' u ≡ waits v s u
    alike u out =
        let both = or_parts (t == u) (is_in u (option_to_list (stamp_on s c) ++ option_to_list (displaced s at))) out in
        let own : (t == u) ≡ false = both.0 in
        let named : is_just u (stamp_on s c) ≡ false = out_option u (stamp_on s c) (not_left u (option_to_list (stamp_on s c)) (option_to_list (displaced s at)) both.1) in
        let there : runs_at s at u ≡ false = displaced_out s at u (not_right u (option_to_list (stamp_on s c)) (option_to_list (displaced s at)) both.1) in
        waits_alike v v s s' u refl (believed_outcome o at t n u s own there)
        (ap (λ (xs : List (Option ℕ)). list_any (is_just u) (slice_set xs c None)) (stamped_outcome o at t n s) ∙ named_set None c u s refl named)

-- several threads are settled one after another
pub settled_append : (v : Look) (s : Cpus) (xs ys : List ℕ) (q : Queue) → settled_all v s (xs ++ ys) q ≡ settled_all v s ys (settled_all v s xs q)
settled_append v s [] ys q = refl
settled_append v s (x ∷ xs) ys q = settled_append v s xs ys (settled v s x q)
