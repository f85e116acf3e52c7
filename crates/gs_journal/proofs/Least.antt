-- Where a thread is said to be is the least CPU that it is on.
use Rattle.std.proofs.Common.{◌≡◌, refl, ap, sym, ◌∙◌, ℕ, zero, suc, ◌<◌, nat_lt, ◌==◌, Bool, true, false, cond, Option, None, Some, arith}
use Rattle.std.proofs.lemmas.Bool.Decides.{nat_tests}
use Rattle.gs_journal.specs.History.{History, at, at_below, is_thread, on}
use Rattle.gs_journal.proofs.Steps.{at_is}

is_on : (h : History) (t d n : ℕ) → d ≡ n → on h d ≡ Some t → is_thread t (on h n) ≡ true
is_on h t d n same there =
    let own : (t == t) ≡ true = grind (arith, nat_tests) in
    ap (λ k. is_thread t (on h k)) (sym same) ∙ (ap (is_thread t) there ∙ own)

thread_is : (t : ℕ) (o : Option ℕ) → is_thread t o ≡ true → o ≡ Some t
thread_is t None q = absurd cc
thread_is t (Some u) q = ap Some (let same : u ≡ t = grind (arith, nat_tests) in same)

-- if none is found below a count, the thread is on none of them
below_none : (n : ℕ) (h : History) (t : ℕ) → at_below n h t ≡ None → (d : ℕ) → d < n → on h d ≡ Some t → ⊥
below_none zero h t e d lt there = absurd (omega arith)
below_none (suc n) h t e d lt there = by_rest (below_none n h t) (at_below n h t) refl e
  where
    within : d < suc n
    within = lt

    found : on h d ≡ Some t
    found = there

    by_order : ((k : ℕ) → k < n → on h k ≡ Some t → ⊥) → is_thread t (on h n) ≡ false → (b : Bool) → nat_lt d n ≡ b → ⊥
    by_order earlier q true p = earlier d (grind (arith, nat_tests)) found
    by_order earlier q false p = let last : d ≡ n = grind (arith, nat_tests, within) in let clash : true ≡ false = sym (is_on h t d n last found) ∙ q in absurd cc

    here : ((k : ℕ) → k < n → on h k ≡ Some t → ⊥) → (b : Bool) → is_thread t (on h n) ≡ b → cond b (Some n) None ≡ None → ⊥
    here earlier true q e = absurd cc
    here earlier false q e = by_order earlier q (nat_lt d n) refl

    by_rest : (at_below n h t ≡ None → (k : ℕ) → k < n → on h k ≡ Some t → ⊥) → (o : Option ℕ) → at_below n h t ≡ o
        → elim o as (λ _. Option ℕ) [ Some c ↦ Some c | None ↦ cond (is_thread t (on h n)) (Some n) None ] ≡ None → ⊥
    by_rest earlier (Some c) q e = absurd cc
    by_rest earlier None q e = here (earlier q) (is_thread t (on h n)) refl e

-- this CPU is below the count, the thread is on it, and on no lower one
abbrev IsLeast : ℕ → History → ℕ → ℕ → Type 0
IsLeast n h t c = (c < n) × (on h c ≡ Some t) × ((d : ℕ) → d < c → on h d ≡ Some t → ⊥)

below_some : (n : ℕ) (h : History) (t c : ℕ) → at_below n h t ≡ Some c → IsLeast n h t c
below_some zero h t c e = absurd cc
below_some (suc n) h t c e = by_rest (below_some n h t c) (at_below n h t) refl e
  where
    here : at_below n h t ≡ None → (b : Bool) → is_thread t (on h n) ≡ b → cond b (Some n) None ≡ Some c → IsLeast (suc n) h t c
    here none true q e =
        let same : n ≡ c = cc in
        (omega (arith, same), ap (on h) (sym same) ∙ thread_is t (on h n) q, λ d lt there. below_none n h t none d (omega (arith, lt, same)) there)
    here none false q e = absurd cc

    by_rest : (at_below n h t ≡ Some c → IsLeast n h t c) → (o : Option ℕ) → at_below n h t ≡ o
        → elim o as (λ _. Option ℕ) [ Some d ↦ Some d | None ↦ cond (is_thread t (on h n)) (Some n) None ] ≡ Some c → IsLeast (suc n) h t c
    by_rest earlier (Some d) q e = let r = earlier (q ∙ e) in let low : c < n = r.0 in (omega (arith, low), r.1, r.2)
    by_rest earlier None q e = here q (is_thread t (on h n)) refl e

pub at_least : (n : ℕ) (h : History) (t c : ℕ) → at n h t ≡ Some c → IsLeast n h t c
at_least n h t c e = below_some n h t c (sym (at_is n h t) ∙ e)

pub at_none : (n : ℕ) (h : History) (t : ℕ) → at n h t ≡ None → (d : ℕ) → d < n → on h d ≡ Some t → ⊥
at_none n h t e = below_none n h t (sym (at_is n h t) ∙ e)
