-- A thread that is on no CPU was last taken off, or never put on one.
use Rattle.std.proofs.Common.{◌≡◌, ◌⊎◌, inl, inr, refl, ap, sym, ◌∙◌, ℕ, suc, ◌<◌, ◌≤◌, ◌==◌, ◌&&◌, Bool, true, false, cond, Option, None, Some, [], ◌∷◌, ◌++◌, length, slice_get, arith}
use Rattle.std.proofs.lemmas.Option.{slice_get_within}
use Rattle.gs_layout.specs.Message.{takes_off_cpu}
use Rattle.gs_layout.specs.declared.message.Message.TheVariants.{Thread, TimerTick}
use Rattle.gs_journal.specs.declared.entry.Entry.{Entry}
use Rattle.gs_journal.specs.declared.entry.Entry.TheVariants.{Posted, Placed, Role, Begin, Left, Taken, Given, Torn}
use Rattle.gs_journal.specs.Standing.{then_stands}
use Rattle.gs_journal.specs.History.{History, at, ends_run, is_torn, on, placed_on, torn}
use Rattle.gs_journal.proofs.Laws.{at_is, on-push, snoc_induction, torn-push}
use Rattle.gs_kernel.specs.declared.settings.Settings.{Settings}
use Rattle.gs_kernel.proofs.Laws.{neither, on_none}
use Rattle.gs_reasons.specs.declared.sign.Sign.TheVariants as signs
use Rattle.gs_reasons.specs.Place.{last_place}
use Rattle.gs_reasons.specs.Sign.{is_sign}
use Rattle.gs_reasons.specs.ExplainsRefusal.{FindsFree, IsNeverOn, IsOff, IsTakenOff}
use Rattle.gs_reasons.proofs.Heard.{and_true}
use Rattle.gs_reasons.proofs.Places.{at_push, get_end, get_push, last_is, last_none}
use Rattle.gs_reasons.proofs.Says.{test_eq}

-- what takes a thread off
off_both : (a b : Bool) → (a && b) ≡ true → (a ≡ true) × (b ≡ true)
off_both true b x = (refl, x)
off_both false b x = absurd cc

off_says : (t : ℕ) (e : Entry) → is_sign (signs.Off t) e ≡ true → ends_run t e ≡ true
off_says t (Posted (Thread u n c)) x = let y = off_both (t == u) (takes_off_cpu c) x in ap (λ b. cond b (u == t) false) y.1 ∙ test_eq t u true y.0
off_says t (Posted (TimerTick d)) x = absurd cc
off_says t (Placed u n d g) x = absurd cc
off_says t (Role g d) x = absurd cc
off_says t (Begin g) x = absurd cc
off_says t Left x = absurd cc
off_says t (Taken d) x = absurd cc
off_says t (Given d) x = absurd cc
off_says t Torn x = absurd cc

-- one that is on a CPU stays there if the next entry takes it not off, is no tear-down, and puts nobody there
stays_on : (t k : ℕ) (e : Entry) → is_torn e ≡ false → is_sign (signs.Off t) e ≡ false → ((u : ℕ) → placed_on k e ≡ Some u → ⊥) → then_stands (placed_on k e) ends_run e (Some t) ≡ Some t
stays_on t k (Posted (Thread u n c)) up x nobody = ap (λ b. cond b None (Some t)) (by_test (takes_off_cpu c) x)
  where
    by_test : (b : Bool) → ((t == u) && b) ≡ false → cond b (u == t) false ≡ false
    by_test false q = refl
    by_test true q = test_eq t u false (sym (and_true (t == u)) ∙ q)
stays_on t k (Posted (TimerTick d)) up x nobody = refl
stays_on t k (Placed u n d g) up x nobody = by_test (d == k) refl
  where
    by_test : (b : Bool) → (d == k) ≡ b → then_stands (cond (d == k) (Some u) None) ends_run (Placed u n d g) (Some t) ≡ Some t
    by_test true q = absurd (nobody u (ap (λ b. cond b (Some u) None) q))
    by_test false q = ap (λ b. then_stands (cond b (Some u) None) ends_run (Placed u n d g) (Some t)) q
stays_on t k (Role g d) up x nobody = refl
stays_on t k (Begin g) up x nobody = refl
stays_on t k Left up x nobody = refl
stays_on t k (Taken d) up x nobody = refl
stays_on t k (Given d) up x nobody = refl
stays_on t k Torn up x nobody = absurd cc

-- what holds of a history's placings holds of its beginning's, and of the last entry
free_before : (h : History) (x : Entry) → FindsFree (h ++ x ∷ []) → FindsFree h
free_before h x free = λ i e is k t placed.
    elim (at_push h x e i (get_push h x e i is)) [
      | inl w ↦ ap (λ g. on g k) (sym w.2) ∙ free i e (get_push h x e i is) k t placed
      | inr w ↦ (let low = slice_get_within h i e is in let at : i ≡ length h = w.0 in absurd (omega (arith, low, at)))
    ]

free_here : (h : History) (x : Entry) → FindsFree (h ++ x ∷ []) → (k t : ℕ) → placed_on k x ≡ Some t → on h k ≡ None
free_here h x free k t placed =
    elim (at_push h x x (length h) (get_end h x)) [
      | inl w ↦ (let low : length h < length h = w.0 in absurd (omega (arith, low)))
      | inr w ↦ ap (λ g. on g k) (sym w.2) ∙ free (length h) x (get_end h x) k t placed
    ]

-- one that was put on a CPU is there, if no later entry took it off
still_on : (t : ℕ) (h : History) → torn h ≡ false → FindsFree h → (i k : ℕ) (e : Entry) → slice_get h i ≡ Some e → placed_on k e ≡ Some t
    → ((j : ℕ) (d : Entry) → i < j → slice_get h j ≡ Some d → is_sign (signs.Off t) d ≡ false) → on h k ≡ Some t
still_on t =
    snoc_induction (λ h. torn h ≡ false → FindsFree h → (i k : ℕ) (e : Entry) → slice_get h i ≡ Some e → placed_on k e ≡ Some t → ((j : ℕ) (d : Entry) → i < j → slice_get h j ≡ Some d → is_sign (signs.Off t) d ≡ false) → on h k ≡ Some t)
    (λ up free i k e is placed off. absurd cc)
    step
  where
    step : (h : History) (x : Entry)
        → (torn h ≡ false → FindsFree h → (i k : ℕ) (e : Entry) → slice_get h i ≡ Some e → placed_on k e ≡ Some t → ((j : ℕ) (d : Entry) → i < j → slice_get h j ≡ Some d → is_sign (signs.Off t) d ≡ false) → on h k ≡ Some t)
        → torn (h ++ x ∷ []) ≡ false → FindsFree (h ++ x ∷ []) → (i k : ℕ) (e : Entry) → slice_get (h ++ x ∷ []) i ≡ Some e → placed_on k e ≡ Some t
        → ((j : ℕ) (d : Entry) → i < j → slice_get (h ++ x ∷ []) j ≡ Some d → is_sign (signs.Off t) d ≡ false) → on (h ++ x ∷ []) k ≡ Some t
    step h x before up free i k e is placed off =
        let parts = neither (torn h) (is_torn x) (sym (torn-push h x) ∙ up) in
        elim (at_push h x e i is) [
          | inl w ↦ (
              let there : on h k ≡ Some t = before parts.0 (free_before h x free) i k e w.1 placed (λ j d lt g. off j d lt (get_push h x d j g)) in
              let quiet : is_sign (signs.Off t) x ≡ false = off (length h) x w.0 (get_end h x) in
              on-push h x k ∙ (ap (λ o. then_stands (placed_on k x) ends_run x o) there ∙ stays_on t k x parts.1 quiet (λ u p. let clash : None ≡ Some t = sym (free_here h x free k u p) ∙ there in absurd cc)))
          | inr w ↦ on-push h x k ∙ ap (λ o. then_stands o ends_run x (on h k)) (ap (placed_on k) (sym w.1) ∙ placed)
        ]

pub off_explained : (s : Settings) (h : History) (t : ℕ) → torn h ≡ false → at s.cpus h t ≡ None → IsOff (Some (signs.Off t)) s h t
off_explained s h t up nowhere = record { nowhere = nowhere; by = λ free. by_place free (last_place (is_sign (signs.Off t)) h) refl }
  where
    clash : (k : ℕ) → k < s.cpus → on h k ≡ Some t → ⊥
    clash k lt there = on_none s.cpus k h t (sym (at_is s.cpus h t) ∙ nowhere) lt there

    by_place : FindsFree h → (o : Option ℕ) → last_place (is_sign (signs.Off t)) h ≡ o → IsTakenOff (Some (signs.Off t)) s h t ⊎ IsNeverOn (Some (signs.Off t)) s h t
    by_place free None q =
        inr (record {
          unsaid = record { sign = refl; never = q };
          ever = λ i k e le is lt placed. clash k lt (still_on t h up free i k e is placed (λ j d after g. last_none (is_sign (signs.Off t)) h q j d g));
        })
    by_place free (Some i) q =
        let l = last_is (is_sign (signs.Off t)) h i q in
        inl (record {
          off = record { sign = refl; last = record { place = i; entry = l.0; found = q; last = l.1; says = off_says t l.0 l.1.passes } };
          since = λ j k e le is lt placed. clash k lt (still_on t h up free j k e is placed (λ m d after g. l.1.last m d (let low : suc i ≤ j = le in omega (arith, low, after)) g));
        })
