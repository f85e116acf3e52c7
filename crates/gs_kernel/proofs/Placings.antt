-- What holds if a landing is placed.
use Rattle.std.proofs.Common.{◌≡◌, ℕ, zero, suc, ◌+◌, ◌<◌, ◌≤◌, ◌==◌, ◌++◌, ◌∷◌, [], length, Bool, true, false, nat_le, cond, Option, None, Some, refl, ap, sym, subst, ◌∙◌, append_assoc, arith}
use Rattle.std.specs.Option.{is_some, option_map}
use Rattle.std.proofs.lemmas.Bool.{eqb-true, false≢true}
use Rattle.std.proofs.lemmas.Bool.Decides.{nat_tests}
use Rattle.gs_slots.specs.declared.state.Stamp.{Stamp}
use Rattle.gs_layout.specs.declared.message.Change.TheVariants.{Preempted}
use Rattle.gs_layout.specs.declared.message.Message.{Message}
use Rattle.gs_layout.specs.declared.outcome.Outcome.{Outcome}
use Rattle.gs_layout.specs.declared.outcome.Outcome.TheVariants as outcomes
use Rattle.gs_layout.specs.Message.{is_about}
use Rattle.gs_journal.specs.declared.entry.Entry.TheVariants.{Posted, Torn}
use Rattle.gs_journal.specs.Standing.{then_stands}
use Rattle.gs_journal.specs.History.{History, seq, record_in, on, at, at_below, is_thread, active, torn, ends_run}
use Rattle.gs_journal.proofs.Laws.{at_found, at_is, at_not, on-push}
use Rattle.gs_threads.proofs.Laws.{messages_other, on_elsewhere, on_here, on_off, record_by, seq_by}
use Rattle.gs_kernel.specs.declared.settings.Settings.{Settings}
use Rattle.gs_kernel.specs.Kernel.{is_spent_there, next_about}
use Rattle.gs_kernel.specs.declared.effect.Effect.TheVariants.{Append}
use Rattle.gs_kernel.specs.Landing.{IsToPlace, verdict, cpu_verdict, is_generation, placing, placing_entries}
use Rattle.gs_kernel.specs.Lands.{is_to_place, placement}
use Rattle.gs_kernel.specs.Legal.{entries_in}
use Rattle.gs_kernel.specs.Threads.{is_runnable, may_run_on}
use Rattle.gs_kernel.proofs.Entries.{beside_posted}
use Rattle.gs_kernel.proofs.Refusals.{not_not}

none_of : {A : Type 0} (o : Option A) → is_some o ≡ false → o ≡ None
none_of None e = refl
none_of (Some a) e = absurd cc

-- a test that is passed over
passed : (t : Bool) (o p : Outcome) → is_to_place o ≡ false → cond t o p ≡ outcomes.Placed → (t ≡ false) × (p ≡ outcomes.Placed)
passed true o p other e = absurd (false≢true (sym other ∙ ap is_to_place e))
passed false o p other e = (refl, e)

not_le : (m n : ℕ) → nat_le m n ≡ false → n < m
not_le m n e = grind (arith, nat_tests)

cpu_placed : (s : Settings) (h : History) (k : ℕ) (preempt : Bool) → cpu_verdict s h k preempt ≡ outcomes.Placed → (is_spent_there s h (on h k) ≡ false) × (length h + placing_entries (on h k) ≤ s.history)
cpu_placed s h k preempt e =
    let p1 = passed _ outcomes.CpuIsAgent _ refl e in
    let p2 = passed _ outcomes.CpuTaken _ refl p1.1 in
    let p3 = passed _ outcomes.CpuBusy _ refl p2.1 in
    let p4 = passed _ outcomes.SeqSpent _ refl p3.1 in
    let p5 = passed _ outcomes.HistoryFull _ refl p4.1 in
    let most : length h + placing_entries (on h k) < s.history + 1 = not_le (s.history + 1) (length h + placing_entries (on h k)) p5.0 in
    (p4.0, omega (arith, most))

pub placing_when : (s : Settings) (h : History) (k : ℕ) (b : Stamp) → verdict s h k b ≡ outcomes.Placed → IsToPlace s h k b
unfolding verdict
placing_when s h k b e =
    let p1 = passed _ outcomes.Gone _ refl e in
    let p2 = passed _ outcomes.Displaced _ refl p1.1 in
    let p3 = passed _ outcomes.NoThread _ refl p2.1 in
    let p4 = passed _ outcomes.Stale _ refl p3.1 in
    let p5 = passed _ outcomes.NotRunnable _ refl p4.1 in
    let p6 = passed _ outcomes.AlreadyPlaced _ refl p5.1 in
    let p7 = passed _ outcomes.NotAllowed _ refl p6.1 in
    let cpu = cpu_placed s h k b.flags.preempt p7.1 in
    record {
      up = p1.0;
      generation = not_not _ p2.0;
      current = not_not _ p4.0;
      runnable = not_not _ p5.0;
      nowhere = none_of _ p6.0;
      allowed = not_not _ p7.0;
      numbers = cpu.0;
      fits = cpu.1;
    }

-- what holds if it is placed: nobody is on the CPU
pub record IsPlacing (s : Settings) (h : History) (k : ℕ) (b : Stamp) : Type 0 where
  pub up : torn h ≡ false
  pub generation : is_generation b.generation (active h) ≡ true
  pub current : (b.tseq == seq s.first_tseq h b.tid) ≡ true
  pub runnable : is_runnable (record_in h b.tid) ≡ true
  pub nowhere : at s.cpus h b.tid ≡ None
  pub allowed : may_run_on k (record_in h b.tid) ≡ true
  pub free : on h k ≡ None

-- a thread that is nowhere is on no CPU, and stays nowhere if nobody is put on a CPU
step_none : (c : ℕ) (h : History) (t : ℕ) → at_below (suc c) h t ≡ None → (at_below c h t ≡ None) × (is_thread t (on h c) ≡ false)
step_none c h t = by_below (at_below c h t) (is_thread t (on h c))
  where
    by_below : (o : Option ℕ) (b : Bool) → elim o as (λ _. Option ℕ) [ Some d ↦ Some d | None ↦ cond b (Some c) None ] ≡ None → (o ≡ None) × (b ≡ false)
    by_below (Some d) b e = absurd cc
    by_below None true e = absurd cc
    by_below None false e = (refl, refl)

here_or_below : (n c : ℕ) (h : History) (t : ℕ) → is_thread t (on h n) ≡ false → c < suc n → on h c ≡ Some t → (c < n → ⊥) → ⊥
here_or_below n c h t not_here lt there below = by_test (c == n) refl
  where
    by_test : (b : Bool) → (c == n) ≡ b → ⊥
    by_test true q =
        let e : c ≡ n = grind (arith, nat_tests) in
        let is : is_thread t (on h n) ≡ true = ap (λ d. is_thread t (on h d)) (sym e) ∙ (ap (is_thread t) there ∙ (let y : (t == t) ≡ true = grind (arith, nat_tests) in y)) in
        absurd (false≢true (sym not_here ∙ is))
    by_test false q = below (let x : (c ≡ n → ⊥) = λ e. let y : (c == n) ≡ true = grind (arith, nat_tests) in absurd (false≢true (sym q ∙ y)) in omega (arith, lt, x))

pub on_none : (n c : ℕ) (h : History) (t : ℕ) → at_below n h t ≡ None → c < n → on h c ≡ Some t → ⊥
on_none zero c h t none lt there = let x : c < 0 = lt in omega (arith, x)
on_none (suc n) c h t none lt there = here_or_below n c h t (step_none n h t none).1 lt there (λ less. on_none n c h t (step_none n h t none).0 less there)

not_there : (o : Option ℕ) (t : ℕ) → (o ≡ Some t → ⊥) → is_thread t o ≡ false
not_there None t other = refl
not_there (Some u) t other = by_test (u == t) refl
  where
    by_test : (b : Bool) → (u == t) ≡ b → (u == t) ≡ false
    by_test false q = q
    by_test true q = absurd (other (ap Some (let e : u ≡ t = grind (arith, nat_tests) in e)))

pub still_none : (n : ℕ) (h h' : History) (t : ℕ) → ((c : ℕ) → on h' c ≡ Some t → on h c ≡ Some t) → at_below n h t ≡ None → at_below n h' t ≡ None
still_none zero h h' t stood none = refl
still_none (suc n) h h' t stood none =
    let P : Option ℕ → Type 0 = λ o. elim o as (λ _. Option ℕ) [ Some d ↦ Some d | None ↦ cond (is_thread t (on h' n)) (Some n) None ] ≡ None in
    let was = step_none n h t none in
    let here : is_thread t (on h' n) ≡ false = not_there (on h' n) t (λ e. absurd (false≢true (sym was.1 ∙ (ap (is_thread t) (stood n e) ∙ (let y : (t == t) ≡ true = grind (arith, nat_tests) in y))))) in
    subst P (sym (still_none n h h' t stood was.0)) (ap (λ b. cond b (Some n) None) here)

-- nobody is put on a CPU by a message
pub stood : (h : History) (m : Message) (c t : ℕ) → on (h ++ Posted m ∷ []) c ≡ Some t → on h c ≡ Some t
stood h m c t e = by_who (on h c) (sym (on-push h (Posted m) c) ∙ e)
  where
    by_test : (u : ℕ) (b : Bool) → cond b None (Some u) ≡ Some t → Some u ≡ Some t
    by_test u true q = absurd cc
    by_test u false q = q

    by_who : (o : Option ℕ) → then_stands None ends_run (Posted m) o ≡ Some t → o ≡ Some t
    by_who None q = q
    by_who (Some u) q = by_test u (ends_run u (Posted m)) q

-- if nobody is on the CPU, it is placed; else once the thread there was told that it is taken off
pub placing_free : (s : Settings) (h : History) (k : ℕ) (b : Stamp) → on h k ≡ None → IsToPlace s h k b → IsPlacing s h k b
placing_free s h k b free p = record { up = p.up; generation = p.generation; current = p.current; runnable = p.runnable; nowhere = p.nowhere; allowed = p.allowed; free = free }

pub placing_then : (s : Settings) (h : History) (k u : ℕ) (b : Stamp) → k < s.cpus → on h k ≡ Some u → IsToPlace s h k b → IsPlacing s (h ++ Posted (next_about s h u (Preempted k)) ∷ []) k b
placing_then s h k u b lt there p =
    let m : Message = next_about s h u (Preempted k) in
    let h' : History = h ++ Posted m ∷ [] in
    let nowhere : at_below s.cpus h b.tid ≡ None = sym (at_is s.cpus h b.tid) ∙ p.nowhere in
    let other : is_about b.tid m ≡ false = by_test b.tid nowhere (u == b.tid) refl in
    let same = messages_other h m b.tid other in
    let row : record_in h' b.tid ≡ record_in h b.tid = record_by h h' b.tid same in
    record {
      up = (beside_posted h m).torn ∙ p.up;
      generation = ap (is_generation b.generation) (beside_posted h m).active ∙ p.generation;
      current = ap (λ n. b.tseq == n) (seq_by s.first_tseq h h' b.tid same) ∙ p.current;
      runnable = ap is_runnable row ∙ p.runnable;
      nowhere = at_is s.cpus h' b.tid ∙ still_none s.cpus h h' b.tid (λ c e. stood h m c b.tid e) nowhere;
      allowed = ap (may_run_on k) row ∙ p.allowed;
      free = on_off h m u k there (let y : (u == u) ≡ true = grind (arith, nat_tests) in y);
    }
  where
    by_test : (t : ℕ) → at_below s.cpus h t ≡ None → (x : Bool) → (u == t) ≡ x → (u == t) ≡ false
    by_test t none false q = q
    by_test t none true q = let e : u ≡ t = grind (arith, nat_tests) in absurd (on_none s.cpus k h t none lt (there ∙ ap Some e))

-- ---- where the thread is then

-- a thread that is on none of the first CPUs is nowhere below
nowhere_below : (n : ℕ) (h : History) (t : ℕ) → ((c : ℕ) → c < n → on h c ≡ Some t → ⊥) → at_below n h t ≡ None
nowhere_below zero h t off = refl
nowhere_below (suc n) h t off =
    ap (λ (m : ℕ). at_below m h t) (let e : suc n ≡ n + 1 = omega arith in e)
    ∙ at_not n h t (nowhere_below n h t (λ c lt. off c (omega (arith, lt)))) (off n (omega arith))

-- on the CPU on which it was placed, since it was on no other
placed_at : (s : Settings) (h : History) (k : ℕ) (b : Stamp) → k < s.cpus → IsPlacing s h k b → at s.cpus (h ++ placing k b ∷ []) b.tid ≡ Some k
placed_at s h k b lt p =
    at_found s.cpus k (h ++ placing k b ∷ []) b.tid
    (nowhere_below k (h ++ placing k b ∷ []) b.tid (λ c less there. on_none s.cpus c h b.tid (sym (at_is s.cpus h b.tid) ∙ p.nowhere) (omega (arith, less, lt)) (sym (on_elsewhere h b.tid b.tseq k b.generation c (let q : (k == c) ≡ false = grind (arith, nat_tests) in q)) ∙ there)))
    (on_here h b.tid b.tseq k b.generation k refl) lt

pub placement_at : (s : Settings) (h : History) (k : ℕ) (b : Stamp) → k < s.cpus → IsToPlace s h k b → at s.cpus (h ++ entries_in (placement s h k b)) b.tid ≡ Some k
placement_at s h k b lt p = by_who (on h k) refl
  where
    by_who : (o : Option ℕ) → on h k ≡ o → at s.cpus (h ++ entries_in (Append (option_map (λ t. next_about s h t (Preempted k)) o) (placing k b))) b.tid ≡ Some k
    by_who None e = placed_at s h k b lt (placing_free s h k b e p)
    by_who (Some u) e =
        let m : Message = next_about s h u (Preempted k) in
        ap (λ (g : History). at s.cpus g b.tid) (sym (append_assoc h (Posted m ∷ []) (placing k b ∷ []))) ∙ placed_at s (h ++ Posted m ∷ []) k b lt (placing_then s h k u b lt e p)

-- nobody is on a CPU after a tear-down
pub torn_at : (n : ℕ) (h : History) (t : ℕ) → at n (h ++ Torn ∷ []) t ≡ None
torn_at n h t = at_is n (h ++ Torn ∷ []) t ∙ nowhere_below n (h ++ Torn ∷ []) t (λ c lt there. let e : None ≡ Some t = sym (by_who (on h c)) ∙ (sym (on-push h Torn c) ∙ there) in cc)
  where
    by_who : (o : Option ℕ) → then_stands None ends_run Torn o ≡ None
    by_who None = refl
    by_who (Some u) = refl

-- its number before that is the one that was stamped
pub placed_seq : (s : Settings) (h : History) (k : ℕ) (b : Stamp) → IsToPlace s h k b → b.tseq ≡ seq s.first_tseq h b.tid
placed_seq s h k b p = eqb-true b.tseq (seq s.first_tseq h b.tid) p.current

-- a verdict that is to place is Placed
pub to_place : (v : Outcome) → is_to_place v ≡ true → v ≡ outcomes.Placed
to_place outcomes.Placed e = refl
to_place outcomes.Gone e = absurd cc
to_place outcomes.Displaced e = absurd cc
to_place outcomes.NoThread e = absurd cc
to_place outcomes.Stale e = absurd cc
to_place outcomes.NotRunnable e = absurd cc
to_place outcomes.AlreadyPlaced e = absurd cc
to_place outcomes.NotAllowed e = absurd cc
to_place outcomes.CpuIsAgent e = absurd cc
to_place outcomes.CpuTaken e = absurd cc
to_place outcomes.CpuBusy e = absurd cc
to_place outcomes.SeqSpent e = absurd cc
to_place outcomes.HistoryFull e = absurd cc
to_place outcomes.Malformed e = absurd cc
to_place outcomes.GroupFailed e = absurd cc
