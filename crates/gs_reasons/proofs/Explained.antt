-- The entry at the reason's place explains the verdict.
use Rattle.std.proofs.Common.{◌≡◌, inl, inr, refl, ap, sym, ◌∙◌, ℕ, ◌==◌, ◌<◌, ◌≤◌, Bool, true, false, Option, None, Some, arith}
use Rattle.std.specs.Option.{is_some, unwrap_or}
use Rattle.std.proofs.lemmas.Bool.Decides.{nat_tests}
use Rattle.gs_layout.specs.declared.facts.Facts.{Facts}
use Rattle.gs_layout.specs.declared.outcome.Outcome.{Outcome}
use Rattle.gs_layout.specs.declared.outcome.Outcome.TheVariants as outcomes
use Rattle.gs_layout.specs.declared.record.Record.{Record}
use Rattle.gs_layout.specs.declared.record.Record.TheVariants as records
use Rattle.gs_slots.specs.declared.state.Stamp.{Stamp}
use Rattle.gs_journal.specs.State.{IsNumbered}
use Rattle.gs_journal.specs.History.{History, seq, record_in, on, at, active, last_taken, role_by}
use Rattle.gs_journal.proofs.Laws.{at_least, taken_is}
use Rattle.gs_threads.specs.Rows.{is_live}
use Rattle.gs_kernel.specs.declared.settings.Settings.{Settings}
use Rattle.gs_kernel.specs.Kernel.{is_agent_on, is_spent_there}
use Rattle.gs_kernel.specs.Landing.{verdict, is_generation}
use Rattle.gs_kernel.specs.Threads.{is_runnable, may_run_on}
use Rattle.gs_reasons.specs.declared.sign.Sign.TheVariants as signs
use Rattle.gs_reasons.specs.Because.{Because}
use Rattle.gs_reasons.specs.Place.{last_place}
use Rattle.gs_reasons.specs.Sign.{is_sign}
use Rattle.gs_reasons.specs.Entries.{AtPlace}
use Rattle.gs_reasons.specs.Explains.{Explains, IsSeated, Outdates}
use Rattle.gs_reasons.proofs.Places.{last_is}
use Rattle.gs_reasons.proofs.Says.{agent_never, agent_says, held_says, seat_says}
use Rattle.gs_reasons.proofs.Told.{death_never, is_dead, mask_says, number_says, runs_says, torn_says}
use Rattle.gs_reasons.proofs.Verdicts.{because}

-- what an entry says, said otherwise
pub again : {h : History} {g : _} {P Q : _ → Type 0} → AtPlace h g P → ((e : _) → P e → Q e) → AtPlace h g Q
again a f = record { place = a.place; entry = a.entry; found = a.found; last = a.last; says = f a.entry a.says }

pub live_facts : (r : Record) → is_live r ≡ true → (f : Facts) × (r ≡ records.Live f)
live_facts records.Absent e = absurd cc
live_facts records.Dead e = absurd cc
live_facts (records.Live f) e = (f, refl)

pub not_dead : (r : Record) → is_live r ≡ false → is_dead r ≡ false → r ≡ records.Absent
not_dead records.Absent e d = refl
not_dead records.Dead e d = absurd cc
not_dead (records.Live f) e d = absurd cc

pub what_is : {A : Type 0} (o : Option A) → is_some o ≡ true → (a : A) × (o ≡ Some a)
what_is None e = absurd cc
what_is (Some a) e = (a, refl)

displaced : (s : Settings) (h : History) (k : ℕ) (b : Stamp) → is_generation b.generation (active h) ≡ false → Explains outcomes.Displaced s h k b
displaced s h k b e = by_place (last_place (is_sign signs.Agent) h) refl
  where
    by_place : (o : Option ℕ) → last_place (is_sign signs.Agent) h ≡ o → Explains outcomes.Displaced s h k b
    by_place None q = inl q
    by_place (Some i) q = inr (again (agent_says h i q) (λ x same. ap (is_generation b.generation) (sym same) ∙ e))

no_thread : (s : Settings) (h : History) (k : ℕ) (b : Stamp) → is_live (record_in h b.tid) ≡ false → Explains outcomes.NoThread s h k b
no_thread s h k b e = by_place (last_place (is_sign (signs.Death b.tid)) h) refl
  where
    by_place : (o : Option ℕ) → last_place (is_sign (signs.Death b.tid)) h ≡ o → Explains outcomes.NoThread s h k b
    by_place None q = inl (q, not_dead (record_in h b.tid) e (death_never h b.tid q))
    by_place (Some i) q = let l = last_is (is_sign (signs.Death b.tid)) h i q in inr (record { place = i; entry = l.0; found = q; last = l.1; says = tt })

test_neq : (m n : ℕ) → (m == n) ≡ false → m ≡ n → ⊥
test_neq m n t e = let own : (m == n) ≡ true = grind (arith, nat_tests) in let clash : true ≡ false = sym own ∙ t in absurd cc

outdates : (first : ℕ) (h : History) (b : Stamp) → (b.tseq == seq first h b.tid) ≡ false → Outdates first h b (seq first h b.tid)
outdates first h b t =
    let other : b.tseq ≡ seq first h b.tid → ⊥ = test_neq b.tseq (seq first h b.tid) t in
    record { now = refl; other = other; later = λ le. less b.tseq (seq first h b.tid) le other }
  where
    less : (m n : ℕ) → m ≤ n → (m ≡ n → ⊥) → m < n
    less m n le other = omega (arith, le, other)

pub seated : (h : History) (c u : ℕ) → on h c ≡ Some u → IsSeated h c u
seated h c u e = record { there = e; by = seat_says h c u e }

already : (s : Settings) (h : History) (k : ℕ) (b : Stamp) → is_some (at s.cpus h b.tid) ≡ true → Explains outcomes.AlreadyPlaced s h k b
already s h k b e = let w = what_is (at s.cpus h b.tid) e in (w.0, w.1, seated h w.0 b.tid (at_least s.cpus h b.tid w.0 w.1).1)

pub agent_is : (k : ℕ) (o : Option (ℕ × ℕ)) → is_agent_on k o ≡ true → (g : ℕ) × (o ≡ Some (g, k))
agent_is k None e = absurd cc
agent_is k (Some a) e = let same : a.1 ≡ k = grind (arith, nat_tests) in (a.0, ap (λ c. Some (a.0, c)) same)

cpu_is_agent : (s : Settings) (h : History) (k : ℕ) (b : Stamp) → is_agent_on k (active h) ≡ true → Explains outcomes.CpuIsAgent s h k b
cpu_is_agent s h k b e = by_place (last_place (is_sign signs.Agent) h) refl
  where
    by_place : (o : Option ℕ) → last_place (is_sign signs.Agent) h ≡ o → Explains outcomes.CpuIsAgent s h k b
    by_place None q = let none : false ≡ true = sym (ap (is_agent_on k) (agent_never h q)) ∙ e in absurd cc
    by_place (Some i) q = again (agent_says h i q) (λ x same. agent_is k (role_by x) (ap (is_agent_on k) (sym same) ∙ e))

pub was_taken : (o : Option Bool) → unwrap_or o false ≡ true → o ≡ Some true
was_taken None e = absurd cc
was_taken (Some true) e = refl
was_taken (Some false) e = absurd cc

spent_who : (s : Settings) (h : History) (o : Option ℕ) → is_spent_there s h o ≡ true → (u : ℕ) × (o ≡ Some u)
spent_who s h None e = absurd cc
spent_who s h (Some u) e = (u, refl)

explain : (s : Settings) (h : History) (k : ℕ) (b : Stamp) → IsNumbered s.first_tseq h → (o : Outcome) → Because o s h k b → Explains o s h k b
explain s h k b all outcomes.Placed w = tt
explain s h k b all outcomes.Gone w = torn_says h w
explain s h k b all outcomes.Displaced w = displaced s h k b w
explain s h k b all outcomes.NoThread w = no_thread s h k b w
explain s h k b all outcomes.Stale w = again (number_says s.first_tseq h b.tid all w.0) (λ e n. (seq s.first_tseq h b.tid, n, outdates s.first_tseq h b w.1))
explain s h k b all outcomes.NotRunnable w = let l = live_facts (record_in h b.tid) w.0 in again (runs_says h b.tid l.0 l.1) (λ e q. q ∙ ap Some (sym (ap is_runnable l.1) ∙ w.1))
explain s h k b all outcomes.AlreadyPlaced w = already s h k b w
explain s h k b all outcomes.NotAllowed w = let l = live_facts (record_in h b.tid) w.0 in again (mask_says h b.tid l.0 l.1) (λ e q. (l.0.mask, q, sym (ap (may_run_on k) l.1) ∙ w.1))
explain s h k b all outcomes.CpuIsAgent w = cpu_is_agent s h k b w
explain s h k b all outcomes.CpuTaken w = held_says h k true (was_taken (last_taken h k) (sym (taken_is h k) ∙ w))
explain s h k b all outcomes.CpuBusy w = let u = what_is (on h k) w in (u.0, seated h k u.0 u.1)
explain s h k b all outcomes.SeqSpent w = let u = spent_who s h (on h k) w in (u.0, seated h k u.0 u.1)
explain s h k b all outcomes.HistoryFull w = w
explain s h k b all outcomes.Malformed w = w
explain s h k b all outcomes.GroupFailed w = w

pub explained : (s : Settings) (h : History) (k : ℕ) (b : Stamp) → IsNumbered s.first_tseq h → Explains (verdict s h k b) s h k b
explained s h k b all = explain s h k b all (verdict s h k b) (because s h k b)
