-- The entry at the reason's place explains the refusal of a command.
use Rattle.std.proofs.Common.{◌≡◌, ◌⊎◌, inl, inr, refl, ap, sym, ◌∙◌, ℕ, ◌+◌, ◌^◌, ◌≤◌, ◌==◌, ◌&&◌, ◌||◌, nat_le, length, slice_get, subst, Bool, true, false, Option, None, Some, arith}
use Rattle.std.specs.Prelude.{⊤}
use Rattle.std.specs.Option.{is_some, unwrap_or}
use Rattle.std.proofs.lemmas.Bool.Decides.{nat_tests}
use Rattle.gs_layout.specs.declared.message.TheConstants.{MOST_TIDS}
use Rattle.gs_layout.specs.declared.record.Record.TheVariants.{Absent}
use Rattle.gs_layout.specs.declared.refusal.Refusal.{Refusal}
use Rattle.gs_layout.specs.declared.refusal.Refusal.TheVariants as refusals
use Rattle.gs_journal.specs.State.{IsNumbered}
use Rattle.gs_journal.specs.declared.entry.Entry.{Entry}
use Rattle.gs_journal.specs.History.{History, active, at, attaching, begin_by, created, generation, generation_by, last_taken, on, record_in, role_by, seq, taken, taken_by, torn}
use Rattle.gs_journal.proofs.Laws.{taken_is}
use Rattle.gs_kernel.specs.declared.command.Command.{Command}
use Rattle.gs_kernel.specs.declared.command.Command.TheVariants as commands
use Rattle.gs_kernel.specs.declared.thread_event.ThreadEvent.TheVariants as happens
use Rattle.gs_kernel.specs.declared.settings.Settings.{Settings}
use Rattle.gs_kernel.specs.declared.settings.TheConstants.{LAST_TSEQ, MOST_GENERATION}
use Rattle.gs_kernel.specs.Kernel.{has_agent, is_agent_on, is_bad_mask, is_last_generation, is_spent_there, lives}
use Rattle.gs_kernel.specs.Legal.{most_entries, refusal}
use Rattle.gs_kernel.specs.Threads.{is_runnable}
use Rattle.gs_kernel.proofs.Laws.{neither}
use Rattle.gs_reasons.specs.declared.sign.Sign.{Sign}
use Rattle.gs_reasons.specs.declared.sign.Sign.TheVariants as signs
use Rattle.gs_reasons.specs.Place.{last_place}
use Rattle.gs_reasons.specs.Sign.{is_sign}
use Rattle.gs_reasons.specs.Entries.{AtPlace, runs_by}
use Rattle.gs_reasons.specs.Named.{OfCpu, OfMask, OfTaken, OfThread, cpu_by, tid_by}
use Rattle.gs_reasons.specs.Refused.{BecauseRefused, LacksAgent, Spends, sign_of_refusal, spent_by}
use Rattle.gs_reasons.specs.ExplainsRefusal.{ExplainsRefusal, MakesAgent, IsNotReady, IsOff, IsSpent, IsSpentOn, LeavesNoAgent, SaidLast, Unsaid}
use Rattle.gs_reasons.proofs.Agents.{attaching_never, attaching_says, created_says, generation_says, held_at}
use Rattle.gs_reasons.proofs.Explained.{again, agent_is, live_facts, not_dead, seated, was_taken, what_is}
use Rattle.gs_reasons.proofs.Off.{off_explained}
use Rattle.gs_reasons.proofs.Places.{last_is}
use Rattle.gs_reasons.proofs.Refusing.{because_refused}
use Rattle.gs_reasons.proofs.Says.{agent_never, agent_says, held_says}
use Rattle.gs_reasons.proofs.Told.{death_never, number_says, runs_says, torn_says}

-- what holds of the thread, the CPU or the mask that a command names makes something else hold of it
on_thread : (c : Command) (P Q : ℕ → Type 0) → ((t : ℕ) → tid_by c ≡ t → P t → Q t) → OfThread P c → OfThread Q c
on_thread (commands.Create x) P Q f w = absurd w
on_thread (commands.Thread t e) P Q f w = f t refl w
on_thread (commands.Take k) P Q f w = absurd w
on_thread (commands.Give k) P Q f w = absurd w
on_thread (commands.Tick k) P Q f w = absurd w
on_thread (commands.HandOff k) P Q f w = absurd w
on_thread commands.Leave P Q f w = absurd w
on_thread commands.Begin P Q f w = absurd w
on_thread (commands.Activate k) P Q f w = absurd w

on_cpu : (c : Command) (P Q : ℕ → Type 0) → ((k : ℕ) → cpu_by c ≡ k → P k → Q k) → OfCpu P c → OfCpu Q c
on_cpu (commands.Create x) P Q f w = absurd w
on_cpu (commands.Thread t e) P Q f w = absurd w
on_cpu (commands.Take k) P Q f w = f k refl w
on_cpu (commands.Give k) P Q f w = f k refl w
on_cpu (commands.Tick k) P Q f w = f k refl w
on_cpu (commands.HandOff k) P Q f w = f k refl w
on_cpu commands.Leave P Q f w = absurd w
on_cpu commands.Begin P Q f w = absurd w
on_cpu (commands.Activate k) P Q f w = f k refl w

on_taken : (c : Command) (P Q : ℕ → Type 0) → ((k : ℕ) → cpu_by c ≡ k → P k → Q k) → OfTaken P c → OfTaken Q c
on_taken (commands.Create x) P Q f w = absurd w
on_taken (commands.Thread t e) P Q f w = absurd w
on_taken (commands.Take k) P Q f w = f k refl w
on_taken (commands.Give k) P Q f w = absurd w
on_taken (commands.Tick k) P Q f w = absurd w
on_taken (commands.HandOff k) P Q f w = f k refl w
on_taken commands.Leave P Q f w = absurd w
on_taken commands.Begin P Q f w = absurd w
on_taken (commands.Activate k) P Q f w = f k refl w

on_mask : (c : Command) (P Q : ℕ → Type 0) → ((m : ℕ) → P m → Q m) → OfMask P c → OfMask Q c
on_mask (commands.Create x) P Q f w = f x.mask w
on_mask (commands.Thread t happens.Block) P Q f w = absurd w
on_mask (commands.Thread t happens.Wake) P Q f w = absurd w
on_mask (commands.Thread t happens.Yield) P Q f w = absurd w
on_mask (commands.Thread t happens.Die) P Q f w = absurd w
on_mask (commands.Thread t (happens.Affinity m)) P Q f w = f m w
on_mask (commands.Take k) P Q f w = absurd w
on_mask (commands.Give k) P Q f w = absurd w
on_mask (commands.Tick k) P Q f w = absurd w
on_mask (commands.HandOff k) P Q f w = absurd w
on_mask commands.Leave P Q f w = absurd w
on_mask commands.Begin P Q f w = absurd w
on_mask (commands.Activate k) P Q f w = absurd w

reached : (m n : ℕ) → nat_le m n ≡ true → m ≤ n
reached m n e = grind (arith, nat_tests)

either_holds : (a b : Bool) → (a || b) ≡ true → (a ≡ true) ⊎ (b ≡ true)
either_holds true b e = inl refl
either_holds false b e = inr e

none_is : {A : Type 0} (o : Option A) → is_some o ≡ false → o ≡ None
none_is None e = refl
none_is (Some a) e = absurd cc

-- what the entry says if it is found, of a sign that is the reason's
said : {h : History} {g : Sign} {P : Entry → Type 0} (w : Option Sign) → w ≡ Some g → AtPlace h g P → SaidLast w h g P
said w same a = record { sign = same; last = a }

no_thread : (w : Option Sign) (h : History) (t : ℕ) → w ≡ Some (signs.Death t) → lives h t ≡ false → (Unsaid w h (signs.Death t) × (record_in h t ≡ Absent)) ⊎ SaidLast w h (signs.Death t) (λ e. ⊤)
no_thread w h t same q = by_place (last_place (is_sign (signs.Death t)) h) refl
  where
    by_place : (o : Option ℕ) → last_place (is_sign (signs.Death t)) h ≡ o → (Unsaid w h (signs.Death t) × (record_in h t ≡ Absent)) ⊎ SaidLast w h (signs.Death t) (λ e. ⊤)
    by_place None p = inl (record { sign = same; never = p }, not_dead (record_in h t) q (death_never h t p))
    by_place (Some i) p = let l = last_is (is_sign (signs.Death t)) h i p in inr (said w same (record { place = i; entry = l.0; found = p; last = l.1; says = tt }))

not_blocked : (h : History) (t : ℕ) → lives h t ≡ true → is_runnable (record_in h t) ≡ true → AtPlace h (signs.Runs t) (λ e. runs_by t e ≡ Some true)
not_blocked h t live runs = let l = live_facts (record_in h t) live in again (runs_says h t l.0 l.1) (λ e q. q ∙ ap Some (sym (ap is_runnable l.1) ∙ runs))

bad_mask : (s : Settings) (m : ℕ) → is_bad_mask s m ≡ true → (m ≡ 0) ⊎ (2 ^ s.cpus ≤ m)
bad_mask s m q = elim (either_holds (m == 0) (nat_le (2 ^ s.cpus) m) q) [ inl e ↦ inl (let none : m ≡ 0 = grind (arith, nat_tests) in none) | inr e ↦ inr (reached (2 ^ s.cpus) m e) ]

agent_there : (h : History) (k : ℕ) → is_agent_on k (active h) ≡ true → AtPlace h signs.Agent (λ e. (g : ℕ) × (role_by e ≡ Some (g, k)))
agent_there h k q = by_place (last_place (is_sign signs.Agent) h) refl
  where
    by_place : (o : Option ℕ) → last_place (is_sign signs.Agent) h ≡ o → AtPlace h signs.Agent (λ e. (g : ℕ) × (role_by e ≡ Some (g, k)))
    by_place None p = let none : false ≡ true = sym (ap (is_agent_on k) (agent_never h p)) ∙ q in absurd cc
    by_place (Some i) p = again (agent_says h i p) (λ x same. agent_is k (role_by x) (ap (is_agent_on k) (sym same) ∙ q))

not_taken : (w : Option Sign) (h : History) (k : ℕ) → w ≡ Some (signs.Held k) → taken h k ≡ false → Unsaid w h (signs.Held k) ⊎ SaidLast w h (signs.Held k) (λ e. taken_by k e ≡ Some false)
not_taken w h k same q = by_place (last_place (is_sign (signs.Held k)) h) refl
  where
    given_back : (e : Entry) → (v : Bool) × (taken_by k e ≡ Some v) × (last_taken h k ≡ Some v) → taken_by k e ≡ Some false
    given_back e v = v.1 ∙ ap Some (let x : unwrap_or (last_taken h k) false ≡ v.0 = ap (λ o. unwrap_or o false) v.2 in sym x ∙ (sym (taken_is h k) ∙ q))

    by_place : (o : Option ℕ) → last_place (is_sign (signs.Held k)) h ≡ o → Unsaid w h (signs.Held k) ⊎ SaidLast w h (signs.Held k) (λ e. taken_by k e ≡ Some false)
    by_place None p = inl (record { sign = same; never = p })
    by_place (Some i) p = inr (said w same (again (held_at h k i p) given_back))

-- of agents: what the last entry says, if there is one
lacks_agent : (h : History) (c : Command) → LacksAgent h c → (e : Entry) → active h ≡ role_by e → attaching h ≡ begin_by e → LeavesNoAgent c e
lacks_agent h (commands.Create x) q e a b = absurd q
lacks_agent h (commands.Thread t x) q e a b = absurd q
lacks_agent h (commands.Take k) q e a b = absurd q
lacks_agent h (commands.Give k) q e a b = absurd q
lacks_agent h (commands.Tick k) q e a b = absurd q
lacks_agent h (commands.HandOff k) q e a b = sym a ∙ q
lacks_agent h commands.Leave q e a b = let n = neither (is_some (active h)) (is_some (attaching h)) q in (sym a ∙ none_is (active h) n.0, sym b ∙ none_is (attaching h) n.1)
lacks_agent h commands.Begin q e a b = absurd q
lacks_agent h (commands.Activate k) q e a b = absurd q

-- both at once
both_say : (h : History) (i : ℕ) → last_place (is_sign signs.Agent) h ≡ Some i → AtPlace h signs.Agent (λ e. (active h ≡ role_by e) × (attaching h ≡ begin_by e))
both_say h i q =
    let l = last_is (is_sign signs.Agent) h i q in
    let a = agent_says h i q in
    let b = attaching_says h i q in
    record { place = i; entry = l.0; found = q; last = l.1; says = (subst (λ e. active h ≡ role_by e) (same_entry a) a.says, subst (λ e. attaching h ≡ begin_by e) (same_entry b) b.says) }
  where
    same_entry : {P : Entry → Type 0} (a : AtPlace h signs.Agent P) → a.entry ≡ (last_is (is_sign signs.Agent) h i q).0
    same_entry a =
        let place : a.place ≡ i = (let x : Some a.place ≡ Some i = sym a.found ∙ q in cc) in
        let x : Some a.entry ≡ Some (last_is (is_sign signs.Agent) h i q).0 = sym a.last.there ∙ (ap (slice_get h) place ∙ (last_is (is_sign signs.Agent) h i q).1.there) in
        cc

not_active : (w : Option Sign) (h : History) (c : Command) → w ≡ Some signs.Agent → LacksAgent h c → Unsaid w h signs.Agent ⊎ SaidLast w h signs.Agent (λ e. LeavesNoAgent c e)
not_active w h c same q = by_place (last_place (is_sign signs.Agent) h) refl
  where
    by_place : (o : Option ℕ) → last_place (is_sign signs.Agent) h ≡ o → Unsaid w h signs.Agent ⊎ SaidLast w h signs.Agent (λ e. LeavesNoAgent c e)
    by_place None p = inl (record { sign = same; never = p })
    by_place (Some i) p = inr (said w same (again (both_say h i p) (λ e x. lacks_agent h c q e x.0 x.1)))

still_attached : (h : History) → has_agent h ≡ true → AtPlace h signs.Agent (λ e. MakesAgent e)
still_attached h q = by_place (last_place (is_sign signs.Agent) h) refl
  where
    has : (e : Entry) → active h ≡ role_by e → attaching h ≡ begin_by e → MakesAgent e
    has e a b =
        elim (either_holds (is_some (active h)) (is_some (attaching h)) q) [
          | inl x ↦ inl (let y = what_is (active h) x in (y.0, sym a ∙ y.1))
          | inr x ↦ inr (let y = what_is (attaching h) x in (y.0, sym b ∙ y.1))
        ]

    by_place : (o : Option ℕ) → last_place (is_sign signs.Agent) h ≡ o → AtPlace h signs.Agent (λ e. MakesAgent e)
    by_place None p =
        let none : false ≡ true = sym (ap (λ (o : Option (ℕ × ℕ)). is_some o || is_some (attaching h)) (agent_never h p) ∙ ap (λ (o : Option ℕ). is_some o) (attaching_never h p)) ∙ q in
        absurd cc
    by_place (Some i) p = again (both_say h i p) (λ e x. has e x.0 x.1)

not_attaching : (w : Option Sign) (h : History) (given : Bool) → w ≡ Some signs.Agent → (is_some (attaching h) && given) ≡ false → Unsaid w h signs.Agent ⊎ SaidLast w h signs.Agent (λ e. IsNotReady given e)
not_attaching w h given same q = by_place (last_place (is_sign signs.Agent) h) refl
  where
    ready : (o : Option ℕ) → (is_some o && given) ≡ false → (e : Entry) → o ≡ begin_by e → IsNotReady given e
    ready None r e a = inl (sym a)
    ready (Some g) r e a = inr (g, sym a, r)

    by_place : (o : Option ℕ) → last_place (is_sign signs.Agent) h ≡ o → Unsaid w h signs.Agent ⊎ SaidLast w h signs.Agent (λ e. IsNotReady given e)
    by_place None p = inl (record { sign = same; never = p })
    by_place (Some i) p = inr (said w same (again (attaching_says h i p) (λ e a. ready (attaching h) q e a)))

spent_there : (w : Option Sign) (s : Settings) (h : History) (k : ℕ) → w ≡ Some (signs.Seat k) → is_spent_there s h (on h k) ≡ true → IsSpentOn w s h k
spent_there w s h k same q = by_who (on h k) refl q
  where
    by_who : (o : Option ℕ) → on h k ≡ o → is_spent_there s h o ≡ true → IsSpentOn w s h k
    by_who None there r = absurd cc
    by_who (Some u) there r = record { who = u; sign = same; seated = seated h k u there; spent = reached LAST_TSEQ (seq s.first_tseq h u) r }

spent : (s : Settings) (h : History) (c : Command) → IsNumbered s.first_tseq h → Spends s h c → IsSpent (Some (spent_by c)) s h c
spent s h (commands.Create x) all q = absurd q
spent s h (commands.Thread t e) all q = said (Some (signs.About t)) refl (again (number_says s.first_tseq h t all q.0) (λ e n. (seq s.first_tseq h t, n, reached LAST_TSEQ (seq s.first_tseq h t) q.1)))
spent s h (commands.Take k) all q = spent_there (Some (signs.Seat k)) s h k refl q
spent s h (commands.Give k) all q = absurd q
spent s h (commands.Tick k) all q = absurd q
spent s h (commands.HandOff k) all q = spent_there (Some (signs.Seat k)) s h k refl q
spent s h commands.Leave all q = absurd q
spent s h commands.Begin all q = absurd q
spent s h (commands.Activate k) all q = spent_there (Some (signs.Seat k)) s h k refl q

last_generation : (h : History) (o : Option ℕ) → generation h ≡ o → is_last_generation o ≡ true → AtPlace h signs.Generation (λ e. generation_by e ≡ Some MOST_GENERATION)
last_generation h None q r = absurd cc
last_generation h (Some g) q r = let same : g ≡ MOST_GENERATION = grind (arith, nat_tests) in generation_says h MOST_GENERATION (q ∙ ap Some same)

explain_refusal : (s : Settings) (h : History) (given : Bool) (c : Command) → IsNumbered s.first_tseq h → (r : Refusal) → BecauseRefused r s h given c → ExplainsRefusal (sign_of_refusal c r) r s h given c
explain_refusal s h given c all refusals.NoThread q = on_thread c (λ t. lives h t ≡ false) (λ t. (Unsaid (sign_of_refusal c refusals.NoThread) h (signs.Death t) × (record_in h t ≡ Absent)) ⊎ SaidLast (sign_of_refusal c refusals.NoThread) h (signs.Death t) (λ e. ⊤)) (λ t same x. no_thread (sign_of_refusal c refusals.NoThread) h t (ap (λ t. Some (signs.Death t)) same) x) q
explain_refusal s h given c all refusals.NotRunning q = on_thread c (λ t. (torn h ≡ false) × (at s.cpus h t ≡ None)) (λ t. IsOff (sign_of_refusal c refusals.NotRunning) s h t) (λ t same x. subst (λ u. IsOff (Some (signs.Off u)) s h t) (sym same) (off_explained s h t x.0 x.1)) q
explain_refusal s h given c all refusals.NotBlocked q = on_thread c (λ t. (lives h t ≡ true) × (is_runnable (record_in h t) ≡ true)) (λ t. SaidLast (sign_of_refusal c refusals.NotBlocked) h (signs.Runs t) (λ e. runs_by t e ≡ Some true)) (λ t same x. said (sign_of_refusal c refusals.NotBlocked) (ap (λ t. Some (signs.Runs t)) same) (not_blocked h t x.0 x.1)) q
explain_refusal s h given c all refusals.EmptyMask q = (refl, on_mask c (λ m. is_bad_mask s m ≡ true) (λ m. (m ≡ 0) ⊎ (2 ^ s.cpus ≤ m)) (λ m x. bad_mask s m x) q)
explain_refusal s h given c all refusals.BadCpu q = (refl, on_cpu c (λ k. nat_le s.cpus k ≡ true) (λ k. s.cpus ≤ k) (λ k same x. reached s.cpus k x) q)
explain_refusal s h given c all refusals.AgentThere q = on_taken c (λ k. is_agent_on k (active h) ≡ true) (λ k. SaidLast (sign_of_refusal c refusals.AgentThere) h signs.Agent (λ e. (g : ℕ) × (role_by e ≡ Some (g, k)))) (λ k same x. said (sign_of_refusal c refusals.AgentThere) refl (agent_there h k x)) q
explain_refusal s h given c all refusals.CpuTaken q = on_taken c (λ k. taken h k ≡ true) (λ k. SaidLast (sign_of_refusal c refusals.CpuTaken) h (signs.Held k) (λ e. taken_by k e ≡ Some true)) (λ k same x. said (sign_of_refusal c refusals.CpuTaken) (ap (λ k. Some (signs.Held k)) same) (held_says h k true (was_taken (last_taken h k) (sym (taken_is h k) ∙ x)))) q
explain_refusal s h given c all refusals.NotTaken q = on_cpu c (λ k. taken h k ≡ false) (λ k. Unsaid (sign_of_refusal c refusals.NotTaken) h (signs.Held k) ⊎ SaidLast (sign_of_refusal c refusals.NotTaken) h (signs.Held k) (λ e. taken_by k e ≡ Some false)) (λ k same x. not_taken (sign_of_refusal c refusals.NotTaken) h k (ap (λ k. Some (signs.Held k)) same) x) q
explain_refusal s h given c all refusals.NotActive q = not_active (sign_of_refusal c refusals.NotActive) h c refl q
explain_refusal s h given c all refusals.StillAttached q = said (sign_of_refusal c refusals.StillAttached) refl (still_attached h q)
explain_refusal s h given c all refusals.NotAttaching q = not_attaching (sign_of_refusal c refusals.NotAttaching) h given refl q
explain_refusal s h given c all refusals.SeqSpent q = spent s h c all q
explain_refusal s h given c all refusals.GenSpent q = said (sign_of_refusal c refusals.GenSpent) refl (last_generation h (generation h) refl q)
explain_refusal s h given c all refusals.TidsSpent q = (reached MOST_TIDS (length (created h)) q, said (sign_of_refusal c refusals.TidsSpent) refl (created_says h q))
explain_refusal s h given c all refusals.HistoryFull q = (refl, let x : s.history + 1 ≤ length h + most_entries c = reached (s.history + 1) (length h + most_entries c) q in omega (arith, x))
explain_refusal s h given c all refusals.SlotOpen q = q
explain_refusal s h given c all refusals.NoSuchTransaction q = q
explain_refusal s h given c all refusals.Gone q = said (sign_of_refusal c refusals.Gone) refl (torn_says h q)
explain_refusal s h given c all refusals.OutOfMemory q = q

pub explained_refusal : (s : Settings) (h : History) (given : Bool) (c : Command) (r : Refusal) → IsNumbered s.first_tseq h → refusal s h given c ≡ Some r → ExplainsRefusal (sign_of_refusal c r) r s h given c
explained_refusal s h given c r all e = explain_refusal s h given c all r (because_refused s h given c r e)
