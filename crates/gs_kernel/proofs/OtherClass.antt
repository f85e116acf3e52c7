-- What a kernel keeps when the other class takes a CPU or gives it back.
use Rattle.std.proofs.Common.{◌≡◌, ℕ, ◌<◌, ◌++◌, ◌∷◌, List, [], length, Bool, true, false, not, ◌&&◌, nat_le, Option, None, Some, IsSome, slice_get, slice_set, get_or, refl, ap, sym, subst, ◌∙◌, arith}
use Rattle.std.specs.Prelude.{is_none, is_some}
use Rattle.std.proofs.lemmas.Option.{slice_get-get_or}
use Rattle.std.proofs.lemmas.Bool.Decides.{nat_tests}
use Rattle.gs_layout.specs.declared.message.Change.TheVariants.{Preempted}
use Rattle.gs_layout.specs.declared.refusal.Refusal.TheVariants as refusals
use Rattle.gs_journal.specs.declared.entry.Entry.{Entry}
use Rattle.gs_journal.specs.declared.entry.Entry.TheVariants.{Posted}
use Rattle.gs_journal.specs.History.{History, on, at, record_in, seq, taken, active, attaching, generation, torn}
use Rattle.gs_journal.proofs.Laws.{same_messages}
use Rattle.gs_status.specs.Masks.{has}
use Rattle.gs_threads.specs.declared.row.ThreadRow.{ThreadRow}
use Rattle.gs_threads.specs.Mirrors.{is_quiet}
use Rattle.gs_threads.specs.Table.{TableState, row_of, rows_after}
use Rattle.gs_threads.proofs.Laws.{mirrors_at, mirrors_quiet, on_quiet, place_row, posts_nothing, record_by}
use Rattle.gs_layout.specs.Message.{is_about}
use Rattle.std.specs.List.{filter}
use Rattle.gs_kernel.specs.declared.settings.Settings.{Settings}
use Rattle.gs_kernel.specs.declared.agents.Agents.{Agents}
use Rattle.gs_kernel.specs.Attaching.{activate_refusal, begin_refusal}
use Rattle.gs_kernel.specs.Kernel.{has_agent, is_agent_on, take_refusal, give_refusal, hand_off_refusal, is_last_generation, is_spent_there, next_about}
use Rattle.gs_kernel.specs.Inside.{IsKept, agents_by}
use Rattle.gs_kernel.specs.Threads.{HasMask, may_be_on}
use Rattle.gs_kernel.proofs.Abouts.{kept_about}
use Rattle.gs_kernel.proofs.OneAgent.{agents_after}
use Rattle.gs_kernel.proofs.Refusals.{first_passed, neither_refuses}

-- an entry that concerns no thread
pub kept_quiet : (s : Settings) (h : History) (t : TableState) (running : List (Option ℕ)) (held held' : ℕ) (a : Agents) (down : Bool) (e : Entry) → is_quiet e ≡ true → torn (h ++ e ∷ []) ≡ torn h
    → ((d : ℕ) → has held' d ≡ taken (h ++ e ∷ []) d) → IsKept s h t running held a down → IsKept s (h ++ e ∷ []) t running held' (agents_by (Some e) a) down
kept_quiet s h t running held held' a down e quiet same_torn holds k =
    record {
      rows = mirrors_quiet s.first_tseq h t.rows e k.rows quiet;
      first = k.first;
      few = k.few;
      count = k.count;
      runs = λ c lt. k.runs c lt ∙ ap Some (sym (on_quiet h e c quiet));
      below = λ u c q. k.below u c (sym (on_quiet h e c quiet) ∙ q);
      allowed = λ u c q. ap (may_be_on c) (same_record u) ∙ k.allowed u c (sym (on_quiet h e c quiet) ∙ q);
      held_by_other = holds;
      masked = λ u. subst HasMask (sym (same_record u)) (k.masked u);
      agents = agents_after a h e k.agents;
      down_when_torn = k.down_when_torn ∙ sym same_torn;
    }
  where
    same_record : (u : ℕ) → record_in (h ++ e ∷ []) u ≡ record_in h u
    same_record u = record_by h (h ++ e ∷ []) u (same_messages h e u (ap (filter (is_about u)) (posts_nothing e quiet)))

-- the thread on a CPU has a row, and is there
pub seated_at : (s : Settings) (h : History) (t : TableState) (running : List (Option ℕ)) (held : ℕ) (a : Agents) (down : Bool) (u c : ℕ) → IsKept s h t running held a down → on h c ≡ Some u → at s.cpus h u ≡ Some c
seated_at s h t running held a down u c k there = sym (mirrors_at s.first_tseq h t.rows s.cpus u k.rows (λ d q. k.below u d q)) ∙ (k.rows.same_place u c).1 there

pub seated_row : (s : Settings) (h : History) (t : TableState) (running : List (Option ℕ)) (held : ℕ) (a : Agents) (down : Bool) (u c : ℕ) → IsKept s h t running held a down → on h c ≡ Some u → IsSome (row_of t.rows u)
seated_row s h t running held a down u c k there = by_row (row_of t.rows u) refl
  where
    by_row : (o : Option ThreadRow) → row_of t.rows u ≡ o → IsSome (row_of t.rows u)
    by_row (Some row) e = subst (λ (x : Option ThreadRow). IsSome x) (sym e) refl
    by_row None e = let z : None ≡ Some c = sym (place_row t.rows u None e) ∙ (k.rows.same_place u c).1 there in absurd cc

-- it is told that it was taken off
pub kept_preempted : (s : Settings) (h : History) (t t' : TableState) (running : List (Option ℕ)) (held : ℕ) (a : Agents) (down : Bool) (u c : ℕ) → IsKept s h t running held a down → on h c ≡ Some u → t'.rows ≡ rows_after t.rows (next_about s h u (Preempted c))
    → t'.first_tseq ≡ t.first_tseq → IsKept s (h ++ Posted (next_about s h u (Preempted c)) ∷ []) t' (slice_set running c None) held a down
kept_preempted s h t t' running held a down u c k there rows first =
    kept_about s h t t' running held a down u (Preempted c) (Some c) k tt (seated_row s h t running held a down u c k there) refl (sym (seated_at s h t running held a down u c k there)) rows first (λ d q off. absurd cc)

-- what holds if a taking is not refused
pub record Takes (s : Settings) (h : History) (c : ℕ) : Type 0 where
  pub cpu : c < s.cpus
  pub numbers : is_spent_there s h (on h c) ≡ false

not_le : (m n : ℕ) → nat_le m n ≡ false → n < m
not_le m n e = grind (arith, nat_tests)

pub takes_when : (s : Settings) (h : History) (c : ℕ) → take_refusal s h c ≡ None → Takes s h c
unfolding take_refusal
takes_when s h c e =
    let p1 = first_passed (nat_le s.cpus c) refusals.BadCpu _ e in
    let p2 = first_passed (is_agent_on c (active h)) refusals.AgentThere _ p1.1 in
    let p3 = first_passed (taken h c) refusals.CpuTaken _ p2.1 in
    let p4 = first_passed (is_spent_there s h (on h c)) refusals.SeqSpent None p3.1 in
    record { cpu = not_le s.cpus c p1.0; numbers = p4.0 }

-- what holds if a hand-off is not refused
pub record HandsOff (s : Settings) (h : History) (c : ℕ) : Type 0 where
  pub active : is_some (active h) ≡ true
  pub cpu : c < s.cpus
  pub numbers : is_spent_there s h (on h c) ≡ false
  pub more : is_last_generation (generation h) ≡ false

some_there : (o : Option (ℕ × ℕ)) → is_none o ≡ false → is_some o ≡ true
some_there None e = absurd cc
some_there (Some a) e = refl

pub hands_off_when : (s : Settings) (h : History) (c : ℕ) → hand_off_refusal s h c ≡ None → HandsOff s h c
unfolding hand_off_refusal
hands_off_when s h c e =
    let p1 = first_passed (is_none (active h)) refusals.NotActive _ e in
    let p2 = neither_refuses (take_refusal s h c) _ p1.1 in
    let p3 = first_passed (is_last_generation (generation h)) refusals.GenSpent None p2.1 in
    let take = takes_when s h c p2.0 in
    record { active = some_there (active h) p1.0; cpu = take.cpu; numbers = take.numbers; more = p3.0 }

-- a beginning that is not refused is not of the last generation
pub begins_when : (h : History) → begin_refusal h ≡ None → is_last_generation (generation h) ≡ false
unfolding begin_refusal
begins_when h e = let p = first_passed (has_agent h) refusals.StillAttached _ e in (first_passed (is_last_generation (generation h)) refusals.GenSpent None p.1).0

-- an agent's becoming active that is not refused could take the CPU
pub activates_when : (s : Settings) (h : History) (given : Bool) (c : ℕ) → activate_refusal s h given c ≡ None → Takes s h c
unfolding activate_refusal
activates_when s h given c e = takes_when s h c (first_passed (not (is_some (attaching h) && given)) refusals.NotAttaching _ e).1

-- a giving back that is not refused is of a CPU of the enclave
pub gives_when : (s : Settings) (h : History) (c : ℕ) → give_refusal s h c ≡ None → c < s.cpus
unfolding give_refusal
gives_when s h c e = not_le s.cpus c (first_passed (nat_le s.cpus c) refusals.BadCpu _ e).0

pub not_spent : (s : Settings) (h : History) (o : Option ℕ) (u : ℕ) → o ≡ Some u → is_spent_there s h o ≡ false → seq s.first_tseq h u < 4294967295
not_spent s h None u e q = absurd cc
not_spent s h (Some v) u e q = let same : v ≡ u = cc in subst (λ x. seq s.first_tseq h x < 4294967295) same (not_le 4294967295 (seq s.first_tseq h v) q)

-- who is on a CPU, by its seat
pub who_runs : (running : List (Option ℕ)) (c u : ℕ) (o d : Option ℕ) → c < length running → slice_get running c ≡ Some o → get_or running c d ≡ Some u → o ≡ Some u
who_runs running c u o d lt seat read = let e : Some o ≡ Some (get_or running c d) = sym seat ∙ slice_get-get_or running c d lt in let z : o ≡ get_or running c d = cc in z ∙ read
