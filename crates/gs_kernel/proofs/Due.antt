-- What a kernel keeps when what comes next is told.
use Rattle.std.proofs.Common.{◌≡◌, ℕ, ◌+◌, ◌<◌, ◌≤◌, ◌++◌, ◌∷◌, List, [], length, Bool, true, false, cond, Option, None, Some, IfSome, slice_set, refl, ap, sym, subst, ◌∙◌, unwrap_or, append_assoc, arith}
use Rattle.std.specs.Option.{is_some, option_map}
use Rattle.std.proofs.lemmas.List.{append-nil}
use Rattle.gs_layout.specs.declared.message.Change.TheVariants.{Preempted}
use Rattle.gs_layout.specs.declared.message.Message.{Message}
use Rattle.gs_layout.specs.declared.message.Message.TheVariants.{Thread}
use Rattle.gs_layout.specs.declared.refusal.Refusal.{Refusal}
use Rattle.gs_layout.specs.Message.{takes_off_cpu}
use Rattle.gs_journal.specs.declared.entry.Entry.{Entry}
use Rattle.gs_journal.specs.declared.entry.Entry.TheVariants.{Posted, Placed, Role, Begin, Left, Taken, Given, Torn}
use Rattle.gs_journal.specs.Standing.{then_latest}
use Rattle.gs_journal.specs.History.{History, attaching, is_torn, on, at, record_in, seq, taken, last_taken, taken_by, posted}
use Rattle.gs_journal.proofs.Laws.{last_taken-push, posted-push, same_posted, taken_is}
use Rattle.gs_status.specs.Masks.{has}
use Rattle.gs_threads.specs.Mirrors.{is_quiet}
use Rattle.gs_threads.specs.Table.{TableState, rows_after, rows_placed}
use Rattle.gs_threads.proofs.Laws.{after_tick}
use Rattle.gs_kernel.specs.declared.settings.Settings.{Settings}
use Rattle.gs_kernel.specs.declared.agents.Agents.{Agents}
use Rattle.gs_kernel.specs.declared.thread_event.ThreadEvent.{ThreadEvent}
use Rattle.gs_kernel.specs.declared.thread_event.ThreadEvent.TheVariants as happens
use Rattle.gs_kernel.specs.declared.command.Command.{Command}
use Rattle.gs_kernel.specs.declared.command.Command.TheVariants as commands
use Rattle.gs_kernel.specs.Threads.{is_runnable}
use Rattle.gs_kernel.specs.Kernel.{change_by, happening, must_leave, next_about, next_generation, event_refusal, preemption}
use Rattle.gs_kernel.specs.declared.effect.Effect.{Effect}
use Rattle.gs_kernel.specs.declared.effect.Effect.TheVariants.{Post, Append}
use Rattle.gs_kernel.specs.Inside.{HoldsNear, IsKept, SeatsBelow, agents_by, behind, created_in, freed, held_by, left_by, left_in, listed_entry, listed_message, rows_seated, rows_told, rows_with, seats_seated, seats_told}
use Rattle.gs_kernel.specs.Legal.{RoomOf, effect, entries_in, message_in, most_entries, refusal}
use Rattle.gs_kernel.proofs.Kernels.{kept_created, kept_placed, kept_rows, kept_tick}
use Rattle.gs_kernel.proofs.Abouts.{gives_mask, kept_about, length_freed, live_row, no_creation, on_cpu_below, stays_allowed}
use Rattle.gs_kernel.proofs.OtherClass.{activates_when, gives_when, hands_off_when, kept_preempted, kept_quiet, seated_at, takes_when}
use Rattle.gs_kernel.proofs.Entries.{same_taken, same_torn}
use Rattle.gs_kernel.proofs.Refusals.{creates_when, free_when, happens_when}
use Rattle.gs_kernel.proofs.Seats.{length_set}
use Rattle.gs_slots.specs.declared.state.Stamp.{Stamp}
use Rattle.gs_kernel.specs.Landing.{placing, placing_entries}
use Rattle.gs_kernel.specs.Lands.{ComesNext, placement}
use Rattle.gs_kernel.specs.Landing.{IsToPlace}
use Rattle.gs_kernel.proofs.Placings.{placing_free, placing_then}
use Rattle.std.proofs.Common.{inl, inr}

-- a kernel with the same rows, seats and CPUs held
kept_like : (s : Settings) (h : History) (t t' : TableState) (running running' : List (Option ℕ)) (held held' : ℕ) (a : Agents) (down : Bool) → t'.rows ≡ t.rows → t'.first_tseq ≡ t.first_tseq → running' ≡ running
    → ((d : ℕ) → has held' d ≡ has held d) → IsKept s h t running held a down → IsKept s h t' running' held' a down
kept_like s h t t' running running' held held' a down rows first seats holds k =
    let r = kept_rows s h t t' running held a down rows first k in
    subst (λ (x : List (Option ℕ)). IsKept s h t' x held' a down) (sym seats)
    (record {
      rows = r.rows;
      first = r.first;
      few = r.few;
      count = r.count;
      runs = r.runs;
      below = r.below;
      allowed = r.allowed;
      held_by_other = λ d. holds d ∙ r.held_by_other d;
      masked = r.masked;
      agents = r.agents;
      down_when_torn = r.down_when_torn;
    })

-- who is held after one more entry
held_after : (h : History) (e : Entry) (d : ℕ) → taken (h ++ e ∷ []) d ≡ held_by (Some e) d (taken h d)
held_after h e d = taken_is (h ++ e ∷ []) d ∙ (ap (λ o. unwrap_or o false) (last_taken-push h e d) ∙ (latest (taken_by d e) (last_taken h d) ∙ ap (unwrap_or (taken_by d e)) (sym (taken_is h d))))
  where
    latest : (o l : Option Bool) → unwrap_or (then_latest o l) false ≡ unwrap_or o (unwrap_or l false)
    latest None l = refl
    latest (Some b) l = refl

-- the other class takes a CPU or gives it back
kept_takes : (s : Settings) (h : History) (t : TableState) (running : List (Option ℕ)) (held held' : ℕ) (a : Agents) (down : Bool) (c : ℕ) → ((d : ℕ) → has held' d ≡ held_by (Some (Taken c)) d (has held d)) → IsKept s h t running held a down
    → IsKept s (h ++ Taken c ∷ []) t running held' a down
kept_takes s h t running held held' a down c holds k =
    kept_quiet s h t running held held' a down (Taken c) refl (same_torn h (Taken c) refl) (λ d. holds d ∙ (ap (held_by (Some (Taken c)) d) (k.held_by_other d) ∙ sym (held_after h (Taken c) d))) k

kept_gives : (s : Settings) (h : History) (t : TableState) (running : List (Option ℕ)) (held held' : ℕ) (a : Agents) (down : Bool) (c : ℕ) → ((d : ℕ) → has held' d ≡ held_by (Some (Given c)) d (has held d)) → IsKept s h t running held a down
    → IsKept s (h ++ Given c ∷ []) t running held' a down
kept_gives s h t running held held' a down c holds k =
    kept_quiet s h t running held held' a down (Given c) refl (same_torn h (Given c) refl) (λ d. holds d ∙ (ap (held_by (Some (Given c)) d) (k.held_by_other d) ∙ sym (held_after h (Given c) d))) k

-- an agent becomes active, begins to attach, or leaves
kept_agents : (s : Settings) (h : History) (t : TableState) (running : List (Option ℕ)) (held held' : ℕ) (a : Agents) (down : Bool) (e : Entry) → is_quiet e ≡ true → is_torn e ≡ false → ((d : ℕ) → taken_by d e ≡ None) → ((d : ℕ) → has held' d ≡ has held d)
    → IsKept s h t running held a down → IsKept s (h ++ e ∷ []) t running held' (agents_by (Some e) a) down
kept_agents s h t running held held' a down e quiet up frees holds k =
    kept_quiet s h t running held held' a down e quiet (same_torn h e up) (λ d. holds d ∙ (k.held_by_other d ∙ sym (same_taken h e d (frees d)))) k

-- one becomes active on a CPU, and a thread there is taken off first
kept_leads : (s : Settings) (h : History) (t t' : TableState) (running running' : List (Option ℕ)) (held held' : ℕ) (a : Agents) (down : Bool) (g c : ℕ) → IsKept s h t running held a down → t'.rows ≡ rows_told t.first_tseq t.rows (preemption s h c)
    → t'.first_tseq ≡ t.first_tseq → running' ≡ seats_told running (preemption s h c) → ((d : ℕ) → has held' d ≡ has held d)
    → IsKept s (h ++ entries_in (Append (preemption s h c) (Role g c))) t' running' held' (agents_by (Some (Role g c)) a) down
kept_leads s h t t' running running' held held' a down g c k rows first seats holds = by_who (on h c) refl rows seats
  where
    by_who : (o : Option ℕ) → on h c ≡ o → t'.rows ≡ rows_told t.first_tseq t.rows (option_map (λ u. next_about s h u (Preempted c)) o) → running' ≡ seats_told running (option_map (λ u. next_about s h u (Preempted c)) o)
        → IsKept s (h ++ entries_in (Append (option_map (λ u. next_about s h u (Preempted c)) o) (Role g c))) t' running' held' (agents_by (Some (Role g c)) a) down
    by_who None e rows seats = kept_agents s h t' running' held held' a down (Role g c) refl refl (λ d. refl) holds (kept_like s h t t' running running' held held a down rows first seats (λ d. refl) k)
    by_who (Some u) e rows seats =
        let m : Message = next_about s h u (Preempted c) in
        let off = kept_preempted s h t t' running held a down u c k e rows first in
        subst (λ (x : History). IsKept s x t' running' held' (agents_by (Some (Role g c)) a) down) (append_assoc h (Posted m ∷ []) (Role g c ∷ []))
        (kept_agents s (h ++ Posted m ∷ []) t' running' held held' a down (Role g c) refl refl (λ d. refl) holds (kept_like s _ t' t' (slice_set running c None) running' held held a down refl refl seats (λ d. refl) off))

-- what happens to a thread creates none
no_facts : (u n : ℕ) (there : Option ℕ) (e : ThreadEvent) → created_in (Thread u n (change_by there e)) ≡ None
no_facts u n there happens.Block = refl
no_facts u n there happens.Wake = refl
no_facts u n there happens.Yield = refl
no_facts u n there happens.Die = refl
no_facts u n there (happens.Affinity mask) = refl

refuses_not : (b : Bool) (x : Refusal) → cond b None (Some x) ≡ None → b ≡ true
refuses_not true x e = refl
refuses_not false x e = absurd cc

-- the CPU that it takes the thread off is the one that it is on
left_there : (s : Settings) (h : History) (u : ℕ) (e : ThreadEvent) (d : ℕ) → event_refusal s (at s.cpus h u) (is_runnable (record_in h u)) e ≡ None → left_in (change_by (at s.cpus h u) e) ≡ Some d → at s.cpus h u ≡ Some d
left_there s h u happens.Block d own q = on_it (at s.cpus h u) (refuses_not _ _ own) q
  where
    on_it : (o : Option ℕ) → is_some o ≡ true → Some (unwrap_or o 0) ≡ Some d → o ≡ Some d
    on_it None b q = absurd cc
    on_it (Some c) b q = q
left_there s h u happens.Wake d own q = absurd cc
left_there s h u happens.Yield d own q = on_it (at s.cpus h u) (refuses_not _ _ own) q
  where
    on_it : (o : Option ℕ) → is_some o ≡ true → Some (unwrap_or o 0) ≡ Some d → o ≡ Some d
    on_it None b q = absurd cc
    on_it (Some c) b q = q
left_there s h u happens.Die d own q = q
left_there s h u (happens.Affinity mask) d own q = by_off (at s.cpus h u) (must_leave (at s.cpus h u) mask) q
  where
    by_off : (o : Option ℕ) (b : Bool) → cond b o None ≡ Some d → o ≡ Some d
    by_off o true q = q
    by_off o false q = absurd cc

-- the CPU that an event takes its thread off is the one that it is on, if it takes it off
left_seat : (s : Settings) (h : History) (u : ℕ) (e : ThreadEvent) → event_refusal s (at s.cpus h u) (is_runnable (record_in h u)) e ≡ None
    → left_in (change_by (at s.cpus h u) e) ≡ cond (takes_off_cpu (change_by (at s.cpus h u) e)) (at s.cpus h u) None
left_seat s h u happens.Block own = on_it (at s.cpus h u) (refuses_not _ _ own)
  where
    on_it : (o : Option ℕ) → is_some o ≡ true → Some (unwrap_or o 0) ≡ o
    on_it None b = absurd cc
    on_it (Some c) b = refl
left_seat s h u happens.Wake own = refl
left_seat s h u happens.Yield own = on_it (at s.cpus h u) (refuses_not _ _ own)
  where
    on_it : (o : Option ℕ) → is_some o ≡ true → Some (unwrap_or o 0) ≡ o
    on_it None b = absurd cc
    on_it (Some c) b = refl
left_seat s h u happens.Die own = refl
left_seat s h u (happens.Affinity mask) own = refl

-- what a command leaves that nothing refuses
kept_command : (s : Settings) (h : History) (t t' : TableState) (running running' : List (Option ℕ)) (held held' : ℕ) (a : Agents) (down : Bool) (given : Bool) (c : Command) → refusal s h given c ≡ None → IsKept s h t running held a down
    → t'.rows ≡ rows_seated (rows_told t.first_tseq t.rows (message_in (effect s h c))) (behind (effect s h c)) → t'.first_tseq ≡ t.first_tseq → running' ≡ seats_seated (seats_told running (message_in (effect s h c))) (behind (effect s h c))
    → ((d : ℕ) → has held' d ≡ held_by (behind (effect s h c)) d (has held d)) → IsKept s (h ++ entries_in (effect s h c)) t' running' held' (agents_by (behind (effect s h c)) a) down
kept_command s h t t' running running' held held' a down given (commands.Create f) none k rows first seats holds =
    let w = creates_when s h f (free_when s h given (commands.Create f) none).own in
    kept_like s _ t' t' running running' held held' a down refl refl seats holds
    (kept_created s h t t' running held a down f k w.tids w.some rows first)
kept_command s h t t' running running' held held' a down given (commands.Thread u e) none k rows first seats holds =
    let w = happens_when s h u e (free_when s h given (commands.Thread u e) none).own in
    let there : Option ℕ = at s.cpus h u in
    let row = live_row s h t running held a down u k w.live in
    let changed : t'.rows ≡ rows_after t.rows (happening s h u e) = rows ∙ ap (λ o. rows_with t.first_tseq t.rows (happening s h u e) o) (no_facts u (seq s.first_tseq h u + 1) there e) in
    kept_like s _ t' t' (freed running (cond (takes_off_cpu (change_by there e)) there None)) running' held held' a down refl refl (seats ∙ ap (freed running) (left_seat s h u e w.own)) holds
    (kept_about s h t t' running held a down u (change_by there e) there k (gives_mask s h u there e w.own) row (no_creation u (seq s.first_tseq h u + 1) there e) refl changed first
    (λ d q off. stays_allowed s h u d there e (k.allowed u d q) (seated_at s h t running held a down u d k q) off))
kept_command s h t t' running running' held held' a down given (commands.Take c) none k rows first seats holds = by_who (on h c) refl rows seats
  where
    by_who : (o : Option ℕ) → on h c ≡ o → t'.rows ≡ rows_told t.first_tseq t.rows (option_map (λ u. next_about s h u (Preempted c)) o) → running' ≡ seats_told running (option_map (λ u. next_about s h u (Preempted c)) o)
        → IsKept s (h ++ entries_in (Append (option_map (λ u. next_about s h u (Preempted c)) o) (Taken c))) t' running' held' a down
    by_who None e rows seats = kept_takes s h t' running' held held' a down c holds (kept_like s h t t' running running' held held a down rows first seats (λ d. refl) k)
    by_who (Some u) e rows seats =
        let m : Message = next_about s h u (Preempted c) in
        let off = kept_preempted s h t t' running held a down u c k e rows first in
        subst (λ (x : History). IsKept s x t' running' held' a down) (append_assoc h (Posted m ∷ []) (Taken c ∷ []))
        (kept_takes s (h ++ Posted m ∷ []) t' running' held held' a down c holds (kept_like s _ t' t' (slice_set running c None) running' held held a down refl refl seats (λ d. refl) off))
kept_command s h t t' running running' held held' a down given (commands.Give c) none k rows first seats holds =
    kept_gives s h t' running' held held' a down c holds (kept_like s h t t' running running' held held a down rows first seats (λ d. refl) k)
kept_command s h t t' running running' held held' a down given (commands.Tick c) none k rows first seats holds =
    kept_like s _ t t' running running' held held' a down (rows ∙ after_tick t.rows c) first seats holds (kept_tick s h t running held a down c k)
kept_command s h t t' running running' held held' a down given (commands.HandOff c) none k rows first seats holds = kept_leads s h t t' running running' held held' a down (next_generation h) c k rows first seats holds
kept_command s h t t' running running' held held' a down given commands.Leave none k rows first seats holds =
    kept_agents s h t' running' held held' a down Left refl refl (λ d. refl) holds (kept_like s h t t' running running' held held a down rows first seats (λ d. refl) k)
kept_command s h t t' running running' held held' a down given commands.Begin none k rows first seats holds =
    kept_agents s h t' running' held held' a down (Begin (next_generation h)) refl refl (λ d. refl) holds (kept_like s h t t' running running' held held a down rows first seats (λ d. refl) k)
kept_command s h t t' running running' held held' a down given (commands.Activate c) none k rows first seats holds =
    kept_leads s h t t' running running' held held' a down (unwrap_or (attaching h) 0) c k rows first seats holds

-- what a placing leaves
kept_placing : (s : Settings) (h : History) (t t' : TableState) (running running' : List (Option ℕ)) (held held' : ℕ) (a : Agents) (down : Bool) (c : ℕ) (b : Stamp) → c < s.cpus → IsToPlace s h c b → IsKept s h t running held a down
    → t'.rows ≡ rows_placed (rows_told t.first_tseq t.rows (preemption s h c)) b.tid (Some c) → t'.first_tseq ≡ t.first_tseq → running' ≡ slice_set (seats_told running (preemption s h c)) c (Some b.tid) → ((d : ℕ) → has held' d ≡ has held d)
    → IsKept s (h ++ entries_in (placement s h c b)) t' running' held' a down
kept_placing s h t t' running running' held held' a down c b lt w k rows first seats holds = by_who (on h c) refl rows seats
  where
    by_who : (o : Option ℕ) → on h c ≡ o → t'.rows ≡ rows_placed (rows_told t.first_tseq t.rows (option_map (λ u. next_about s h u (Preempted c)) o)) b.tid (Some c)
        → running' ≡ slice_set (seats_told running (option_map (λ u. next_about s h u (Preempted c)) o)) c (Some b.tid) → IsKept s (h ++ entries_in (Append (option_map (λ u. next_about s h u (Preempted c)) o) (placing c b))) t' running' held' a down
    by_who None e rows seats =
        kept_like s _ (record t { rows = rows_placed t.rows b.tid (Some c) }) t' (slice_set running c (Some b.tid)) running' held held' a down rows first seats holds (kept_placed s h t running held a down c b k (placing_free s h c b e w) lt)
    by_who (Some u) e rows seats =
        let m : Message = next_about s h u (Preempted c) in
        let t1 : TableState = record t { rows = rows_after t.rows m } in
        let off = kept_preempted s h t t1 running held a down u c k e refl refl in
        subst (λ (x : History). IsKept s x t' running' held' a down) (append_assoc h (Posted m ∷ []) (placing c b ∷ []))
        (kept_like s _ (record t1 { rows = rows_placed t1.rows b.tid (Some c) }) t' (slice_set (slice_set running c None) c (Some b.tid)) running' held held' a down rows first seats holds
        (kept_placed s (h ++ Posted m ∷ []) t1 (slice_set running c None) held a down c b off (placing_then s h c u b lt e w) lt))

pub kept_next : (s : Settings) (h : History) (t t' : TableState) (running running' : List (Option ℕ)) (held held' : ℕ) (a a' : Agents) (down : Bool) (x : Effect) → ComesNext s h x → IsKept s h t running held a down
    → t'.rows ≡ rows_seated (rows_told t.first_tseq t.rows (message_in x)) (behind x) → t'.first_tseq ≡ t.first_tseq → running' ≡ seats_seated (seats_told running (message_in x)) (behind x) → ((d : ℕ) → has held' d ≡ held_by (behind x) d (has held d))
    → a' ≡ agents_by (behind x) a → IsKept s (h ++ entries_in x) t' running' held' a' down
kept_next s h t t' running running' held held' a a' down x next k rows first seats holds leads =
    subst (λ (z : Agents). IsKept s (h ++ entries_in x) t' running' held' z down) (sym leads) (by_next next)
  where
    k' : IsKept s h t running held a down
    k' = k

    rows' : t'.rows ≡ rows_seated (rows_told t.first_tseq t.rows (message_in x)) (behind x)
    rows' = rows

    first' : t'.first_tseq ≡ t.first_tseq
    first' = first

    seats' : running' ≡ seats_seated (seats_told running (message_in x)) (behind x)
    seats' = seats

    holds' : (d : ℕ) → has held' d ≡ held_by (behind x) d (has held d)
    holds' = holds

    by_next : ComesNext s h x → IsKept s (h ++ entries_in x) t' running' held' (agents_by (behind x) a) down
    by_next (inl due) =
        subst (λ (y : Effect). IsKept s (h ++ entries_in y) t' running' held' (agents_by (behind y) a) down) (sym due.effect_is)
        (kept_command s h t t' running running' held held' a down due.given due.command due.free k' (rows' ∙ ap (λ (y : Effect). rows_seated (rows_told t.first_tseq t.rows (message_in y)) (behind y)) due.effect_is) first'
        (seats' ∙ ap (λ (y : Effect). seats_seated (seats_told running (message_in y)) (behind y)) due.effect_is) (λ d. holds' d ∙ ap (λ (y : Effect). held_by (behind y) d (has held d)) due.effect_is))
    by_next (inr (inr due)) =
        subst (λ (y : Effect). IsKept s (h ++ entries_in y) t' running' held' (agents_by (behind y) a) down) (sym due.effect_is)
        (kept_like s (h ++ Posted (next_about s h due.thread (Preempted due.cpu)) ∷ []) t' t' (slice_set running due.cpu None) running' held held' a down refl refl
        (seats' ∙ ap (λ (y : Effect). seats_seated (seats_told running (message_in y)) (behind y)) due.effect_is) (λ d. holds' d ∙ ap (λ (y : Effect). held_by (behind y) d (has held d)) due.effect_is)
        (kept_preempted s h t t' running held a down due.thread due.cpu k' due.there (rows' ∙ ap (λ (y : Effect). rows_seated (rows_told t.first_tseq t.rows (message_in y)) (behind y)) due.effect_is) first'))
    by_next (inr (inl due)) =
        subst (λ (y : Effect). IsKept s (h ++ entries_in y) t' running' held' (agents_by (behind y) a) down) (sym due.effect_is)
        (kept_placing s h t t' running running' held held' a down due.cpu due.stamp due.below due.ready k'
        (rows' ∙ ap (λ (y : Effect). rows_seated (rows_told t.first_tseq t.rows (message_in y)) (behind y)) due.effect_is) first'
        (seats' ∙ ap (λ (y : Effect). seats_seated (seats_told running (message_in y)) (behind y)) due.effect_is) (λ d. holds' d ∙ ap (λ (y : Effect). held_by (behind y) d (has held d)) due.effect_is))

-- there is room for an entry
one_entry : (c : Command) → 1 ≤ most_entries c
one_entry (commands.Create f) = omega arith
one_entry (commands.Thread u e) = omega arith
one_entry (commands.Take c) = omega arith
one_entry (commands.Give c) = omega arith
one_entry (commands.Tick c) = omega arith
one_entry (commands.HandOff c) = omega arith
one_entry commands.Leave = omega arith
one_entry commands.Begin = omega arith
one_entry (commands.Activate c) = omega arith

pub due_room : (s : Settings) (h : History) (x : Effect) → ComesNext s h x → length h < s.history
due_room s h x (inl due) = omega (arith, (free_when s h due.given due.command due.free).room, one_entry due.command)
due_room s h x (inr (inr due)) = due.room
due_room s h x (inr (inl due)) = let w = due.ready in omega (arith, w.fits, some_entry (on h due.cpu))
  where
    some_entry : (o : Option ℕ) → 0 < placing_entries o
    some_entry None = omega arith
    some_entry (Some u) = omega arith

-- a message takes a thread off a CPU of the enclave
abbrev LeavesBelow : ℕ → Option Message → Type 0
LeavesBelow n o = IfSome o (λ m. (d : ℕ) → left_by m ≡ Some d → d < n)

preempted_left : (s : Settings) (h : History) (c : ℕ) → c < s.cpus → LeavesBelow s.cpus (preemption s h c)
preempted_left s h c lt = by_who (on h c)
  where
    by_who : (o : Option ℕ) → LeavesBelow s.cpus (option_map (λ u. next_about s h u (Preempted c)) o)
    by_who None = tt
    by_who (Some u) = λ d q. let z : c ≡ d = cc in omega (arith, z, lt)

command_left : (s : Settings) (h : History) (t : TableState) (running : List (Option ℕ)) (held : ℕ) (a : Agents) (down : Bool) (given : Bool) (c : Command) → refusal s h given c ≡ None → IsKept s h t running held a down
    → LeavesBelow s.cpus (message_in (effect s h c))
command_left s h t running held a down given (commands.Create f) none k = λ d q. absurd cc
command_left s h t running held a down given (commands.Thread u e) none k =
    λ d q. on_cpu_below s h t running held a down u d k (left_there s h u e d (happens_when s h u e (free_when s h given (commands.Thread u e) none).own).own q)
command_left s h t running held a down given (commands.Take c) none k = preempted_left s h c (takes_when s h c (free_when s h given (commands.Take c) none).own).cpu
command_left s h t running held a down given (commands.Give c) none k = tt
command_left s h t running held a down given (commands.Tick c) none k = λ d q. absurd cc
command_left s h t running held a down given (commands.HandOff c) none k = preempted_left s h c (hands_off_when s h c (free_when s h given (commands.HandOff c) none).own).cpu
command_left s h t running held a down given commands.Leave none k = tt
command_left s h t running held a down given commands.Begin none k = tt
command_left s h t running held a down given (commands.Activate c) none k = preempted_left s h c (activates_when s h given c (free_when s h given (commands.Activate c) none).own).cpu

pub due_left : (s : Settings) (h : History) (t : TableState) (running now : List (Option ℕ)) (held : ℕ) (a : Agents) (down : Bool) (x : Effect) → ComesNext s h x → IsKept s h t running held a down → now ≡ running
    → LeavesBelow (length now) (message_in x)
due_left s h t running now held a down x due k same = subst (λ n. LeavesBelow n (message_in x)) (sym (ap length same ∙ k.count)) (by_due due)
  where
    by_due : ComesNext s h x → LeavesBelow s.cpus (message_in x)
    by_due (inl due) = subst (λ (y : Effect). LeavesBelow s.cpus (message_in y)) (sym due.effect_is) (command_left s h t running held a down due.given due.command due.free k)
    by_due (inr (inr due)) = subst (λ (y : Effect). LeavesBelow s.cpus (message_in y)) (sym due.effect_is) (λ d q. let z : due.cpu ≡ d = cc in let lt = due.below in omega (arith, z, lt))
    by_due (inr (inl due)) = subst (λ (y : Effect). LeavesBelow s.cpus (message_in y)) (sym due.effect_is) (preempted_left s h due.cpu due.below)

-- and a placing is on one
command_seats : (s : Settings) (h : History) (n : ℕ) (c : Command) → IfSome (behind (effect s h c)) (SeatsBelow n)
command_seats s h n (commands.Create f) = tt
command_seats s h n (commands.Thread u e) = tt
command_seats s h n (commands.Take c) = tt
command_seats s h n (commands.Give c) = tt
command_seats s h n (commands.Tick c) = tt
command_seats s h n (commands.HandOff c) = tt
command_seats s h n commands.Leave = tt
command_seats s h n commands.Begin = tt
command_seats s h n (commands.Activate c) = tt

pub due_seats : (s : Settings) (h : History) (x : Effect) (n : ℕ) → ComesNext s h x → n ≡ s.cpus → IfSome (behind x) (SeatsBelow n)
due_seats s h x n (inl due) is = subst (λ (y : Effect). IfSome (behind y) (SeatsBelow n)) (sym due.effect_is) (command_seats s h n due.command)
due_seats s h x n (inr (inr due)) is = subst (λ (y : Effect). IfSome (behind y) (SeatsBelow n)) (sym due.effect_is) tt
due_seats s h x n (inr (inl due)) is = subst (λ (y : Effect). IfSome (behind y) (SeatsBelow n)) (sym due.effect_is) (omega (arith, due.below, is))

-- a CPU that is taken or given back is below 128
command_near : (s : Settings) (h : History) (given : Bool) (c : Command) → refusal s h given c ≡ None → s.cpus < 129 → IfSome (behind (effect s h c)) HoldsNear
command_near s h given (commands.Create f) none most = tt
command_near s h given (commands.Thread u e) none most = tt
command_near s h given (commands.Take c) none most = omega (arith, (takes_when s h c (free_when s h given (commands.Take c) none).own).cpu, most)
command_near s h given (commands.Give c) none most = omega (arith, gives_when s h c (free_when s h given (commands.Give c) none).own, most)
command_near s h given (commands.Tick c) none most = tt
command_near s h given (commands.HandOff c) none most = tt
command_near s h given commands.Leave none most = tt
command_near s h given commands.Begin none most = tt
command_near s h given (commands.Activate c) none most = tt

pub due_near : (s : Settings) (h : History) (x : Effect) → ComesNext s h x → s.cpus < 129 → IfSome (behind x) HoldsNear
due_near s h x (inl due) most = subst (λ (y : Effect). IfSome (behind y) HoldsNear) (sym due.effect_is) (command_near s h due.given due.command due.free most)
due_near s h x (inr (inr due)) most = subst (λ (y : Effect). IfSome (behind y) HoldsNear) (sym due.effect_is) tt
due_near s h x (inr (inl due)) most = subst (λ (y : Effect). IfSome (behind y) HoldsNear) (sym due.effect_is) tt

-- a message, and the entry behind it
pub told_both : (h : History) (x : Effect) → (h ++ listed_message (message_in x)) ++ listed_entry (behind x) ≡ h ++ entries_in x
told_both h (Post m) = append-nil (h ++ Posted m ∷ [])
told_both h (Append None e) = ap (λ (y : History). y ++ e ∷ []) (append-nil h)
told_both h (Append (Some m) e) = append_assoc h (Posted m ∷ []) (e ∷ [])

-- the entry posts nothing
command_quiet : (s : Settings) (h h' : History) (c : Command) → posted (h' ++ listed_entry (behind (effect s h c))) ≡ posted h'
command_quiet s h h' (commands.Create f) = ap posted (append-nil h')
command_quiet s h h' (commands.Thread u e) = ap posted (append-nil h')
command_quiet s h h' (commands.Take c) = same_posted h' (Taken c) refl
command_quiet s h h' (commands.Give c) = same_posted h' (Given c) refl
command_quiet s h h' (commands.Tick c) = ap posted (append-nil h')
command_quiet s h h' (commands.HandOff c) = same_posted h' (Role (next_generation h) c) refl
command_quiet s h h' commands.Leave = same_posted h' Left refl
command_quiet s h h' commands.Begin = same_posted h' (Begin (next_generation h)) refl
command_quiet s h h' (commands.Activate c) = same_posted h' (Role (unwrap_or (attaching h) 0) c) refl

pub due_quiet : (s : Settings) (h h' : History) (x : Effect) → ComesNext s h x → posted (h' ++ listed_entry (behind x)) ≡ posted h'
due_quiet s h h' x (inl due) = ap (λ (y : Effect). posted (h' ++ listed_entry (behind y))) due.effect_is ∙ command_quiet s h h' due.command
due_quiet s h h' x (inr (inr due)) = ap (λ (y : Effect). posted (h' ++ listed_entry (behind y))) due.effect_is ∙ ap posted (append-nil h')
due_quiet s h h' x (inr (inl due)) = ap (λ (y : Effect). posted (h' ++ listed_entry (behind y))) due.effect_is ∙ same_posted h' (placing due.cpu due.stamp) refl

-- an entry frees no seat and adds none
pub seated_length : (running : List (Option ℕ)) (e : Option Entry) → length (seats_seated running e) ≡ length running
seated_length running None = refl
seated_length running (Some (Posted m)) = refl
seated_length running (Some (Placed t q c g)) = length_set running c (Some t)
seated_length running (Some (Role g c)) = refl
seated_length running (Some (Begin g)) = refl
seated_length running (Some Left) = refl
seated_length running (Some (Taken c)) = refl
seated_length running (Some (Given c)) = refl
seated_length running (Some Torn) = refl

-- nor does a message
pub length_told : (running : List (Option ℕ)) (m : Option Message) → length (seats_told running m) ≡ length running
length_told running None = refl
length_told running (Some m) = length_freed running (left_by m)

-- what was posted behind a history, there was room for
pub room_then : {P : Type 0} (same : P → P → Type 0) (consumed : P → ℕ) (sent : P → List Message → Type 0) (tight : P → Message → Type 0) (p q : P) (h : History) (m : Option Message) → same p p → sent p (posted h) → same p q → consumed q ≡ consumed p
    → sent q (posted (h ++ listed_message m)) → IfSome m (RoomOf same consumed sent tight p h true)
room_then same consumed sent tight p q h None r was s t k = tt
room_then same consumed sent tight p q h (Some m) r was s t k = (p, r, refl, was, q, s, t, subst (sent q) (posted-push h (Posted m)) k)
