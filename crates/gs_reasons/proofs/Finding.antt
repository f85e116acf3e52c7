-- Each placing of a kernel finds its CPU free.
use Rattle.std.proofs.Common.{◌≡◌, refl, ap, sym, subst, ◌∙◌, ℕ, suc, ◌+◌, ◌<◌, ◌≤◌, ◌==◌, Bool, true, false, cond, Option, None, Some, List, [], ◌∷◌, ◌++◌, append_assoc, length, arith}
use Rattle.std.proofs.lemmas.Bool.Decides.{nat_tests}
use Rattle.std.specs.Prelude.{⊤}
use Rattle.std.specs.Option.{option_map}
use Rattle.gs_layout.specs.declared.message.Change.TheVariants.{Preempted}
use Rattle.gs_layout.specs.declared.message.Message.{Message}
use Rattle.gs_layout.specs.declared.message.Message.TheVariants.{TimerTick}
use Rattle.gs_layout.specs.declared.outcome.Outcome.{Outcome}
use Rattle.gs_slots.specs.declared.state.SlotState.{SlotState}
use Rattle.gs_slots.specs.declared.state.SlotState.TheVariants.{Idle, Stamped, Done}
use Rattle.gs_slots.specs.declared.state.Stamp.{Stamp}
use Rattle.gs_status.specs.Masks.{has}
use Rattle.gs_journal.specs.declared.entry.Entry.{Entry}
use Rattle.gs_journal.specs.declared.entry.Entry.TheVariants.{Posted, Role, Begin, Left, Taken, Given, Torn}
use Rattle.gs_journal.specs.Standing.{then_stands}
use Rattle.gs_journal.specs.History.{History, ends_run, on, placed_on}
use Rattle.gs_journal.proofs.Laws.{AtEach-push, on-push}
use Rattle.gs_kernel.specs.declared.command.Command.{Command}
use Rattle.gs_kernel.specs.declared.command.Command.TheVariants as commands
use Rattle.gs_kernel.specs.declared.effect.Effect.TheVariants.{Append}
use Rattle.gs_kernel.specs.declared.landing.Landing.{Landing}
use Rattle.gs_kernel.specs.declared.settings.Settings.{Settings}
use Rattle.gs_kernel.specs.Group.{Group, LandsCommit, group_in, grouped}
use Rattle.gs_kernel.specs.Kernel.{next_about, preemption}
use Rattle.gs_kernel.specs.Landing.{placing, verdict}
use Rattle.gs_kernel.specs.Lands.{Landings, Lands, Settles, placement}
use Rattle.gs_kernel.specs.Legal.{Room, Tells, effect, entries_in}
use Rattle.gs_kernel.specs.Ready.{Rises}
use Rattle.gs_kernel.proofs.Laws.{AllOf, IsKeptBy, all_keep, group_keeps, landing_keeps, rises_from}
use Rattle.gs_reasons.specs.ExplainsRefusal.{FindsFree}

pub free_then : (h : History) (e : Entry) → FindsFree h → ((k t : ℕ) → placed_on k e ≡ Some t → on h k ≡ None) → FindsFree (h ++ e ∷ [])
free_then h e free here = AtEach-push (λ before e. (k t : ℕ) → placed_on k e ≡ Some t → on before k ≡ None) h e free here

free_posted : (h : History) (m : Message) → FindsFree h → FindsFree (h ++ Posted m ∷ [])
free_posted h m free = free_then h (Posted m) free (λ k t placed. absurd cc)

free_torn : (h : History) → FindsFree h → FindsFree (h ++ Torn ∷ [])
free_torn h free = free_then h Torn free (λ k t placed. absurd cc)

free_placed : (h : History) (k : ℕ) (b : Stamp) → on h k ≡ None → FindsFree h → FindsFree (h ++ placing k b ∷ [])
free_placed h k b none free = free_then h (placing k b) free (λ j t placed. by_test j t (k == j) refl placed)
  where
    by_test : (j t : ℕ) (x : Bool) → (k == j) ≡ x → cond (k == j) (Some b.tid) None ≡ Some t → on h j ≡ None
    by_test j t true q placed = let same : k ≡ j = grind (arith, nat_tests) in ap (on h) (sym same) ∙ none
    by_test j t false q placed = let nobody : None ≡ Some t = sym (ap (λ x. cond x (Some b.tid) None) q) ∙ placed in absurd cc

-- who is on the CPU of a placing is told first, and is off it then
off_told : (s : Settings) (h : History) (k u : ℕ) → on h k ≡ Some u → on (h ++ Posted (next_about s h u (Preempted k)) ∷ []) k ≡ None
off_told s h k u there =
    let m : Message = next_about s h u (Preempted k) in
    let own : (u == u) ≡ true = grind (arith, nat_tests) in
    on-push h (Posted m) k ∙ (ap (λ o. then_stands None ends_run (Posted m) o) there ∙ ap (λ x. cond x None (Some u)) own)

free_placement : (s : Settings) (h : History) (k : ℕ) (b : Stamp) → FindsFree h → FindsFree (h ++ entries_in (placement s h k b))
free_placement s h k b free = by_who (on h k) refl
  where
    by_who : (o : Option ℕ) → on h k ≡ o → FindsFree (h ++ entries_in (Append (option_map (λ u. next_about s h u (Preempted k)) o) (placing k b)))
    by_who None none = free_placed h k b none free
    by_who (Some u) there =
        let m : Message = next_about s h u (Preempted k) in
        subst FindsFree (append_assoc h (Posted m ∷ []) (placing k b ∷ [])) (free_placed (h ++ Posted m ∷ []) k b (off_told s h k u there) (free_posted h m free))

-- a landing, late or of a slot
landing_free : (room : Room) (s : Settings) (h : History) (k : ℕ) (b : Stamp) (o : Outcome) (h' : History) → Settles room s h k b (verdict s h k b) o h' → FindsFree h → FindsFree h'
landing_free room s h k b o h' t free = landing_keeps FindsFree room s h k b o h' t (λ _. free_placement s h k b free) (free_torn h free) free

pub late_free : (room : Room) (s : Settings) (h : History) (k : ℕ) (b : Stamp) (l : Landing) (h' : History) → Lands room s h k b l h' → FindsFree h → FindsFree h'
late_free room s h k b l h' t free = landing_free room s h k b l.outcome h' t.settles free

-- a group: all that make way are told first
kept_free : (s : Settings) → IsKeptBy s FindsFree (λ k b. ⊤)
kept_free s =
    record {
      told = λ h t k lt there free. free_posted h (next_about s h t (Preempted k)) free;
      placed = λ h k b lt is q free. free_placed h k b is.free free;
      torn = λ h free. free_torn h free;
    }

of_any : (g : Group) → AllOf (λ k b. ⊤) g
of_any [] = tt
of_any (x ∷ g) = (tt, of_any g)

rises_one : (s : Settings) (k : ℕ) (g : Group) (wanted : Bool) (z : SlotState) → k < s.cpus → Rises (suc k) s.cpus g → Rises k s.cpus (grouped wanted k z ++ g)
rises_one s k g false z lt r = rises_from s k (suc k) g (omega arith) r
rises_one s k g true Idle lt r = rises_from s k (suc k) g (omega arith) r
rises_one s k g true (Done b o a n) lt r = rises_from s k (suc k) g (omega arith) r
rises_one s k g true (Stamped b) lt r = by_flag b.flags.group
  where
    more : Rises (suc k) s.cpus g
    more = r

    low : k < s.cpus
    low = lt

    by_flag : (f : Bool) → Rises k s.cpus (cond f ((k, b) ∷ []) [] ++ g)
    by_flag true = (omega arith, low, more)
    by_flag false = rises_from s k (suc k) g (omega arith) more

rises_in : (s : Settings) (mask k : ℕ) (zs : List SlotState) → k + length zs ≤ s.cpus → Rises k s.cpus (group_in mask k zs)
rises_in s mask k [] le = tt
rises_in s mask k (z ∷ zs) le = rises_one s k (group_in mask (suc k) zs) (has mask k) z (omega (arith, le)) (rises_in s mask (suc k) zs (omega (arith, le)))

pub commit_free : (room : Room) (s : Settings) (mask : ℕ) (zs : List SlotState) (h : History) (r : Landings) → length zs ≤ s.cpus → LandsCommit room s mask zs h r → FindsFree h → FindsFree r.history
commit_free room s mask zs h r le t free =
    let g : Group = group_in mask 0 zs in
    let grouped_free : FindsFree t.group.history = group_keeps room s FindsFree (λ k b. ⊤) g h t.first.fit t.group.history (kept_free s) (of_any g) (rises_in s mask 0 zs (omega (arith, le))) t.first.puts free in
    subst (λ (q : Landings). FindsFree q.history) (sym t.whole)
    (all_keep FindsFree room s mask 0 t.group.slots t.group.history t.rest (λ i c b o h1 h2 is at u free. landing_free room s h1 c b o h2 u free) t.others grouped_free)

-- a command places nobody
quiet_appended : (h : History) (o : Option Message) (e : Entry) → ((k t : ℕ) → placed_on k e ≡ Some t → ⊥) → FindsFree h → FindsFree (h ++ entries_in (Append o e))
quiet_appended h None e quiet free = free_then h e free (λ k t placed. absurd (quiet k t placed))
quiet_appended h (Some m) e quiet free = subst FindsFree (append_assoc h (Posted m ∷ []) (e ∷ [])) (free_then (h ++ Posted m ∷ []) e (free_posted h m free) (λ k t placed. absurd (quiet k t placed)))

command_free : (s : Settings) (h : History) (c : Command) → FindsFree h → FindsFree (h ++ entries_in (effect s h c))
command_free s h (commands.Create f) free = free_posted h _ free
command_free s h (commands.Thread t e) free = free_posted h _ free
command_free s h (commands.Take k) free = quiet_appended h (preemption s h k) (Taken k) (λ j t placed. absurd cc) free
command_free s h (commands.Give k) free = quiet_appended h None (Given k) (λ j t placed. absurd cc) free
command_free s h (commands.Tick k) free = free_posted h (TimerTick k) free
command_free s h (commands.HandOff k) free = quiet_appended h (preemption s h k) (Role _ k) (λ j t placed. absurd cc) free
command_free s h commands.Leave free = quiet_appended h None Left (λ j t placed. absurd cc) free
command_free s h commands.Begin free = quiet_appended h None (Begin _) (λ j t placed. absurd cc) free
command_free s h (commands.Activate k) free = quiet_appended h (preemption s h k) (Role _ k) (λ j t placed. absurd cc) free

pub told_free : (room : Room) (s : Settings) (h : History) (c : Command) (fits : Bool) (h' : History) → Tells room h (effect s h c) fits h' → FindsFree h → FindsFree h'
told_free room s h c true h' t free = subst FindsFree (sym t.1) (command_free s h c free)
told_free room s h c false h' t free = subst FindsFree (sym t.1) (free_torn h free)
