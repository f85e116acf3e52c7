-- What a command leaves of a machine.
use Rattle.std.proofs.Common.{◌≡◌, refl, ap, sym, subst, ◌∙◌, ℕ, false, not, ◌&&◌, Option, None, Some, [], ◌∷◌, ◌++◌, append_assoc, unwrap_or}
use Rattle.std.proofs.Math.Bool.{and-false}
use Rattle.std.proofs.lemmas.Bool.{false≢true}
use Rattle.std.specs.Option.{is_none, is_some, option_map}
use Rattle.gs_layout.specs.declared.refusal.Refusal.TheVariants as refusals
use Rattle.gs_layout.specs.declared.message.Change.TheVariants.{Preempted}
use Rattle.gs_layout.specs.declared.message.Message.{Message}
use Rattle.gs_layout.specs.declared.message.Message.TheVariants.{TimerTick}
use Rattle.gs_journal.specs.declared.entry.Entry.{Entry}
use Rattle.gs_journal.specs.declared.entry.Entry.TheVariants.{Posted, Role, Taken, Given, Torn}
use Rattle.gs_journal.specs.History.{History, active, attaching, on}
use Rattle.gs_kernel.specs.declared.settings.Settings.{Settings}
use Rattle.gs_kernel.specs.Attaching.{activate_refusal}
use Rattle.gs_kernel.specs.Kernel.{creation, happening, last_entry, next_about, next_generation, preemption, take_refusal}
use Rattle.gs_kernel.specs.declared.command.Command.{Command}
use Rattle.gs_kernel.specs.declared.command.Command.TheVariants as commands
use Rattle.gs_kernel.specs.declared.effect.Effect.TheVariants.{Append}
use Rattle.gs_kernel.specs.declared.executed.Executed.{Executed}
use Rattle.gs_kernel.specs.declared.executed.Executed.TheVariants as executed
use Rattle.gs_kernel.specs.declared.executed.Executed.TheVariants.{Done}
use Rattle.gs_kernel.specs.Legal.{Room, Tells, effect, entries_in, is_done, last_in, refusal}
use Rattle.gs_kernel.proofs.Laws.{active_now, first_passed, free_when, hands_off_when, last_added, last_told}
use Rattle.gs_core.specs.Machine.{Agent, State, freed_by, is_given_all, led, page_of, promoted}
use Rattle.gs_core.specs.Good.{Good, GoodHistory}
use Rattle.gs_core.specs.Held.{Kept}
use Rattle.gs_core.proofs.Grows.{Grows, grown_kept, grows_posted, grows_quiet, grows_then, grows_torn}
use Rattle.gs_core.proofs.Happens.{both_about, both_happening}
use Rattle.gs_core.proofs.Leads.{leads_kept}
use Rattle.gs_core.proofs.Roles.{roles_given, roles_taken}
use Rattle.gs_core.proofs.Steps.{both_creation, both_ticked, grown_good}
use Rattle.gs_core.proofs.Vacant.{kept_begun, kept_left}

-- the other class takes a CPU: whoever is there makes way
grows_taken : (m : State) (c : ℕ) → Good m → Grows m (m.history ++ entries_in (effect m.settings m.history (commands.Take c)))
grows_taken m c g = by_who (on m.history c) refl
  where
    by_who : (o : Option ℕ) → on m.history c ≡ o → Grows m (m.history ++ entries_in (Append (option_map (λ t. next_about m.settings m.history t (Preempted c)) o) (Taken c)))
    by_who None e = grows_quiet m (Taken c) refl (roles_taken m.history c) g
    by_who (Some t) e =
        let k : Message = next_about m.settings m.history t (Preempted c) in
        let h : History = m.history ++ Posted k ∷ [] in
        let first : Grows m h = grows_posted m k g (both_about m t (Preempted c) refl (g.history.on_known t c e) g) in
        let told : Good (record m { history = h }) = grown_good m h first.both first.roles g in
        subst (Grows m) (append_assoc m.history (Posted k ∷ []) (Taken c ∷ [])) (grows_then m h (h ++ Taken c ∷ []) first (grows_quiet (record m { history = h }) (Taken c) refl (roles_taken h c) told))

-- an agent that needs no more pages goes on to a CPU, as the active one of a generation: whoever is there makes way
pub kept_promoted : (m : State) (g c : ℕ) → page_of m.agent ≡ None → Kept m
    → Kept (record m { history = m.history ++ entries_in (Append (preemption m.settings m.history c) (Role g c)); agent = option_map (promoted c) m.agent })
kept_promoted m g c last k = by_who (on m.history c) refl
  where
    a : Option Agent
    a = option_map (promoted c) m.agent

    by_who : (o : Option ℕ) → on m.history c ≡ o → Kept (record m { history = m.history ++ entries_in (Append (option_map (λ t. next_about m.settings m.history t (Preempted c)) o) (Role g c)); agent = a })
    by_who None e = leads_kept m g c last k
    by_who (Some t) e =
        let good : Good m = k.good in
        let past : GoodHistory m.settings m.transactions m.history = good.history in
        let x : Message = next_about m.settings m.history t (Preempted c) in
        let h : History = m.history ++ Posted x ∷ [] in
        let first : Grows m h = grows_posted m x good (both_about m t (Preempted c) refl (past.on_known t c e) good) in
        subst (λ (y : History). Kept (record m { history = y; agent = a })) (append_assoc m.history (Posted x ∷ []) (Role g c ∷ []))
        (leads_kept (record m { history = h }) g c last (grown_kept m h first k))

-- if one that attaches becomes active, it needs no more pages
needs_none : (s : Settings) (h : History) (o : Option ℕ) (c : ℕ) → activate_refusal s h (is_none o) c ≡ None → o ≡ None
unfolding activate_refusal
needs_none s h o c e = by_page o (first_passed (not (is_some (attaching h) && is_none o)) refusals.NotAttaching (take_refusal s h c) e).0
  where
    by_page : (o : Option ℕ) → not (is_some (attaching h) && is_none o) ≡ false → o ≡ None
    by_page None p = refl
    by_page (Some t) p = absurd (false≢true (sym p ∙ ap not (and-false (is_some (attaching h)))))

-- a machine whose agent and slots follow an entry
abbrev pub left_by : State → Entry → History → State
left_by m e h = record m { history = h; agent = led m.settings.cpus e m.agent; slots = freed_by m.settings.cpus e m.slots }

-- what a command leaves that nothing refuses
kept_command : (m : State) (c : Command) → refusal m.settings m.history (is_given_all m) c ≡ None → Kept m → Kept (left_by m (last_in (effect m.settings m.history c)) (m.history ++ entries_in (effect m.settings m.history c)))
kept_command m (commands.Create f) none k = grown_kept m _ (grows_posted m (creation m.settings.first_tseq m.history f) k.good (both_creation m f k.good)) k
kept_command m (commands.Thread t e) none k = grown_kept m _ (grows_posted m (happening m.settings m.history t e) k.good (both_happening m t e (free_when m.settings m.history (is_given_all m) (commands.Thread t e) none).own k.good)) k
kept_command m (commands.Take c) none k = grown_kept m _ (grows_taken m c k.good) k
kept_command m (commands.Give c) none k = grown_kept m _ (grows_quiet m (Given c) refl (roles_given m.history c) k.good) k
kept_command m (commands.Tick c) none k = grown_kept m _ (grows_posted m (TimerTick c) k.good (both_ticked m c k.good)) k
kept_command m (commands.HandOff c) none k =
    let good : Good m = k.good in
    kept_promoted m (next_generation m.history) c (good.when_active (hands_off_when m.settings m.history c (free_when m.settings m.history (is_given_all m) (commands.HandOff c) none).own).active) k
kept_command m commands.Leave none k = kept_left m k
kept_command m commands.Begin none k = kept_begun m (next_generation m.history) m.policy k
kept_command m (commands.Activate c) none k =
    kept_promoted m (unwrap_or (attaching m.history) 0) c (needs_none m.settings m.history (page_of m.agent) c (free_when m.settings m.history (is_given_all m) (commands.Activate c) none).own) k

-- so is a command that is done, or tears the enclave down
pub kept_told : (m : State) (room : Room) (c : Command) (x : Executed) (h : History) → refusal m.settings m.history (is_given_all m) c ≡ None → Tells room m.history (effect m.settings m.history c) (is_done x) h → Kept m → Kept (left_by m (last_entry h) h)
kept_told m room c Done h none t k =
    subst (λ (e : Entry). Kept (left_by m e h)) (sym (ap last_entry t.1 ∙ last_told m.history (effect m.settings m.history c)))
    (subst (λ (y : History). Kept (left_by m (last_in (effect m.settings m.history c)) y)) (sym t.1) (kept_command m c none k))
kept_told m room c executed.Torn h none t k =
    subst (λ (e : Entry). Kept (left_by m e h)) (sym (ap last_entry t.1 ∙ last_added m.history Torn))
    (subst (λ (y : History). Kept (left_by m Torn y)) (sym t.1) (grown_kept m _ (grows_torn m k.good) k))

-- a role that is added is the active one
pub role_last : (h : History) (o : Option Message) (g c : ℕ) → active (h ++ entries_in (Append o (Role g c))) ≡ Some (g, c)
role_last h None g c = active_now h g c
role_last h (Some x) g c = ap active (sym (append_assoc h (Posted x ∷ []) (Role g c ∷ []))) ∙ active_now (h ++ Posted x ∷ []) g c
