-- The role of a machine suits it, whatever happens.
use Rattle.std.proofs.Common.{◌≡◌, refl, ap, sym, subst, ◌∙◌, ℕ, Bool, true, false, Option, None, Some, Ok, [], ◌∷◌, ◌++◌, append_assoc, unwrap_or}
use Rattle.std.proofs.lemmas.Bool.{false≢true}
use Rattle.std.specs.Option.{is_none, option_map}
use Rattle.gs_layout.specs.declared.message.Message.{Message}
use Rattle.gs_layout.specs.declared.message.Message.TheVariants.{TimerTick}
use Rattle.gs_journal.specs.declared.entry.Entry.TheVariants.{Posted, Role, Begin, Left, Taken, Torn}
use Rattle.gs_journal.specs.declared.entry.Entry.{Entry}
use Rattle.gs_journal.specs.History.{History, active, attaching}
use Rattle.gs_journal.proofs.Laws.{attaching-push}
use Rattle.gs_kernel.specs.declared.settings.Settings.{Settings}
use Rattle.gs_kernel.specs.Kernel.{creation, happening, last_entry, next_generation, preemption}
use Rattle.gs_kernel.specs.declared.command.Command.{Command}
use Rattle.gs_kernel.specs.declared.command.Command.TheVariants as commands
use Rattle.gs_kernel.specs.declared.executed.Executed.{Executed}
use Rattle.gs_kernel.specs.declared.executed.Executed.TheVariants as executed
use Rattle.gs_kernel.specs.declared.executed.Executed.TheVariants.{Done}
use Rattle.gs_kernel.specs.declared.effect.Effect.TheVariants.{Append}
use Rattle.gs_kernel.specs.Legal.{Room, Tells, effect, entries_in, is_done, last_in, paged_by}
use Rattle.gs_kernel.proofs.Laws.{active_begun, attaching_ended, attaching_left, last_added, last_told}
use Rattle.gs_agent.specs.Role.{RoleOf}
use Rattle.gs_core.specs.Follows.{follows, on_cpu}
use Rattle.gs_core.specs.Machine.{stays_with}
use Rattle.gs_core.specs.Held.{Suits}
use Rattle.gs_core.proofs.Commands.{role_last}
use Rattle.gs_core.proofs.OneAgent.{none_there}
use Rattle.gs_core.proofs.Roles.{NoNewRole, acts_on, entry_roles, roles_given, roles_posted, roles_taken, roles_torn}
use Rattle.gs_core.proofs.Steps.{was_role}

-- if nobody new is active or attaches, a role that differs in its mind alone suits on
pub suits_still : {P : Type 0} (p : P) (h h' : History) (b b' : Bool) (r r' : RoleOf P) → NoNewRole h h' → b' ≡ b → r' ≡ record r { mind = r'.mind } → Suits p h b (Some r) → Suits p h' b' (Some r')
suits_still p h h' b b' r r' roles same is s =
    record {
      plans = ap (λ (x : RoleOf _). x.policy) is ∙ s.plans;
      acts = acts_on h h' r.generation r'.generation roles.active (ap (λ (x : RoleOf _). x.generation) is) s.acts;
      attaches = λ a e. ap (λ (x : RoleOf _). x.generation) is ∙ s.attaches a (roles.attaching a e);
      given = λ q. same ∙ (s.given (was_role (attaching h) (attaching h') roles.attaching q) ∙ ap (λ (x : RoleOf _). is_none x.next) (sym is));
    }

-- so does any role, or none
pub suits_on : {P : Type 0} (p : P) (h h' : History) (b b' : Bool) (o : Option (RoleOf P)) → NoNewRole h h' → b' ≡ b → Suits p h b o → Suits p h' b' o
suits_on p h h' b b' None roles same s = record { plans = tt; acts = tt; attaches = tt; given = λ q. same ∙ s.given (was_role (attaching h) (attaching h') roles.attaching q) }
suits_on p h h' b b' (Some r) roles same s = suits_still p h h' b b' r r roles same refl s

-- if no agent is there, none has to suit
pub suits_left : {P : Type 0} (p : P) (h h' : History) (b : Bool) → h' ≡ h ++ Left ∷ [] → Suits p h' b None
suits_left p h h' b is = record { plans = tt; acts = tt; attaches = tt; given = λ q. absurd (none_there (attaching h') (ap attaching is ∙ attaching_left h) q) }

-- one that begins suits, as it was given no page
pub suits_begun : {P : Type 0} (p : P) (h h' : History) (g : ℕ) (b : Bool) (r : RoleOf P) → h' ≡ h ++ Begin g ∷ [] → b ≡ false → r.policy ≡ p → r.generation ≡ g → r.next ≡ Some 1 → Suits p h' b (Some r)
suits_begun p h h' g b r is none plans its page =
    record {
      plans = plans;
      acts = λ a e. let no_way : None ≡ Some a = sym (ap active is ∙ active_begun h g) ∙ e in absurd cc;
      attaches = λ a e. let z : Some g ≡ Some a = sym (ap attaching is ∙ attaching-push h (Begin g)) ∙ e in let same : g ≡ a = cc in its ∙ same;
      given = λ q. none ∙ sym (ap is_none page);
    }

-- one that was given a page suits, as the kernel knows whether it was the last one
pub suits_paged : {P : Type 0} (p : P) (h : History) (b b' : Bool) (r r' : RoleOf P) → r' ≡ record r { mind = r'.mind; next = r'.next } → b' ≡ is_none r'.next → Suits p h b (Some r) → Suits p h b' (Some r')
suits_paged p h b b' r r' is knows s = record { plans = ap (λ (x : RoleOf _). x.policy) is ∙ s.plans; acts = λ a e. ap (λ (x : RoleOf _). x.generation) is ∙ s.acts a e; attaches = λ a e. ap (λ (x : RoleOf _). x.generation) is ∙ s.attaches a e; given = λ q. knows }

-- after a role nobody attaches
attaching_role : (h : History) (o : Option Message) (g c : ℕ) → attaching (h ++ entries_in (Append o (Role g c))) ≡ None
attaching_role h None g c = attaching_ended h g c
attaching_role h (Some x) g c = ap attaching (sym (append_assoc h (Posted x ∷ []) (Role g c ∷ []))) ∙ attaching_ended (h ++ Posted x ∷ []) g c

-- a role that goes on to a CPU is that of the active agent
suits_led : {P : Type 0} (p : P) (h : History) (b : Bool) (o : Option (RoleOf P)) (x : Option Message) (g c : ℕ) → Suits p h b o → Suits p (h ++ entries_in (Append x (Role g c))) b (option_map (on_cpu g c) o)
suits_led p h b None x g c s = record { plans = tt; acts = tt; attaches = tt; given = λ q. absurd (none_there _ (attaching_role h x g c) q) }
suits_led p h b (Some r) x g c s =
    record {
      plans = s.plans;
      acts = λ a e. let z : Some (g, c) ≡ Some a = sym (role_last h x g c) ∙ e in let same : (g, c) ≡ a = cc in ap (λ (y : ℕ × ℕ). y.0) same;
      attaches = λ a e. let z : None ≡ Some a = sym (attaching_role h x g c) ∙ e in absurd cc;
      given = λ q. absurd (none_there _ (attaching_role h x g c) q);
    }

-- the role that follows what a command adds suits
suits_command : {P : Type 0} (p : P) (s : Settings) (h : History) (c : Command) (b : Bool) (o : Option (RoleOf P)) → stays_with c ≡ true → Suits p h b o
    → Suits p (h ++ entries_in (effect s h c)) (paged_by (Ok Done) c b) (follows (last_in (effect s h c)) o)
suits_command p s h (commands.Create f) b o there k = suits_on p h _ b b o (roles_posted h (creation s.first_tseq h f)) refl k
suits_command p s h (commands.Thread t e) b o there k = suits_on p h _ b b o (roles_posted h (happening s h t e)) refl k
suits_command p s h (commands.Take c) b o there k = suits_on p h _ b b o (entry_roles h (preemption s h c) (Taken c) (λ x. roles_taken x c)) refl k
suits_command p s h (commands.Give c) b o there k = suits_on p h _ b b o (roles_given h c) refl k
suits_command p s h (commands.Tick c) b o there k = suits_on p h _ b b o (roles_posted h (TimerTick c)) refl k
suits_command p s h (commands.HandOff c) b o there k = suits_led p h b o (preemption s h c) (next_generation h) c k
suits_command p s h (commands.Activate c) b o there k = suits_led p h b o (preemption s h c) (unwrap_or (attaching h) 0) c k
suits_command p s h commands.Leave b o there k = absurd (false≢true there)
suits_command p s h commands.Begin b o there k = absurd (false≢true there)

-- and so does the one that follows the last entry of a command that was not refused
pub suits_told : {P : Type 0} (p : P) (room : Room) (s : Settings) (h h' : History) (c : Command) (x : Executed) (b b' : Bool) (o : Option (RoleOf P)) → stays_with c ≡ true → Tells room h (effect s h c) (is_done x) h' → b' ≡ paged_by (Ok x) c b
    → Suits p h b o → Suits p h' b' (follows (last_entry h') o)
suits_told p room s h h' c executed.Torn b b' o there t is k =
    subst (λ (e : Entry). Suits p h' b' (follows e o)) (sym (ap last_entry t.1 ∙ last_added h Torn)) (suits_on p h h' b b' o (subst (NoNewRole h) (sym t.1) (roles_torn h)) is k)
suits_told p room s h h' c Done b b' o there t is k =
    let grown = subst (λ (y : History). Suits p y (paged_by (Ok Done) c b) (follows (last_in (effect s h c)) o)) (sym t.1) (suits_command p s h c b o there k) in
    subst (λ (z : Bool). Suits p h' z (follows (last_entry h') o)) (sym is)
    (subst (λ (e : Entry). Suits p h' (paged_by (Ok Done) c b) (follows e o)) (sym (ap last_entry t.1 ∙ last_told h (effect s h c))) grown)
