-- Whoever is active or attaches after an event was so before it, unless an agent begins, or is active on a CPU from then on.
use Rattle.std.proofs.Common.{◌≡◌, refl, ap, sym, subst, ◌∙◌, ℕ, Option, None, Some, List, [], ◌∷◌, ◌++◌, append_assoc}
use Rattle.gs_journal.specs.Standing.{standing, last_of}
use Rattle.gs_layout.specs.declared.message.Message.{Message}
use Rattle.gs_layout.specs.declared.outcome.Outcome.{Outcome}
use Rattle.gs_slots.specs.declared.state.Stamp.{Stamp}
use Rattle.gs_slots.specs.declared.state.SlotState.{SlotState}
use Rattle.gs_journal.specs.declared.entry.Entry.{Entry}
use Rattle.gs_journal.specs.declared.entry.Entry.TheVariants.{Posted, Role, Taken, Given, Torn}
use Rattle.gs_journal.specs.History.{History, active, attaching}
use Rattle.gs_kernel.specs.declared.settings.Settings.{Settings}
use Rattle.gs_kernel.specs.Kernel.{preemption}
use Rattle.gs_kernel.specs.declared.effect.Effect.TheVariants.{Append}
use Rattle.gs_kernel.specs.Legal.{Room, entries_in}
use Rattle.gs_kernel.specs.Landing.{verdict, placing}
use Rattle.gs_kernel.specs.Lands.{Landings, LandsAll, Settles}
use Rattle.gs_kernel.proofs.Laws.{SameBeside, active_none, all_keep, attaching_none, beside_placed, beside_posted, beside_quiet, landing_keeps}
use Rattle.gs_core.specs.Held.{Acts}

pub record NoNewRole (h h' : History) : Type 0 where
  pub active : (a : ℕ × ℕ) → active h' ≡ Some a → active h ≡ Some a
  pub attaching : (g : ℕ) → attaching h' ≡ Some g → attaching h ≡ Some g

same_roles : (h h' : History) → active h' ≡ active h → attaching h' ≡ attaching h → NoNewRole h h'
same_roles h h' e f = record { active = λ a p. sym e ∙ p; attaching = λ g p. sym f ∙ p }

pub same_history : (h h' : History) → h' ≡ h → NoNewRole h h'
same_history h h' e = same_roles h h' (ap active e) (ap attaching e)

pub roles_then : (h h' h'' : History) → NoNewRole h h' → NoNewRole h' h'' → NoNewRole h h''
roles_then h h' h'' p q = record { active = λ a e. p.active a (q.active a e); attaching = λ g e. p.attaching g (q.attaching g e) }

beside_roles : (h h' : History) → SameBeside h h' → NoNewRole h h'
beside_roles h h' b = same_roles h h' b.active b.attaching

pub roles_posted : (h : History) (m : Message) → NoNewRole h (h ++ Posted m ∷ [])
roles_posted h m = beside_roles h _ (beside_posted h m)

pub roles_torn : (h : History) → NoNewRole h (h ++ Torn ∷ [])
roles_torn h =
    record {
      active = λ a p. let z : None ≡ Some a = sym (active_none h) ∙ p in absurd cc;
      attaching = λ g p. let z : None ≡ Some g = sym (attaching_none h) ∙ p in absurd cc;
    }

pub roles_placed : (h : History) (k : ℕ) (b : Stamp) → NoNewRole h (h ++ placing k b ∷ [])
roles_placed h k b = beside_roles h _ (beside_placed h b.tid b.tseq k b.generation)

pub roles_taken : (h : History) (c : ℕ) → NoNewRole h (h ++ Taken c ∷ [])
roles_taken h c = let b = beside_quiet h (Taken c) (λ x. refl) (λ x. refl) refl refl refl in same_roles h _ b.0 b.1

pub roles_given : (h : History) (c : ℕ) → NoNewRole h (h ++ Given c ∷ [])
roles_given h c = let b = beside_quiet h (Given c) (λ x. refl) (λ x. refl) refl refl refl in same_roles h _ b.0 b.1

abbrev pub NoNewAgent : History → History → Type 0
NoNewAgent h h' = (a : ℕ × ℕ) → active h' ≡ Some a → active h ≡ Some a

pub entry_roles : (h : History) (o : Option Message) (e : Entry) → ((g : History) → NoNewRole g (g ++ e ∷ [])) → NoNewRole h (h ++ entries_in (Append o e))
entry_roles h None e then = then h
entry_roles h (Some k) e then = subst (NoNewRole h) (append_assoc h (Posted k ∷ []) (e ∷ [])) (roles_then h (h ++ Posted k ∷ []) _ (roles_posted h k) (then (h ++ Posted k ∷ [])))

-- landings place threads, or tear the enclave down
pub landing_roles : (room : Room) (s : Settings) (h : History) (k : ℕ) (b : Stamp) (o : Outcome) (h' : History) → Settles room s h k b (verdict s h k b) o h' → NoNewRole h h'
landing_roles room s h k b o h' t =
    landing_keeps (NoNewRole h) room s h k b o h' t (λ e. entry_roles h (preemption s h k) (placing k b) (λ g. roles_placed g k b)) (roles_torn h) (same_history h h refl)

pub lands_roles : (room : Room) (s : Settings) (mask k : ℕ) (slots : List SlotState) (h : History) (r : Landings) → LandsAll room s mask k slots h r → NoNewRole h r.history
lands_roles room s mask k slots h r lands =
    all_keep (NoNewRole h) room s mask k slots h r (λ i c b o g h' is at t p. roles_then h g h' p (landing_roles room s g c b o h' t)) lands (same_history h h refl)

-- a role goes on as that of the active agent, if it is of the same generation
pub acts_on : (h h' : History) (g g' : ℕ) → NoNewAgent h h' → g' ≡ g → Acts h g → Acts h' g'
acts_on h h' g g' same is_g acts a p = is_g ∙ acts a (same a p)

pub first_acts : (g c : ℕ) → Acts (Role g c ∷ []) g
unfolding active standing last_of
first_acts g c a e = let z : (g, c) ≡ a = cc in ap (λ (x : ℕ × ℕ). x.0) z
