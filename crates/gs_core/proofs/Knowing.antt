-- What an agent believes goes with the slots and with the active agent, event by event.
use Rattle.std.proofs.Common.{◌≡◌, refl, ap, sym, ◌∙◌, subst, ℕ, true, Option, None, Some, List, [], ◌∷◌, map, take, slice_set}
use Rattle.std.specs.Option.{is_some, option_map}
use Rattle.gs_layout.specs.declared.known.Known.{Known}
use Rattle.gs_layout.specs.declared.message.Message.{Message}
use Rattle.gs_slots.specs.declared.flags.Flags.{Flags}
use Rattle.gs_slots.specs.Flags.{single}
use Rattle.gs_slots.specs.declared.state.Stamp.{Stamp}
use Rattle.gs_slots.specs.declared.state.SlotState.{SlotState}
use Rattle.gs_slots.specs.declared.state.SlotState.TheVariants.{Stamped}
use Rattle.gs_slots.specs.State.{collected}
use Rattle.gs_journal.specs.declared.entry.Entry.TheVariants.{Role}
use Rattle.gs_journal.specs.Standing.{standing, last_of}
use Rattle.gs_journal.specs.History.{active, attaching}
use Rattle.gs_kernel.specs.Lands.{Landings}
use Rattle.gs_agent.specs.Mind.{picture_of}
use Rattle.gs_agent.specs.Picture.{Picture, after_all, after_stamp}
use Rattle.gs_policy.specs.declared.choice.Choice.{Choice}
use Rattle.gs_agent.specs.declared.drained.Drained.{Drained}
use Rattle.gs_replies.specs.declared.config.Config.{Config}
use Rattle.gs_core.specs.Machine.{Agent, Plan, State, planning, Drains, FollowsFirst, committed, mind_of, picture, stamp_of, stamps, stamps_all, stamps_with, start, thinking, unread, view}
use Rattle.gs_core.specs.Thinks.{Knows, Thinks}
use Rattle.gs_core.specs.Trust.{NoneDone}
use Rattle.gs_core.proofs.Left.{AreAfter}
use Rattle.gs_core.proofs.OneAgent.{not_both}
use Rattle.gs_core.proofs.Roles.{NoNewRole}
use Rattle.gs_core.proofs.Steps.{all_idle, was_role}
use Rattle.gs_core.proofs.Thinking.{own_messages, own_all, thinks_collected, thinks_first, thinks_messages, thinks_stamp}

-- what a change of its picture makes of what an agent thinks, and of its own CPU
thinks_then : (f : Picture → Picture) (o : Option Agent) (slots left : List SlotState) → ((p : Picture) → Thinks p.cpus slots → Thinks (f p).cpus left) → (is_some o ≡ true → Thinks (mind_of o).cpus slots)
    → is_some (option_map (thinking f) o) ≡ true → Thinks (mind_of (option_map (thinking f) o)).cpus left
thinks_then f None slots left change t some = absurd cc
thinks_then f (Some a) slots left change t some = change (picture_of a.mind) (t refl)

own_then : (f : Picture → Picture) (o : Option Agent) → ((p : Picture) → (f p).cpus.agent ≡ p.cpus.agent) → (mind_of (option_map (thinking f) o)).cpus.agent ≡ (mind_of o).cpus.agent
own_then f None same = refl
own_then f (Some a) same = same (picture_of a.mind)

-- a stamp, and several of them
stamp_with : (m : State) (c t : ℕ) (w : Flags) (a : Option (ℕ × ℕ)) (k : Option Known) → active m.history ≡ a → Knows m → Knows (stamps_with m c t w a k).1
stamp_with m c t w None k is n = n
stamp_with m c t w (Some a) None is n = n
stamp_with m c t w (Some a) (Some k) is n =
    let b : Stamp = stamp_of t w a k in
    record {
      thinks = thinks_then (after_stamp c t) m.agent m.slots (slice_set m.slots c (Stamped b)) (λ q t. thinks_stamp q.cpus m.slots c b t) n.thinks;
      own_cpu = λ x e. own_then (after_stamp c t) m.agent (λ q. refl) ∙ n.own_cpu x e;
      idle = λ q. absurd (not_both m.history (ap (λ o. is_some o) is) q);
    }

pub knows_stamp : (m : State) (c t : ℕ) (w : Flags) → Knows m → Knows (stamps m c t w).1
knows_stamp m c t w n = stamp_with m c t w (active m.history) (view m t) refl n

pub knows_choices : (m : State) (xs : List Choice) → Knows m → Knows (stamps_all m xs)
knows_choices m [] n = n
knows_choices m (x ∷ xs) n = knows_choices (stamps m x.cpu x.tid (single x.preempt)).1 xs (knows_stamp m x.cpu x.tid (single x.preempt) n)

-- a drain
drained : (m : State) (max c : ℕ) (d : Drained) (a : Option Agent) → Drains m max d (record m { consumed = c; agent = a }) → Knows m → Knows (record m { consumed = c; agent = a })
drained m max c d a r n =
    let follows : FollowsFirst (picture m) (unread m) max d (picture_of (mind_of a)) = r.follows in
    let ms : List Message = take d.count (unread m) in
    record {
      thinks = λ some. subst (λ (q : Picture). Thinks q.cpus m.slots) (sym follows.picture) (thinks_messages (picture m) ms m.slots (n.thinks (sym r.stays ∙ some)));
      own_cpu = λ x e. ap (λ (q : Picture). q.cpus.agent) follows.picture ∙ (own_messages (picture m) ms ∙ n.own_cpu x e);
      idle = n.idle;
    }

pub knows_drain : (m : State) (max : ℕ) (d : Drained) (m' : State) → Drains m max d m' → Knows m → Knows m'
knows_drain m max d m' r n = subst Knows (sym r.others) (drained m max m'.consumed d m'.agent (subst (Drains m max d) r.others r) n)

-- landings, collected
pub committed_knows : (m : State) (made : Landings) → AreAfter m.slots made.slots → NoNewRole m.history made.history → is_some (active m.history) ≡ true → NoneDone m.slots → Knows m → Knows (committed m made)
committed_knows m made after roles acts none n =
    record {
      thinks = thinks_then (after_all made.slots) m.agent m.slots (map collected made.slots) (λ q t. thinks_collected q m.slots made.slots after none t) n.thinks;
      own_cpu = λ x e. own_then (after_all made.slots) m.agent (own_all made.slots) ∙ n.own_cpu x (roles.active x e);
      idle = λ q. absurd (not_both m.history acts (was_role (attaching m.history) (attaching made.history) roles.attaching q));
    }

-- the start
first_own : (g c : ℕ) (a : ℕ × ℕ) → active (Role g c ∷ []) ≡ Some a → Some c ≡ Some a.1
unfolding active standing last_of
first_own g c a e = let z : (g, c) ≡ a = cc in ap (λ (x : ℕ × ℕ). Some x.1) z

pub start_knows : {P : Type 0} (chosen : P → Plan) (c : Config P) → Knows (planning chosen (start c))
start_knows chosen c = record { thinks = λ some. thinks_first c.cpus (Some 0); own_cpu = first_own c.first_generation 0; idle = λ q. all_idle c.cpus }
