-- Each step keeps beliefs trusted while the enclave stands, and the machine has nothing to trust in at the start.
use Rattle.std.proofs.Common.{◌≡◌, refl, sym, ◌∙◌, subst, ℕ, zero, suc, ◌+◌, ◌⊎◌, inl, inr, false, Option, None, Some, List, [], ◌∷◌, ◌++◌, length, map, replicate, take, drop, arith, slice_get, slice_set, length-take}
use Rattle.std.specs.Option.{option_map}
use Rattle.std.proofs.lemmas.List.{take-append-drop}
use Rattle.gs_layout.specs.declared.known.Known.{Known}
use Rattle.gs_layout.specs.declared.message.Message.{Message}
use Rattle.gs_layout.specs.declared.outcome.Outcome.{Outcome}
use Rattle.gs_layout.specs.View.{Look, catch_up, look_up}
use Rattle.gs_slots.specs.declared.flags.Flags.{Flags}
use Rattle.gs_slots.specs.Flags.{single}
use Rattle.gs_slots.specs.declared.state.Stamp.{Stamp}
use Rattle.gs_slots.specs.declared.state.SlotState.{SlotState}
use Rattle.gs_slots.specs.declared.state.SlotState.TheVariants.{Idle, Stamped, Done}
use Rattle.gs_slots.specs.State.{collected}
use Rattle.gs_journal.specs.History.{History, active, torn}
use Rattle.gs_journal.specs.State.{IsNumbered}
use Rattle.gs_journal.proofs.Laws.{same_view}
use Rattle.gs_kernel.specs.Lands.{Landings}
use Rattle.gs_beliefs.proofs.Laws.{believed_on_unknown}
use Rattle.gs_agent.specs.Mind.{picture_of}
use Rattle.gs_agent.specs.Picture.{Picture, after_all, after_stamp}
use Rattle.gs_policy.specs.declared.choice.Choice.{Choice}
use Rattle.gs_agent.specs.declared.drained.Drained.{Drained}
use Rattle.gs_replies.specs.declared.config.Config.{Config}
use Rattle.gs_core.specs.Machine.{Agent, Plan, State, planning, Drains, FollowsFirst, committed, mind_of, page_of, picture, stamp_of, stamps, stamps_all, stamps_with, start, thinking, unread, view}
use Rattle.gs_core.specs.Good.{Good}
use Rattle.gs_core.specs.Trust.{AreSeen, IsSeen, NoneDone, Trusted, Trusts}
use Rattle.gs_core.specs.Safe.{IsTrusted}
use Rattle.gs_core.proofs.Places.{get_set}
use Rattle.gs_core.proofs.Steps.{idle, some_thinks}
use Rattle.gs_core.proofs.Believing.{trusted_followed}
use Rattle.gs_core.proofs.Left.{AreAfter, none_collected}
use Rattle.gs_core.proofs.Seeing.{seen_left, seen_taken}
use Rattle.gs_core.proofs.Collecting.{AreLanded, trusted_all}

-- what an agent thinks changes nothing of what it knows, nor of its pages
thought : (h : History) (n : ℕ) (f : Picture → Picture) (o : Option Agent)
    → ((p : Picture) → Trusted h n (look_up (mind_of o).records) (page_of o) p.cpus → Trusted h n (look_up (mind_of o).records) (page_of o) (f p).cpus) → Trusted h n (look_up (mind_of o).records) (page_of o) (mind_of o).cpus
    → Trusted h n (look_up (mind_of (option_map (thinking f) o)).records) (page_of (option_map (thinking f) o)) (mind_of (option_map (thinking f) o)).cpus
thought h n f None step trust = trust
thought h n f (Some a) step trust = step (picture_of a.mind) trust

seen_thought : (h : History) (f : Picture → Picture) (o : Option Agent) (slots : List SlotState) → AreSeen h (look_up (mind_of o).records) slots → AreSeen h (look_up (mind_of (option_map (thinking f) o)).records) slots
seen_thought h f None slots seen = seen
seen_thought h f (Some a) slots seen = seen

-- a stamp, of what is known now
stamp_with : (m : State) (c t : ℕ) (w : Flags) (a : Option (ℕ × ℕ)) (k : Option Known) → view m t ≡ k → Trusts m → Trusts (stamps_with m c t w a k).1
stamp_with m c t w None k is trusts = trusts
stamp_with m c t w (Some a) None is trusts = trusts
stamp_with m c t w (Some a) (Some k) is trusts =
    let f : Picture → Picture = after_stamp c t in
    record {
      trusted = λ up. thought m.history m.consumed f m.agent (λ q trust. trust) (trusts.trusted up);
      seen = λ some. seen_thought m.history f m.agent (slice_set m.slots c (Stamped b)) (λ i z e. by_slot i z (trusts.seen (sym (some_thinks f m.agent) ∙ some)) (get_set m.slots c i (Stamped b) (Stamped z) e));
      none_done = λ i z o there q e. none i z o there q (get_set m.slots c i (Stamped b) (Done z o there q) e);
    }
  where
    b : Stamp
    b = stamp_of t w a k

    by_slot : (i : ℕ) (z : Stamp) → AreSeen m.history (view m) m.slots → (slice_get m.slots i ≡ Some (Stamped z)) ⊎ ((i ≡ c) × (Stamped z ≡ Stamped b)) → IsSeen m.history (view m) z
    by_slot i z seen (inl e) = seen i z e
    by_slot i z seen (inr e) =
        let new : Stamped z ≡ Stamped b = e.1 in
        let same : z ≡ b = cc in
        subst (IsSeen m.history (view m)) (sym same) (inl (k, is, omega arith))

    none : (i : ℕ) (z : Stamp) (o : Outcome) (there : Option ℕ) (q : ℕ) → (slice_get m.slots i ≡ Some (Done z o there q)) ⊎ ((i ≡ c) × (Done z o there q ≡ Stamped b)) → ⊥
    none i z o there q (inl e) = trusts.none_done i z o there q e
    none i z o there q (inr e) = let no_way : Done z o there q ≡ Stamped b = e.1 in cc

pub trusts_stamp : (m : State) (c t : ℕ) (w : Flags) → Trusts m → Trusts (stamps m c t w).1
trusts_stamp m c t w trusts = stamp_with m c t w (active m.history) (view m t) refl trusts

-- and several of them
pub trusts_choices : (m : State) (xs : List Choice) → Trusts m → Trusts (stamps_all m xs)
trusts_choices m [] t = t
trusts_choices m (x ∷ xs) t = trusts_choices (stamps m x.cpu x.tid (single x.preempt)).1 xs (trusts_stamp m x.cpu x.tid (single x.preempt) t)

-- landings, collected
pub committed_trusts : (m : State) (made : Landings) → AreAfter m.slots made.slots → AreLanded m.settings m.transactions m.consumed (view m) (page_of m.agent) m.history made → Trusts m → Trusts (committed m made)
committed_trusts m made after l t =
    let h : History = made.history in
    let slots : List SlotState = made.slots in
    record {
      trusted = λ up. thought h m.consumed (after_all slots) m.agent (λ p. trusted_all h m.consumed (view m) (page_of m.agent) slots p (l.shows up)) (λ c x is. l.keeps up c x (t.trusted (l.stood up) c x is));
      seen = λ some. seen_thought h (after_all slots) m.agent (map collected slots) (seen_left h (view m) m.slots slots after (λ i b e. l.seen b (t.seen (sym (some_thinks (after_all slots) m.agent) ∙ some) i b e)));
      none_done = none_collected slots;
    }

-- a drain
drain_trusts_with : (m : State) (max c : ℕ) (d : Drained) (a : Option Agent) → Good m → Drains m max d (record m { consumed = c; agent = a }) → Trusts m → Trusts (record m { consumed = c; agent = a })
drain_trusts_with m max c d a g r t =
    record {
      trusted = λ up. subst (λ x. Trusted m.history x (look_up (mind_of a).records) (page_of a) (mind_of a).cpus) (sym now)
          (subst (λ o. Trusted m.history (m.consumed + length ms) (look_up (mind_of a).records) o (mind_of a).cpus) (sym r.page)
          (subst (λ (p : Picture). Trusted m.history (m.consumed + length ms) p.view (page_of m.agent) p.cpus) (sym follows.picture)
          (trusted_followed m.settings.first_tseq m.history m.consumed (page_of m.agent) (picture m) ms (drop d.count (unread m)) numbers cut follows.none_gap (t.trusted up))));
      seen = λ some i b e. subst (λ (v : Look). IsSeen m.history v b) (sym (same_view (look_up (mind_of a).records) (catch_up (view m) ms) follows.known))
          (seen_taken m.history m.consumed (view m) b ms (drop d.count (unread m)) cut (t.seen (sym r.stays ∙ some) i b e));
      none_done = t.none_done;
    }
  where
    follows : FollowsFirst (picture m) (unread m) max d (picture_of (mind_of a))
    follows = r.follows

    ms : List Message
    ms = take d.count (unread m)

    numbers : IsNumbered m.settings.first_tseq m.history
    numbers = let h = g.history in h.numbered

    cut : unread m ≡ ms ++ drop d.count (unread m)
    cut = sym (take-append-drop d.count (unread m))

    now : c ≡ m.consumed + length ms
    now = omega (arith, r.consumed, follows.count, length-take d.count (unread m))

pub drain_trusts : (m : State) (max : ℕ) (d : Drained) (m' : State) → Good m → Drains m max d m' → Trusts m → Trusts m'
drain_trusts m max d m' g r t = subst Trusts (sym r.others) (drain_trusts_with m max m'.consumed d m'.agent g (subst (Drains m max d) r.others r) t)

-- the start
pub none_idle : (n : ℕ) → NoneDone (replicate n Idle)
none_idle zero i b o there q e = absurd cc
none_idle (suc n) zero b o there q e = absurd cc
none_idle (suc n) (suc i) b o there q e = none_idle n i b o there q e

pub start_trusts : {P : Type 0} (chosen : P → Plan) (c : Config P) → Trusts (planning chosen (start c))
start_trusts chosen c =
    record {
      trusted = λ up d x is. let no_way : None ≡ Some x = sym (believed_on_unknown c.cpus (Some 0) d) ∙ is in absurd cc;
      seen = λ some i b e. absurd (idle c.cpus i b e);
      none_done = none_idle c.cpus;
    }

-- what is promised
pub trusted_of : (m : State) → Trusts m → torn m.history ≡ false → IsTrusted m
trusted_of m t up c x is = let b = t.trusted up c x is in b.there
