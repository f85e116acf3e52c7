-- Why a stamp is refused, if an agent is active and the CPU is the enclave's, and why a commit is if none is.
use Rattle.std.proofs.Common.{◌≡◌, refl, Bool, true, false, ℕ, Option, None, Some, Ok, [], ◌∷◌, length, slice_get, ap, sym, subst, ◌∙◌}
use Rattle.std.specs.Prelude.{nat_le, not, is_some, unwrap_or}
use Rattle.gs_layout.specs.declared.known.Known.{Known}
use Rattle.gs_layout.specs.declared.refusal.Refusal.{Refusal}
use Rattle.gs_layout.specs.declared.refusal.Refusal.TheVariants as refusals
use Rattle.gs_journal.specs.History.{active, torn}
use Rattle.gs_slots.specs.declared.flags.Flags.{Flags}
use Rattle.gs_status.specs.Masks.{has_past}
use Rattle.gs_slots.specs.declared.state.SlotState.{SlotState}
use Rattle.gs_slots.specs.declared.state.SlotState.TheVariants.{Idle, Stamped, Done}
use Rattle.gs_agent.specs.Role.{stamp_refusal}
use Rattle.gs_kernel.specs.Commit.{standing_commit_refusal}
use Rattle.gs_kernel.specs.First.{first_that}
use Rattle.gs_kernel.specs.Kernel.{IsRefusal}
use Rattle.gs_core.specs.declared.event.Event.TheVariants as events
use Rattle.gs_core.specs.Machine.{State, is_idle, refusal, standing_refusal, view, without_agent}

-- the tests of a stamp behind that of the agent
abbrev tests : Bool → Option Known → Option SlotState → Bool → Option Refusal
tests past o s full =
    first_that
    ((past, Some refusals.BadCpu) ∷ (not (is_some o), Some refusals.NoThread) ∷ (not (is_idle s), Some refusals.SlotOpen) ∷ (full, Some refusals.HistoryFull) ∷ [])
    None

of_slot : (past full : Bool) (o : Option Known) (z : SlotState) (f : Refusal) → past ≡ false → stamp_refusal o (Ok z) ≡ Some f → tests past o (Some z) full ≡ Some f
of_slot true full o z f below e = absurd cc
of_slot false full None z f below e = e
of_slot false full (Some k) Idle f below e = absurd cc
of_slot false full (Some k) (Stamped t) f below e = e
of_slot false full (Some k) (Done t outcome at seen) f below e = e

of_room : (past full : Bool) (o : Option Known) (z : SlotState) (f : Refusal) → past ≡ false → IsRefusal (first_that ((full, Some refusals.HistoryFull) ∷ []) None) f
    → IsRefusal (tests past o (Some z) full) (unwrap_or (stamp_refusal o (Ok z)) f)
of_room true full o z f below e = absurd cc
of_room false full None z f below e = refl
of_room false full (Some k) Idle f below e = e
of_room false full (Some k) (Stamped t) f below e = refl
of_room false full (Some k) (Done t outcome at seen) f below e = refl

behind_agent : (m : State) (c t : ℕ) (w : Flags) (z : SlotState) → is_some (active m.history) ≡ true → slice_get m.slots c ≡ Some z
    → tests (nat_le m.settings.cpus c) (view m t) (Some z) (nat_le m.settings.history (length m.transactions)) ≡ standing_refusal m (events.Stamp c t w)
behind_agent m c t w z is there =
    ap (λ (s : Option SlotState). tests (nat_le m.settings.cpus c) (view m t) s (nat_le m.settings.history (length m.transactions))) (sym there)
    ∙ ap (λ (b : Bool). first_that ((not b, Some refusals.NotActive) ∷ []) (tests (nat_le m.settings.cpus c) (view m t) (slice_get m.slots c) (nat_le m.settings.history (length m.transactions)))) (sym is)

-- the role refuses it
pub role_refuses : (m : State) (c t : ℕ) (w : Flags) (z : SlotState) (f : Refusal) → is_some (active m.history) ≡ true → nat_le m.settings.cpus c ≡ false → slice_get m.slots c ≡ Some z
    → stamp_refusal (view m t) (Ok z) ≡ Some f → IsRefusal (standing_refusal m (events.Stamp c t w)) f
role_refuses m c t w z f is below there e =
    subst (λ (o : Option Refusal). IsRefusal o f) (sym (of_slot (nat_le m.settings.cpus c) (nat_le m.settings.history (length m.transactions)) (view m t) z f below e) ∙ behind_agent m c t w z is there) refl

-- there is no room for one more, and the role's own refusal goes first
pub room_refuses : (m : State) (c t : ℕ) (w : Flags) (z : SlotState) (o : Option Refusal) (f : Refusal) → is_some (active m.history) ≡ true → nat_le m.settings.cpus c ≡ false → slice_get m.slots c ≡ Some z
    → o ≡ stamp_refusal (view m t) (Ok z) → IsRefusal (first_that ((nat_le m.settings.history (length m.transactions), Some refusals.HistoryFull) ∷ []) None) f
    → IsRefusal (standing_refusal m (events.Stamp c t w)) (unwrap_or o f)
room_refuses m c t w z o f is below there same e =
    subst (λ (r : Option Refusal). IsRefusal (standing_refusal m (events.Stamp c t w)) (unwrap_or r f)) (sym same)
    (subst (λ (r : Option Refusal). IsRefusal r (unwrap_or (stamp_refusal (view m t) (Ok z)) f)) (behind_agent m c t w z is there)
    (of_room (nat_le m.settings.cpus c) (nat_le m.settings.history (length m.transactions)) (view m t) z f below e))

agent_first : (is past : Bool) (f : Refusal) → first_that ((not is, Some refusals.NotActive) ∷ []) None ≡ Some f → first_that ((not is, Some refusals.NotActive) ∷ (past, Some refusals.EmptyMask) ∷ []) None ≡ Some f
agent_first true past f e = absurd cc
agent_first false past f e = e

-- with no active agent a commit is refused for that
pub commit_refused : (m : State) (mask : ℕ) (f : Refusal) → torn m.history ≡ false → without_agent m None ≡ Some f → refusal m (events.Commit mask) ≡ Some f
unfolding standing_commit_refusal
commit_refused m mask f stands e =
    ap (λ (b : Bool). first_that ((b, Some refusals.Gone) ∷ []) (standing_refusal m (events.Commit mask))) stands
    ∙ agent_first (is_some (active m.history)) (has_past mask m.settings.cpus) f e
