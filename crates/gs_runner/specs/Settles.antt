-- When an agent that followed all that was posted knows what the kernel knows, and why it does not.
use Rattle.std.specs.Prelude.{◌≡◌, ◌≤◌, ◌≢◌, true, false, ℕ, Option, None, Some, List, [], ◌∷◌, ◌⊎◌}
use Rattle.gs_layout.specs.declared.message.Message.{Message}
use Rattle.gs_layout.specs.View.{Look, is_gap, look_up, word}
use Rattle.gs_layout.specs.declared.known.Known.{Known}
use Rattle.gs_view.specs.Begins.{begins}
use Rattle.gs_journal.specs.History.{active, posted, torn}
use Rattle.gs_journal.specs.State.{state}
use Rattle.gs_agent.specs.Role.{RoleOf}
use Rattle.gs_agent.specs.declared.drained.Stop.{Stop}
use Rattle.gs_agent.specs.declared.drained.Stop.TheVariants.{Gap, Memory}
use Rattle.gs_link.specs.declared.taker.RtrbTaker.{RtrbTaker}
use Rattle.gs_link.specs.Between.{Ahead, Gave, Passed}
use Rattle.gs_agent.specs.Mind.{picture_of}
use Rattle.gs_agent.specs.Picture.{after_messages}
use Rattle.gs_runner.specs.declared.settling.Unsettled.{Unsettled}
use Rattle.gs_runner.specs.declared.settling.Unsettled.TheVariants.{Torn, NoAgent, Stopped, Differs}
use Rattle.gs_runner.specs.Enclaves.{EnclaveOf}

-- the role followed the messages that passed, and nothing else of it changed
abbrev pub CatchesUp : {P : Type 0} → RoleOf P → RtrbTaker → RoleOf P → RtrbTaker → Type 0
CatchesUp r t q u = (ms : List Message) × Passed t ms u × (picture_of q.mind ≡ after_messages (picture_of r.mind) ms) × (q ≡ record r { mind = q.mind })

-- so did the role that is held, if there is one
abbrev pub HeldCatchesUp : {P : Type 0} → Option (RoleOf P) → RtrbTaker → Option (RoleOf P) → RtrbTaker → Type 0
HeldCatchesUp (Some r) t (Some q) u = CatchesUp r t q u
HeldCatchesUp None t None u = u ≡ t
HeldCatchesUp _ t _ u = ⊥

-- the role knows what the kernel does
abbrev pub KnowsAll : {P : Type 0} → Option (RoleOf P) → EnclaveOf → Type 0
KnowsAll None e = ⊥
KnowsAll (Some r) e = look_up r.mind.records ≡ state e.settings.first_tseq e.history

-- a message comes next that the role did not follow, for this
abbrev pub StopsAt : {P : Type 0} → Stop → RtrbTaker → RoleOf P → Type 0
StopsAt Gap t r = (m : Message) × Ahead t (m ∷ []) × (is_gap (word (look_up r.mind.records) m) ≡ true)
StopsAt Memory t r = (m : Message) × Ahead t (m ∷ []) × (begins (look_up r.mind.records) m ≡ true)

abbrev pub HasStopped : {P : Type 0} → Stop → RtrbTaker → Option (RoleOf P) → Type 0
HasStopped s t None = ⊥
HasStopped s t (Some r) = StopsAt s t r

-- why they do not agree
abbrev pub WhyNot : {P : Type 0} → EnclaveOf → RtrbTaker → Option (RoleOf P) → Unsettled → Type 0
WhyNot e t o Torn = torn e.history ≡ true
WhyNot e t o NoAgent = (torn e.history ≡ false) × ((active e.history ≡ None) ⊎ (o ≡ None))
WhyNot e t o (Stopped s) = (torn e.history ≡ false) × (active e.history ≢ None) × HasStopped s t o
WhyNot e t o Differs = (torn e.history ≡ false) × (active e.history ≢ None) × Gave t (posted e.history) × (KnowsAll o e → ⊥)

-- each record that is listed is what is known
abbrev pub AreKnown : Look → List (ℕ × Known) → Type 0
AreKnown v [] = Unit {0}
AreKnown v (e ∷ es) = (v e.0 ≡ Some e.1) × AreKnown v es

-- the same is known of each of the first threads
abbrev pub AreSame : Look → Look → ℕ → Type 0
AreSame v w n = (t : ℕ) → 1 ≤ t → t ≤ n → w t ≡ v t
