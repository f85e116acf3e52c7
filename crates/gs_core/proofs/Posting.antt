-- Whether a message fits, by the ring as it is.
use Rattle.std.proofs.Common.{ℕ, ◌≡◌, ◌<◌, ◌≤◌, Bool, true, false, not, ◌&&◌, cond, inl, inr, Option, None, Some, Result, Ok, Err, IfOk, IfErr, OnOk, OnErr, List, [], ◌∷◌, ◌++◌, refl, ap, sym, subst, ◌∙◌, arith}
use Rattle.std.proofs.lemmas.Bool.{false≢true}
use Rattle.std.proofs.lemmas.Bool.Decides.{nat_tests}
use Rattle.std.specs.Option.{is_some, option_map}
use Rattle.gs_layout.specs.declared.message.Message.{Message}
use Rattle.gs_journal.specs.declared.entry.Entry.TheVariants.{Posted, Placed, Role, Begin, Left, Taken, Given, Torn}
use Rattle.gs_journal.specs.History.{History, attaching, posted, torn}
use Rattle.gs_slots.specs.declared.state.SlotState.{SlotState}
use Rattle.gs_journal.proofs.Laws.{posted-push}
use Rattle.gs_ring.specs.Places.{free_after, need, record_len, written}
use Rattle.gs_ring.specs.RingState.{RingState, IsTight}
use Rattle.gs_ring.specs.Ends.{Posted as Sent, SameCapacity, Posted-free, Posted-need, Posted-fits}
use Rattle.gs_layout.specs.declared.refusal.Refusal.{Refusal}
use Rattle.gs_layout.specs.declared.refusal.Refusal.TheVariants as refusals
use Rattle.gs_journal.specs.declared.entry.Entry.{Entry}
use Rattle.gs_kernel.specs.declared.settings.Settings.{Settings}
use Rattle.gs_kernel.specs.Attaching.{activate_refusal}
use Rattle.gs_kernel.specs.First.{first_that}
use Rattle.gs_kernel.specs.Kernel.{IsRefusal, is_full, last_entry, or_else, take_refusal, unless_torn}
use Rattle.gs_kernel.specs.declared.command.Command.{Command}
use Rattle.gs_kernel.specs.declared.command.Command.TheVariants as commands
use Rattle.gs_kernel.specs.declared.executed.Executed.{Executed}
use Rattle.gs_kernel.specs.declared.executed.Executed.TheVariants as executed
use Rattle.gs_kernel.specs.declared.executed.Executed.TheVariants.{Done}
use Rattle.gs_kernel.specs.declared.effect.Effect.TheVariants.{Append}
use Rattle.gs_kernel.specs.Legal.{Legal, Room, RoomOf, Tells, effect, is_done, last_in, refusal as kernel_refuses}
use Rattle.gs_core.specs.declared.event.Event.{Event}
use Rattle.gs_core.specs.declared.event.Event.TheVariants as events
use Rattle.gs_replies.specs.declared.reply.Reply.{Reply}
use Rattle.gs_replies.specs.declared.reply.Reply.TheVariants as replies
use Rattle.gs_kernel.proofs.Laws.{Entails, last_added, last_told, tells_map}
use Rattle.gs_agent.specs.Role.{RoleOf}
use Rattle.gs_core.specs.Follows.{follows, leads_nobody, on_cpu}
use Rattle.gs_replies.specs.Replies.{replied_as, reply_of}
use Rattle.gs_core.specs.Machine.{Carries, Plan, State, StateOf, IsFit, fits_into, freed_by, is_given_all, kernel_refusal, led, planned_by, planning, promoted, refusal, standing_refusal, stays_with, told_refusal, Does, IsShort, Serves, Step}
use Rattle.gs_core.specs.Held.{agent_of}

-- the ring that a machine shows
pub record IsRingAt (bytes n : ℕ) (h : List Entry) (r : RingState) : Type 0 where
  pub ring : r.capacity ≡ bytes
  pub consumed : r.consumed ≡ n
  pub told : Sent r (posted h)

asked : (ring n : ℕ) (h : List Entry) (r : RingState) (k : Message) → IsRingAt ring n h r → need ring (written ring (posted h)) (record_len k) ≡ need r.capacity (written r.capacity (posted h)) (record_len k)
asked ring n h r k i = ap (λ c. need c (written c (posted h)) (record_len k)) (sym i.ring)

left : (ring n : ℕ) (h : List Entry) (r : RingState) → IsRingAt ring n h r → free_after ring (posted h) n ≡ free_after r.capacity (posted h) r.consumed
left ring n h r i = ap (λ c. free_after c (posted h) n) (sym i.ring) ∙ ap (free_after r.capacity (posted h)) (sym i.consumed)

pub fits_not : (ring n : ℕ) (h : List Entry) (r : RingState) (k : Message) → IsRingAt ring n h r → IsTight r k → fits_into ring n h k ≡ false
fits_not ring n h r k i tight =
    let a = asked ring n h r k i ∙ sym (Posted-need r (posted h) k i.told) in
    let b = left ring n h r i ∙ sym (Posted-free r (posted h) i.told) in
    let lt : free_after ring (posted h) n < need ring (written ring (posted h)) (record_len k) = omega (arith, a, b, tight) in
    grind (arith, nat_tests)

pub fits_then : (ring n : ℕ) (h : List Entry) (r r' : RingState) (k : Message) → IsRingAt ring n h r → SameCapacity r r' → r'.consumed ≡ r.consumed → Sent r' (posted (h ++ Posted k ∷ [])) → fits_into ring n h k ≡ true
fits_then ring n h r r' k i same stays told =
    let le = Posted-fits r r' (posted h) k same stays i.told (subst (Sent r') (posted-push h (Posted k)) told) in
    let a = asked ring n h r k i in
    let b = left ring n h r i in
    let fit : need ring (written ring (posted h)) (record_len k) ≤ free_after ring (posted h) n = omega (arith, a, b, le) in
    grind (arith, nat_tests)

-- what a call of the kernel left
abbrev pub with_kernel : State → Settings → RingState → List Entry → State
with_kernel m s r h = record m { settings = s; ring = r.capacity; history = h; consumed = r.consumed }

pub done : (f : Option Refusal) (m : State) (e : Event Plan) (r : Reply) (m' : State) → f ≡ None → Does m e r m' → Serves f m e r m'
done f m e r m' none does = subst (λ o. Serves o m e r m') (sym none) (inl does)

pub refused : (f : Option Refusal) (x : Refusal) (m : State) (e : Event Plan) (r : Reply) (m' : State) → IsRefusal f x → r ≡ replies.Refused x → (r ≡ replies.Refused refusals.OutOfMemory → IsShort e r) → m' ≡ m → Serves f m e r m'
refused (Some g) x m e r m' is is_r short same = (is_r ∙ ap replies.Refused is, same)
refused None x m e r m' is is_r short same = inr (short (is_r ∙ ap replies.Refused is), same)

-- while the enclave stands
pub while_standing : (m : State) (e : Event Plan) → torn m.history ≡ false → refusal m e ≡ standing_refusal m e
while_standing m e up = ap (λ b. cond b (Some refusals.Gone) (standing_refusal m e)) up

-- no other command is refused by the machine itself
pub told_alone : (m : State) (c : Command) → stays_with c ≡ true → told_refusal m c ≡ kernel_refusal m c
told_alone m (commands.Create f) there = refl
told_alone m (commands.Thread t e) there = refl
told_alone m (commands.Take c) there = refl
told_alone m (commands.Give c) there = refl
told_alone m (commands.Tick c) there = refl
told_alone m (commands.HandOff c) there = refl
told_alone m (commands.Activate c) there = refl
told_alone m commands.Leave there = absurd (false≢true there)
told_alone m commands.Begin there = absurd (false≢true there)

-- the room that its ring tells of
abbrev pub RingRoom : RingState → Room
RingRoom r = RoomOf SameCapacity (λ (x : RingState). x.consumed) Sent IsTight r

pub room_fits : (ring n : ℕ) (r : RingState) → r.capacity ≡ ring → r.consumed ≡ n → Entails (RingRoom r) (IsFit ring n)
room_fits ring n r is_ring is_n h true k x = fits_then ring n h x.0 x.4 k (record { ring = x.1 ∙ is_ring; consumed = x.2 ∙ is_n; told = x.3 }) x.5 x.6 (subst (Sent x.4) (sym (posted-push h (Posted k))) x.7)
room_fits ring n r is_ring is_n h false k x = fits_not ring n h x.0 k (record { ring = x.1 ∙ is_ring; consumed = x.2 ∙ is_n; told = x.3 }) x.4

-- whether the last page was given matters while an agent attaches alone
same_pages : (s : Settings) (h : History) (b b' : Bool) (c : ℕ) → (is_some (attaching h) ≡ true → b ≡ b') → activate_refusal s h b c ≡ activate_refusal s h b' c
unfolding activate_refusal
same_pages s h b b' c same = by_agent (is_some (attaching h)) same
  where
    by_agent : (a : Bool) → (a ≡ true → b ≡ b') → cond (not (a && b)) (Some refusals.NotAttaching) (take_refusal s h c) ≡ cond (not (a && b')) (Some refusals.NotAttaching) (take_refusal s h c)
    by_agent true same = ap (λ x. cond (not x) (Some refusals.NotAttaching) (take_refusal s h c)) (same refl)
    by_agent false same = refl

pub same_given : (s : Settings) (h : History) (b b' : Bool) (c : Command) → (is_some (attaching h) ≡ true → b ≡ b') → kernel_refuses s h b c ≡ kernel_refuses s h b' c
same_given s h b b' (commands.Create f) same = refl
same_given s h b b' (commands.Thread t e) same = refl
same_given s h b b' (commands.Take c) same = refl
same_given s h b b' (commands.Give c) same = refl
same_given s h b b' (commands.Tick c) same = refl
same_given s h b b' (commands.HandOff c) same = refl
same_given s h b b' commands.Leave same = refl
same_given s h b b' commands.Begin same = refl
same_given s h b b' (commands.Activate c) same = ap (λ o. unless_torn h (or_else o (first_that ((is_full s h 2, Some refusals.HistoryFull) ∷ []) None))) (same_pages s h b b' c same)

-- a command that was not refused, as the machine says it
pub legal_told : (m : State) (given : Bool) (c : Command) (x : Executed) (s : Settings) (r0 r1 : RingState) (h : List Entry) → r0.capacity ≡ m.ring → r0.consumed ≡ m.consumed → SameCapacity r0 r1 → r1.consumed ≡ r0.consumed → s ≡ m.settings
    → (is_some (attaching m.history) ≡ true → given ≡ is_given_all m) → Legal (RingRoom r0) m.settings m.history given c (Ok x) h
    → (kernel_refuses m.settings m.history (is_given_all m) c ≡ None) × Carries m c (reply_of (Ok x) (last_entry h)) (record (with_kernel m s r1 h) { agent = led m.settings.cpus (last_entry h) m.agent; slots = freed_by m.settings.cpus (last_entry h) m.slots })
legal_told m given c x s r0 r1 h is_ring is_n same stays is_s knows l = (
  sym (same_given m.settings m.history given (is_given_all m) c knows) ∙ l.free,
  record {
    executed = x;
    reply = refl;
    tells = tells_map (RingRoom r0) (IsFit m.ring m.consumed) m.history (effect m.settings m.history c) (is_done x) h (room_fits m.ring m.consumed r0 is_ring is_n) l.tells;
    others = λ i. record {
      settings = is_s i;
      ring = (same ∙ is_ring) i;
      history = h;
      consumed = (stays ∙ is_n) i;
      agent = led m.settings.cpus (last_entry h) m.agent;
      policy = m.policy;
      slots = freed_by m.settings.cpus (last_entry h) m.slots;
      transactions = m.transactions;
    };
  },
)

-- and one that was refused
pub legal_refused : (m : State) (room : Room) (given : Bool) (c : Command) (f : Refusal) (h : List Entry) → (is_some (attaching m.history) ≡ true → given ≡ is_given_all m) → Legal room m.settings m.history given c (Err f) h
    → IsRefusal (kernel_refuses m.settings m.history (is_given_all m) c) f
legal_refused m room given c f h knows l = subst (λ o. IsRefusal o f) (same_given m.settings m.history given (is_given_all m) c knows) l.0

-- by which no agent goes and none begins: it is one of the machine
told_mine : (m : State) (c : Command) → stays_with c ≡ true → refusal m (events.Kernel c) ≡ kernel_refuses m.settings m.history (is_given_all m) c
told_mine m c there = ap (unless_torn m.history) (told_alone m c there)

pub told_step : (m : State) (c : Command) (r : Reply) (m' : State) → stays_with c ≡ true → (kernel_refuses m.settings m.history (is_given_all m) c ≡ None) × Carries m c r m' → Step m (events.Kernel c) r m'
told_step m c r m' there t = done (refusal m (events.Kernel c)) m (events.Kernel c) r m' (told_mine m c there ∙ t.0) t.1

pub told_refused : (m : State) (c : Command) (f : Refusal) (m' : State) → stays_with c ≡ true → IsRefusal (kernel_refuses m.settings m.history (is_given_all m) c) f → m' ≡ m → Step m (events.Kernel c) (replies.Refused f) m'
told_refused m c f m' there is same = refused (refusal m (events.Kernel c)) f m (events.Kernel c) (replies.Refused f) m' (subst (λ o. IsRefusal o f) (sym (told_mine m c there)) is) refl (λ p. p) same

-- whether an entry leaves it to the agent that is there: it does not go, and none begins
is_staying : Entry → Bool
is_staying (Begin g) = false
is_staying Left = false
is_staying _ = true

-- the last one of such a command does
last_stays : (room : Room) (s : Settings) (h h' : List Entry) (c : Command) (x : Executed) → stays_with c ≡ true → Tells room h (effect s h c) (is_done x) h' → is_staying (last_entry h') ≡ true
unfolding is_staying
last_stays room s h h' c Done there t = subst (λ (e : Entry). is_staying e ≡ true) (sym (ap last_entry t.1 ∙ last_told h (effect s h c))) (by_command c there)
  where
    by_command : (c : Command) → stays_with c ≡ true → is_staying (last_in (effect s h c)) ≡ true
    by_command (commands.Create f) there = refl
    by_command (commands.Thread t x) there = refl
    by_command (commands.Take d) there = refl
    by_command (commands.Give d) there = refl
    by_command (commands.Tick d) there = refl
    by_command (commands.HandOff d) there = refl
    by_command (commands.Activate d) there = refl
    by_command commands.Leave there = absurd (false≢true there)
    by_command commands.Begin there = absurd (false≢true there)
last_stays room s h h' c executed.Torn there t = subst (λ (e : Entry). is_staying e ≡ true) (sym (ap last_entry t.1 ∙ last_added h Torn)) refl

-- a command by which no agent becomes active, either, is one with which the agent stays
pub leads_stays : (c : Command) → leads_nobody c ≡ true → stays_with c ≡ true
leads_stays (commands.Create f) there = refl
leads_stays (commands.Thread t x) there = refl
leads_stays (commands.Take d) there = refl
leads_stays (commands.Give d) there = refl
leads_stays (commands.Tick d) there = refl
leads_stays (commands.HandOff d) there = absurd (false≢true there)
leads_stays (commands.Activate d) there = absurd (false≢true there)
leads_stays commands.Leave there = absurd (false≢true there)
leads_stays commands.Begin there = absurd (false≢true there)

-- the role is then the one before
pub follows_nothing : {P : Type 0} (room : Room) (s : Settings) (h h' : List Entry) (c : Command) (x : Executed) (o : Option (RoleOf P)) → leads_nobody c ≡ true → Tells room h (effect s h c) (is_done x) h' → o ≡ follows (last_entry h') o
follows_nothing room s h h' c Done o there t = by_command c there ∙ ap (λ (e : Entry). follows e o) (sym (ap last_entry t.1 ∙ last_told h (effect s h c)))
  where
    by_command : (c : Command) → leads_nobody c ≡ true → o ≡ follows (last_in (effect s h c)) o
    by_command (commands.Create f) there = refl
    by_command (commands.Thread t x) there = refl
    by_command (commands.Take d) there = refl
    by_command (commands.Give d) there = refl
    by_command (commands.Tick d) there = refl
    by_command (commands.HandOff d) there = absurd (false≢true there)
    by_command (commands.Activate d) there = absurd (false≢true there)
    by_command commands.Leave there = absurd (false≢true there)
    by_command commands.Begin there = absurd (false≢true there)
follows_nothing room s h h' c executed.Torn o there t = ap (λ (e : Entry). follows e o) (sym (ap last_entry t.1 ∙ last_added h Torn))

-- then agent and slots follow it as the role does
led_as : {P : Type 0} (g d : ℕ) (o : Option (RoleOf P)) → option_map (promoted d) (option_map agent_of o) ≡ option_map agent_of (option_map (on_cpu g d) o)
led_as g d None = refl
led_as g d (Some r) = refl

led_follows : {P : Type 0} (cpus : ℕ) (e : Entry) (o : Option (RoleOf P)) → is_staying e ≡ true → led cpus e (option_map agent_of o) ≡ option_map agent_of (follows e o)
unfolding is_staying
led_follows cpus (Posted k) o stays = refl
led_follows cpus (Placed t q c g) o stays = refl
led_follows cpus (Role g c) o stays = led_as g c o
led_follows cpus (Begin g) o stays = absurd (false≢true stays)
led_follows cpus Left o stays = absurd (false≢true stays)
led_follows cpus (Taken c) o stays = refl
led_follows cpus (Given c) o stays = refl
led_follows cpus Torn o stays = refl

freed_not : (cpus : ℕ) (e : Entry) (slots : List SlotState) → is_staying e ≡ true → freed_by cpus e slots ≡ slots
unfolding is_staying
freed_not cpus (Posted k) slots stays = refl
freed_not cpus (Placed t q c g) slots stays = refl
freed_not cpus (Role g c) slots stays = refl
freed_not cpus (Begin g) slots stays = absurd (false≢true stays)
freed_not cpus Left slots stays = absurd (false≢true stays)
freed_not cpus (Taken c) slots stays = refl
freed_not cpus (Given c) slots stays = refl
freed_not cpus Torn slots stays = refl

pub told_agent : {P : Type 0} (cpus : ℕ) (room : Room) (s : Settings) (h h' : List Entry) (c : Command) (x : Executed) (o : Option (RoleOf P)) → stays_with c ≡ true → Tells room h (effect s h c) (is_done x) h'
    → led cpus (last_entry h') (option_map agent_of o) ≡ option_map agent_of (follows (last_entry h') o)
told_agent cpus room s h h' c x o there t = led_follows cpus (last_entry h') o (last_stays room s h h' c x there t)

pub told_slots : (cpus : ℕ) (room : Room) (s : Settings) (h h' : List Entry) (c : Command) (x : Executed) (slots : List SlotState) → stays_with c ≡ true → Tells room h (effect s h c) (is_done x) h' → freed_by cpus (last_entry h') slots ≡ slots
told_slots cpus room s h h' c x slots there t = freed_not cpus (last_entry h') slots (last_stays room s h h' c x there t)

-- an entry without a message is added
pub done_alone : (room : Room) (h h' : List Entry) (e : Entry) (x : Executed) → Tells room h (Append None e) (is_done x) h' → (x ≡ Done) × (h' ≡ h ++ e ∷ [])
done_alone room h h' e Done t = (refl, t.1)
done_alone room h h' e executed.Torn t = let none : None ≡ Some t.0.0 = t.0.1 in absurd cc

-- an event whose call returned a reply, or the refusal
pub step_of : {A : Type 0} (make : A → Reply) (m : State) (e : Event Plan) (x : Result A Refusal) (m' : State) → torn m.history ≡ false → IfOk x (λ _. standing_refusal m e ≡ None) → IfOk x (λ a. Does m e (make a) m') → IfErr x (IsRefusal (standing_refusal m e)) → OnErr x (m' ≡ m)
    → ((r : Reply) → r ≡ replies.Refused refusals.OutOfMemory → IsShort e r) → Step m e (replied_as make x) m'
step_of make m e (Ok a) m' up free does is same short = done (refusal m e) m e (make a) m' (while_standing m e up ∙ free) does
step_of make m e (Err f) m' up free does is same short = refused (refusal m e) f m e (replies.Refused f) m' (subst (λ o. IsRefusal o f) (sym (while_standing m e up)) is) refl (short (replies.Refused f)) same

pub begun_step : (m : State) (p : Plan) (x : Result Executed Refusal) (e : Entry) (m' : State) → torn m.history ≡ false → IfOk x (λ _. kernel_refusal m commands.Begin ≡ None) → IfOk x (λ y. Carries (planned_by p m) commands.Begin (reply_of (Ok y) e) m')
    → IfErr x (IsRefusal (kernel_refusal m commands.Begin)) → OnErr x (m' ≡ m) → Step m (events.Begin p) (reply_of x e) m'
begun_step m p (Ok y) e m' up free does is same = done (refusal m (events.Begin p)) m (events.Begin p) (reply_of (Ok y) e) m' (while_standing m (events.Begin p) up ∙ free) does
begun_step m p (Err f) e m' up free does is same =
    refused (refusal m (events.Begin p)) f m (events.Begin p) (replies.Refused f) m' (subst (λ o. IsRefusal o f) (sym (while_standing m (events.Begin p) up)) is) refl (λ q. q) same

pub same_planning : {P A E : Type 0} (chosen : P → Plan) (x : Result A E) (a b : StateOf P) → OnErr x (b ≡ a) → OnErr x (planning chosen b ≡ planning chosen a)
same_planning chosen (Ok r) a b e = tt
same_planning chosen (Err f) a b e = ap (planning chosen) e

pub both_of : {A E : Type 0} (x : Result A E) (X : A → Type 0) (Y : Type 0) → IfOk x X → OnOk x Y → IfOk x (λ a. X a × Y)
both_of (Ok a) X Y p q = (p, q)
both_of (Err f) X Y p q = tt
