-- Events only add to a history.
use Rattle.std.proofs.Common.{◌≡◌, refl, sym, ◌∙◌, ap, subst, inl, inr, ℕ, Bool, true, false, Option, None, Some, List, [], ◌∷◌, ◌++◌, append-nil, append_assoc, cond}
use Rattle.gs_slots.specs.Flags.{single}
use Rattle.gs_slots.specs.declared.flags.Flags.{Flags}
use Rattle.gs_layout.specs.declared.message.Message.{Message}
use Rattle.gs_layout.specs.declared.known.Known.{Known}
use Rattle.gs_layout.specs.declared.refusal.Refusal.{Refusal}
use Rattle.gs_layout.specs.declared.outcome.Outcome.{Outcome}
use Rattle.gs_slots.specs.declared.state.Stamp.{Stamp}
use Rattle.gs_journal.specs.declared.entry.Entry.TheVariants.{Left, Torn}
use Rattle.gs_journal.specs.History.{History, active}
use Rattle.gs_policy.specs.declared.choice.Choice.{Choice}
use Rattle.gs_kernel.specs.declared.settings.Settings.{Settings}
use Rattle.gs_kernel.specs.declared.effect.Effect.{Effect}
use Rattle.gs_kernel.specs.declared.effect.Effect.TheVariants.{Post}
use Rattle.gs_kernel.specs.declared.command.Command.TheVariants as commands
use Rattle.gs_kernel.specs.Kernel.{preemption}
use Rattle.gs_kernel.specs.Legal.{Room, Tells, effect, entries_in, is_done}
use Rattle.gs_kernel.specs.Landing.{verdict}
use Rattle.gs_kernel.specs.Lands.{Landings, Settles, SettlesIf, is_to_place, placement}
use Rattle.gs_kernel.specs.Group.{GiveWay, GivesWay, Group, IfFits, LandsCommit, PutsIf, group_in, is_group_placed, placings}
use Rattle.gs_kernel.proofs.Laws.{all_keep}
use Rattle.gs_replies.specs.declared.reply.Reply.{Reply}
use Rattle.gs_core.specs.declared.event.Event.{Event}
use Rattle.gs_core.specs.declared.event.Event.TheVariants as events
use Rattle.gs_core.specs.Machine.{Does, Plan, Serves, State, Step, fits, plan_of, planned_by, refusal, stamps, stamps_all, stamps_with, view}
use Rattle.gs_core.specs.Safe.{Run}
use Rattle.gs_core.proofs.Whole.{stamps_settings}

-- a history with nothing, or something, behind it
abbrev pub GrowsTo : History → History → Type 0
GrowsTo h g = (new : History) × (g ≡ h ++ new)

pub grown_same : (h g : History) → g ≡ h → GrowsTo h g
grown_same h g e = ([], e ∙ sym (append-nil h))

pub grown_then : (a b c : History) → GrowsTo a b → GrowsTo b c → GrowsTo a c
grown_then a b c f g = (f.0 ++ g.0, g.1 ∙ ap (λ l. l ++ g.0) f.1 ∙ append_assoc a f.0 g.0)

tells_grown : (room : Room) (h : History) (x : Effect) (fit : Bool) (g : History) → Tells room h x fit g → GrowsTo h g
tells_grown room h x true g t = (entries_in x, t.1)
tells_grown room h x false g t = (Torn ∷ [], t.1)

pub settles_grown : (room : Room) (s : Settings) (h : History) (k : ℕ) (b : Stamp) (v o : Outcome) (g : History) → Settles room s h k b v o g → GrowsTo h g
settles_grown room s h k b v o g t = by_place (is_to_place v) t
  where
    by_place : (p : Bool) → SettlesIf p room s h k b v o g → GrowsTo h g
    by_place true t = tells_grown room h (placement s h k b) t.0 g t.2
    by_place false t = grown_same h g t.1

gives_grown : (room : Room) (h : History) (o : Option Message) (fit : Bool) (g : History) → GivesWay room h o fit g → GrowsTo h g
gives_grown room h None fit g t = grown_same h g t.1
gives_grown room h (Some m) fit g t = tells_grown room h (Post m) fit g t

either_way : (first : Bool) (P Q R : Type 0) → (P → R) → (Q → R) → IfFits first P Q → R
either_way true P Q R f g w = f w
either_way false P Q R f g w = g w

way_grown : (room : Room) (s : Settings) (xs : Group) (h : History) (fit : Bool) (g : History) → GiveWay room s xs h fit g → GrowsTo h g
way_grown room s [] h fit g t = grown_same h g t.1
way_grown room s (x ∷ xs) h fit g t =
    grown_then h t.1 g (gives_grown room h (preemption s h x.0) t.0 t.1 t.2) (either_way t.0 _ _ (GrowsTo t.1 g) (λ w. way_grown room s xs t.1 fit g w) (λ w. grown_same t.1 g w.1) t.3)

puts_grown : (room : Room) (s : Settings) (h : History) (xs : Group) (b fit : Bool) (g : History) → PutsIf b room s h xs fit g → GrowsTo h g
puts_grown room s h xs true fit g t = grown_then h t.0 g (way_grown room s xs h fit t.0 t.1) (cond fit (placings xs) [], t.2)
puts_grown room s h xs false fit g t = grown_same h g t.1

commit_grown : (room : Room) (s : Settings) (mask : ℕ) (m : State) (r : Landings) → LandsCommit room s mask m.slots m.history r → GrowsTo m.history r.history
commit_grown room s mask m r t =
    let first : GrowsTo m.history t.group.history = let f = t.first in puts_grown room s m.history (group_in mask 0 m.slots) (is_group_placed s m.history (group_in mask 0 m.slots)) f.fit t.group.history f.puts in
    let rest : GrowsTo m.history t.rest.history =
    all_keep (GrowsTo m.history) room s mask 0 t.group.slots t.group.history t.rest
    (λ i c b o g h' is there settles p. grown_then m.history g h' p (settles_grown room s g c b (verdict s g c b) o h' settles)) t.others first in
    subst (λ (q : Landings). GrowsTo m.history q.history) (sym t.whole) rest

pub stamped_history : (m : State) (c t : ℕ) (f : Flags) (o : Option (ℕ × ℕ)) (k : Option Known) → (stamps_with m c t f o k).1.history ≡ m.history
stamped_history m c t f (Some a) (Some k) = refl
stamped_history m c t f (Some a) None = refl
stamped_history m c t f None k = refl

pub all_history : (m : State) (xs : List Choice) → (stamps_all m xs).history ≡ m.history
all_history m [] = refl
all_history m (x ∷ xs) = all_history (stamps m x.cpu x.tid (single x.preempt)).1 xs ∙ stamped_history m x.cpu x.tid (single x.preempt) (active m.history) (view m x.tid)

does_grown : (m : State) (e : Event Plan) (r : Reply) (n : State) → Does m e r n → GrowsTo m.history n.history
does_grown m (events.Kernel c) r n t = tells_grown (fits m) m.history (effect m.settings m.history c) (is_done t.executed) n.history t.tells
does_grown m events.Crash r n t = (Left ∷ [], ap (λ (q : State). q.history) t.1)
does_grown m (events.Begin p) r n t =
    let b = planned_by p m in tells_grown (fits b) b.history (effect b.settings b.history commands.Begin) (is_done t.executed) n.history t.tells
does_grown m (events.Page max) r n t = grown_same m.history n.history (ap (λ (q : State). q.history) t.others)
does_grown m (events.Drain max) r n t = let d = t.2 in grown_same m.history n.history (ap (λ (q : State). q.history) d.others)
does_grown m (events.Stamp c k f) r n t = grown_same m.history n.history (ap (λ (q : State). q.history) t.1 ∙ stamped_history m c k f (active m.history) (view m k))
does_grown m events.Decide r n t = grown_same m.history n.history (ap (λ (q : State). q.history) t.1 ∙ all_history m (plan_of m))
does_grown m (events.Commit mask) r n t =
    subst (λ (q : State). GrowsTo m.history q.history) (sym t.left) (commit_grown (fits m) m.settings mask m t.made t.lands)
does_grown m (events.Late k) r n t = let l = t.lands in settles_grown (fits m) m.settings m.history t.transaction.cpu t.transaction.slot _ t.landing.outcome n.history l.settles
does_grown m events.View r n t = grown_same m.history n.history (ap (λ (q : State). q.history) t.1)
does_grown m events.State r n t = grown_same m.history n.history (ap (λ (q : State). q.history) t.1)
does_grown m events.Unread r n t = grown_same m.history n.history (ap (λ (q : State). q.history) t.1)

pub step_grown : (m : State) (e : Event Plan) (r : Reply) (n : State) → Step m e r n → GrowsTo m.history n.history
step_grown m e r n t = by_refusal (refusal m e) t
  where
    by_refusal : (o : Option Refusal) → Serves o m e r n → GrowsTo m.history n.history
    by_refusal (Some f) s = grown_same m.history n.history (ap (λ (q : State). q.history) s.1)
    by_refusal None s = elim s [ inl d ↦ does_grown m e r n d | inr q ↦ grown_same m.history n.history (ap (λ (q : State). q.history) q.1) ]

-- and keep the settings
all_settings : (m : State) (xs : List Choice) → (stamps_all m xs).settings ≡ m.settings
all_settings m [] = refl
all_settings m (x ∷ xs) = all_settings (stamps m x.cpu x.tid (single x.preempt)).1 xs ∙ stamps_settings m x.cpu x.tid (single x.preempt) (active m.history) (view m x.tid)

does_settings : (m : State) (e : Event Plan) (r : Reply) (n : State) → Does m e r n → n.settings ≡ m.settings
does_settings m (events.Kernel c) r n t = ap (λ (q : State). q.settings) t.others
does_settings m events.Crash r n t = ap (λ (q : State). q.settings) t.1
does_settings m (events.Begin p) r n t = ap (λ (q : State). q.settings) t.others
does_settings m (events.Page max) r n t = ap (λ (q : State). q.settings) t.others
does_settings m (events.Drain max) r n t = let d = t.2 in ap (λ (q : State). q.settings) d.others
does_settings m (events.Stamp c k f) r n t = ap (λ (q : State). q.settings) t.1 ∙ stamps_settings m c k f (active m.history) (view m k)
does_settings m events.Decide r n t = ap (λ (q : State). q.settings) t.1 ∙ all_settings m (plan_of m)
does_settings m (events.Commit mask) r n t = ap (λ (q : State). q.settings) t.left
does_settings m (events.Late k) r n t = ap (λ (q : State). q.settings) t.others
does_settings m events.View r n t = ap (λ (q : State). q.settings) t.1
does_settings m events.State r n t = ap (λ (q : State). q.settings) t.1
does_settings m events.Unread r n t = ap (λ (q : State). q.settings) t.1

step_settings : (m : State) (e : Event Plan) (r : Reply) (n : State) → Step m e r n → n.settings ≡ m.settings
step_settings m e r n t = by_refusal (refusal m e) t
  where
    by_refusal : (o : Option Refusal) → Serves o m e r n → n.settings ≡ m.settings
    by_refusal (Some f) s = ap (λ (q : State). q.settings) s.1
    by_refusal None s = elim s [ inl d ↦ does_settings m e r n d | inr q ↦ ap (λ (q : State). q.settings) q.1 ]

-- so does a list of events
pub run_adds : (m : State) (es : List (Event Plan)) (rs : List Reply) (n : State) → Run m es rs n → GrowsTo m.history n.history × (n.settings ≡ m.settings)
run_adds m [] [] n run = (grown_same m.history n.history (ap (λ (q : State). q.history) run), ap (λ (q : State). q.settings) run)
run_adds m [] (r ∷ rs) n run = absurd run
run_adds m (e ∷ es) [] n run = absurd run
run_adds m (e ∷ es) (r ∷ rs) n run =
    let rest = run_adds run.0 es rs n run.4 in
    (grown_then m.history run.0.history n.history (step_grown m e r run.0 run.1) rest.0, rest.1 ∙ step_settings m e r run.0 run.1)
