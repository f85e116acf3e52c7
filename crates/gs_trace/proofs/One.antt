-- An input has one output: if memory suffices, each event of a run has one reply.
use Rattle.std.proofs.Common.{◌≡◌, refl, ap, sym, ◌∙◌, subst, ℕ, ◌+◌, ◌⊎◌, inl, inr, ◌||◌, Bool, true, false, not, nat_le, unwrap_or, map, Option, None, Some, List, [], ◌∷◌, length, take, drop, Result, Ok, Err, slice_get}
use Rattle.std.specs.List.{list_any, count_by}
use Rattle.std.specs.Option.{is_none, is_some, option_map}
use Rattle.gs_slots.specs.declared.flags.Flags.{Flags}
use Rattle.gs_slots.specs.Flags.{single}
use Rattle.gs_layout.specs.declared.message.Message.{Message}
use Rattle.gs_layout.specs.declared.known.Known.{Known}
use Rattle.gs_layout.specs.declared.refusal.Refusal.{Refusal}
use Rattle.gs_layout.specs.declared.refusal.Refusal.TheVariants as refusals
use Rattle.gs_layout.specs.View.{Look, words, catch_up, is_skipped, is_orphan, gap_next}
use Rattle.gs_journal.specs.History.{posted, active, taken, torn}
use Rattle.gs_journal.proofs.Laws.{same_view}
use Rattle.gs_dump.specs.Page.{Contents}
use Rattle.gs_kernel.specs.Attaching.{page_refusal}
use Rattle.gs_kernel.specs.Dumped.{dumped}
use Rattle.gs_kernel.specs.First.{first_that}
use Rattle.gs_kernel.specs.Kernel.{last_entry, unless_torn}
use Rattle.gs_agent.specs.declared.drained.Drained.{Drained}
use Rattle.gs_agent.specs.declared.drained.Stop.{Stop}
use Rattle.gs_agent.specs.declared.drained.Stop.TheVariants.{Gap, Memory}
use Rattle.gs_core.specs.declared.event.Event.{Event}
use Rattle.gs_core.specs.declared.event.Event.TheVariants.{Kernel, Drain, Stamp, Decide, Commit, Late, Unread}
use Rattle.gs_core.specs.declared.event.Event.TheVariants as events
use Rattle.gs_replies.specs.declared.reply.Reply.{Reply}
use Rattle.gs_replies.specs.declared.reply.Reply.TheVariants as replies
use Rattle.gs_policy.specs.declared.choice.Choice.{Choice}
use Rattle.gs_runq.specs.Queue.{order}
use Rattle.gs_agent.specs.Mind.{picture_of}
use Rattle.gs_agent.specs.Pages.{after_page}
use Rattle.gs_agent.specs.Picture.{Picture, after_all, after_stamp, after_messages}
use Rattle.gs_core.specs.Machine.{Attaches, Plan, State, Agent, crashed, freed_by, led, next_dump, page_of, planned, planned_by, mind_of, picture, thinking, committed, fits, view, unread, is_idle, refusal, Serves, Step, Does, IsShort, FollowsFirst, Drains, stamps, stamps_with, stamps_all, plan_of}
use Rattle.gs_replies.specs.Replies.{page_reply, reply_of}
use Rattle.gs_core.specs.declared.transaction.Transaction.{Transaction}
use Rattle.gs_core.specs.Safe.{IsFaithful, Run}
use Rattle.gs_journal.specs.declared.entry.Entry.{Entry}
use Rattle.gs_journal.specs.declared.entry.Entry.TheVariants.{Posted, Placed, Role, Begin, Left, Taken, Given, Torn}
use Rattle.gs_kernel.specs.declared.command.Command.{Command}
use Rattle.gs_kernel.specs.declared.command.Command.TheVariants as commands
use Rattle.gs_kernel.specs.declared.executed.Executed.{Executed}
use Rattle.gs_kernel.specs.declared.executed.Executed.TheVariants as executed
use Rattle.gs_kernel.specs.Legal.{effect, is_done, refusal as kernel_refuses}
use Rattle.gs_kernel.specs.Lands.{Lands}
use Rattle.gs_core.proofs.Laws.{commit_one, drop_drop, lands_one, tells_one}
use Rattle.gs_script.specs.declared.fault.ScriptFault.{ScriptFault}
use Rattle.gs_trace.specs.declared.run.Ended.{Ended}
use Rattle.gs_script.specs.Naming.{Naming}
use Rattle.gs_script.specs.Script.{Script, script_of}
use Rattle.gs_trace.proofs.Lists.{one_list}
use Rattle.gs_core.specs.Short.{is_memory, wants_memory}
use Rattle.gs_trace.specs.Output.{Answers, IsAnswerOf, IsBy, IsShown, Show}

-- agents that have the same picture and need the same page next, or none of both
record Same (a b : Option Agent) : Type 0 where
  pictured : picture_of (mind_of a) ≡ picture_of (mind_of b)
  there : is_some a ≡ is_some b
  page : page_of a ≡ page_of b

-- machines that differ at most in how their agents list what they know
abbrev Alike : State → State → Type 0
Alike m n = (a : Option Agent) × (n ≡ record m { agent = a }) × Same a m.agent

alike_at : (m n x : State) (a : Option Agent) → m ≡ x → n ≡ record x { agent = a } → Same a x.agent → Alike m n
alike_at m n x a e k same = (a, k ∙ ap (λ (s : State). record s { agent = a }) (sym e), subst (λ (s : State). Same a s.agent) (sym e) same)

-- agents that are the same think the same
same_thinks : (f : Picture → Picture) (a b : Option Agent) → Same a b → Same (option_map (thinking f) a) (option_map (thinking f) b)
same_thinks f None None same = record { pictured = refl; there = refl; page = refl }
same_thinks f (Some a) None same = absurd (let e : true ≡ false = same.there in cc)
same_thinks f None (Some b) same = absurd (let e : false ≡ true = same.there in cc)
same_thinks f (Some a) (Some b) same =
    let p : picture_of a.mind ≡ picture_of b.mind = same.pictured in
    record { pictured = λ i. record { view = (p i).view; cpus = (f (p i)).cpus; queue = (f (p i)).queue }; there = refl; page = same.page }

-- one refusal
stamp_refusal : State → ℕ → ℕ → Look → Option Refusal
stamp_refusal m c t v =
    first_that (
    (torn m.history, Some refusals.Gone)
    ∷ (not (is_some (active m.history)), Some refusals.NotActive)
    ∷ (nat_le m.settings.cpus c, Some refusals.BadCpu)
    ∷ (not (is_some (v t)), Some refusals.NoThread)
    ∷ (not (is_idle (slice_get m.slots c)), Some refusals.SlotOpen)
    ∷ (nat_le m.settings.history (length m.transactions), Some refusals.HistoryFull)
    ∷ []
    ) None

-- agents that have the same picture plan the same
plan_by : State → Picture → List Choice
plan_by m p = m.policy (record { view = p.view; cpus = p.cpus; taken = taken m.history; queue = order p.queue })

one_plan : (m : State) (a : Option Agent) → Same a m.agent → plan_of (record m { agent = a }) ≡ plan_of m
unfolding plan_by
one_plan m a same = ap (plan_by m) same.pictured

one_refusal : (m : State) (a : Option Agent) → Same a m.agent → (e : Event Plan) → refusal (record m { agent = a }) e ≡ refusal m e
unfolding stamp_refusal
one_refusal m a same (Kernel (commands.Create f)) = refl
one_refusal m a same (Kernel (commands.Thread t x)) = refl
one_refusal m a same (Kernel (commands.Take c)) = refl
one_refusal m a same (Kernel (commands.Give c)) = refl
one_refusal m a same (Kernel (commands.Tick c)) = refl
one_refusal m a same (Kernel (commands.HandOff c)) = refl
one_refusal m a same (Kernel commands.Leave) = refl
one_refusal m a same (Kernel commands.Begin) = refl
one_refusal m a same (Kernel (commands.Activate c)) = ap (λ o. kernel_refuses m.settings m.history (is_none o) (commands.Activate c)) same.page
one_refusal m a same events.Crash = refl
one_refusal m a same (events.Begin p) = refl
one_refusal m a same (events.Page max) = ap (λ o. unless_torn m.history (page_refusal m.history (is_none o))) same.page
one_refusal m a same (Drain max) = refl
one_refusal m a same (Stamp c t w) = ap (λ (x : Picture). stamp_refusal m c t x.view) same.pictured
one_refusal m a same Decide = cc (one_plan m a same)
one_refusal m a same (Commit mask) = refl
one_refusal m a same (Late n) = refl
one_refusal m a same events.View = refl
one_refusal m a same events.State = refl
one_refusal m a same Unread = refl

-- one drain: with memory none stops early, as the view that it leaves meets no gap
left_unread : (m m' : State) (max : ℕ) (d : Drained) → Drains m max d m' → unread m' ≡ drop d.count (unread m)
left_unread m m' max d x =
    ap (λ (s : State). drop m'.consumed (posted s.history)) x.others
    ∙ ap (λ n. drop n (posted m.history)) x.consumed
    ∙ drop_drop m.consumed d.count (posted m.history)

no_stop : (m m' : State) (max : ℕ) (d : Drained) → Drains m max d m' → IsFaithful m' → is_memory d.stop ≡ false → d.stop ≡ None
no_stop m m' max d x f enough = by_stop d.stop refl
  where
    unstopped : gap_next (catch_up (view m) (take d.count (unread m))) (drop d.count (unread m)) ≡ false
    unstopped =
        sym (ap (λ (v : Look). gap_next v (drop d.count (unread m))) (same_view _ _ x.follows.known))
        ∙ sym (ap (gap_next (view m')) (left_unread m m' max d x))
        ∙ f.no_gap

    by_stop : (o : Option Stop) → d.stop ≡ o → d.stop ≡ None
    by_stop None e = e
    by_stop (Some Memory) e = let k = sym enough ∙ ap is_memory e in absurd (cc)
    by_stop (Some Gap) e = let k = sym unstopped ∙ x.follows.gap e in absurd (cc)

drained_same : (d e : Drained) → d.count ≡ e.count → d.skipped ≡ e.skipped → d.orphans ≡ e.orphans → d.stop ≡ e.stop → d ≡ e
drained_same d e a b c s = λ i. record { count = a i; skipped = b i; orphans = c i; stop = s i }

record OneFollowed (d e : Drained) (p q : Picture) : Type 0 where
  told : d ≡ e
  pictured : p ≡ q

one_followed : (p : Picture) (ms : List Message) (max : ℕ) (d e : Drained) (w w' : Picture) → FollowsFirst p ms max d w → FollowsFirst p ms max e w' → d.stop ≡ None → e.stop ≡ None → OneFollowed d e w w'
one_followed p ms max d e w w' x y none none' =
    let count : d.count ≡ e.count = x.whole none ∙ sym (y.whole none') in
    record {
      told = drained_same d e count
          (x.skipped ∙ ap (λ n. count_by is_skipped (words p.view (take n ms))) count ∙ sym y.skipped)
          (x.orphans ∙ ap (λ n. count_by is_orphan (words p.view (take n ms))) count ∙ sym y.orphans)
          (none ∙ sym none');
      pictured = x.picture ∙ ap (λ n. after_messages p (take n ms)) count ∙ sym y.picture;
    }

-- one reply, and machines alike
record One (r r' : Reply) (m n : State) : Type 0 where
  reply : r ≡ r'
  left : Alike m n

one_drain : (m : State) (a : Option Agent) → Same a m.agent → (max : ℕ) (d e : Drained) (m' n' : State)
    → Drains m max d m' → Drains (record m { agent = a }) max e n' → IsFaithful m' → IsFaithful n' → is_memory d.stop ≡ false → is_memory e.stop ≡ false → One (replies.Drained d) (replies.Drained e) m' n'
one_drain m a same max d e m' n' x y f g p q =
    let t = one_followed (picture m) (unread m) max d e (picture m') (picture n') x.follows (subst (λ (z : Picture). FollowsFirst z (unread m) max e (picture n')) same.pictured y.follows) (no_stop m m' max d x f p) (no_stop (record m { agent = a }) n' max e y g q) in
    record {
      reply = ap replies.Drained t.told;
      left = (
        n'.agent,
        y.others
            ∙ ap (λ c. record m { consumed = c; agent = n'.agent }) (y.consumed ∙ ap (λ (z : Drained). m.consumed + z.count) (sym t.told) ∙ sym x.consumed)
            ∙ sym (ap (λ (s : State). record s { agent = n'.agent }) x.others),
        record { pictured = sym t.pictured; there = y.stays ∙ (same.there ∙ sym x.stays); page = y.page ∙ (same.page ∙ sym x.page) },
      );
    }

-- one stamp
stamps_reply : (m : State) (a : Option Agent) (c t : ℕ) (w : Flags) (o : Option (ℕ × ℕ)) (k : Option Known) → (stamps_with (record m { agent = a }) c t w o k).0 ≡ (stamps_with m c t w o k).0
stamps_reply m a c t w None k = refl
stamps_reply m a c t w (Some b) None = refl
stamps_reply m a c t w (Some b) (Some k) = refl

-- the agent after a stamp, if one is active and the view knows the thread
stamped_agent : ℕ → ℕ → Option (ℕ × ℕ) → Option Known → Option Agent → Option Agent
stamped_agent c t (Some b) (Some k) a = option_map (thinking (after_stamp c t)) a
stamped_agent c t (Some b) None a = a
stamped_agent c t None k a = a

stamps_left : (m : State) (a : Option Agent) (c t : ℕ) (w : Flags) (o : Option (ℕ × ℕ)) (k : Option Known)
    → (stamps_with (record m { agent = a }) c t w o k).1 ≡ record ((stamps_with m c t w o k).1) { agent = stamped_agent c t o k a }
unfolding stamped_agent
stamps_left m a c t w None k = refl
stamps_left m a c t w (Some b) None = refl
stamps_left m a c t w (Some b) (Some k) = refl

stamps_same : (m : State) (a : Option Agent) (c t : ℕ) (w : Flags) (o : Option (ℕ × ℕ)) (k : Option Known) → Same a m.agent → Same (stamped_agent c t o k a) ((stamps_with m c t w o k).1).agent
unfolding stamped_agent
stamps_same m a c t w None k same = same
stamps_same m a c t w (Some b) None same = same
stamps_same m a c t w (Some b) (Some k) same = same_thinks (after_stamp c t) a m.agent same

one_stamp : (m : State) (a : Option Agent) → Same a m.agent → (c t : ℕ) (w : Flags) (r r' : Reply) (m' n' : State) → Does m (Stamp c t w) r m' → Does (record m { agent = a }) (Stamp c t w) r' n' → One r r' m' n'
one_stamp m a same c t w r r' m' n' x y =
    let o = active m.history in
    let known : stamps (record m { agent = a }) c t w ≡ stamps_with (record m { agent = a }) c t w o (view m t) = ap (λ (z : Picture). stamps_with (record m { agent = a }) c t w o (z.view t)) same.pictured in
    record {
      reply = x.0 ∙ sym (y.0 ∙ ap (λ z. z.0) known ∙ stamps_reply m a c t w o (view m t));
      left = alike_at m' n' (stamps m c t w).1 (stamped_agent c t o (view m t) a) x.1 (y.1 ∙ ap (λ z. z.1) known ∙ stamps_left m a c t w o (view m t)) (stamps_same m a c t w o (view m t) same);
    }

-- one decision: its stamps, one after another
stamps_alike : (m : State) (a : Option Agent) → Same a m.agent → (xs : List Choice) → Alike (stamps_all m xs) (stamps_all (record m { agent = a }) xs)
stamps_alike m a same [] = (a, refl, same)
stamps_alike m a same (x ∷ xs) =
    let o = active m.history in
    let known : stamps (record m { agent = a }) x.cpu x.tid (single x.preempt) ≡ stamps_with (record m { agent = a }) x.cpu x.tid (single x.preempt) o (view m x.tid) =
    ap (λ (z : Picture). stamps_with (record m { agent = a }) x.cpu x.tid (single x.preempt) o (z.view x.tid)) same.pictured in
    let left = ap (λ z. z.1) known ∙ stamps_left m a x.cpu x.tid (single x.preempt) o (view m x.tid) in
    subst (λ (s : State). Alike (stamps_all m (x ∷ xs)) (stamps_all s xs)) (sym left)
    (stamps_alike (stamps m x.cpu x.tid (single x.preempt)).1 (stamped_agent x.cpu x.tid o (view m x.tid) a) (stamps_same m a x.cpu x.tid (single x.preempt) o (view m x.tid) same) xs)

alike_ends : (m n x y : State) → m ≡ x → n ≡ y → Alike x y → Alike m n
alike_ends m n x y e k alike = subst (λ (s : State). Alike s n) (sym e) (subst (λ (s : State). Alike x s) (sym k) alike)

one_decide : (m : State) (a : Option Agent) → Same a m.agent → (r r' : Reply) (m' n' : State) → Does m Decide r m' → Does (record m { agent = a }) Decide r' n' → One r r' m' n'
one_decide m a same r r' m' n' x y =
    let plans : plan_of (record m { agent = a }) ≡ plan_of m = one_plan m a same in
    record {
      reply = x.0 ∙ sym (y.0 ∙ ap (replies.Decided (length m.transactions + 1)) plans);
      left = alike_ends m' n' (stamps_all m (plan_of m)) (stamps_all (record m { agent = a }) (plan_of m)) x.1 (y.1 ∙ ap (stamps_all (record m { agent = a })) plans) (stamps_alike m a same (plan_of m));
    }

-- one late landing
one_late : (m : State) (a : Option Agent) → Same a m.agent → (n : ℕ) (r r' : Reply) (m' n' : State) → Does m (Late n) r m' → Does (record m { agent = a }) (Late n) r' n' → One r r' m' n'
one_late m a same n r r' m' n' x y =
    let found : Some y.transaction ≡ Some x.transaction = sym y.found ∙ x.found in
    let same_one : y.transaction ≡ x.transaction = cc in
    let lands = subst (λ (t : Transaction). Lands (fits m) m.settings m.history t.cpu t.slot y.landing n'.history) same_one y.lands in
    let one = lands_one m.ring m.consumed m.settings m.history x.transaction.cpu x.transaction.slot x.landing y.landing m'.history n'.history x.lands lands in
    record {
      reply = x.reply ∙ ((λ i. replies.Late n (one.0 i) (torn (one.1 i))) ∙ sym y.reply);
      left = alike_at m' n' (record m { history = m'.history }) a x.others (y.others ∙ ap (λ (z : List Entry). record m { history = z; agent = a }) (sym one.1)) same;
    }

-- one commit
one_commit : (m : State) (a : Option Agent) → Same a m.agent → (mask : ℕ) (r r' : Reply) (m' n' : State) → Does m (Commit mask) r m' → Does (record m { agent = a }) (Commit mask) r' n' → One r r' m' n'
one_commit m a same mask r r' m' n' x y =
    let made : x.made ≡ y.made = commit_one m.ring m.consumed m.settings mask m.slots m.history x.made y.made x.lands y.lands in
    let think = after_all x.made.slots in
    record {
      reply = x.reply ∙ ((λ i. replies.Landed (made i).answers (torn (made i).history)) ∙ sym y.reply);
      left = alike_at m' n' (committed m x.made) (option_map (thinking think) a) x.left (y.left ∙ ap (committed (record m { agent = a })) (sym made)) (same_thinks think a m.agent same);
    }

-- agents that are the same follow a command alike
same_led : (cpus : ℕ) (e : Entry) (a b : Option Agent) → Same a b → Same (led cpus e a) (led cpus e b)
same_led cpus (Role g c) a b same = same_thinks (λ p. record p { cpus = record p.cpus { agent = Some c } }) a b same
same_led cpus (Posted k) a b same = same
same_led cpus (Placed t s c g) a b same = same
same_led cpus (Begin g) a b same = record { pictured = refl; there = refl; page = refl }
same_led cpus Left a b same = record { pictured = refl; there = refl; page = refl }
same_led cpus (Taken c) a b same = same
same_led cpus (Given c) a b same = same
same_led cpus Torn a b same = same

same_executed : (x y : Executed) → is_done x ≡ is_done y → x ≡ y
same_executed executed.Done executed.Done e = refl
same_executed executed.Torn executed.Torn e = refl
same_executed executed.Done executed.Torn e = absurd cc
same_executed executed.Torn executed.Done e = absurd cc

-- one command
one_command : (m : State) (a : Option Agent) → Same a m.agent → (c : Command) (r r' : Reply) (m' n' : State) → Does m (Kernel c) r m' → Does (record m { agent = a }) (Kernel c) r' n' → One r r' m' n'
one_command m a same c r r' m' n' x y =
    let cpus : ℕ = m.settings.cpus in
    let last : Entry = last_entry m'.history in
    let one = tells_one m.ring m.consumed m.history (effect m.settings m.history c) (is_done x.executed) (is_done y.executed) m'.history n'.history x.tells y.tells in
    record {
      reply = x.reply ∙ ((λ i. reply_of (Ok (same_executed x.executed y.executed one.0 i)) (last_entry (one.1 i))) ∙ sym y.reply);
      left = alike_at m' n' (record m { history = m'.history; agent = led cpus last m.agent; slots = freed_by cpus last m.slots }) (led cpus last a) x.others
          (y.others ∙ (λ i. record m { history = sym one.1 i; agent = led cpus (last_entry (sym one.1 i)) a; slots = freed_by cpus (last_entry (sym one.1 i)) m.slots })) (same_led cpus last a m.agent same);
    }

-- one page
one_page : (m : State) (a : Option Agent) → Same a m.agent → (max : ℕ) (r r' : Reply) (m' n' : State) → Attaches m max r m' → Attaches (record m { agent = a }) max r' n' → One r r' m' n'
one_page m a same max r r' m' n' x y =
    let dump : next_dump (record m { agent = a }) max ≡ next_dump m max = ap (λ o. dumped m.settings m.history (unwrap_or o 0) max) same.page in
    record {
      reply = x.reply ∙ (ap page_reply (sym dump) ∙ sym y.reply);
      left = (
        n'.agent,
        y.others ∙ sym (ap (λ (s : State). record s { agent = n'.agent }) x.others),
        record {
          pictured = y.known ∙ ((λ i. after_page (dump i).records (same.pictured i)) ∙ sym x.known);
          there = y.stays ∙ (same.there ∙ sym x.stays);
          page = y.page ∙ (ap (λ (p : Contents). p.next) dump ∙ sym x.page);
        },
      );
    }

-- one step
refused_is : (r : Reply) → wants_memory r ≡ false → r ≡ replies.Refused refusals.OutOfMemory → ⊥
refused_is r p e = let k = sym p ∙ ap wants_memory e in absurd (cc)

one_done : (m : State) (a : Option Agent) → Same a m.agent → (e : Event Plan) (r r' : Reply) (m' n' : State)
    → Does m e r m' ⊎ (IsShort e r × (m' ≡ m)) → Does (record m { agent = a }) e r' n' ⊎ (IsShort e r' × (n' ≡ record m { agent = a }))
    → IsFaithful m' → IsFaithful n' → wants_memory r ≡ false → wants_memory r' ≡ false → One r r' m' n'
one_done m a same (Kernel c) r r' m' n' (inl x) (inl y) g h p q = one_command m a same c r r' m' n' x y
one_done m a same (Kernel c) r r' m' n' (inr x) y g h p q = absurd (refused_is r p x.0)
one_done m a same (Kernel c) r r' m' n' (inl x) (inr y) g h p q = absurd (refused_is r' q y.0)
one_done m a same events.Crash r r' m' n' (inl x) (inl y) g h p q =
    record { reply = x.0 ∙ sym y.0; left = alike_at m' n' (crashed m) None x.1 y.1 (record { pictured = refl; there = refl; page = refl }) }
one_done m a same events.Crash r r' m' n' (inr x) y g h p q = absurd (refused_is r p x.0)
one_done m a same events.Crash r r' m' n' (inl x) (inr y) g h p q = absurd (refused_is r' q y.0)
one_done m a same (events.Begin b) r r' m' n' (inl x) (inl y) g h p q = one_command (planned_by b m) a same commands.Begin r r' m' n' x y
one_done m a same (events.Begin b) r r' m' n' (inr x) y g h p q = absurd (refused_is r p x.0)
one_done m a same (events.Begin b) r r' m' n' (inl x) (inr y) g h p q = absurd (refused_is r' q y.0)
one_done m a same (events.Page max) r r' m' n' (inl x) (inl y) g h p q = one_page m a same max r r' m' n' x y
one_done m a same (events.Page max) r r' m' n' (inr x) y g h p q = absurd (refused_is r p x.0)
one_done m a same (events.Page max) r r' m' n' (inl x) (inr y) g h p q = absurd (refused_is r' q y.0)
one_done m a same (Drain max) r r' m' n' (inl x) (inl y) g h p q =
    let o = one_drain m a same max x.0 y.0 m' n' x.2 y.2 g h (sym (ap wants_memory x.1) ∙ p) (sym (ap wants_memory y.1) ∙ q) in
    record { reply = x.1 ∙ o.reply ∙ sym y.1; left = o.left }
one_done m a same (Drain max) r r' m' n' (inr x) y g h p q = absurd x.0
one_done m a same (Drain max) r r' m' n' (inl x) (inr y) g h p q = absurd y.0
one_done m a same (Stamp c t w) r r' m' n' (inl x) (inl y) g h p q = one_stamp m a same c t w r r' m' n' x y
one_done m a same (Stamp c t w) r r' m' n' (inr x) y g h p q = absurd (refused_is r p x.0)
one_done m a same (Stamp c t w) r r' m' n' (inl x) (inr y) g h p q = absurd (refused_is r' q y.0)
one_done m a same Decide r r' m' n' (inl x) (inl y) g h p q = one_decide m a same r r' m' n' x y
one_done m a same Decide r r' m' n' (inr x) y g h p q = absurd (refused_is r p x.0)
one_done m a same Decide r r' m' n' (inl x) (inr y) g h p q = absurd (refused_is r' q y.0)
one_done m a same (Late n) r r' m' n' (inl x) (inl y) g h p q = one_late m a same n r r' m' n' x y
one_done m a same (Late n) r r' m' n' (inr x) y g h p q = absurd (refused_is r p x.0)
one_done m a same (Late n) r r' m' n' (inl x) (inr y) g h p q = absurd (refused_is r' q y.0)
one_done m a same (Commit mask) r r' m' n' (inl x) (inl y) g h p q = one_commit m a same mask r r' m' n' x y
one_done m a same (Commit mask) r r' m' n' (inr x) y g h p q = absurd (refused_is r p x.0)
one_done m a same (Commit mask) r r' m' n' (inl x) (inr y) g h p q = absurd (refused_is r' q y.0)
one_done m a same events.View r r' m' n' (inl x) (inl y) g h p q =
    let lists : x.0.0 ≡ y.0.0 = one_list x.0.0 y.0.0 x.0.2.rising y.0.2.rising (λ t. x.0.2.all t ∙ (ap (λ (z : Picture). z.view t) (sym same.pictured) ∙ sym (y.0.2.all t))) in
    record { reply = x.0.1 ∙ (ap replies.View lists ∙ sym y.0.1); left = alike_at m' n' m a x.1 y.1 same }
one_done m a same events.View r r' m' n' (inr x) y g h p q = absurd (refused_is r p x.0)
one_done m a same events.View r r' m' n' (inl x) (inr y) g h p q = absurd (refused_is r' q y.0)
one_done m a same events.State r r' m' n' (inl x) (inl y) g h p q = record { reply = x.0 ∙ sym y.0; left = alike_at m' n' m a x.1 y.1 same }
one_done m a same events.State r r' m' n' (inr x) y g h p q = absurd (refused_is r p x.0)
one_done m a same events.State r r' m' n' (inl x) (inr y) g h p q = absurd (refused_is r' q y.0)
one_done m a same Unread r r' m' n' (inl x) (inl y) g h p q = record { reply = x.0 ∙ sym y.0; left = alike_at m' n' m a x.1 y.1 same }
one_done m a same Unread r r' m' n' (inr x) y g h p q = absurd (refused_is r p x.0)
one_done m a same Unread r r' m' n' (inl x) (inr y) g h p q = absurd (refused_is r' q y.0)

one_served : (o : Option Refusal) (m : State) (a : Option Agent) → Same a m.agent → (e : Event Plan) (r r' : Reply) (m' n' : State)
    → Serves o m e r m' → Serves o (record m { agent = a }) e r' n' → IsFaithful m' → IsFaithful n' → wants_memory r ≡ false → wants_memory r' ≡ false → One r r' m' n'
one_served (Some f) m a same e r r' m' n' x y g h p q = record { reply = x.0 ∙ sym y.0; left = alike_at m' n' m a x.1 y.1 same }
one_served None m a same e r r' m' n' x y g h p q = one_done m a same e r r' m' n' x y g h p q

one_step : (m n : State) → Alike m n → (e : Event Plan) (r r' : Reply) (m' n' : State) → Step m e r m' → Step n e r' n' → IsFaithful m' → IsFaithful n' → wants_memory r ≡ false → wants_memory r' ≡ false → One r r' m' n'
one_step m n alike e r r' m' n' x y g h p q =
    let a = alike.0 in
    let z : Step (record m { agent = a }) e r' n' = subst (λ (s : State). Step s e r' n') alike.1 y in
    one_served (refusal m e) m a alike.2 e r r' m' n' x
    (subst (λ (o : Option Refusal). Serves o (record m { agent = a }) e r' n') (one_refusal m a alike.2 e) z) g h p q

-- one list of replies, and machines that are alike
neither : (a b : Bool) → (a || b) ≡ false → (a ≡ false) × (b ≡ false)
neither false b e = (refl, e)
neither true b e = absurd cc

one_run : (es : List (Event Plan)) (m n : State) → Alike m n → (rs rs' : List Reply) (l l' : State) → Run m es rs l → Run n es rs' l' → list_any wants_memory rs ≡ false → list_any wants_memory rs' ≡ false → (rs ≡ rs') × Alike l l'
one_run [] m n alike [] [] l l' x y p q = (refl, alike_at l l' m alike.0 x (y ∙ alike.1) alike.2)
one_run [] m n alike (r ∷ rs) rs' l l' x y p q = absurd x
one_run [] m n alike [] (r ∷ rs') l l' x y p q = absurd y
one_run (e ∷ es) m n alike [] rs' l l' x y p q = absurd x
one_run (e ∷ es) m n alike (r ∷ rs) [] l l' x y p q = absurd y
one_run (e ∷ es) m n alike (r ∷ rs) (r' ∷ rs') l l' x y p q =
    let b = neither _ _ p in
    let c = neither _ _ q in
    let o = one_step m n alike e r r' x.0 y.0 x.1 y.1 x.3 y.3 b.0 c.0 in
    let others = one_run es x.0 y.0 o.left rs rs' l l' x.4 y.4 b.1 c.1 in
    ((λ i. o.reply i ∷ others.0 i), others.1)

-- what is shown is of the replies, and of what machines that are alike agree on
one_shown : (show : Show) (rs rs' : List Reply) (l l' : State) → rs ≡ rs' → Alike l l' → show rs l.settings.cpus l.history ≡ show rs' l'.settings.cpus l'.history
one_shown show rs rs' l l' same alike =
    ap (λ rs. show rs l.settings.cpus l.history) same ∙ ap (λ (s : State). show rs' s.settings.cpus s.history) (sym alike.1)

one_of : {A : Type 0} (plans : A → Plan) (show : Show) (s : Result (Script A) ScriptFault) (ended ended' : Ended) (out out' : List ℕ) → IsAnswerOf (Answers plans (IsBy show)) s ended out → IsAnswerOf (Answers plans (IsBy show)) s ended' out' → (ended ≡ ended') × (out ≡ out')
one_of plans show (Ok s) ended ended' out out' x y =
    let one = one_run (map (planned plans) s.events) _ _ (_, refl, record { pictured = refl; there = refl; page = refl }) x.1.replies y.1.replies x.1.left y.1.left x.1.run y.1.run x.1.sufficed y.1.sufficed in
    (x.0 ∙ sym y.0, x.1.shown ∙ one_shown show x.1.replies y.1.replies x.1.left y.1.left one.0 one.1 ∙ sym y.1.shown)
one_of plans show (Err f) ended ended' out out' x y = (x.0 ∙ sym y.0, x.1 ∙ sym y.1)

pub one_output : {A : Type 0} (naming : Naming A) (plans : A → Plan) (show : Show) (input : List ℕ) (ended ended' : Ended) (out out' : List ℕ) → IsShown naming plans (IsBy show) input ended out → IsShown naming plans (IsBy show) input ended' out' → (ended ≡ ended') × (out ≡ out')
one_output naming plans show input ended ended' out out' x y = one_of plans show (script_of naming input) ended ended' out out' x y
