-- The entry that an explanation of a refused command names is the one that explains the refusal.
use Rattle.std.proofs.Common.{◌≡◌, refl, ap, sym, subst, inl, inr, Bool, true, false, not, cond, Option, None, Some, Ok}
use Rattle.std.specs.List.{list_any}
use Rattle.gs_layout.specs.declared.refusal.Refusal.{Refusal}
use Rattle.gs_layout.specs.declared.refusal.Refusal.TheVariants as refusals
use Rattle.gs_slots.specs.State.{is_stamped}
use Rattle.gs_journal.specs.History.{History, torn}
use Rattle.gs_journal.specs.State.{IsNumbered}
use Rattle.gs_journal.specs.declared.entry.Entry.{Entry}
use Rattle.gs_kernel.specs.declared.command.Command.{Command}
use Rattle.gs_kernel.specs.declared.command.Command.TheVariants as commands
use Rattle.gs_kernel.specs.declared.executed.Executed.{Executed}
use Rattle.gs_kernel.specs.declared.executed.Executed.TheVariants as executed
use Rattle.gs_kernel.specs.Attaching.{leave_refusal}
use Rattle.gs_kernel.specs.Kernel.{has_agent, is_full, last_entry, or_else}
use Rattle.gs_kernel.specs.Legal.{refusal as command_refusal}
use Rattle.gs_replies.specs.declared.reply.Reply.TheVariants as replies
use Rattle.gs_replies.specs.Replies.{reply_of}
use Rattle.gs_core.specs.declared.event.Event.{Event}
use Rattle.gs_core.specs.declared.event.Event.TheVariants as events
use Rattle.gs_core.specs.Machine.{Does, IsShort, Plan, Serves, State, Step, is_given_all, planned, refusal}
use Rattle.gs_sentences.specs.Subject.{cpu_of, tid_of}
use Rattle.gs_reasons.specs.declared.sign.Sign.{Sign}
use Rattle.gs_reasons.specs.declared.sign.Sign.TheVariants as signs
use Rattle.gs_reasons.specs.Named.{cpu_by, tid_by}
use Rattle.gs_reasons.specs.Refused.{sign_of_refusal, spent_by}
use Rattle.gs_reasons.specs.ExplainsRefusal.{ExplainsRefusal}
use Rattle.gs_reasons.proofs.Laws.{explained_refusal}
use Rattle.gs_explain.specs.Commands.{command_of}
use Rattle.gs_explain.specs.Moment.{bare}
use Rattle.gs_explain.specs.Refusals.{refusal_sign, spent_sign}

-- what is asked of an event of a command is what the reason is a sign of
same_tid : (c : Command) → tid_of (events.Kernel c) ≡ tid_by c
same_tid (commands.Create x) = refl
same_tid (commands.Thread t x) = refl
same_tid (commands.Take k) = refl
same_tid (commands.Give k) = refl
same_tid (commands.Tick k) = refl
same_tid (commands.HandOff k) = refl
same_tid commands.Leave = refl
same_tid commands.Begin = refl
same_tid (commands.Activate k) = refl

same_cpu : (c : Command) → cpu_of (events.Kernel c) ≡ cpu_by c
same_cpu (commands.Create x) = refl
same_cpu (commands.Thread t x) = refl
same_cpu (commands.Take k) = refl
same_cpu (commands.Give k) = refl
same_cpu (commands.Tick k) = refl
same_cpu (commands.HandOff k) = refl
same_cpu commands.Leave = refl
same_cpu commands.Begin = refl
same_cpu (commands.Activate k) = refl

same_spent : (c : Command) → spent_sign (events.Kernel c) ≡ spent_by c
same_spent (commands.Create x) = refl
same_spent (commands.Thread t x) = refl
same_spent (commands.Take k) = refl
same_spent (commands.Give k) = refl
same_spent (commands.Tick k) = refl
same_spent (commands.HandOff k) = refl
same_spent commands.Leave = refl
same_spent commands.Begin = refl
same_spent (commands.Activate k) = refl

sign_of_kernel : (c : Command) (r : Refusal) → refusal_sign (events.Kernel c) r ≡ sign_of_refusal c r
sign_of_kernel c refusals.NoThread = ap (λ t. Some (signs.Death t)) (same_tid c)
sign_of_kernel c refusals.NotRunning = ap (λ t. Some (signs.Off t)) (same_tid c)
sign_of_kernel c refusals.NotBlocked = ap (λ t. Some (signs.Runs t)) (same_tid c)
sign_of_kernel c refusals.EmptyMask = refl
sign_of_kernel c refusals.BadCpu = refl
sign_of_kernel c refusals.AgentThere = refl
sign_of_kernel c refusals.CpuTaken = ap (λ k. Some (signs.Held k)) (same_cpu c)
sign_of_kernel c refusals.NotTaken = ap (λ k. Some (signs.Held k)) (same_cpu c)
sign_of_kernel c refusals.NotActive = refl
sign_of_kernel c refusals.StillAttached = refl
sign_of_kernel c refusals.NotAttaching = refl
sign_of_kernel c refusals.SeqSpent = ap (λ (g : Sign). Some g) (same_spent c)
sign_of_kernel c refusals.GenSpent = refl
sign_of_kernel c refusals.TidsSpent = refl
sign_of_kernel c refusals.HistoryFull = refl
sign_of_kernel c refusals.SlotOpen = refl
sign_of_kernel c refusals.NoSuchTransaction = refl
sign_of_kernel c refusals.Gone = refl
sign_of_kernel c refusals.OutOfMemory = refl

sign_of_crash : (r : Refusal) → refusal_sign events.Crash r ≡ sign_of_refusal commands.Leave r
sign_of_crash refusals.NoThread = refl
sign_of_crash refusals.NotRunning = refl
sign_of_crash refusals.NotBlocked = refl
sign_of_crash refusals.EmptyMask = refl
sign_of_crash refusals.BadCpu = refl
sign_of_crash refusals.AgentThere = refl
sign_of_crash refusals.CpuTaken = refl
sign_of_crash refusals.NotTaken = refl
sign_of_crash refusals.NotActive = refl
sign_of_crash refusals.StillAttached = refl
sign_of_crash refusals.NotAttaching = refl
sign_of_crash refusals.SeqSpent = refl
sign_of_crash refusals.GenSpent = refl
sign_of_crash refusals.TidsSpent = refl
sign_of_crash refusals.HistoryFull = refl
sign_of_crash refusals.SlotOpen = refl
sign_of_crash refusals.NoSuchTransaction = refl
sign_of_crash refusals.Gone = refl
sign_of_crash refusals.OutOfMemory = refl

sign_of_begin : (r : Refusal) → refusal_sign (events.Begin tt) r ≡ sign_of_refusal commands.Begin r
sign_of_begin refusals.NoThread = refl
sign_of_begin refusals.NotRunning = refl
sign_of_begin refusals.NotBlocked = refl
sign_of_begin refusals.EmptyMask = refl
sign_of_begin refusals.BadCpu = refl
sign_of_begin refusals.AgentThere = refl
sign_of_begin refusals.CpuTaken = refl
sign_of_begin refusals.NotTaken = refl
sign_of_begin refusals.NotActive = refl
sign_of_begin refusals.StillAttached = refl
sign_of_begin refusals.NotAttaching = refl
sign_of_begin refusals.SeqSpent = refl
sign_of_begin refusals.GenSpent = refl
sign_of_begin refusals.TidsSpent = refl
sign_of_begin refusals.HistoryFull = refl
sign_of_begin refusals.SlotOpen = refl
sign_of_begin refusals.NoSuchTransaction = refl
sign_of_begin refusals.Gone = refl
sign_of_begin refusals.OutOfMemory = refl

-- a reply that refuses, and is not that memory ran out, has the first refusal that holds
not_done : (x : Executed) (e : Entry) (r : Refusal) → replies.Refused r ≡ reply_of (Ok x) e → ⊥
not_done executed.Done e r q = absurd cc
not_done executed.Torn e r q = absurd cc

first_refusal : (o : Option Refusal) (m m' : State) (e : Event Plan) (r : Refusal) → (Does m e (replies.Refused r) m' → ⊥) → (IsShort e (replies.Refused r) → ⊥) → Serves o m e (replies.Refused r) m' → o ≡ Some r
first_refusal (Some f) m m' e r no_reply no_short s = let same : f ≡ r = (let x : replies.Refused r ≡ replies.Refused f = s.0 in cc) in ap Some same
first_refusal None m m' e r no_reply no_short (inl d) = absurd (no_reply d)
first_refusal None m m' e r no_reply no_short (inr s) = absurd (no_short s.0)

short_is : (r : Refusal) → (r ≡ refusals.OutOfMemory → ⊥) → replies.Refused r ≡ replies.Refused refusals.OutOfMemory → ⊥
short_is r other q = other (let same : r ≡ refusals.OutOfMemory = cc in same)

-- an agent that may not leave for another reason than a slot that is not idle
leave_is : (h : History) → leave_refusal h ≡ cond (not (has_agent h)) (Some refusals.NotActive) None
unfolding leave_refusal
leave_is h = refl

leaves_not : (t a b : Bool) (full : Option Refusal) (r : Refusal) → (r ≡ refusals.SlotOpen → ⊥)
    → cond t (Some refusals.Gone) (cond a (Some refusals.NotActive) (cond b (Some refusals.SlotOpen) (or_else (cond a (Some refusals.NotActive) None) full))) ≡ Some r
    → cond t (Some refusals.Gone) (or_else (cond a (Some refusals.NotActive) None) full) ≡ Some r
leaves_not true a b full r other q = q
leaves_not false true b full r other q = q
leaves_not false false true full r other q = absurd (other (let same : refusals.SlotOpen ≡ r = cc in sym same))
leaves_not false false false full r other q = q

kernel_first : (m : State) (c : Command) (r : Refusal) → (r ≡ refusals.SlotOpen → ⊥) → refusal m (events.Kernel c) ≡ Some r → command_refusal m.settings m.history (is_given_all m) c ≡ Some r
kernel_first m (commands.Create x) r idle q = q
kernel_first m (commands.Thread t x) r idle q = q
kernel_first m (commands.Take k) r idle q = q
kernel_first m (commands.Give k) r idle q = q
kernel_first m (commands.Tick k) r idle q = q
kernel_first m (commands.HandOff k) r idle q = q
kernel_first m commands.Leave r idle q =
    let h = m.history in
    let t : Bool = torn h in
    let a : Bool = not (has_agent h) in
    let b : Bool = list_any is_stamped m.slots in
    let full : Option Refusal = cond (is_full m.settings h 1) (Some refusals.HistoryFull) None in
    let P : Option Refusal → Type 0 = λ o.
    cond t (Some refusals.Gone) (cond a (Some refusals.NotActive) (cond b (Some refusals.SlotOpen) (or_else o full))) ≡ Some r → cond t (Some refusals.Gone) (or_else o full) ≡ Some r
    in
    subst P (sym (leave_is h)) (leaves_not t a b full r idle) q
kernel_first m commands.Begin r idle q = q
kernel_first m (commands.Activate k) r idle q = q

kernel_explained : (m m' : State) (c : Command) (r : Refusal) → IsNumbered m.settings.first_tseq m.history → Step m (events.Kernel c) (replies.Refused r) m' → (r ≡ refusals.OutOfMemory → ⊥) → (r ≡ refusals.SlotOpen → ⊥)
    → ExplainsRefusal (refusal_sign (events.Kernel c) r) r m.settings m.history (is_given_all m) c
kernel_explained m m' c r all step short idle =
    let q = first_refusal (refusal m (events.Kernel c)) m m' (events.Kernel c) r (λ d. not_done d.executed (last_entry m'.history) r d.reply) (short_is r short) step in
    subst (λ w. ExplainsRefusal w r m.settings m.history (is_given_all m) c) (sym (sign_of_kernel c r)) (explained_refusal m.settings m.history (is_given_all m) c r all (kernel_first m c r idle q))

crash_explained : (m m' : State) (r : Refusal) → IsNumbered m.settings.first_tseq m.history → Step m events.Crash (replies.Refused r) m' → (r ≡ refusals.OutOfMemory → ⊥)
    → ExplainsRefusal (refusal_sign events.Crash r) r m.settings m.history (is_given_all m) commands.Leave
crash_explained m m' r all step short =
    let q = first_refusal (refusal m events.Crash) m m' events.Crash r (λ d. let x : replies.Refused r ≡ replies.Crashed = d.0 in absurd cc) (short_is r short) step in
    let asked : command_refusal m.settings m.history (is_given_all m) commands.Leave ≡ Some r = q in
    subst (λ w. ExplainsRefusal w r m.settings m.history (is_given_all m) commands.Leave) (sym (sign_of_crash r)) (explained_refusal m.settings m.history (is_given_all m) commands.Leave r all asked)

begin_explained : (m m' : State) (p : Plan) (r : Refusal) → IsNumbered m.settings.first_tseq m.history → Step m (events.Begin p) (replies.Refused r) m' → (r ≡ refusals.OutOfMemory → ⊥)
    → ExplainsRefusal (refusal_sign (events.Begin tt) r) r m.settings m.history (is_given_all m) commands.Begin
begin_explained m m' p r all step short =
    let e : Event Plan = events.Begin p in
    let q = first_refusal (refusal m e) m m' e r (λ d. not_done d.executed (last_entry m'.history) r d.reply) (short_is r short) step in
    let asked : command_refusal m.settings m.history (is_given_all m) commands.Begin ≡ Some r = q in
    subst (λ w. ExplainsRefusal w r m.settings m.history (is_given_all m) commands.Begin) (sym (sign_of_begin r)) (explained_refusal m.settings m.history (is_given_all m) commands.Begin r all asked)

pub refused_explained : {A : Type 0} (plans : A → Plan) (m m' : State) (e : Event A) (c : Command) (r : Refusal) → command_of e ≡ Some c → IsNumbered m.settings.first_tseq m.history → Step m (planned plans e) (replies.Refused r) m'
    → (r ≡ refusals.OutOfMemory → ⊥) → (r ≡ refusals.SlotOpen → ⊥) → ExplainsRefusal (refusal_sign (bare e) r) r m.settings m.history (is_given_all m) c
refused_explained plans m m' (events.Kernel d) c r of all step short idle =
    let same : d ≡ c = cc in
    subst (λ c. ExplainsRefusal (refusal_sign (events.Kernel d) r) r m.settings m.history (is_given_all m) c) same (kernel_explained m m' d r all step short idle)
refused_explained plans m m' events.Crash c r of all step short idle =
    let same : commands.Leave ≡ c = cc in
    subst (λ c. ExplainsRefusal (refusal_sign events.Crash r) r m.settings m.history (is_given_all m) c) same (crash_explained m m' r all step short)
refused_explained plans m m' (events.Begin p) c r of all step short idle =
    let same : commands.Begin ≡ c = cc in
    subst (λ c. ExplainsRefusal (refusal_sign (events.Begin tt) r) r m.settings m.history (is_given_all m) c) same (begin_explained m m' (plans p) r all step short)
refused_explained plans m m' (events.Page max) c r of all step short idle = absurd cc
refused_explained plans m m' (events.Drain max) c r of all step short idle = absurd cc
refused_explained plans m m' (events.Stamp k t f) c r of all step short idle = absurd cc
refused_explained plans m m' events.Decide c r of all step short idle = absurd cc
refused_explained plans m m' (events.Commit mask) c r of all step short idle = absurd cc
refused_explained plans m m' (events.Late n) c r of all step short idle = absurd cc
refused_explained plans m m' events.View c r of all step short idle = absurd cc
refused_explained plans m m' events.State c r of all step short idle = absurd cc
refused_explained plans m m' events.Unread c r of all step short idle = absurd cc
