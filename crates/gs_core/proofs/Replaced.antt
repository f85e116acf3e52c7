-- A replacement comes to its end, and how many events it has at most.
use Rattle.std.proofs.Common.{◌≡◌, refl, ap, sym, ◌∙◌, subst, ℕ, ◌+◌, ◌/◌, ◌<◌, ◌≤◌, inl, inr, Option, None, Some, Ok, List, [], ◌∷◌, ◌++◌, length, unwrap_or, arith}
use Rattle.std.proofs.Math.Nat.{add-mul, div-mul-le_self}
use Rattle.std.proofs.lemmas.Nat.{le-div}
use Rattle.gs_layout.specs.declared.message.Message.{Message}
use Rattle.gs_layout.specs.declared.refusal.Refusal.{Refusal}
use Rattle.gs_layout.specs.declared.refusal.Refusal.TheVariants.{OutOfMemory}
use Rattle.gs_dump.specs.Page.{page_spelling}
use Rattle.gs_journal.specs.declared.entry.Entry.{Entry}
use Rattle.gs_journal.specs.declared.entry.Entry.TheVariants.{Left, Begin as BeginEntry}
use Rattle.gs_journal.specs.History.{History, created}
use Rattle.gs_journal.proofs.Laws.{same_created}
use Rattle.gs_kernel.specs.declared.command.Command.TheVariants as commands
use Rattle.gs_kernel.specs.declared.settings.Settings.{Settings}
use Rattle.gs_kernel.specs.Dumped.{dumped}
use Rattle.gs_kernel.specs.declared.executed.Executed.{Executed}
use Rattle.gs_kernel.specs.declared.executed.Executed.TheVariants as executed
use Rattle.gs_kernel.specs.Kernel.{last_entry, next_generation}
use Rattle.gs_kernel.specs.Legal.{Tells, effect, is_done}
use Rattle.gs_kernel.proofs.Laws.{last_added}
use Rattle.gs_kernel.specs.Shown.{live_from}
use Rattle.gs_core.specs.declared.event.Event.{Event}
use Rattle.gs_replies.specs.Replies.{reply_of}
use Rattle.gs_replies.specs.declared.reply.Reply.{Reply}
use Rattle.gs_replies.specs.declared.reply.Reply.TheVariants as replies
use Rattle.gs_core.specs.declared.stage.Stage.{Stage}
use Rattle.gs_core.specs.declared.stage.Stage.TheVariants.{Crash, Begin, Page, Activate}
use Rattle.gs_core.specs.Machine.{Does, IsShort, Plan, Serves, State, Step, crashed, fits, led, next_dump, page_of, planned, refusal}
use Rattle.gs_core.specs.Policies.{policy_after}
use Rattle.gs_core.specs.Replacing.{GoesOn, stage_after, stage_event}
use Rattle.gs_core.proofs.Pages.{from_on, next_far}

-- the event of a stage names no policy
pub event_planned : {P : Type 0} (f : P → Plan) (cpu max : ℕ) (s : Stage) → planned f (stage_event cpu max s) ≡ stage_event cpu max s
event_planned f cpu max Crash = refl
event_planned f cpu max Begin = refl
event_planned f cpu max Page = refl
event_planned f cpu max Activate = refl

pub event_keeps_policy : {P : Type 0} (cpu max : ℕ) (s : Stage) (r : Reply) (q : P) → policy_after (stage_event cpu max s) r q ≡ q
event_keeps_policy cpu max Crash r q = refl
event_keeps_policy cpu max Begin r q = refl
event_keeps_policy cpu max Page r q = refl
event_keeps_policy cpu max Activate r q = refl

-- one stage more
pub goes_further : (cpu max : ℕ) (from : Option Stage) (es : List (Event Plan)) (rs : List Reply) (s : Stage) (r : Reply) → GoesOn cpu max from es rs (Some s)
    → GoesOn cpu max from (es ++ stage_event cpu max s ∷ []) (rs ++ r ∷ []) (stage_after s r)
goes_further cpu max None [] [] s r g = absurd (let no : None ≡ Some s = g in cc)
goes_further cpu max (Some f) [] [] s r g = let same : f ≡ s = cc in (ap (stage_event cpu max) (sym same), ap (λ x. stage_after x r) same)
goes_further cpu max None [] (y ∷ rs) s r g = absurd g
goes_further cpu max (Some f) [] (y ∷ rs) s r g = absurd g
goes_further cpu max None (e ∷ es) [] s r g = absurd g
goes_further cpu max (Some f) (e ∷ es) [] s r g = absurd g
goes_further cpu max None (e ∷ es) (y ∷ rs) s r g = absurd g
goes_further cpu max (Some f) (e ∷ es) (y ∷ rs) s r g = (g.0, goes_further cpu max (stage_after f y) es rs s r g.1)

-- how many events there are at most from a stage on: the pages that are left, and what comes before and after them
abbrev pub events_left : ℕ → Option Stage → State → ℕ
events_left max None m = 0
events_left max (Some Crash) m = length (created m.history) / max + 4
events_left max (Some Begin) m = length (created m.history) / max + 3
events_left max (Some Page) m = from_on m.history (unwrap_or (page_of m.agent) 0) / max + 2
events_left max (Some Activate) m = 1

-- a page fewer, if the next one begins so much further
fewer_pages : (n k max : ℕ) → 0 < max → k + max ≤ n → k / max + 1 ≤ n / max
fewer_pages n k max some le = le-div (k / max + 1) n max some (omega (arith, le, add-mul (k / max) 1 max, div-mul-le_self k max))

page_further : (s : Settings) (h : History) (a max p : ℕ) → (dumped s h a max).next ≡ Some p → from_on h p + max ≤ from_on h a
unfolding live_from
page_further s h a max p e = let x = next_far s h a (from_on h a) max p e in omega (arith, x.0, x.1)

-- what a done page leaves
after_page : (max n : ℕ) (m m' : State) (o : Option ℕ) (bytes : List ℕ) → 0 < max → (next_dump m max).next ≡ o → page_of m'.agent ≡ o → m'.history ≡ m.history
    → events_left max (stage_after Page (replies.Page n o bytes)) m' < events_left max (Some Page) m
after_page max n m m' None bytes some e page same = omega arith
after_page max n m m' (Some p) bytes some e page same =
    let from : ℕ = unwrap_or (page_of m.agent) 0 in
    let less = fewer_pages (from_on m.history from) (from_on m.history p) max some (page_further m.settings m.history from max p e) in
    let is : from_on m'.history (unwrap_or (page_of m'.agent) 0) ≡ from_on m.history p = λ i. from_on (same i) (unwrap_or (page i) 0) in
    omega (arith, less, ap (λ k. k / max) is)

some_left : (max : ℕ) (s : Stage) (m : State) → 0 < events_left max (Some s) m
some_left max Crash m = omega arith
some_left max Begin m = omega arith
some_left max Page m = omega arith
some_left max Activate m = omega arith

-- nothing comes after a reply
ended : (max : ℕ) (s : Stage) (r : Reply) (m m' : State) → stage_after s r ≡ None → events_left max (stage_after s r) m' < events_left max (Some s) m
ended max s r m m' e = omega (arith, ap (λ o. events_left max o m') e, some_left max s m)

refused : (max : ℕ) (s : Stage) (f : Refusal) (r : Reply) (m m' : State) → r ≡ replies.Refused f → events_left max (stage_after s r) m' < events_left max (Some s) m
refused max s f r m m' e = ended max s r m m' (ap (stage_after s) e)

-- the agent crashed
crash_left : (max : ℕ) (r : Reply) (m m' : State) → r ≡ replies.Crashed → m' ≡ crashed m → events_left max (stage_after Crash r) m' < events_left max (Some Crash) m
crash_left max r m m' e left =
    let is : events_left max (stage_after Crash r) m' ≡ events_left max (Some Begin) (crashed m) = λ i. events_left max (stage_after Crash (e i)) (left i) in
    omega (arith, is, ap (λ (h : List Message). length h / max) (same_created m.history Left refl))

-- a new one began
begin_left : (max : ℕ) (r : Reply) (m m' : State) (x : Executed) → r ≡ reply_of (Ok x) (last_entry m'.history) → page_of m'.agent ≡ page_of (led m.settings.cpus (last_entry m'.history) m.agent)
    → Tells (fits m) m.history (effect m.settings m.history commands.Begin) (is_done x) m'.history → events_left max (stage_after Begin r) m' < events_left max (Some Begin) m
begin_left max r m m' executed.Torn e page tells = ended max Begin r m m' (ap (stage_after Begin) e)
begin_left max r m m' executed.Done e page tells =
    let last : last_entry m'.history ≡ BeginEntry (next_generation m.history) = ap last_entry tells.1 ∙ last_added m.history (BeginEntry (next_generation m.history)) in
    let next : page_of m'.agent ≡ Some 1 = page ∙ ap (λ (x : Entry). page_of (led m.settings.cpus x m.agent)) last in
    let is : events_left max (stage_after Begin r) m' ≡ from_on (m.history ++ BeginEntry (next_generation m.history) ∷ []) 1 / max + 2 =
    ap (λ o. events_left max o m') (ap (stage_after Begin) e) ∙ (λ i. from_on (tells.1 i) (unwrap_or (next i) 0) / max + 2) in
    let first : from_on (m.history ++ BeginEntry (next_generation m.history) ∷ []) 1 ≡ length (created m.history) =
    omega (arith, ap length (same_created m.history (BeginEntry (next_generation m.history)) refl)) in
    omega (arith, is, ap (λ k. k / max) first)

activate_left : (max : ℕ) (r : Reply) (m m' : State) (x : Executed) → r ≡ reply_of (Ok x) (last_entry m'.history) → events_left max (stage_after Activate r) m' < events_left max (Some Activate) m
activate_left max r m m' executed.Torn e = ended max Activate r m m' (ap (stage_after Activate) e)
activate_left max r m m' executed.Done e = ended max Activate r m m' (ap (stage_after Activate) e)

-- what was not refused
done : (max cpu : ℕ) (s : Stage) (r : Reply) (m m' : State) → 0 < max → Does m (stage_event cpu max s) r m' → events_left max (stage_after s r) m' < events_left max (Some s) m
done max cpu Crash r m m' some x = crash_left max r m m' x.0 x.1
done max cpu Begin r m m' some x = begin_left max r m m' x.executed x.reply (ap (λ (s : State). page_of s.agent) x.others) x.tells
done max cpu Page r m m' some x =
    subst (λ z. events_left max (stage_after Page z) m' < events_left max (Some Page) m) (sym x.reply)
    (after_page max (length (next_dump m max).records) m m' (next_dump m max).next (page_spelling (next_dump m max)) some refl x.page (ap (λ (s : State). s.history) x.others))
done max cpu Activate r m m' some x = activate_left max r m m' x.executed x.reply

short_is : (cpu max : ℕ) (s : Stage) (r : Reply) → IsShort {P = Plan} (stage_event cpu max s) r → r ≡ replies.Refused OutOfMemory
short_is cpu max Crash r x = x
short_is cpu max Begin r x = x
short_is cpu max Page r x = x
short_is cpu max Activate r x = x

served : (max cpu : ℕ) (s : Stage) (r : Reply) (m m' : State) (o : Option Refusal) → 0 < max → Serves o m (stage_event cpu max s) r m'
    → events_left max (stage_after s r) m' < events_left max (Some s) m
served max cpu s r m m' (Some f) some x = refused max s f r m m' x.0
served max cpu s r m m' None some (inl x) = done max cpu s r m m' some x
served max cpu s r m m' None some (inr x) = refused max s OutOfMemory r m m' (short_is cpu max s r x.0)

-- each event leaves fewer
pub fewer_left : (max cpu : ℕ) (s : Stage) (r : Reply) (m m' : State) → 0 < max → Step m (stage_event cpu max s) r m'
    → events_left max (stage_after s r) m' < events_left max (Some s) m
fewer_left max cpu s r m m' some x = served max cpu s r m m' (refusal m (stage_event cpu max s)) some x
