-- What the kernel's calls make of it, as calls of a locked enclave.
use Rattle.std.proofs.Common.{◌≡◌, Bool, true, Result, Ok, Err, OnErr, refl, ap, sym, ◌∙◌}
use Rattle.std.proofs.lemmas.Bool.{false≢true}
use Rattle.gs_journal.specs.declared.entry.Entry.{Entry}
use Rattle.gs_journal.specs.History.{History}
use Rattle.gs_layout.specs.declared.refusal.Refusal.{Refusal}
use Rattle.gs_link.specs.declared.poster.RtrbPoster.{RtrbPoster}
use Rattle.gs_link.specs.Between.{IsTight, Posted, SameEnd}
use Rattle.gs_kernel.specs.declared.executed.Executed.{Executed}
use Rattle.gs_kernel.specs.declared.executed.Executed.TheVariants.{Done, Torn}
use Rattle.gs_kernel.specs.declared.command.Command.{Command}
use Rattle.gs_kernel.specs.declared.command.Command.TheVariants as told
use Rattle.gs_kernel.specs.declared.settings.Settings.{Settings}
use Rattle.gs_kernel.specs.Kernel.{KernelOf, last_entry}
use Rattle.gs_kernel.specs.Legal.{IsServed, Legal, Room, effect, last_in, paged_by}
use Rattle.gs_kernel.proofs.Laws.{last_told}
use Rattle.gs_replies.specs.Replies.{reply_of}
use Rattle.gs_runner.specs.declared.call.Called.TheVariants.{Served}
use Rattle.gs_runner.specs.declared.command.Command.TheVariants as commands
use Rattle.gs_runner.specs.Calls.{ThreadRoom, given_by, is_refused}
use Rattle.gs_runner.specs.Told.{IsTold, SameSeen, parcels_of}
use Rattle.gs_runner.proofs.Rooms.{EndRoom, legal_map, thread_room}

abbrev pub HasServed : KernelOf RtrbPoster → Command → Result Executed Refusal → KernelOf RtrbPoster → Type 0
HasServed a c r b = IsServed SameEnd (λ (q : RtrbPoster). 0) Posted IsTight a c r b

-- whether the last page was given, as the last entry of what was done says it
given_done : (s : Settings) (h : History) (c : Command) (p : Bool) → paged_by (Ok Done) c p ≡ given_by (reply_of (Ok Done) (last_in (effect s h c))) p
given_done s h (told.Create f) p = refl
given_done s h (told.Thread t e) p = refl
given_done s h (told.Take c) p = refl
given_done s h (told.Give c) p = refl
given_done s h (told.Tick c) p = refl
given_done s h (told.HandOff c) p = refl
given_done s h told.Leave p = refl
given_done s h told.Begin p = refl
given_done s h (told.Activate c) p = refl

given_of : (room : Room) (s : Settings) (h h' : History) (given : Bool) (c : Command) (r : Result Executed Refusal) (p : Bool) → Legal room s h given c r h' → paged_by r c p ≡ given_by (reply_of r (last_entry h')) p
given_of room s h h' given c (Err f) p l = refl
given_of room s h h' given c (Ok Torn) p l = refl
given_of room s h h' given c (Ok Done) p l = given_done s h c p ∙ ap (λ (e : Entry). given_by (reply_of (Ok Done) e) p) (sym (ap last_entry l.tells.1 ∙ last_told h (effect s h c)))

seen : (a b : KernelOf RtrbPoster) → b ≡ record a { rows = b.rows } → SameSeen a b
seen a b e = record { history = ap (λ (k : KernelOf RtrbPoster). k.history) e; pages = ap (λ (k : KernelOf RtrbPoster). k.paged) e }

seen_refused : (a b : KernelOf RtrbPoster) (e : Entry) (r : Result Executed Refusal) → OnErr r (b ≡ record a { rows = b.rows }) → is_refused (reply_of r e) ≡ true → SameSeen a b
seen_refused a b e (Err f) same is = seen a b same
seen_refused a b e (Ok Torn) same is = absurd (false≢true is)
seen_refused a b e (Ok Done) same is = absurd (false≢true is)

pub told_executed : (a b : KernelOf RtrbPoster) (c : Command) (r : Result Executed Refusal) → HasServed a c r b → IsTold a (Served (commands.Kernel c)) (reply_of r (last_entry b.history)) b
told_executed a b c r t = record {
  legal = (r, refl, legal_map (EndRoom a.poster) (ThreadRoom (parcels_of a)) a.settings a.history a.paged c r b.history (thread_room a.poster) t.legal);
  refused = seen_refused a b (last_entry b.history) r t.refused;
  ring = t.frame.ring;
  sent = t.frame.told;
  settings = t.frame.settings;
  pages = t.frame.pages ∙ given_of (EndRoom a.poster) a.settings a.history b.history a.paged c r a.paged t.legal;
}
