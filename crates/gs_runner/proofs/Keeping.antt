-- The calls as they are kept, behind one call more.
use Rattle.std.proofs.Common.{◌≡◌, ℕ, ◌+◌, ◌≤◌, true, List, [], ◌∷◌, ◌++◌, Option, Result, Ok, Err, length, refl, ap, sym, subst, ◌∙◌, arith}
use Rattle.std.proofs.lemmas.Bool.{false≢true}
use Rattle.std.proofs.lemmas.List.{map-append, take-append-le}
use Rattle.std.proofs.lemmas.List.Elements.{All-head, All-tail, All-weaker}
use Rattle.std.proofs.Math.ListN.{get_or-append}
use Rattle.std.proofs.Math.Seq.{get_or-append_seam}
use Rattle.gs_board.specs.declared.rule.Words.{Words}
use Rattle.gs_layout.specs.declared.message.Message.{Message}
use Rattle.gs_layout.specs.declared.message.Message.TheVariants.{TimerTick}
use Rattle.gs_journal.specs.declared.entry.Entry.{Entry}
use Rattle.gs_journal.specs.declared.entry.Entry.TheVariants.{Posted}
use Rattle.gs_journal.specs.History.{History, at}
use Rattle.gs_kernel.specs.declared.settings.Settings.{Settings}
use Rattle.gs_kernel.specs.declared.thread_event.ThreadEvent.{ThreadEvent}
use Rattle.gs_kernel.specs.declared.thread_event.ThreadEvent.TheVariants as events
use Rattle.gs_kernel.specs.declared.command.Command.{Command}
use Rattle.gs_kernel.specs.declared.command.Command.TheVariants as told
use Rattle.gs_kernel.specs.declared.executed.Executed.{Executed}
use Rattle.gs_kernel.specs.declared.executed.Executed.TheVariants as executed
use Rattle.gs_kernel.specs.Kernel.{KernelOf, change_by, creation, happening, last_entry}
use Rattle.gs_kernel.proofs.Laws.{last_told}
use Rattle.gs_layout.specs.declared.refusal.Refusal.{Refusal}
use Rattle.gs_kernel.specs.Legal.{effect, entries_in, last_in}
use Rattle.gs_link.specs.declared.poster.RtrbPoster.{RtrbPoster}
use Rattle.gs_replies.specs.declared.reply.Reply.{Reply}
use Rattle.gs_runner.specs.declared.call.Call.{Call}
use Rattle.gs_runner.specs.declared.call.Called.{Called}
use Rattle.gs_runner.specs.declared.kept.Kept.{Kept}
use Rattle.gs_runner.specs.declared.kept.Kept.TheVariants as kept
use Rattle.gs_runner.specs.Kept.{AllWithin, IsWithin, call_kept, calls_kept, command_by, command_by_change, done_call, entry_before, is_told_by_entry, no_call, told_call}
use Rattle.gs_runner.specs.Enclaves.{enclave_of}
use Rattle.gs_runner.specs.Quiet.{PostsOne, posts_alone}
use Rattle.gs_runner.specs.Told.{IsTold}
use Rattle.gs_runner.proofs.Enclaving.{told_goes, told_longer}
use Rattle.gs_runner.proofs.Tellings.{HasServed}

-- what the kernel was told follows from the last entry that it added
told_change : (t : ℕ) (there : Option ℕ) (e : ThreadEvent) → command_by_change t (change_by there e) ≡ told.Thread t e
told_change t there events.Block = refl
told_change t there events.Wake = refl
told_change t there events.Yield = refl
told_change t there events.Die = refl
told_change t there (events.Affinity m) = refl

told_follows : (s : Settings) (h : History) (c : Command) → is_told_by_entry c ≡ true → command_by (last_in (effect s h c)) ≡ c
told_follows s h (told.Create f) e = refl
told_follows s h (told.Thread t x) e = told_change t (at s.cpus h t) x
told_follows s h (told.Take c) e = refl
told_follows s h (told.Give c) e = refl
told_follows s h (told.Tick c) e = refl
told_follows s h (told.HandOff c) e = refl
told_follows s h told.Leave e = refl
told_follows s h told.Begin e = refl
told_follows s h (told.Activate c) e = absurd (false≢true e)

pub executed_follows : (a b : KernelOf RtrbPoster) (c : Command) (r : Result Executed Refusal) → HasServed a c r b → r ≡ Ok executed.Done → is_told_by_entry c ≡ true → command_by (last_entry b.history) ≡ c
executed_follows a b c (Err f) t e k = absurd cc
executed_follows a b c (Ok executed.Torn) t e k = absurd cc
executed_follows a b c (Ok executed.Done) t e k = ap command_by (ap last_entry t.legal.tells.1 ∙ last_told a.history (effect a.settings a.history c)) ∙ told_follows a.settings a.history c k

-- what posts a message alone
posts_one : (s : Settings) (h : History) (c : Command) → posts_alone c ≡ true → (m : Message) × (entries_in (effect s h c) ≡ Posted m ∷ [])
posts_one s h (told.Create f) e = (creation s.first_tseq h f, refl)
posts_one s h (told.Thread t x) e = (happening s h t x, refl)
posts_one s h (told.Tick c) e = (TimerTick c, refl)
posts_one s h (told.Take c) e = absurd (false≢true e)
posts_one s h (told.Give c) e = absurd (false≢true e)
posts_one s h (told.HandOff c) e = absurd (false≢true e)
posts_one s h told.Leave e = absurd (false≢true e)
posts_one s h told.Begin e = absurd (false≢true e)
posts_one s h (told.Activate c) e = absurd (false≢true e)

pub executed_quiet : (a b : KernelOf RtrbPoster) (c : Command) (r : Result Executed Refusal) → HasServed a c r b → r ≡ Ok executed.Done → posts_alone c ≡ true → PostsOne a.history b.history
executed_quiet a b c (Err f) t e k = absurd cc
executed_quiet a b c (Ok executed.Torn) t e k = absurd cc
executed_quiet a b c (Ok executed.Done) t e k = let one = posts_one a.settings a.history c k in (one.0, t.legal.tells.1 ∙ ap (λ (l : History). a.history ++ l) one.1)

-- a call stays what it was as the history goes on, and as others are appended
kept_on : (h more : History) (o : List Call) (k : Kept) (m : ℕ) → IsWithin (length h) m k → call_kept (h ++ more) o k ≡ call_kept h o k
kept_on h more o (kept.Told at end) m w = ap (λ (l : History). done_call (last_entry l) at end) (take-append-le end h more w.1)
kept_on h more o (kept.Other i) m w = refl

pub calls_on : (h more : History) (o : List Call) (ks : List Kept) (m : ℕ) → AllWithin (length h) m ks → calls_kept (h ++ more) o ks ≡ calls_kept h o ks
calls_on h more o [] m w = refl
calls_on h more o (k ∷ ks) m w =
    let first : call_kept (h ++ more) o k ≡ call_kept h o k = kept_on h more o k m (All-head (IsWithin (length h) m) k ks w) in
    let later : calls_kept (h ++ more) o ks ≡ calls_kept h o ks = calls_on h more o ks m (All-tail (IsWithin (length h) m) k ks w) in
    λ i. first i ∷ later i

kept_beside : (h : History) (o x : List Call) (k : Kept) (n : ℕ) → IsWithin n (length o) k → call_kept h (o ++ x) k ≡ call_kept h o k
kept_beside h o x (kept.Told at end) n w = refl
kept_beside h o x (kept.Other i) n w = get_or-append o x no_call i w

calls_beside : (h : History) (o x : List Call) (ks : List Kept) (n : ℕ) → AllWithin n (length o) ks → calls_kept h (o ++ x) ks ≡ calls_kept h o ks
calls_beside h o x [] n w = refl
calls_beside h o x (k ∷ ks) n w =
    let first : call_kept h (o ++ x) k ≡ call_kept h o k = kept_beside h o x k n (All-head (IsWithin n (length o)) k ks w) in
    let later : calls_kept h (o ++ x) ks ≡ calls_kept h o ks = calls_beside h o x ks n (All-tail (IsWithin n (length o)) k ks w) in
    λ i. first i ∷ later i

-- any other call is appended
pub other_pushed : (h : History) (o : List Call) (ks : List Kept) (c : Call) (n : ℕ) → AllWithin n (length o) ks → calls_kept h (o ++ c ∷ []) (ks ++ kept.Other (length o) ∷ []) ≡ calls_kept h o ks ++ c ∷ []
other_pushed h o ks c n w =
    let all : calls_kept h (o ++ c ∷ []) (ks ++ kept.Other (length o) ∷ []) ≡ calls_kept h (o ++ c ∷ []) ks ++ call_kept h (o ++ c ∷ []) (kept.Other (length o)) ∷ [] = map-append (call_kept h (o ++ c ∷ [])) ks (kept.Other (length o) ∷ []) in
    let before : calls_kept h (o ++ c ∷ []) ks ≡ calls_kept h o ks = calls_beside h o (c ∷ []) ks n w in
    let last : call_kept h (o ++ c ∷ []) (kept.Other (length o)) ≡ c = get_or-append_seam o c [] no_call in
    all ∙ (λ i. before i ++ last i ∷ [])

within_more : (n m n' m' : ℕ) (k : Kept) → n ≤ n' → m ≤ m' → IsWithin n m k → IsWithin n' m' k
within_more n m n' m' (kept.Told at end) p q w = (w.0, omega (arith, p, w.1))
within_more n m n' m' (kept.Other i) p q w = omega (arith, q, w)

pub all_within_more : (n m n' m' : ℕ) (ks : List Kept) → n ≤ n' → m ≤ m' → AllWithin n m ks → AllWithin n' m' ks
all_within_more n m n' m' ks p q w = All-weaker (IsWithin n m) (IsWithin n' m') (λ k x. within_more n m n' m' k p q x) ks w

-- behind a call, and with room for one more, what was kept shows the calls that it showed before
pub calls_then : (a b : KernelOf RtrbPoster) (c : Called) (r : Reply) (o o' : List Call) (ks ks' : List Kept) → IsTold a c r b → o' ≡ o → ks' ≡ ks → AllWithin (length a.history) (length o) ks → calls_kept b.history o' ks' ≡ calls_kept a.history o ks
calls_then a b c r o o' ks ks' t p q w =
    let g = told_goes a b c r t in
    let same : calls_kept b.history o' ks' ≡ calls_kept b.history o ks = λ i. calls_kept b.history (p i) (q i) in
    same ∙ (ap (λ (h : History). calls_kept h o ks) g.all ∙ calls_on a.history g.more o ks (length o) w)

pub within_then : (a b : KernelOf RtrbPoster) (c : Called) (r : Reply) (o o' : List Call) (ks ks' : List Kept) → IsTold a c r b → o' ≡ o → ks' ≡ ks → AllWithin (length a.history) (length o) ks → AllWithin (length b.history) (length o') ks'
within_then a b c r o o' ks ks' t p q w =
    let more : AllWithin (length b.history) (length o) ks = all_within_more (length a.history) (length o) (length b.history) (length o) ks (told_longer a b c r t) (omega arith) w in
    subst (λ (x : List Kept). AllWithin (length b.history) (length o') x) (sym q) (subst (λ (x : List Call). AllWithin (length b.history) (length x) ks) (sym p) more)

-- with room for one call more an enclave is seen as before
pub roomier : (k : KernelOf RtrbPoster) (o o' : List Call) (ks ks' : List Kept) (total : ℕ) (published : Words) → o' ≡ o → ks' ≡ ks → enclave_of k (calls_kept k.history o' ks') total published ≡ enclave_of k (calls_kept k.history o ks) total published
roomier k o o' ks ks' total published p q = λ i. enclave_of k (calls_kept k.history (p i) (q i)) total published
