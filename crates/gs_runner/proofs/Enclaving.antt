-- What a call under the lock keeps.
use Rattle.std.proofs.Common.{◌≡◌, ℕ, ◌+◌, ◌≤◌, Bool, false, true≢false, Ok, List, [], ◌∷◌, ◌++◌, length, refl, ap, sym, subst, ◌∙◌, arith, append-nil, length-append, unwrap_or}
use Rattle.std.specs.Prelude.{option_map}
use Rattle.gs_board.specs.declared.rule.Words.{Words}
use Rattle.gs_board.specs.Words.{EndsIn, MayFollow}
use Rattle.gs_board.specs.declared.words.TheConstants.{NOBODY}
use Rattle.gs_layout.specs.declared.message.Message.{Message}
use Rattle.gs_layout.specs.declared.refusal.Refusal.{Refusal}
use Rattle.gs_link.specs.declared.poster.RtrbPoster.{RtrbPoster}
use Rattle.gs_link.specs.Between.{SameEnd}
use Rattle.gs_kernel.specs.declared.settings.Settings.{Settings}
use Rattle.gs_kernel.specs.Kernel.{KernelOf}
use Rattle.gs_kernel.specs.declared.executed.Executed.{Executed}
use Rattle.gs_kernel.specs.declared.executed.Executed.TheVariants as executed
use Rattle.gs_journal.specs.declared.entry.Entry.{Entry}
use Rattle.gs_journal.specs.declared.entry.Entry.TheVariants.{Posted}
use Rattle.gs_journal.specs.History.{History}
use Rattle.gs_kernel.proofs.Laws.{beside_posted}
use Rattle.gs_replies.specs.declared.reply.Reply.{Reply}
use Rattle.gs_replies.specs.declared.reply.Reply.TheVariants as replies
use Rattle.gs_replies.specs.Replies.{reply_of}
use Rattle.gs_runner.specs.declared.command.Command.{Command}
use Rattle.gs_runner.specs.declared.call.Called.{Called}
use Rattle.gs_runner.specs.declared.call.Called.TheVariants.{Served}
use Rattle.gs_runner.specs.declared.call.Call.{Call}
use Rattle.gs_runner.specs.declared.call.Receipt.{Receipt}
use Rattle.gs_runner.specs.Calls.{GoesOnBy, IsCall, IsLegalHistory, LegalCall, ThreadRoom, given_by, is_refused}
use Rattle.gs_runner.specs.Told.{IsTold, parcels_of}
use Rattle.gs_runner.specs.Serving.{Serves}
use Rattle.gs_runner.specs.Enclaves.{EnclaveOf, IsEnclave, IsShown, enclave_of, generation_number, role_of}
use Rattle.gs_runner.specs.Quiet.{PostsOne}
use Rattle.gs_runner.proofs.Callings.{leads_more}
use Rattle.gs_runner.proofs.Generations.{quiet}
use Rattle.gs_runner.proofs.Growths.{GoesOn, call_goes, goes_longer}

pub accepted : (r : Reply) → ((x : Refusal) → r ≡ replies.Refused x → ⊥) → is_refused r ≡ false
accepted (replies.Refused x) n = absurd (n x refl)
accepted replies.Torn n = refl
accepted (replies.Done e) n = refl
accepted replies.Crashed n = refl
accepted (replies.Page a b c) n = refl
accepted (replies.Drained d) n = refl
accepted (replies.Stamped k) n = refl
accepted (replies.Decided a b) n = refl
accepted (replies.Landed a b) n = refl
accepted (replies.Late a b c) n = refl
accepted (replies.View a) n = refl
accepted (replies.State a) n = refl
accepted (replies.Unread a) n = refl

-- a call is appended as it was given, with the reply that its receipt has
pub same_call : (before calls : List Call) (c d : Called) (at more : ℕ) (again r : Reply) → before ≡ calls → c ≡ d → again ≡ r
    → before ++ record { called = c; at = at; entries = more; reply = again } ∷ [] ≡ calls ++ record { called = d; at = at; entries = more; reply = r } ∷ []
same_call before calls c d at more again r e f k = λ i. e i ++ record { called = f i; at = at; entries = more; reply = k i } ∷ []

pub told_goes : (a b : KernelOf RtrbPoster) (c : Called) (r : Reply) → IsTold a c r b → GoesOn a.history b.history
told_goes a b c r t = call_goes (ThreadRoom (parcels_of a)) a.settings a.history a.paged c r b.history t.legal

pub told_longer : (a b : KernelOf RtrbPoster) (c : Called) (r : Reply) → IsTold a c r b → length a.history ≤ length b.history
told_longer a b c r t = goes_longer a.history b.history (told_goes a b c r t)

-- by as many entries as it is longer
pub told_on : (a b : KernelOf RtrbPoster) (c : Called) (r : Reply) (at more : ℕ) → IsTold a c r b → at ≡ length a.history → length b.history ≡ at + more → GoesOnBy more a.history b.history
told_on a b c r at more t is longer =
    let g = told_goes a b c r t in
    let n = ap length g.all ∙ length-append a.history g.more in
    (g.more, g.all, omega (arith, n, is, longer))

-- the generation that is published next is not below the last
pub may_publish : (a b : KernelOf RtrbPoster) (c : Called) (r : Reply) (published : Words) → IsTold a c r b → IsShown published a.history → MayFollow published.roles (generation_number b.history)
may_publish a b c r published t shown = (role_of a.history, shown.role, (told_goes a b c r t).rises)

-- behind a message alone the board still shows what is so
pub shown_posted : (w : Words) (h h' : History) → PostsOne h h' → IsShown w h → IsShown w h'
shown_posted w h h' p shown =
    let m : Message = p.0 in
    let beside = beside_posted h m in
    let number : generation_number (h ++ Posted m ∷ []) ≡ generation_number h = quiet h (Posted m) refl in
    let role : role_of (h ++ Posted m ∷ []) ≡ role_of h = λ i. (number i, unwrap_or (option_map (λ (a : ℕ × ℕ). a.1) (beside.active i)) NOBODY) in
    let after : IsShown w (h ++ Posted m ∷ []) = record {
      role = subst (EndsIn w.roles) (sym role) shown.role;
      mask = shown.mask;
      low = shown.low;
      high = shown.high;
      holds = λ c. shown.holds c ∙ sym (beside.taken c);
    } in
    subst (IsShown w) (sym p.1) after

-- what is kept whenever the lock is got, is kept by an accepted call
pub told_kept : (is_ring : RtrbPoster → Type 0) (parcels parts : ℕ) (a b : KernelOf RtrbPoster) (calls calls' : List Call) (total total' : ℕ) (published published' : Words) (c : Call)
    → ((p q : RtrbPoster) → is_ring p → SameEnd p q → is_ring q)
    → IsEnclave is_ring parcels parts a (enclave_of a calls total published) → IsTold a c.called c.reply b → is_refused c.reply ≡ false → c.at ≡ length a.history → length b.history ≡ c.at + c.entries → calls' ≡ calls ++ c ∷ [] → total' ≡ total + 1
    → IsShown published' b.history → IsEnclave is_ring parcels parts b (enclave_of b calls' total' published')
told_kept is_ring parcels parts a b calls calls' total total' published published' c stays i t ok at longer is counts shown =
    let call : IsCall parcels a.settings a.history a.paged c b.history = record {
      legal = subst (λ (n : ℕ). LegalCall (ThreadRoom n) a.settings a.history a.paged c.called c.reply b.history) i.capacity t.legal;
      at = at;
      entries = told_on a b c.called c.reply c.at c.entries t at longer;
      accepted = ok;
    } in
    let lead : IsLegalHistory parcels a.settings (calls ++ c ∷ []) b.history (given_by c.reply a.paged) = leads_more parcels a.settings _ false calls a.history a.paged c b.history i.kept.legal call in
    record {
      kept = record {
        legal = subst (λ (s : Settings). IsLegalHistory parcels s calls' b.history b.paged) (sym t.settings)
            (subst (λ (g : Bool). IsLegalHistory parcels a.settings calls' b.history g) (sym t.pages) (subst (λ (l : List Call). IsLegalHistory parcels a.settings l b.history (given_by c.reply a.paged)) (sym is) lead));
        counted = omega (arith, counts, i.kept.counted, ap length is, length-append calls (c ∷ []));
        shown = shown;
      };
      sent = t.sent;
      ring = stays a.poster b.poster i.ring t.ring;
      capacity = t.ring.1 ∙ i.capacity;
      whole = i.whole;
    }

-- ---- what a command comes to

-- it was refused, and all is as it was
pub serves_refused : (parcels : ℕ) (c : Command) (a b : EnclaveOf) (n : ℕ) (r : Receipt) (x : Refusal) → r ≡ record { at = length a.history; entries = 0; reply = replies.Refused x } → b ≡ a
    → LegalCall (ThreadRoom parcels) a.settings a.history a.given (Served c) (replies.Refused x) a.history → Serves parcels c a n r b n
serves_refused parcels c a b n r x is same legal =
    let served : Serves parcels c a n (record { at = length a.history; entries = 0; reply = replies.Refused x }) a n = record {
      legal = legal;
      at = refl;
      entries = ([], sym (append-nil a.history), refl);
      accepted = λ e. absurd (true≢false e);
      counted = λ e. absurd (true≢false e);
      refused = λ e. (refl, refl);
      settings = refl;
    } in
    subst (λ (s : Receipt). Serves parcels c a n s b n) (sym is) (subst (λ (e : EnclaveOf). Serves parcels c a n (record { at = length a.history; entries = 0; reply = replies.Refused x }) e n) (sym same) served)

-- it was accepted, and stands in the list
pub serves_accepted : (parcels : ℕ) (a b : KernelOf RtrbPoster) (c : Command) (r : Reply) (calls calls' : List Call) (total total' n n' at more : ℕ) (published published' : Words)
    → parcels_of a ≡ parcels → IsTold a (Served c) r b → is_refused r ≡ false → at ≡ length a.history → length b.history ≡ at + more → calls' ≡ calls ++ record { called = Served c; at = at; entries = more; reply = r } ∷ [] → total' ≡ total + 1 → n' ≡ n + 1
    → Serves parcels c (enclave_of a calls total published) n (record { at = at; entries = more; reply = r }) (enclave_of b calls' total' published') n'
serves_accepted parcels a b c r calls calls' total total' n n' at more published published' capacity t ok is longer items counts shares = record {
  legal = subst (λ (m : ℕ). LegalCall (ThreadRoom m) a.settings a.history a.paged (Served c) r b.history) capacity t.legal;
  at = is;
  entries = told_on a b (Served c) r at more t is longer;
  accepted = λ _. items;
  counted = λ _. (shares, counts);
  refused = λ yes. absurd (true≢false (sym yes ∙ ok));
  settings = t.settings;
}

-- a command that was not refused
pub executed_accepted : (x : Executed) (e : Entry) → is_refused (reply_of (Ok x) e) ≡ false
executed_accepted executed.Torn e = refl
executed_accepted executed.Done e = refl
