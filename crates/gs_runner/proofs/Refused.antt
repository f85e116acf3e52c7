-- Calls that are refused, and pages.
use Rattle.std.proofs.Common.{◌≡◌, ℕ, ◌<◌, Bool, true, false, nat_le, Option, None, Some, Err, List, refl, ap, sym, subst, ◌∙◌, unwrap_or, arith}
use Rattle.std.specs.Prelude.{◌||◌, is_none, length}
use Rattle.std.proofs.lemmas.Bool.Decides.{nat_tests}
use Rattle.gs_layout.specs.declared.refusal.Refusal.{Refusal}
use Rattle.gs_layout.specs.declared.refusal.Refusal.TheVariants as refusals
use Rattle.gs_slots.specs.Reading.{state_in}
use Rattle.gs_dump.specs.Page.{Contents, page_spelling}
use Rattle.gs_journal.specs.History.{History, posted, torn}
use Rattle.gs_link.specs.declared.poster.RtrbPoster.{RtrbPoster}
use Rattle.gs_link.specs.Between.{Posted, SameEnd, SameEnd-refl}
use Rattle.gs_kernel.specs.declared.settings.Settings.{Settings}
use Rattle.gs_kernel.specs.Dumped.{dumped, paged_after}
use Rattle.gs_kernel.specs.Kernel.{IsRefusal, KernelOf}
use Rattle.gs_kernel.specs.Legal.{Room}
use Rattle.gs_kernel.proofs.Laws.{first_passed}
use Rattle.gs_replies.specs.declared.reply.Reply.{Reply}
use Rattle.gs_replies.specs.declared.reply.Reply.TheVariants as replies
use Rattle.gs_replies.specs.Replies.{page_reply}
use Rattle.gs_runner.specs.declared.call.Called.TheVariants.{Served}
use Rattle.gs_runner.specs.declared.command.Command.{Command}
use Rattle.gs_runner.specs.declared.command.Command.TheVariants as commands
use Rattle.gs_runner.specs.Calls.{LegalCall, LegalPage, ThreadRoom, call_page_refusal, call_refusal, given_by, is_refused, is_settled, land_refusal, named_cpu, standing_land_refusal}
use Rattle.gs_runner.specs.Told.{IsTold, parcels_of}

pub refused_call : (room : Room) (s : Settings) (h : History) (given : Bool) (c : Command) (r : Refusal) → IsRefusal (call_refusal s h given c) r → LegalCall room s h given (Served c) (replies.Refused r) h
refused_call room s h given (commands.Kernel c) r is = (Err r, refl, (is, refl))
refused_call room s h given commands.Crash r is = (Err r, refl, (is, refl))
refused_call room s h given (commands.Page from max) r is = (is, refl)
refused_call room s h given (commands.Land bytes) r is = (is, refl)

is_first : (o : Option Refusal) → IsRefusal o (unwrap_or o refusals.OutOfMemory)
is_first None = refl
is_first (Some r) = refl

pub short_call : (parcels : ℕ) (s : Settings) (h : History) (given : Bool) (c : Command) (o : Option Refusal) (r : Refusal) → o ≡ call_refusal s h given c → r ≡ unwrap_or o refusals.OutOfMemory → LegalCall (ThreadRoom parcels) s h given (Served c) (replies.Refused r) h
short_call parcels s h given c o r is value = refused_call (ThreadRoom parcels) s h given c r (subst (λ (x : Refusal). IsRefusal (call_refusal s h given c) x) (sym value) (subst (λ (p : Option Refusal). IsRefusal p (unwrap_or o refusals.OutOfMemory)) is (is_first o)))

pub told_refused : (a b : KernelOf RtrbPoster) (c : Command) (r : Refusal) → IsRefusal (call_refusal a.settings a.history a.paged c) r → b ≡ a → Posted a.poster (posted a.history) → IsTold a (Served c) (replies.Refused r) b
told_refused a b c r is same sent = record {
  legal = subst (λ (k : KernelOf RtrbPoster). LegalCall (ThreadRoom (parcels_of a)) a.settings a.history a.paged (Served c) (replies.Refused r) k.history) (sym same) (refused_call (ThreadRoom (parcels_of a)) a.settings a.history a.paged c r is);
  refused = λ e. record { history = ap (λ (k : KernelOf RtrbPoster). k.history) same; pages = ap (λ (k : KernelOf RtrbPoster). k.paged) same };
  ring = subst (λ (k : KernelOf RtrbPoster). SameEnd a.poster k.poster) (sym same) (SameEnd-refl a.poster);
  sent = subst (λ (k : KernelOf RtrbPoster). Posted k.poster (posted k.history)) (sym same) sent;
  settings = ap (λ (k : KernelOf RtrbPoster). k.settings) same;
  pages = ap (λ (k : KernelOf RtrbPoster). k.paged) same;
}

given_page : (p : Contents) (given : Bool) → paged_after p given ≡ given_by (page_reply p) given
given_page p given = by_next p.next given
  where
    by_next : (o : Option ℕ) (g : Bool) → (is_none o || g) ≡ given_by (replies.Page (length p.records) o (page_spelling p)) g
    by_next None g = refl
    by_next (Some n) g = refl

pub told_page : (a b : KernelOf RtrbPoster) (from max : ℕ) (p : Contents) (r : Reply) → call_page_refusal a.history a.paged ≡ None → p ≡ dumped a.settings a.history from max → r ≡ page_reply p
    → b ≡ record a { paged = paged_after p a.paged } → Posted b.poster (posted b.history) → IsTold a (Served (commands.Page from max)) r b
told_page a b from max p r free is reply same sent =
    let history : b.history ≡ a.history = ap (λ (k : KernelOf RtrbPoster). k.history) same in
    let legal : LegalPage a.settings a.history a.paged from max (page_reply p) b.history = (free, ap page_reply is, history) in
    record {
      legal = subst (λ (x : Reply). LegalPage a.settings a.history a.paged from max x b.history) (sym reply) legal;
      refused = λ e. absurd (not_refused (ap is_refused (sym reply) ∙ e));
      ring = subst (λ (k : KernelOf RtrbPoster). SameEnd a.poster k.poster) (sym same) (SameEnd-refl a.poster);
      sent = sent;
      settings = ap (λ (k : KernelOf RtrbPoster). k.settings) same;
      pages = ap (λ (k : KernelOf RtrbPoster). k.paged) same ∙ (given_page p a.paged ∙ ap (λ (x : Reply). given_by x a.paged) (sym reply));
    }
  where
    not_refused : false ≡ true → ⊥
    not_refused e = absurd cc

-- bytes land unless that is refused
below : (m n : ℕ) → nat_le m n ≡ false → n < m
below m n e = grind (arith, nat_tests)

pub lands_when : (s : Settings) (h : History) (bytes : List ℕ) → land_refusal s h bytes ≡ None → (named_cpu bytes < s.cpus) × (is_settled (state_in (named_cpu bytes) bytes) ≡ false)
unfolding standing_land_refusal
lands_when s h bytes e =
    let p1 = first_passed (torn h) refusals.Gone _ e in
    let p2 = first_passed (nat_le s.cpus (named_cpu bytes)) refusals.BadCpu _ p1.1 in
    let p3 = first_passed (is_settled (state_in (named_cpu bytes) bytes)) refusals.NoSuchTransaction None p2.1 in
    (below s.cpus (named_cpu bytes) p2.0, p3.0)
