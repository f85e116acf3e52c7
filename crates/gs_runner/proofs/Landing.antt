-- Bytes that landed.
use Rattle.std.proofs.Common.{◌≡◌, ℕ, Bool, true, false, Option, None, Some, List, [], ◌∷◌, refl, ap, sym, subst, ◌∙◌}
use Rattle.gs_journal.specs.History.{History, torn}
use Rattle.gs_link.specs.declared.poster.RtrbPoster.{RtrbPoster}
use Rattle.gs_link.specs.Between.{Posted, SameEnd, room}
use Rattle.gs_kernel.specs.declared.settings.Settings.{Settings}
use Rattle.gs_kernel.specs.declared.landing.Landing.{Landing}
use Rattle.gs_kernel.specs.Kernel.{KernelOf}
use Rattle.gs_kernel.specs.Lands.{LandsBytes}
use Rattle.gs_kernel.specs.Legal.{Frame}
use Rattle.gs_kernel.proofs.Laws.{bytes_map}
use Rattle.gs_replies.specs.declared.reply.Reply.{Reply}
use Rattle.gs_replies.specs.declared.reply.Reply.TheVariants as replies
use Rattle.gs_runner.specs.declared.call.Called.TheVariants.{Served}
use Rattle.gs_runner.specs.declared.command.Command.TheVariants as commands
use Rattle.gs_runner.specs.Calls.{LandsNamed, LegalLand, ThreadRoom, given_by, is_refused, land_refusal, named_cpu}
use Rattle.gs_runner.specs.Told.{IsTold, parcels_of}
use Rattle.gs_runner.proofs.Rooms.{EndRoom, thread_room}

pub one_landed : (p : RtrbPoster) (s : Settings) (h : History) (k : ℕ) (b bytes b' : List ℕ) (o : Option Landing) (l : Landing) (h' : History) → k ≡ named_cpu bytes → b ≡ bytes → LandsBytes (EndRoom p) s h k b o b' h' → o ≡ Some l
    → LandsNamed (ThreadRoom (room p)) s h bytes l h'
one_landed p s h k b bytes b' o l h' cpu same t is =
    let one : LandsBytes (EndRoom p) s h k b (Some l) b' h' = subst (λ (x : Option Landing). LandsBytes (EndRoom p) s h k b x b' h') is t in
    let there : LandsBytes (EndRoom p) s h (named_cpu bytes) bytes (Some l) b' h' =
    subst (λ (m : ℕ). LandsBytes (EndRoom p) s h m bytes (Some l) b' h') cpu (subst (λ (x : List ℕ). LandsBytes (EndRoom p) s h k x (Some l) b' h') same one) in
    (b', bytes_map (EndRoom p) (ThreadRoom (room p)) s (thread_room p) h (named_cpu bytes) bytes (Some l) b' h' there)

pub told_landed : (a b : KernelOf RtrbPoster) (bytes : List ℕ) (l : Landing) (down : Bool) (r : Reply) → land_refusal a.settings a.history bytes ≡ None → LandsNamed (ThreadRoom (parcels_of a)) a.settings a.history bytes l b.history
    → Frame SameEnd (λ (q : RtrbPoster). 0) Posted a b → down ≡ torn b.history → r ≡ replies.Landed (l ∷ []) down → IsTold a (Served (commands.Land bytes)) r b
told_landed a b bytes l down r free lands frame down_is reply =
    let legal : LegalLand (ThreadRoom (parcels_of a)) a.settings a.history bytes (replies.Landed (l ∷ []) down) b.history = (free, down_is, l, refl, lands) in
    record {
      legal = subst (λ (x : Reply). LegalLand (ThreadRoom (parcels_of a)) a.settings a.history bytes x b.history) (sym reply) legal;
      refused = λ e. absurd (not_refused (ap is_refused (sym reply) ∙ e));
      ring = frame.ring;
      sent = frame.told;
      settings = frame.settings;
      pages = frame.pages ∙ ap (λ (x : Reply). given_by x a.paged) (sym reply);
    }
  where
    not_refused : false ≡ true → ⊥
    not_refused e = absurd cc
