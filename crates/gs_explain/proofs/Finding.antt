-- Each placing of a machine finds its CPU free.
use Rattle.std.proofs.Common.{sym, ◌∙◌, ap, subst, inl, inr, ◌≤◌, Option, None, Some, [], length}
use Rattle.gs_layout.specs.declared.refusal.Refusal.{Refusal}
use Rattle.gs_journal.specs.declared.entry.Entry.TheVariants.{Left, Role}
use Rattle.gs_journal.specs.History.{active}
use Rattle.gs_kernel.specs.declared.command.Command.TheVariants as commands
use Rattle.gs_kernel.specs.Legal.{is_done}
use Rattle.gs_replies.specs.declared.config.Config.{Config}
use Rattle.gs_replies.specs.declared.reply.Reply.{Reply}
use Rattle.gs_core.specs.declared.event.Event.{Event}
use Rattle.gs_core.specs.declared.event.Event.TheVariants as events
use Rattle.gs_core.specs.Machine.{Does, Plan, Serves, State, Step, fits, plan_of, planned_by, refusal, start, view}
use Rattle.gs_reasons.specs.ExplainsRefusal.{FindsFree}
use Rattle.gs_reasons.proofs.Laws.{commit_free, free_then, late_free, told_free}
use Rattle.gs_core.proofs.Laws.{all_history, stamped_history}

pub start_free : {A : Type 0} (c : Config A) → FindsFree (start c).history
start_free c = free_then [] (Role c.first_generation 0) (λ i e is k t placed. absurd cc) (λ k t placed. absurd cc)

does_free : (m : State) (e : Event Plan) (r : Reply) (n : State) → length m.slots ≤ m.settings.cpus → FindsFree m.history → Does m e r n → FindsFree n.history
does_free m (events.Kernel c) r n few free t = told_free (fits m) m.settings m.history c (is_done t.executed) n.history t.tells free
does_free m events.Crash r n few free t = subst (λ (q : State). FindsFree q.history) (sym t.1) (free_then m.history Left free (λ k u placed. absurd cc))
does_free m (events.Begin p) r n few free t = let b = planned_by p m in told_free (fits b) b.settings b.history commands.Begin (is_done t.executed) n.history t.tells free
does_free m (events.Page max) r n few free t = subst FindsFree (sym (ap (λ (q : State). q.history) t.others)) free
does_free m (events.Drain max) r n few free t = let d = t.2 in subst FindsFree (sym (ap (λ (q : State). q.history) d.others)) free
does_free m (events.Stamp c k f) r n few free t = subst FindsFree (sym (ap (λ (q : State). q.history) t.1 ∙ stamped_history m c k f (active m.history) (view m k))) free
does_free m events.Decide r n few free t = subst FindsFree (sym (ap (λ (q : State). q.history) t.1 ∙ all_history m (plan_of m))) free
does_free m (events.Commit mask) r n few free t = subst (λ (q : State). FindsFree q.history) (sym t.left) (commit_free (fits m) m.settings mask m.slots m.history t.made few t.lands free)
does_free m (events.Late k) r n few free t = late_free (fits m) m.settings m.history t.transaction.cpu t.transaction.slot t.landing n.history t.lands free
does_free m events.View r n few free t = subst FindsFree (sym (ap (λ (q : State). q.history) t.1)) free
does_free m events.State r n few free t = subst FindsFree (sym (ap (λ (q : State). q.history) t.1)) free
does_free m events.Unread r n few free t = subst FindsFree (sym (ap (λ (q : State). q.history) t.1)) free

pub step_free : (m n : State) (e : Event Plan) (r : Reply) → length m.slots ≤ m.settings.cpus → Step m e r n → FindsFree m.history → FindsFree n.history
step_free m n e r few t free = by_refusal (refusal m e) t
  where
    by_refusal : (o : Option Refusal) → Serves o m e r n → FindsFree n.history
    by_refusal (Some f) s = subst FindsFree (sym (ap (λ (q : State). q.history) s.1)) free
    by_refusal None s = elim s [ inl d ↦ does_free m e r n few free d | inr q ↦ subst FindsFree (sym (ap (λ (q : State). q.history) q.1)) free ]
