-- An entry that concerns no thread keeps a history good.
use Rattle.std.proofs.Common.{◌≡◌, ap, sym, ◌∙◌, subst, ℕ, ◌<◌, true, Some, List, [], ◌∷◌, ◌++◌, length, arith}
use Rattle.std.specs.List.{filter}
use Rattle.std.proofs.lemmas.List.{append-nil}
use Rattle.gs_layout.specs.declared.message.Message.{Message}
use Rattle.gs_layout.specs.Message.{is_about, is_creation}
use Rattle.gs_journal.specs.declared.entry.Entry.{Entry}
use Rattle.gs_journal.specs.declared.entry.Entry.TheVariants.{Posted, Placed, Role, Begin, Left, Taken, Given, Torn}
use Rattle.gs_journal.specs.History.{History, messages, on}
use Rattle.gs_journal.specs.State.{Numbered}
use Rattle.gs_journal.proofs.Laws.{AtEach-push, AtEachPrefix-push, same_created, same_messages, same_posted}
use Rattle.gs_threads.specs.Mirrors.{is_quiet}
use Rattle.gs_threads.proofs.Laws.{on_quiet, posts_nothing}
use Rattle.gs_kernel.specs.declared.settings.Settings.{Settings}
use Rattle.gs_core.specs.declared.transaction.Transaction.{Transaction}
use Rattle.gs_core.specs.Machine.{State, view, page_of}
use Rattle.gs_core.specs.Safe.{IsBacked, OnOne}
use Rattle.gs_core.proofs.Once.{was_at_more}
use Rattle.gs_core.specs.Good.{GoodHistory, Good}
use Rattle.gs_core.proofs.Faces.{faces_same}
use Rattle.gs_core.proofs.Histories.{whole_one}
use Rattle.gs_core.proofs.Used.{nobody_quiet, once_more, used_more, used_quiet}
use Rattle.gs_core.proofs.Steps.{BothOf}

-- an entry that concerns no thread
needs_none : (s : Settings) (xs : List Transaction) (h : History) (e : Entry) → is_quiet e ≡ true → IsBacked s xs h e
needs_none s xs h (Posted m) q = tt
needs_none s xs h (Placed t n d g) q = absurd cc
needs_none s xs h Torn q = tt
needs_none s xs h (Role g d) q = tt
needs_none s xs h (Begin g) q = tt
needs_none s xs h Left q = tt
needs_none s xs h (Taken d) q = tt
needs_none s xs h (Given d) q = tt

pub good_quiet : (s : Settings) (xs : List Transaction) (h : History) (e : Entry) → is_quiet e ≡ true → GoodHistory s xs h → GoodHistory s xs (h ++ e ∷ [])
good_quiet s xs h e quiet g =
    record {
      backed = AtEach-push (IsBacked s xs) h e g.backed (needs_none s xs h e quiet);
      one = AtEachPrefix-push OnOne h e g.one (λ u c d p q. whole_one h g.one u c d (stood c u p) (stood d u q));
      numbered = λ u. subst (Numbered s.first_tseq 0) (sym (same u)) (g.numbered u);
      fresh = λ u above. same u ∙ g.fresh u (omega (arith, ap length (same_created h e (ap (filter is_creation) (posts_nothing e quiet))), above));
      no_zero = same 0 ∙ g.no_zero;
      on_cpus = λ u c p. g.on_cpus u c (stood c u p);
      on_known = λ u c p. subst (λ (z : List Message). 0 < length z) (sym (same u)) (g.on_known u c (stood c u p));
      stamped = λ x i. was_at_more s.first_tseq h (h ++ e ∷ []) x.slot.tid _ [] (same x.slot.tid ∙ sym (append-nil _)) (g.stamped x i);
      within = g.within;
      used = used_more s.first_tseq h e (nobody_quiet e quiet) (used_quiet s.first_tseq h e quiet same) g.used;
      once = once_more h e (nobody_quiet e quiet) g.once;
    }
  where
    same : (u : ℕ) → messages (h ++ e ∷ []) u ≡ messages h u
    same u = same_messages h e u (ap (filter (is_about u)) (posts_nothing e quiet))

    stood : (c u : ℕ) → on (h ++ e ∷ []) c ≡ Some u → on h c ≡ Some u
    stood c u p = sym (on_quiet h e c quiet) ∙ p

pub both_quiet : (m : State) (e : Entry) → is_quiet e ≡ true → Good m → BothOf m (m.history ++ e ∷ [])
both_quiet m e quiet g =
    record {
      good = good_quiet m.settings m.transactions m.history e quiet g.history;
      faces = faces_same m.settings.first_tseq m.history (m.history ++ e ∷ []) m.consumed (view m) (page_of m.agent) (same_posted m.history e (posts_nothing e quiet)) g.faces;
    }
