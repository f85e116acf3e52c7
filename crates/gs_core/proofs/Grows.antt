-- A machine whose history grows, and nothing else.
use Rattle.std.proofs.Common.{◌≡◌, refl, sym, ◌∙◌, true, false, [], ◌∷◌, ◌++◌}
use Rattle.std.proofs.lemmas.Bool.{false≢true, or_parts}
use Rattle.gs_layout.specs.declared.message.Message.{Message}
use Rattle.gs_layout.specs.declared.outcome.Outcome.{Outcome}
use Rattle.gs_slots.specs.declared.state.Stamp.{Stamp}
use Rattle.gs_journal.specs.declared.entry.Entry.{Entry}
use Rattle.gs_journal.specs.declared.entry.Entry.TheVariants.{Posted, Torn}
use Rattle.gs_journal.specs.History.{History, attaching, is_torn, torn}
use Rattle.gs_journal.proofs.Laws.{same_posted, torn-push}
use Rattle.gs_threads.specs.Mirrors.{is_quiet}
use Rattle.gs_threads.proofs.Laws.{on_quiet, posts_nothing}
use Rattle.gs_kernel.specs.Landing.{verdict}
use Rattle.gs_kernel.specs.Legal.{Room}
use Rattle.gs_kernel.specs.Lands.{Settles}
use Rattle.gs_kernel.proofs.Laws.{torn_now}
use Rattle.gs_core.specs.declared.transaction.Transaction.{Transaction}
use Rattle.gs_core.specs.Machine.{State, page_of, view}
use Rattle.gs_core.specs.Safe.{IsIn}
use Rattle.gs_core.specs.Good.{Good}
use Rattle.gs_core.specs.Trust.{IsSeen}
use Rattle.gs_core.specs.Held.{Kept}
use Rattle.gs_core.proofs.Growing.{both_torn, landed}
use Rattle.gs_core.proofs.Quiet.{both_quiet}
use Rattle.gs_core.proofs.Steps.{BothOf, both_of, grown_good, was_role}
use Rattle.gs_core.proofs.Believing.{backs_posted, backs_same}
use Rattle.gs_core.proofs.Seeing.{seen_landed, seen_posted, seen_same, seen_torn}
use Rattle.gs_core.proofs.Collecting.{Keeps, landed_keeps, landed_stood}
use Rattle.gs_core.proofs.Roles.{NoNewRole, landing_roles, roles_posted, roles_then, roles_torn}

-- the history can grow to this one: it is good and goes with the view, brings no agent, and what is believed and was seen stays so
pub record Grows (m : State) (h : History) : Type 0 where
  pub both : BothOf m h
  pub roles : NoNewRole m.history h
  pub stood : torn h ≡ false → torn m.history ≡ false
  pub keeps : torn h ≡ false → Keeps m.history h m.consumed (view m) (page_of m.agent)
  pub seen : (b : Stamp) → IsSeen m.history (view m) b → IsSeen h (view m) b

pub grown_kept : (m : State) (h : History) → Grows m h → Kept m → Kept (record m { history = h })
grown_kept m h w k =
    let g = k.good in
    let t = k.trusts in
    let n = k.knows in
    record {
      good = grown_good m h w.both w.roles g;
      trusts = record {
        trusted = λ up c x is. w.keeps up c x (t.trusted (w.stood up) c x is);
        seen = λ some i b e. w.seen b (t.seen some i b e);
        none_done = t.none_done;
      };
      knows = record {
        thinks = n.thinks;
        own_cpu = λ a p. let r = w.roles in n.own_cpu a (r.active a p);
        idle = λ p. let r = w.roles in n.idle (was_role (attaching m.history) (attaching h) r.attaching p);
      };
    }

-- by one history, and then another
pub grows_then : (m : State) (h h' : History) → Grows m h → Grows (record m { history = h }) h' → Grows m h'
grows_then m h h' a b =
    record {
      both = b.both;
      roles = roles_then m.history h h' a.roles b.roles;
      stood = λ up. a.stood (b.stood up);
      keeps = λ up c x back. b.keeps up c x (a.keeps (b.stood up) c x back);
      seen = λ z p. b.seen z (a.seen z p);
    }

pub stood_before : (h : History) (e : Entry) → torn (h ++ e ∷ []) ≡ false → torn h ≡ false
stood_before h e up = (or_parts (torn h) (is_torn e) (sym (torn-push h e) ∙ up)).0

-- by a message
pub grows_posted : (m : State) (k : Message) → Good m → BothOf m (m.history ++ Posted k ∷ []) → Grows m (m.history ++ Posted k ∷ [])
grows_posted m k g both =
    record {
      both = both;
      roles = roles_posted m.history k;
      stood = stood_before m.history (Posted k);
      keeps = λ up c x back. let after_it = both.good in backs_posted m.settings.first_tseq m.history m.consumed (view m) (page_of m.agent) k c x after_it.numbered g.faces back;
      seen = λ b p. seen_posted m.history (view m) b k p;
    }

-- by a tear-down
pub grows_torn : (m : State) → Good m → Grows m (m.history ++ Torn ∷ [])
grows_torn m g =
    record {
      both = both_torn m.settings m.transactions m.consumed (view m) (page_of m.agent) m.history (both_of m g);
      roles = roles_torn m.history;
      stood = stood_before m.history Torn;
      keeps = λ up. absurd (false≢true (sym up ∙ torn_now m.history));
      seen = λ b p. seen_torn m.history (view m) b p;
    }

-- by an entry that concerns no thread and brings no agent
pub grows_quiet : (m : State) (e : Entry) → is_quiet e ≡ true → NoNewRole m.history (m.history ++ e ∷ []) → Good m → Grows m (m.history ++ e ∷ [])
grows_quiet m e quiet roles g =
    record {
      both = both_quiet m e quiet g;
      roles = roles;
      stood = stood_before m.history e;
      keeps = λ up c x back. backs_same m.history (m.history ++ e ∷ []) m.consumed (view m) (page_of m.agent) c x (same_posted m.history e (posts_nothing e quiet)) (λ d t there. on_quiet m.history e d quiet ∙ there) back;
      seen = λ b p. seen_same m.history (m.history ++ e ∷ []) (view m) b (same_posted m.history e (posts_nothing e quiet)) p;
    }

-- by a landing
pub grows_landed : (m : State) (room : Room) (x : Transaction) (o : Outcome) (h : History) → IsIn m.transactions x → Settles room m.settings m.history x.cpu x.slot (verdict m.settings m.history x.cpu x.slot) o h → Good m → Grows m h
grows_landed m room x o h i t g =
    let both = both_of m g in
    record {
      both = landed room m.settings m.transactions m.consumed (view m) (page_of m.agent) m.history x.cpu x.slot o h x i refl refl t both;
      roles = landing_roles room m.settings m.history x.cpu x.slot o h t;
      stood = landed_stood room m.settings m.history x.cpu x.slot o h t;
      keeps = landed_keeps room m.settings m.transactions m.consumed (view m) (page_of m.agent) m.history x.cpu x.slot o h t both;
      seen = λ b p. seen_landed room m.settings m.history x.cpu x.slot o h (view m) b t p;
    }
