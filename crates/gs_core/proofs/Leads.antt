-- A role that is added moves the agent, and keeps what the machine keeps.
use Rattle.std.proofs.Common.{◌≡◌, refl, ap, sym, ◌∙◌, ℕ, Option, None, Some, [], ◌∷◌, ◌++◌}
use Rattle.std.specs.Option.{option_map}
use Rattle.gs_journal.specs.declared.entry.Entry.TheVariants.{Role}
use Rattle.gs_journal.specs.History.{History, active, attaching}
use Rattle.gs_journal.proofs.Laws.{same_posted}
use Rattle.gs_threads.proofs.Laws.{on_quiet}
use Rattle.gs_kernel.proofs.Laws.{active_now, attaching_ended}
use Rattle.gs_core.specs.Machine.{Agent, page_of, promoted, State, view}
use Rattle.gs_core.specs.Good.{Good}
use Rattle.gs_core.specs.Thinks.{Knows, Thinks}
use Rattle.gs_core.specs.Trust.{Trusts}
use Rattle.gs_core.specs.Held.{Kept}
use Rattle.gs_core.proofs.Believing.{backs_same}
use Rattle.gs_core.proofs.Grows.{stood_before}
use Rattle.gs_core.proofs.OneAgent.{none_there}
use Rattle.gs_core.proofs.Quiet.{both_quiet}
use Rattle.gs_core.proofs.Seeing.{seen_same}

own_now : (h : History) (g c : ℕ) (a : ℕ × ℕ) → active (h ++ Role g c ∷ []) ≡ Some a → Some c ≡ Some a.1
own_now h g c a e = let z : Some (g, c) ≡ Some a = sym (active_now h g c) ∙ e in let same : (g, c) ≡ a = cc in ap (λ (x : ℕ × ℕ). Some x.1) same

-- an agent that goes on as one of generation g, on CPU c
promoted_kept : (m : State) (a : Agent) (g c : ℕ) → page_of (Some a) ≡ None → Kept (record m { agent = Some a }) → Kept (record m { history = m.history ++ Role g c ∷ []; agent = Some (promoted c a) })
promoted_kept m a g c last k =
    let h : History = m.history in
    let h' : History = h ++ Role g c ∷ [] in
    let m' : State = record m { agent = Some a } in
    let good : Good m' = k.good in
    let trusts : Trusts m' = k.trusts in
    let knows : Knows m' = k.knows in
    let both = both_quiet m' (Role g c) refl good in
    let mind : Thinks a.mind.cpus m.slots = knows.thinks refl in
    record {
      good = record {
        history = both.good;
        faces = both.faces;
        slots = good.slots;
        count = good.count;
        when_active = λ p. last;
        when_attaching = λ p. refl;
      };
      trusts = record {
        trusted = λ up d x is. backs_same h h' m.consumed (view m') (page_of (Some a)) d x (same_posted h (Role g c) refl) (λ e t there. on_quiet h (Role g c) e refl ∙ there) (trusts.trusted (stood_before h (Role g c) up) d x is);
        seen = λ some i b is. seen_same h h' (view m') b (same_posted h (Role g c) refl) (trusts.seen refl i b is);
        none_done = trusts.none_done;
      };
      knows = record {
        thinks = λ some. record { count = mind.count; named = mind.named };
        own_cpu = own_now h g c;
        idle = λ p. absurd (none_there (attaching h') (attaching_ended h g c) p);
      };
    }

-- so it is of an agent that needs no more pages
pub leads_kept : (m : State) (g c : ℕ) → page_of m.agent ≡ None → Kept m → Kept (record m { history = m.history ++ Role g c ∷ []; agent = option_map (promoted c) m.agent })
leads_kept m g c last k = by_agent m.agent last k
  where
    by_agent : (o : Option Agent) → page_of o ≡ None → Kept (record m { agent = o }) → Kept (record m { history = m.history ++ Role g c ∷ []; agent = option_map (promoted c) o })
    by_agent None last k = absurd cc
    by_agent (Some a) last k = promoted_kept m a g c last k
