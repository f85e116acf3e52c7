-- An agent goes, or the next one begins: nothing is known, and each thread is told, or was missed.
use Rattle.std.proofs.Common.{◌≡◌, refl, ap, sym, ◌∙◌, subst, ℕ, zero, suc, ◌≤◌, ◌⊎◌, inl, inr, nat_lt, true, None, Some, List, [], ◌∷◌, ◌++◌, length, replicate, arith, append_assoc, length-append}
use Rattle.std.proofs.lemmas.Bool.Decides.{nat_tests}
use Rattle.std.proofs.lemmas.List.{append-nil, length-replicate}
use Rattle.gs_layout.specs.declared.message.Message.{Message}
use Rattle.gs_layout.specs.View.{Look, look_up}
use Rattle.gs_slots.specs.declared.state.SlotState.TheVariants.{Idle}
use Rattle.gs_journal.specs.declared.entry.Entry.{Entry}
use Rattle.gs_journal.specs.declared.entry.Entry.TheVariants.{Begin, Left}
use Rattle.gs_journal.specs.History.{History, active, attaching, messages, posted}
use Rattle.gs_journal.specs.State.{Numbered, IsNumbered}
use Rattle.gs_threads.specs.Mirrors.{is_quiet}
use Rattle.gs_beliefs.proofs.Laws.{believed_on_unknown}
use Rattle.gs_agent.specs.Mind.{nothing}
use Rattle.gs_core.specs.Machine.{Plan, State}
use Rattle.gs_core.specs.Good.{Faces, Good, IsMissed, IsTold, read_of, told, unread_of}
use Rattle.gs_core.specs.Held.{Kept}
use Rattle.gs_core.specs.Trust.{Trusts}
use Rattle.gs_core.proofs.Quiet.{both_quiet}
use Rattle.gs_kernel.proofs.Laws.{active_begun, active_left, attaching_left}
use Rattle.gs_core.proofs.OneAgent.{none_there}
use Rattle.gs_core.proofs.Steps.{BothOf, all_idle, idle}
use Rattle.gs_core.proofs.Thinking.{thinks_first}
use Rattle.gs_core.proofs.Told.{numbered_left, parted, state_is, state_nothing, state_of, state_step}
use Rattle.gs_core.proofs.Trusts.{none_idle}

-- from what is known of some first messages, the others lead to the state
told_rest : (first : ℕ) (a b : List Message) → Numbered first 0 (a ++ b) → told (state_of first a) b ≡ state_of first (a ++ b)
told_rest first a [] all = ap (state_of first) (sym (append-nil a))
told_rest first a (m ∷ b) all =
    let re : (a ++ m ∷ []) ++ b ≡ a ++ m ∷ b = append_assoc a (m ∷ []) b in
    let all' : Numbered first 0 ((a ++ m ∷ []) ++ b) = subst (Numbered first 0) (sym re) all in
    ap (λ o. told o b) (state_step first a m (numbered_left first 0 (a ++ m ∷ []) b all')) ∙ (told_rest first (a ++ m ∷ []) b all' ∙ ap (state_of first) re)

told_whole : (first : ℕ) (ms : List Message) → Numbered first 0 ms → told None ms ≡ state_of first ms
told_whole first ms all = ap (λ o. told o ms) (sym (state_nothing first)) ∙ told_rest first [] ms all

none_of : (ms : List Message) → length ms ≡ 0 → ms ≡ []
none_of [] e = refl
none_of (m ∷ ms) e = absurd (omega (arith, e))

-- a thread of which nothing was consumed
unread_told : (first : ℕ) (h : History) (n : ℕ) (v : Look) (t : ℕ) → IsNumbered first h → v t ≡ None → length (read_of h n t) ≡ 0 → IsTold first h n v t
unread_told first h n v t all none zero_read =
    let same : unread_of h n t ≡ messages h t = ap (λ w. w ++ unread_of h n t) (sym (none_of (read_of h n t) zero_read)) ∙ parted h n t in
    ap (λ o. told o (unread_of h n t)) none ∙ (ap (told None) same ∙ (told_whole first (messages h t) (all t) ∙ sym (state_is first h t)))

-- nothing is known, and the first page is still to come
pub faces_empty : (first : ℕ) (h : History) (n : ℕ) → IsNumbered first h → n ≤ length (posted h) → messages h 0 ≡ [] → Faces first h n (look_up []) (Some 1)
faces_empty first h n all le no_zero =
    record {
      consumed = le;
      known = λ t k e. absurd cc;
      each = λ t. by_count t (length (read_of h n t)) refl;
      given = λ t g.
          let zeroth : t ≡ 0 = (let e : nat_lt t 1 ≡ true = g in grind (arith, nat_tests, e)) in
          unread_told first h n (look_up []) t all refl
          (omega (arith, length-append (read_of h n t) (unread_of h n t), ap length (parted h n t), ap length (ap (messages h) zeroth ∙ no_zero)));
    }
  where
    by_count : (t c : ℕ) → length (read_of h n t) ≡ c → IsTold first h n (look_up []) t ⊎ IsMissed h n (look_up []) t
    by_count t zero e = inl (unread_told first h n (look_up []) t all refl e)
    by_count t (suc c) e = inr (refl, omega (arith, e))

-- so it is after an entry that concerns no thread
vacant_faces : (m : State) (e : Entry) → is_quiet e ≡ true → Good m → Faces m.settings.first_tseq (m.history ++ e ∷ []) m.consumed (look_up []) (Some 1)
vacant_faces m e quiet g =
    let both : BothOf m (m.history ++ e ∷ []) = both_quiet m e quiet g in
    let past = both.good in
    let faces = both.faces in
    faces_empty m.settings.first_tseq (m.history ++ e ∷ []) m.consumed past.numbered faces.consumed past.no_zero

-- an agent goes: all that it had in mind is gone, and its slots stay
pub kept_left : (m : State) → Kept m → Kept (record m { history = m.history ++ Left ∷ []; agent = None })
kept_left m k =
    let g : Good m = k.good in
    let t : Trusts m = k.trusts in
    let both : BothOf m (m.history ++ Left ∷ []) = both_quiet m Left refl g in
    record {
      good = record {
        history = both.good;
        faces = vacant_faces m Left refl g;
        slots = g.slots;
        count = g.count;
        when_active = λ p. absurd (none_there (active (m.history ++ Left ∷ [])) (active_left m.history) p);
        when_attaching = λ p. absurd (none_there (attaching (m.history ++ Left ∷ [])) (attaching_left m.history) p);
      };
      trusts = record {
        trusted = λ up c x is. let no_way : None ≡ Some x = sym (believed_on_unknown 0 None c) ∙ is in absurd cc;
        seen = λ some. absurd cc;
        none_done = t.none_done;
      };
      knows = record {
        thinks = λ some. absurd cc;
        own_cpu = λ a e. let no_way : None ≡ Some a = sym (active_left m.history) ∙ e in absurd cc;
        idle = λ p. absurd (none_there (attaching (m.history ++ Left ∷ [])) (attaching_left m.history) p);
      };
    }

-- the next one begins, of any generation and with any policy: it knows nothing, and finds its slots idle
pub kept_begun : (m : State) (g : ℕ) (p : Plan) → Kept m
    → Kept (record m {
      history = m.history ++ Begin g ∷ [];
      agent = Some (record { mind = nothing m.settings.cpus None; next = Some 1 });
      policy = p;
      slots = replicate m.settings.cpus Idle;
    })
kept_begun m g p k =
    let good : Good m = k.good in
    let both : BothOf m (m.history ++ Begin g ∷ []) = both_quiet m (Begin g) refl good in
    let cpus = m.settings.cpus in
    record {
      good = record {
        history = both.good;
        faces = vacant_faces m (Begin g) refl good;
        slots = λ i b e. absurd (idle cpus i b e);
        count = length-replicate cpus Idle;
        when_active = λ q. absurd (none_there (active (m.history ++ Begin g ∷ [])) (active_begun m.history g) q);
        when_attaching = λ q. refl;
      };
      trusts = record {
        trusted = λ up c x is. let no_way : None ≡ Some x = sym (believed_on_unknown cpus None c) ∙ is in absurd cc;
        seen = λ some i b e. absurd (idle cpus i b e);
        none_done = none_idle cpus;
      };
      knows = record {
        thinks = λ some. thinks_first cpus None;
        own_cpu = λ a e. let no_way : None ≡ Some a = sym (active_begun m.history g) ∙ e in absurd cc;
        idle = λ q. all_idle cpus;
      };
    }
