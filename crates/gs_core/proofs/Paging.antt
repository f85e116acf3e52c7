-- An agent that attaches follows a page.
use Rattle.std.proofs.Common.{◌≡◌, refl, ap, sym, ◌∙◌, subst, ℕ, ◌<◌, inl, inr, nat_lt, true, Option, None, Some, List, [], ◌∷◌, arith}
use Rattle.std.specs.List.{AllByRecursion}
use Rattle.std.specs.Option.{is_some}
use Rattle.std.proofs.lemmas.Bool.Decides.{nat_tests}
use Rattle.gs_layout.specs.declared.known.Known.{Known}
use Rattle.gs_layout.specs.declared.outcome.Outcome.TheVariants as outcomes
use Rattle.gs_layout.specs.View.{Look, look_up}
use Rattle.gs_dump.specs.declared.record.DumpRecord.{DumpRecord}
use Rattle.gs_slots.specs.declared.state.SlotState.{SlotState}
use Rattle.gs_slots.specs.declared.state.SlotState.TheVariants.{Idle, Stamped}
use Rattle.gs_journal.specs.History.{History, at, attaching}
use Rattle.gs_kernel.specs.declared.settings.Settings.{Settings}
use Rattle.gs_kernel.specs.Shown.{live_from}
use Rattle.gs_kernel.specs.Dumped.{dumped}
use Rattle.gs_beliefs.specs.declared.running.Running.{Running}
use Rattle.gs_beliefs.specs.Cpus.{Cpus, running}
use Rattle.gs_beliefs.proofs.Laws.{count_places}
use Rattle.gs_view.specs.Loaded.{loaded, told_of}
use Rattle.gs_agent.specs.Mind.{MindState, picture_of}
use Rattle.gs_agent.specs.Pages.{after_page, after_record, told_on}
use Rattle.gs_agent.specs.Picture.{Picture}
use Rattle.gs_agent.proofs.Laws.{stamped_outcome, view_paged}
use Rattle.gs_core.specs.Machine.{Agent, State}
use Rattle.gs_core.specs.Good.{Faces, Good}
use Rattle.gs_core.specs.Held.{Kept}
use Rattle.gs_core.specs.Thinks.{Knows, Thinks}
use Rattle.gs_core.specs.Trust.{Backs, Trusted, Trusts}
use Rattle.gs_core.proofs.Collecting.{at_is_on, trusted_places}
use Rattle.gs_core.proofs.OneAgent.{not_both}
use Rattle.gs_core.proofs.Pages.{IsOnPage, Tells, after_told, each_record, faces_loaded, from_on, given_below, live_among, next_above, next_among, records_among, tells}

-- there is a belief of each CPU still, and no stamp more or less
thinks_told : (t n : ℕ) (o : Option ℕ) (s : Cpus) (slots : List SlotState) → Thinks s slots → Thinks (told_on t n o s) slots
thinks_told t n None s slots k = k
thinks_told t n (Some c) s slots k = record { count = count_places c t n s ∙ k.count; named = stamped_outcome outcomes.Placed (Some c) t n s ∙ k.named }

thinks_records : (rs : List DumpRecord) (p : Picture) (slots : List SlotState) → Thinks p.cpus slots → Thinks (after_page rs p).cpus slots
thinks_records [] p slots k = k
thinks_records (r ∷ rs) p slots k = thinks_records rs (after_record r p) slots (thinks_told r.tid r.known.tseq r.cpu p.cpus slots k)

-- a record backs what it tells, if the thread is where it says
abbrev BacksTold : History → ℕ → Look → Option ℕ → DumpRecord → Type 0
BacksTold h n v page r = (c : ℕ) → r.cpu ≡ Some c → Backs h n v page c (running r.tid r.known.tseq)

trusted_told : (h : History) (n : ℕ) (v : Look) (page : Option ℕ) (t q : ℕ) (o : Option ℕ) (s : Cpus)
    → ((c : ℕ) → o ≡ Some c → Backs h n v page c (running t q)) → Trusted h n v page s → Trusted h n v page (told_on t q o s)
trusted_told h n v page t q None s backs trust = trust
trusted_told h n v page t q (Some c) s backs trust = trusted_places h n v page c t q s (backs c refl) trust

trusted_records : (h : History) (n : ℕ) (v : Look) (page : Option ℕ) (rs : List DumpRecord) (p : Picture) → AllByRecursion (BacksTold h n v page) rs
    → Trusted h n v page p.cpus → Trusted h n v page (after_page rs p).cpus
trusted_records h n v page [] p backs trust = trust
trusted_records h n v page (r ∷ rs) p backs trust =
    trusted_records h n v page rs (after_record r p) backs.1 (trusted_told h n v page r.tid r.known.tseq r.cpu p.cpus backs.0 trust)

-- of a page that tells of so many threads from one on
trusted_among : (s : Settings) (h : History) (n : ℕ) (p : Picture) (a k max : ℕ) → Trusted h n p.view (Some a) p.cpus
    → Trusted h n (loaded (records_among s h a k max) p.view) (next_among s h a k max) (after_page (records_among s h a k max) p).cpus
trusted_among s h n p a k max trust =
    trusted_records h n v' next rs p (each_record (BacksTold h n v' next) s h a k max told) (λ c x is. before c x (trust c x is))
  where
    rs : List DumpRecord
    rs = records_among s h a k max

    next : Option ℕ
    next = next_among s h a k max

    v' : Look
    v' = loaded rs p.view

    known_now : (t : ℕ) (j : Known) → IsOnPage s h a k next t j → Tells s h a k t max (live_among s h a k) → v' t ≡ Some j
    known_now t j x (inl q) = after_told rs p.view t (Some j) (q.0 ∙ x.lives)
    known_now t j x (inr q) = let no_way : None ≡ Some j = sym (q.1 x.low x.high x.given) ∙ x.lives in absurd cc

    told : (t : ℕ) (j : Known) → IsOnPage s h a k next t j → (c : ℕ) → at s.cpus h t ≡ Some c → Backs h n v' next c (running t j.tseq)
    told t j x c there =
        record { given = x.given; known = (j, known_now t j x (tells s h a k t max), refl); there = inl (at_is_on s.cpus h t c there) }

    not_told : (t : ℕ) → t < a → Tells s h a k t max (live_among s h a k) → told_of rs t ≡ None
    not_told t lt (inl q) = absurd (omega (arith, q.2))
    not_told t lt (inr q) = q.0

    before : (c : ℕ) (x : Running) → Backs h n p.view (Some a) c x → Backs h n v' next c x
    before c x old =
        let passed : nat_lt x.tid a ≡ true = old.given in
        let lt : x.tid < a = grind (arith, nat_tests, passed) in
        record {
          given = given_below next a x.tid (λ q e. next_above s h a k max q e) lt;
          known = (old.known.0, after_told rs p.view x.tid None (not_told x.tid lt (tells s h a k x.tid max)) ∙ old.known.1, old.known.2);
          there = old.there;
        }

pub trusted_paged : (s : Settings) (h : History) (n : ℕ) (p : Picture) (a max : ℕ) → Trusted h n p.view (Some a) p.cpus
    → Trusted h n (loaded (dumped s h a max).records p.view) (dumped s h a max).next (after_page (dumped s h a max).records p).cpus
unfolding live_from
trusted_paged s h n p a max trust = trusted_among s h n p a (from_on h a) max trust

-- the agent that attaches follows its next page
pub kept_paged : (m : State) (a : Agent) (from max : ℕ) (mind : MindState) → m.agent ≡ Some a → a.next ≡ Some from → is_some (attaching m.history) ≡ true
    → picture_of mind ≡ after_page (dumped m.settings m.history from max).records (picture_of a.mind) → Kept m
    → Kept (record m { agent = Some (record { mind = mind; next = (dumped m.settings m.history from max).next }) })
kept_paged m a from max mind there page attaches is k =
    record {
      good = record {
        history = good.history;
        faces = subst (λ (v : Look). Faces first h n v next) (sym view_is)
            (faces_loaded m.settings m.transactions h n old.view from max good.history (subst (Faces first h n old.view) page good.faces));
        slots = good.slots;
        count = good.count;
        when_active = λ p. absurd (not_both h p attaches);
        when_attaching = λ p. refl;
      };
      trusts = record {
        trusted = λ up. subst (λ (v : Look). Trusted h n v next mind.cpus) (sym view_is)
            (subst (λ (q : Picture). Trusted h n (loaded rs old.view) next q.cpus) (sym is)
            (trusted_paged m.settings h n old from max (subst (λ (o : Option ℕ). Trusted h n old.view o old.cpus) page (trusts.trusted up))));
        seen = λ some i b e. let no_way : Stamped b ≡ Idle = knows.idle attaches i (Stamped b) e in absurd cc;
        none_done = trusts.none_done;
      };
      knows = record {
        thinks = λ some. subst (λ (q : Picture). Thinks q.cpus m.slots) (sym is)
            (thinks_records rs old m.slots (knows.thinks refl));
        own_cpu = λ x e. absurd (not_both h (ap (λ o. is_some o) e) attaches);
        idle = knows.idle;
      };
    }
  where
    m' : State
    m' = record m { agent = Some a }

    k' : Kept m'
    k' = subst (λ (o : Option Agent). Kept (record m { agent = o })) there k

    good : Good m'
    good = k'.good

    trusts : Trusts m'
    trusts = k'.trusts

    knows : Knows m'
    knows = k'.knows

    first : ℕ
    first = m.settings.first_tseq

    h : History
    h = m.history

    n : ℕ
    n = m.consumed

    old : Picture
    old = picture_of a.mind

    rs : List DumpRecord
    rs = (dumped m.settings h from max).records

    next : Option ℕ
    next = (dumped m.settings h from max).next

    view_is : look_up mind.records ≡ loaded rs (look_up a.mind.records)
    view_is = ap (λ (q : Picture). q.view) is ∙ view_paged rs old
