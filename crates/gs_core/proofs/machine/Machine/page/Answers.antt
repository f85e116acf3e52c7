use Rattle.std.proofs.Common.{◌≡◌, Some, None, true, ap, sym, subst, ◌∙◌, unwrap_or}
use Rattle.std.proofs.Math.Bool.{or-false}
use Rattle.std.specs.Option.{is_none, is_some, option_map}
use Rattle.gs_journal.specs.History.{attaching, posted}
use Rattle.gs_ring.specs.Ends.{Posted}
use Rattle.gs_ring.specs.RingState.{RingState}
use Rattle.gs_kernel.specs.Kernel.{KernelOf}
use Rattle.gs_core.proofs.Posting.{with_kernel}
use Rattle.gs_dump.specs.Page.{Contents}
use Rattle.gs_agent.specs.Mind.{picture_of}
use Rattle.gs_agent.specs.Pages.{after_page}
use Rattle.gs_agent.specs.Role.{RoleOf}
use Rattle.gs_kernel.specs.Attaching.{page_refusal}
use Rattle.gs_kernel.specs.Dumped.{dumped, paged_after}
use Rattle.gs_core.specs.Machine.{State, StateOf, is_given_all, next_dump, page_of, planning}
use Rattle.gs_core.specs.Good.{Good}
use Rattle.gs_core.specs.Held.{Kept, Suits, agent_of, machine_now}
use Rattle.gs_core.proofs.Keeping.{needs_page}
use Rattle.gs_core.proofs.Paging.{kept_paged}
use Rattle.gs_core.proofs.Serving.{lent_mut, role_there}
use Rattle.gs_core.proofs.Suiting.{suits_paged}
use Rattle.gs_core.proofs.machine.Machine.page.Goals as goal

pub unwrap-role-requires : goal.unwrap-role-requires
unwrap-role-requires g c =
    let m = machine_now g.P.Policy.chosen c.self.inside in
    let good : Good m = c.self.invariant.kept.good in
    let free : page_refusal m.history (is_given_all m) ≡ None = ap (λ (x : StateOf _). page_refusal x.history (is_given_all (planning g.P.Policy.chosen x))) c.self.view_is ∙ c.in_ok-page.ensures.fits in
    c.as_mut.ensures.variant ∙ role_there c.self.inside.role (good.when_attaching (needs_page m.history (page_of m.agent) free).0)

pub invariant_of-self-2 : goal.invariant_of-self-2
invariant_of-self-2 g c =
    let m : State = machine_now g.P.Policy.chosen c.self.inside in
    let i = c.self.invariant in
    let r : RoleOf _ = c.unwrap-role.result.now in
    let r' : RoleOf _ = c.rebuild_written.new.self in
    let k = c.note_written.new.self in
    let page : Contents = c.in_ok-page.page in
    let free : page_refusal m.history (is_given_all m) ≡ None = ap (λ (x : StateOf _). page_refusal x.history (is_given_all (planning g.P.Policy.chosen x))) c.self.view_is ∙ c.in_ok-page.ensures.fits in
    let need = needs_page m.history (page_of m.agent) free in
    let from = need.1.0 in
    let there : m.agent ≡ Some (agent_of r) = ap (option_map agent_of) (lent_mut c.as_mut.ensures.value c.unwrap-role.ensures) in
    let next : r.next ≡ Some from = sym (ap page_of there) ∙ need.1.1 in
    let dump : page ≡ next_dump m c.args.max = c.in_ok-page.ensures.page ∙ ap (λ (x : StateOf _). next_dump (planning g.P.Policy.chosen x) c.args.max) (sym c.self.view_is) in
    let at : page ≡ dumped m.settings m.history from c.args.max = dump ∙ ap (λ o. dumped m.settings m.history (unwrap_or o 0) c.args.max) need.1.1 in
    let known : picture_of r'.mind ≡ after_page (dumped m.settings m.history from c.args.max).records (picture_of r.mind) = c.in_ok-rebuild_written.ensures.picture ∙ ap (λ (x : Contents). after_page x.records (picture_of r.mind)) at in
    let goes : r'.next ≡ page.next = c.in_ok-rebuild_written.ensures.next in
    let old = c.self.inside.kernel in
    let noted : k ≡ record old { paged = paged_after page old.paged } = c.note_written.ensures in
    let left : record m { agent = Some (record { mind = r'.mind; next = (dumped m.settings m.history from c.args.max).next }) } ≡ record (with_kernel m k.settings k.poster k.history) { agent = Some (agent_of r') } =
    λ j. record m {
      settings = (sym noted j).settings;
      ring = (sym noted j).poster.capacity;
      history = (sym noted j).history;
      consumed = (sym noted j).poster.consumed;
      agent = Some (record { mind = r'.mind; next = sym (goes ∙ ap (λ (x : Contents). x.next) at) j });
    } in
    let some : is_some (attaching m.history) ≡ true = need.0 in
    let paged : k.paged ≡ is_none r'.next =
    ap (λ (x : KernelOf RingState). x.paged) noted
    ∙ (ap (λ b. paged_after page b) (i.suits.given some ∙ ap is_none (ap page_of there ∙ next))
    ∙ (or-false (is_none page.next) ∙ ap is_none (sym goes))) in
    record {
      kept = subst Kept left (kept_paged m (agent_of r) from c.args.max r'.mind there next some known i.kept);
      told = subst (λ (x : KernelOf RingState). Posted x.poster (posted x.history)) (sym noted) i.told;
      suits = subst (λ (x : KernelOf RingState). Suits c.self.inside.policy x.history k.paged (Some r')) (sym noted)
          (suits_paged c.self.inside.policy m.history old.paged k.paged r r' c.rebuild_written.ensures.others paged (subst (Suits c.self.inside.policy m.history old.paged) (lent_mut c.as_mut.ensures.value c.unwrap-role.ensures) i.suits));
    }
