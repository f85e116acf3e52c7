use Rattle.std.proofs.Common.{◌≡◌, ◌++◌, ◌∷◌, List, [], length, take, drop, None, Some, ap, sym, subst, ◌∙◌, arith}
use Rattle.std.proofs.lemmas.Grind.{common_steps}
use Rattle.std.specs.List.{AllByRecursion, filter_map}
use Rattle.gs_dump.specs.declared.record.DumpRecord.{DumpRecord}
use Rattle.gs_dump.specs.Record.{IsLive}
use Rattle.gs_kernel.specs.Dumped.{dumped}
use Rattle.gs_kernel.specs.Shown.{by_row, live_from}
use Rattle.gs_kernel.proofs.Living.{living_from}
use Rattle.gs_kernel.proofs.Paging.{all_push, live_told, next_told, page_edge, page_end, page_made, records_more}
use Rattle.gs_kernel.proofs.kernel.Kernel.written_page.Goals as goal

pub loop-tid-init : goal.loop-tid-init
loop-tid-init g c =
    let k = c.self.inside in
    let ls : List DumpRecord = live_from c.args.self.now.settings c.args.self.now.history c.args.from in
    let all = living_from k.settings k.journal.entries k.threads k.running.items k.taken k.agents k.torn c.args.from c.self.invariant.kept in
    let same = ap (λ v. live_from v.settings v.history c.args.from) c.self.view_is in
    let left = c.into_iter-tid-iterator.ensures.into_iter_gives ∙ c.live_from-tid-items.ensures in
    let none = c.in_ok-page.ensures in
    record {
      told = none ∙ sym (ap (λ (xs : List DumpRecord). take (length xs) ls) none);
      left = ap (filter_map by_row) left ∙ (all ∙ (same ∙ sym (ap (λ (xs : List DumpRecord). drop (length xs) ls) none)));
      live = subst (AllByRecursion IsLive) (sym none) tt;
      few = omega (arith, ap length none);
    }

pub finish-requires : goal.finish-requires
finish-requires g c =
    let k = c.self.inside in
    let i = c.loop-tid.invariant in
    let all : filter_map by_row c.loop-tid.tid-iterator ≡ c.in-Some-by_row.thread ∷ filter_map by_row c.next.new.self = grind (arith, common_steps) in
    let full : length c.loop-tid.page ≡ c.args.max = sym c.count.ensures ∙ c.if-count-max.true in
    let is = page_edge _ c.loop-tid.page c.args.max c.in-Some-by_row.thread (filter_map by_row c.next.new.self) i.told full (sym all ∙ i.left) in
    page_made k.settings k.journal.entries k.threads k.running.items k.taken k.agents k.torn c.args.from c.args.max c.loop-tid.page (Some c.in-Some-by_row.thread.tid) (omega (arith, c.self.invariant.in_range.most_cpus)) c.self.invariant.kept
    c.ranges.max.fits i.live (ap (λ v. dumped v.settings v.history c.args.from c.args.max) c.self.view_is ∙ is)

pub state_live-requires : goal.state_live-requires
state_live-requires g c =
    let k = c.self.inside in
    let all : filter_map by_row c.loop-tid.tid-iterator ≡ c.in-Some-by_row.thread ∷ filter_map by_row c.next.new.self = grind (arith, common_steps) in
    let told = live_told k.settings k.journal.entries k.threads k.running.items k.taken k.agents k.torn c.args.from (omega (arith, c.self.invariant.in_range.most_cpus)) c.self.invariant.kept in
    let same = ap (λ v. live_from v.settings v.history c.args.from) c.self.view_is in
    next_told _ (length c.loop-tid.page) c.in-Some-by_row.thread (filter_map by_row c.next.new.self) told (sym all ∙ (c.loop-tid.invariant.left ∙ ap (drop (length c.loop-tid.page)) (sym same)))

pub loop-tid-preserved : goal.loop-tid-preserved
loop-tid-preserved g c =
    let i = c.loop-tid.invariant in
    let all : filter_map by_row c.loop-tid.tid-iterator ≡ c.in-Some-by_row.thread ∷ filter_map by_row c.next.new.self = grind (arith, common_steps) in
    let pushed : c.push.new.self ≡ c.loop-tid.page ++ c.in-Some-by_row.thread ∷ [] = c.in_ok-push.ensures in
    let r = records_more _ c.loop-tid.page c.push.new.self c.in-Some-by_row.thread (filter_map by_row c.next.new.self) i.told (sym all ∙ i.left) pushed in
    record {
      told = r.0;
      left = r.1;
      live = subst (AllByRecursion IsLive) (sym pushed) (all_push IsLive c.loop-tid.page c.in-Some-by_row.thread i.live c.state_live.ensures);
      few = grind (arith, common_steps);
    }

pub finish-requires-2 : goal.finish-requires-2
finish-requires-2 g c =
    let k = c.self.inside in
    let i = c.loop-tid.invariant in
    let over : filter_map by_row c.loop-tid.tid-iterator ≡ [] = grind (arith, common_steps) in
    let is = page_end _ c.loop-tid.page c.args.max i.told i.few (sym over ∙ i.left) in
    page_made k.settings k.journal.entries k.threads k.running.items k.taken k.agents k.torn c.args.from c.args.max c.loop-tid.page None (omega (arith, c.self.invariant.in_range.most_cpus)) c.self.invariant.kept
    c.ranges.max.fits i.live (ap (λ v. dumped v.settings v.history c.args.from c.args.max) c.self.view_is ∙ is)
